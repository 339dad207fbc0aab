-- What clauses say of the exchange of an operation.
use Rattle.std.specs.Prelude.{◌≡◌, ◌≢◌, ◌⊎◌, ℕ, ◌-◌, ◌≤◌, List, Result, Ok, Err}
use Rattle.std.specs.List.Sorted.{IsPermutation}
use Rattle.pc_model.specs.declared.cell.Counter.TheVariants.{Attempt}
use Rattle.pc_model.specs.declared.cell.Field.TheVariants.{Version}
use Rattle.pc_model.specs.declared.numbers.Numbers.{Numbers}
use Rattle.pc_model.specs.Exchanges.{Exchange}
use Rattle.pc_rule_law.specs.Past.{Has}
use Rattle.pc_rule_law.specs.Plays.{AddsNotes}
use Rattle.pc_rule_law.specs.Views.{View}
use Rattle.pc_protocol.specs.Histories.{Cause, committed}
use Rattle.pc_protocol.specs.Notes.{Note, published, verdict}
use Rattle.pc_exchange_law.specs.Knowing.{IsAboveSeen}
use Rattle.pc_exchange_law.specs.Paths.{Path}
use Rattle.pc_exchange_law.specs.Ties.{code}
use Rattle.pc_exchange_law.specs.Wholes.{Whole}
use Rattle.pc_rule.specs.declared.opening.Place.{Place}
use Rattle.pc_rule.specs.declared.refs.Ref.{Ref}
use Rattle.pc_rule.specs.declared.refs.RefKind.TheVariants.{Exchange as AnExchange}
use Rattle.pc_rule.specs.declared.visit.Visit.{Visit}
use Rattle.pc_kcas.specs.declared.mode.Mode.{Mode}
use Rattle.pc_kcas.specs.declared.verdict.Verdict.{Verdict}
use Rattle.pc_kcas.specs.declared.verdict.Verdict.TheVariants.{Won, Changed as NodeChanged, Locked as NodeLocked, Blocked as WasStuck, Numbers as HadNoNumber}
use Rattle.pc_kcas.specs.Exchanges.{exchange_by, last_attempt}
use Rattle.pc_kcas.specs.Locks.{words_by}
use Rattle.pc_kcas.specs.Verdicts.{KnowsFailed, KnowsChanged, KnowsRival, KnewBetween, IsBlocked, IsAtLast}
use Rattle.pc_path.specs.declared.lost.Lost.{Lost}
use Rattle.pc_path.specs.declared.lost.Lost.TheVariants.{Changed, Locked, Blocked, Numbers as OutOfNumbers}
use Rattle.pc_path.specs.Losses.{IsFirstVisit, WasSeenToMove}

-- The pass has noted that an attempt of its own is this exchange, and that it took effect at this stamp: so it stands in the board's run
-- there. The clock before its publication, which isn't above the stamp, is above each stamp that these notes tell of.
pub record HasTakenPlace (seen : List Note) (y : Whole) (e : Exchange) (s : ℕ) : Type 0 where
  pub attempt : ℕ
  pub clock : ℕ
  pub noted : Has y.knows.told (published (code y.view.seat attempt) e clock)
  pub above : IsAboveSeen seen clock
  pub won : Has y.knows.told (verdict (code y.view.seat attempt) (committed s))

-- so did the exchange that changes these words, in some order, with the locks of the path where its mode asks for them, and takes by its mode
-- what was visited and read
abbrev pub HasExchanged : List Note → Whole → Mode → Path → List Place → ℕ → Type 0
HasExchanged seen y mode p places s = (ordered : List Place) × IsPermutation (words_by mode p places) ordered
    × HasTakenPlace seen y (exchange_by mode p ordered) s

-- the pass's last attempt was decided as failed, so it is in no run
abbrev pub HasFailed : Whole → Type 0
HasFailed y = (cause : Cause) × KnowsFailed y y.view.attempt.number cause

-- it failed, or nothing was published
abbrev pub HasNoEffect : View → Whole → Type 0
HasNoEffect v y = (y.view.attempt.number ≡ v.attempt.number) ⊎ HasFailed y

-- the version of the node is among these words, and changes from this one
abbrev pub IsListedFrom : List Place → ℕ → ℕ → Type 0
IsListedFrom places n v = (p : Place) × Has places p × (p.node ≡ n) × (p.field ≡ Version) × (p.old ≡ v)

-- the node was visited, or its version is among these words
abbrev pub IsCovered : List Visit → List Place → ℕ → Type 0
IsCovered visits places n = ((v : Visit) × Has visits v × (v.node ≡ n)) ⊎ ((v : ℕ) × IsListedFrom places n v)

-- This is the least version of the node that a visit of it gave, or from which it was to be changed. So it is what the first visit gave,
-- but where the node wasn't visited, or its version was listed from a smaller one.
pub record WasSeen (visits : List Visit) (places : List Place) (n seen : ℕ) : Type 0 where
  pub from : IsFirstVisit visits n seen ⊎ IsListedFrom places n seen
  pub visited : (v : Visit) → Has visits v → v.node ≡ n → seen ≤ v.version
  pub listed : (p : Place) → Has places p → p.node ≡ n → p.field ≡ Version → seen ≤ p.old

-- the version of the node is above one that the last attempt covers; and this is the least one
abbrev pub IsPast : List Visit → List Place → Whole → ℕ → ℕ → Type 0
IsPast visits places y n seen = KnowsChanged y y.view.attempt.number n × WasSeen visits places n seen

-- the same, or a later one of these visits gave a greater version of the node than the first one
abbrev pub HasMoved : List Visit → List Place → Whole → ℕ → ℕ → Type 0
HasMoved visits places y n seen = IsPast visits places y n seen ⊎ WasSeenToMove visits n seen

-- another pass has an exchange with the version of the node, which the last attempt visits, and that wasn't cleared before this was
-- published
abbrev pub HasRival : Whole → ℕ → ℕ → Type 0
HasRival y n by = (1 ≤ by) × KnowsRival y y.view.attempt.number n (by - 1)

-- since then two references stood in the way of the last attempt, as was known before it ended
abbrev pub WasInTheWay : ℕ → View → Whole → Ref → Ref → Type 0
WasInTheWay links v y first second = (x : Whole) × AddsNotes v x.view
    × KnewBetween x y (λ u. IsBlocked links x.view u (record { kind = AnExchange; seat = x.view.seat; number = x.view.attempt.number }) first second)

-- the attempt number stands at its last value, so nothing is published any more
abbrev pub IsAtLastAttempt : View → Numbers → Type 0
IsAtLastAttempt v n = (n.counter ≡ Attempt) × (n.at ≡ v.attempt.number) × (last_attempt ≤ n.at)

-- a counter stands at its last value
abbrev pub IsOutOfNumbers : View → Whole → Numbers → Type 0
IsOutOfNumbers v y n = IsAtLastAttempt v n ⊎ IsAtLast y n

-- what the operation answers where its exchange ended so, by what was seen of the node that changed
abbrev pub answer_as : Verdict → ℕ → Result ℕ Lost
answer_as (Won s) seen = Ok s
answer_as (NodeChanged n) seen = Err (Changed n seen)
answer_as (NodeLocked n by) seen = Err (Locked n by)
answer_as (WasStuck first second) seen = Err (Blocked first second)
answer_as (HadNoNumber n) seen = Err (OutOfNumbers n)

-- and where a visit gave another version than the first one, which gave this
abbrev pub lost_at : Visit → Lost
lost_at u = Changed u.node u.version
