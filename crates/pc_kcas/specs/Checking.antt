-- What clauses say of the check of the nodes that an exchange visits, for a stamp that was drawn for it.
use Rattle.std.specs.Prelude.{◌≡◌, ◌≢◌, ℕ, ◌+◌, ◌*◌, ◌<◌, ◌≤◌, Option, Some, None}
use Rattle.pc_model.specs.declared.cell.Field.TheVariants.{Version}
use Rattle.pc_model.specs.Cells.{IsNode}
use Rattle.pc_rule_law.specs.Board.{place_number}
use Rattle.pc_rule_law.specs.Past.{Has}
use Rattle.pc_rule_law.specs.Plays.{IsNotedSince}
use Rattle.pc_rule_law.specs.Views.{held, placed, removed}
use Rattle.pc_protocol.specs.Notes.{drew, rival, outdated}
use Rattle.pc_exchange_law.specs.Attempts.{KnowsWord, KnowsEntry, KnowsVisit}
use Rattle.pc_exchange_law.specs.ExchangeConditions.{KnowsPassed, KnowsVisited}
use Rattle.pc_exchange_law.specs.Ties.{code}
use Rattle.pc_exchange_law.specs.Wholes.{Whole}
use Rattle.pc_rule.specs.declared.refs.Ref.{Ref}
use Rattle.pc_rule.specs.declared.refs.RefKind.TheVariants.{Install as AnInstall}
use Rattle.pc_kcas.specs.Concluding.{IsPastDecision, TellsCourse}
use Rattle.pc_kcas.specs.Obstacles.{IsStuck, IsStuckAt, IsApartFrom}
use Rattle.pc_kcas.specs.declared.obstacle.Stuck.{Stuck}
use Rattle.pc_kcas.specs.declared.obstacle.Stuck.TheVariants.{Two, NoLink}
use Rattle.pc_kcas.specs.declared.own_checks.Barred.{Barred}
use Rattle.pc_kcas.specs.declared.own_checks.Barred.TheVariants.{Changed as IsBarredByChange, Locked as IsBarredByLock, Stuck as IsBarredByTwo}
use Rattle.pc_kcas.specs.Readings.{HasLoaded, HasRead, IsOver, AreCleanWhereMet}
use Rattle.pc_kcas.specs.Settling.{IsSettled}
use Rattle.pc_kcas.specs.declared.checking.Checked.{Checked}
use Rattle.pc_kcas.specs.declared.checking.Checked.TheVariants.{Passed, Changed, Locked, Gone}
use Rattle.pc_kcas.specs.declared.checking.Failed.{Failed}
use Rattle.pc_kcas.specs.declared.checking.Failed.TheVariants.{Over as IsOverBy, Changed as HasChanged, Locked as IsLocked, Stuck as IsStuckSo}
use Rattle.pc_kcas.specs.declared.reading.Counts.{Counts}
use Rattle.pc_kcas.specs.declared.collecting.Settled.{Settled}
use Rattle.pc_kcas.specs.declared.collecting.Settled.TheVariants.{By as IsSettledBy, Over as WasOver, Stuck as WasStuck}

-- a word of the exchange's descriptor is known, and a visit of it
abbrev pub KnowsWordOf : Whole → Ref → ℕ → ℕ → Type 0
KnowsWordOf x op place r = KnowsWord x.knows.noted x.view.seat x.knows.own op.seat op.number place r

abbrev pub KnowsVisitOf : Whole → Ref → ℕ → ℕ → ℕ → Type 0
KnowsVisitOf x op i n v = KnowsVisit x.view.size.slots x.knows.noted x.view.seat x.knows.own op.seat op.number i n v

-- the numbers of changes and of visits of the exchange are known, as it is read, and are in range
abbrev pub KnowsCounts : Whole → Ref → Counts → Type 0
KnowsCounts x op counts = HasLoaded x op 1 counts.changes × HasRead x op 1 counts.changes × HasLoaded x op 2 counts.visits
    × HasRead x op 2 counts.visits

abbrev pub AreFew : ℕ → Counts → Type 0
AreFew slots counts = (counts.changes ≤ 25 + slots) × (counts.visits ≤ slots + 1)

-- each change of the exchange is known to be of another word than the version of this node
pub record LeavesVersion (x : Whole) (op : Ref) (n : ℕ) : Type 0 where
  pub count : ℕ
  pub counted : KnowsWordOf x op 1 count
  pub each : (i : ℕ) → i < count → (place : ℕ) × KnowsWordOf x op (3 + 3 * i) place × (place ≢ place_number n Version)

-- the exchange is known to change the version of this node from a number, or not to change it
abbrev pub ChangesFrom : Whole → Ref → ℕ → Option ℕ → Type 0
ChangesFrom x op n None = LeavesVersion x op n
ChangesFrom x op n (Some old) = (i : ℕ) × (new : ℕ)
    × KnowsEntry x.knows.noted x.view.seat x.knows.own op.seat op.number i n Version old new

-- a stamp was drawn for the exchange
abbrev pub HasDrawn : Whole → Ref → ℕ → Type 0
HasDrawn x op s = Has x.knows.told (drew (code op.seat op.number) s)

-- how the visit of node n at version v is known to have passed the check for a stamp, or not
abbrev pub IsChecked : Whole → Ref → ℕ → ℕ → ℕ → Checked → Type 0
IsChecked y op s n v Passed = KnowsPassed y.view y.knows op.seat op.number s n v
IsChecked y op s n v Changed = Has y.knows.told (outdated (code op.seat op.number) n)
IsChecked y op s n v (Locked by) = (by < 32) × (by ≢ op.seat) × Has y.knows.told (rival by n s)
IsChecked y op s n v Gone = (m : ℕ) × (op.number < m) × Has y.view.notes (held op.seat m n Version)

-- an install of another pass was found in the version of this node, which wasn't known to be gone
pub record StandsInWay (x y : Whole) (n : ℕ) (r : Ref) : Type 0 where
  pub kind : r.kind ≡ AnInstall
  pub found : IsNotedSince x.view y.view (placed r.seat r.number n Version)
  pub other : r.seat ≢ x.view.seat
  pub present : Has x.view.notes (removed r.seat r.number) → ⊥

-- two references stood in the version of this node, one after the other
abbrev pub IsStuckAtVersion : Whole → Whole → Ref → ℕ → Stuck → Type 0
IsStuckAtVersion x y op n (Two first second) = IsStuckAt x y op n Version first second
IsStuckAtVersion x y op n (NoLink met) = ⊥

-- and the exchange is known to visit it
abbrev pub IsStuckAtVisit : Whole → Whole → Ref → Stuck → Type 0
IsStuckAtVisit x y op how = (n : ℕ) × IsStuckAtVersion x y op n how × ((i : ℕ) × (v : ℕ) × KnowsVisitOf y op i n v)

-- this visit is known, and passed the check for a stamp
abbrev pub HasPassedAt : Whole → Ref → ℕ → ℕ → Type 0
HasPassedAt x op s i = (n : ℕ) × (v : ℕ) × KnowsVisitOf x op i n v × KnowsPassed x.view x.knows op.seat op.number s n v

-- what keeps the exchange from taking effect at a stamp, by what was noted since
abbrev pub HasFailed : Whole → Whole → Ref → ℕ → Failed → Type 0
HasFailed x y op s (IsOverBy status) = IsOver op status × IsPastDecision y op status × AreCleanWhereMet x.view y.view op
HasFailed x y op s (HasChanged n) = IsNode y.view.size.slots n × Has y.knows.told (outdated (code op.seat op.number) n)
HasFailed x y op s (IsLocked n by) = IsNode y.view.size.slots n × (by < 32) × (by ≢ op.seat) × Has y.knows.told (rival by n s)
    × KnowsVisited y.view y.knows op.seat op.number n
HasFailed x y op s (IsStuckSo how) = (left : ℕ) → IsStuck x.view y left how × IsApartFrom op how

-- what keeps the pass's own exchange from taking effect at a stamp, by what was noted since
abbrev pub IsBarred : Whole → Whole → Ref → ℕ → Barred → Type 0
IsBarred x y op s (IsBarredByChange n) = IsNode y.view.size.slots n × Has y.knows.told (outdated (code op.seat op.number) n)
IsBarred x y op s (IsBarredByLock n by) = IsNode y.view.size.slots n × (by < 32) × (by ≢ op.seat) × Has y.knows.told (rival by n s)
    × KnowsVisited y.view y.knows op.seat op.number n
IsBarred x y op s (IsBarredByTwo how) = IsStuckAtVisit x y op how

-- what came of the decision since
abbrev pub HasSettled : Whole → Whole → Ref → Settled → Type 0
HasSettled x y op (IsSettledBy s) = IsSettled y op.seat op.number s × TellsCourse x y op s
HasSettled x y op (WasOver s) = IsOver op s × IsPastDecision y op s × AreCleanWhereMet x.view y.view op
HasSettled x y op (WasStuck how) = (left : ℕ) → IsStuck x.view y left how × IsApartFrom op how
