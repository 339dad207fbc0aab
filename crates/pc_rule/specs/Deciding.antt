-- What is asked of the steps by which an exchange is decided and cleared, with the raw words that they find and put.
use Rattle.std.specs.Prelude.{◌≡◌, ◌⊎◌, ℕ, Bool, true, false}
use Rattle.pc_model.specs.declared.cell.Field.{Field}
use Rattle.pc_words.specs.declared.word.WordKind.TheVariants.{Plain, Exchange}
use Rattle.pc_words.specs.declared.status.Stage.TheVariants.{Idle, Undecided, Succeeded, Withdrawn}
use Rattle.pc_words.specs.Statuses.{packed, StageInRange}
use Rattle.pc_words.specs.Words.{raw}
use Rattle.pc_rule_law.specs.Board.{Size}
use Rattle.pc_rule_law.specs.Past.{Has}
use Rattle.pc_rule_law.specs.Views.{IsAttempt}
use Rattle.pc_protocol.specs.Histories.{Cause, Stage, absent, undecided, committed, aborted}
use Rattle.pc_protocol.specs.Notes.{drew, verdict}
use Rattle.pc_exchange_law.specs.Changes.{stage_by}
use Rattle.pc_exchange_law.specs.ExchangeConditions.{MayDrawFor, MaySucceed, MayFail, MayTakeReference, MayClear}
use Rattle.pc_exchange_law.specs.Passes.{PassKnows}
use Rattle.pc_exchange_law.specs.Ties.{code}
use Rattle.pc_exchange_law.specs.Wholes.{Whole}
use Rattle.pc_rule.specs.declared.refs.Ref.{Ref}

-- the pass aims at the exchange, and may draw for it
abbrev pub MayDraw : Whole → Ref → Type 0
MayDraw x op = (x.aim ≡ (op.seat, op.number)) × MayDrawFor x.view x.knows op.seat op.number

-- a stamp was drawn for the exchange, as the pass knows
abbrev pub HasDrawnFor : PassKnows → Ref → Type 0
HasDrawnFor k op = (s : ℕ) × Has k.told (drew (code op.seat op.number) s)

-- the status says that attempt a took effect at a stamp, as the pass knows that it may
abbrev pub SaysItSucceeded : Whole → ℕ → ℕ → ℕ → Type 0
SaysItSucceeded x p a new = (s : ℕ) × (new ≡ packed (record { number = a; stage = Succeeded s })) × MaySucceed x.view x.knows p a s

-- the status says that attempt a failed, for a cause of which the pass knows
abbrev pub SaysItFailed : Whole → ℕ → ℕ → ℕ → Type 0
SaysItFailed x p a new = (cause : Cause) × (new ≡ packed (record { number = a; stage = stage_by cause })) × StageInRange (stage_by cause)
    × MayFail x.view x.knows p a cause

-- the old status says that an attempt of the pass at seat p is undecided, and the new one that it took effect or failed
abbrev pub MayDecide : Size → Whole → ℕ → ℕ → ℕ → Type 0
MayDecide z x p old new = (a : ℕ) × (old ≡ packed (record { number = a; stage = Undecided })) × IsAttempt z p a
    × (SaysItSucceeded x p a new ⊎ SaysItFailed x p a new)

-- the old status says that the own attempt is undecided, and the new one that it was withdrawn
abbrev pub MayWithdraw : PassKnows → ℕ → ℕ → Type 0
MayWithdraw k old new = (old ≡ packed (record { number = k.own.number; stage = Undecided }))
    × (new ≡ packed (record { number = k.own.number; stage = Withdrawn }))

-- the old word is the reference to an attempt, and the new one the number that the word is worth
abbrev pub MayPutNumber : Size → Whole → ℕ → Field → ℕ → ℕ → Type 0
MayPutNumber z x n f old new = (p : ℕ) × (a : ℕ) × (v : ℕ) × (old ≡ raw (Exchange p a)) × (new ≡ raw (Plain v)) × IsAttempt z p a
    × MayTakeReference x.view x.knows p a n f v

-- whether an exchange that came so far took effect
abbrev pub took_effect : Stage → Bool
took_effect absent = false
took_effect undecided = false
took_effect (committed s) = true
took_effect (aborted cause) = false

-- the pass knows how its last attempt was decided, and whether it took effect
abbrev pub KnowsOutcome : Whole → Bool → Type 0
KnowsOutcome x won = (st : Stage) × Has x.knows.told (verdict (code x.view.seat x.knows.own.number) st) × (won ≡ took_effect st)

-- the new status says that the own attempt is idle, which may be cleared
abbrev pub MayClearOwn : Whole → ℕ → Type 0
MayClearOwn x new = (new ≡ packed (record { number = x.knows.own.number; stage = Idle })) × MayClear x.view x.knows
