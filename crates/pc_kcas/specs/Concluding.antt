-- What clauses say of the end of a help: how far the exchange has come, by a status of its pass, and which of its words are clean.
use Rattle.std.specs.Prelude.{◌≡◌, ℕ, ◌+◌, ◌*◌, ◌<◌, ◌≤◌}
use Rattle.pc_model.specs.declared.cell.Field.{Field}
use Rattle.pc_words.specs.declared.status.Status.{Status}
use Rattle.pc_rule_law.specs.Board.{place_number}
use Rattle.pc_rule_law.specs.Past.{Has}
use Rattle.pc_rule_law.specs.Plays.{AddsNotes}
use Rattle.pc_rule_law.specs.Stages.{IsIdle, IsCleared, decided_by}
use Rattle.pc_rule_law.specs.Views.{clean, decided_below}
use Rattle.pc_exchange_law.specs.Attempts.{KnowsWord}
use Rattle.pc_exchange_law.specs.Wholes.{Whole}
use Rattle.pc_rule.specs.declared.refs.Ref.{Ref}
use Rattle.pc_dcss.specs.Installs.{IsDecided}
use Rattle.pc_kcas.specs.Helping.{HasCome}
use Rattle.pc_kcas.specs.Readings.{HasPassed, AreCleanWhereMet}
use Rattle.pc_kcas.specs.Settling.{KnowsVerdict}
use Rattle.pc_kcas.specs.declared.helped.Progress.{Progress}
use Rattle.pc_kcas.specs.declared.helped.Progress.TheVariants.{Decided, Gone, Stuck as IsStuckSo, Numbers as HasNoNumbers}

-- What a status of the exchange's pass tells that was found, or put, since: which attempts are decided, how far the pass has come,
-- and where it says that the exchange is cleared, that each word in which its reference had been met is clean.
pub record TellsCourse (x y : Whole) (op : Ref) (s : Status) : Type 0 where
  pub below : Has y.view.notes (decided_below op.seat (decided_by s))
  pub passed : op.number < s.number → HasPassed y op s.number
  pub cleaned : IsCleared s op.number → AreCleanWhereMet x.view y.view op

-- the status doesn't say that the exchange is undecided: that one is decided, and where the status is its own, it is known how
pub record IsPastDecision (x : Whole) (op : Ref) (s : Status) : Type 0 where
  pub ahead : op.number ≤ s.number
  pub decided : IsDecided x.view op.seat op.number
  pub passed : op.number < s.number → HasPassed x op s.number
  pub verdict : s.number ≡ op.number → (IsIdle s.stage → ⊥) → KnowsVerdict x.knows op.seat s

-- the exchange's word at this index is known, and is clean of its reference
abbrev pub IsCleanWord : Whole → Ref → ℕ → Type 0
IsCleanWord x op i = (n : ℕ) × (f : Field) × KnowsWord x.knows.noted x.view.seat x.knows.own op.seat op.number (3 + 3 * i) (place_number n f)
    × Has x.view.notes (clean op.seat op.number n f)

-- The help of the exchange has come so far since each earlier moment, by this status: since when the words in which the reference had
-- been met are clean, where the status says that the exchange is cleared.
abbrev pub HasConcluded : Whole → Whole → Ref → Status → Progress → Type 0
HasConcluded y z op s p = (x : Whole) (left : ℕ) → AddsNotes x.view y.view → (IsCleared s op.number → AreCleanWhereMet x.view y.view op)
    → HasCome x z op left p

-- the exchange is decided, or its pass has gone on from it
abbrev pub IsEnd : Progress → Type 0
IsEnd Decided = Unit {0}
IsEnd Gone = Unit {0}
IsEnd (IsStuckSo stuck) = ⊥
IsEnd (HasNoNumbers n) = ⊥
