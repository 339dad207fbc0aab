-- What a view gets beside what it has: the own attempt, whether the pass may draw, notes of attempts, and notes of the
-- protocol, which tell of the run.
use Rattle.std.specs.Prelude.{◌≡◌, ℕ, Bool, true, false, List}
use Rattle.pc_rule_law.specs.Board.{Board}
use Rattle.pc_rule_law.specs.Past.{Has, Past}
use Rattle.pc_protocol.specs.Histories.{History}
use Rattle.pc_protocol.specs.Notes.{Note, IsTrueNote}
use Rattle.pc_exchange_law.specs.Attempts.{Scripts, OwnAttempt, OwnsAttempt, AttemptNote, IsTrueAttemptNote}
use Rattle.pc_exchange_law.specs.OwnSlots.{OwnSlots}

pub record PassKnows : Type 0 where
  pub own : OwnAttempt
  -- the last load of the clock found it below the last stamp, and the pass drew nothing since
  pub ready : Bool
  -- its slots
  pub slots : OwnSlots
  pub noted : List AttemptNote
  pub told : List Note

-- it is so, for the pass at seat j
pub record IsKnown (b : Board) (t : Past) (w : Scripts) (h : History) (late : ℕ → Bool) (j : ℕ) (k : PassKnows)
    : Type 0 where
  pub own : OwnsAttempt b h j k.own
  pub ready : k.ready ≡ true → late j ≡ false
  pub noted : (n : AttemptNote) → Has k.noted n → IsTrueAttemptNote b t w n
  pub told : (n : Note) → Has k.told n → IsTrueNote h n
