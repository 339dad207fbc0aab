-- What callers know of a board's passes from call to call.
use Rattle.std.specs.Prelude.{◌≡◌, ℕ, List, length}
use mathlib.Core.Option.{some}
use lib.ListN.{get_elem?}
use Rattle.pc_model.specs.declared.shape.Shape.{Ghosts}
use Rattle.pc_rule_law.specs.Conditions.{IsFree}
use Rattle.pc_rule_law.specs.Past.{Has}
use Rattle.pc_rule_law.specs.Views.{Note}
use Rattle.pc_rule.specs.declared.board.Pass.{Pass}
use Rattle.pc_rule.specs.Passes.{view, IsSamePass}

module _ {H : Type 0} {S : Ghosts H} where
  -- as many passes, each the same one as before
  pub record AreSame (old new : List (Pass H S)) : Type 0 where
    pub count : length new ≡ length old
    pub each : (i : ℕ) (p q : Pass H S) → get_elem? old i ≡ some p → get_elem? new i ≡ some q → IsSamePass p q

  -- of none of these passes does an install stand
  abbrev pub AreFree : List (Pass H S) → Type 0
  AreFree passes = (i : ℕ) (p : Pass H S) → get_elem? passes i ≡ some p → IsFree (view p)

  -- each of these passes has this note
  abbrev pub AllHave : List (Pass H S) → Note → Type 0
  AllHave passes x = (i : ℕ) (p : Pass H S) → get_elem? passes i ≡ some p → Has (view p).notes x
