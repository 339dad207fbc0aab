-- What trials say of the words of a pass's published exchange, from its draw to its clearing.
use Rattle.std.specs.Prelude.{◌≡◌, ℕ}
use mathlib.Core.Option.{some}
use lib.ListN.{get_elem?}
use Rattle.pc_model.specs.declared.shape.Shape.{Ghosts}
use Rattle.pc_protocol.specs.Histories.{committed}
use Rattle.pc_protocol.specs.Notes.{drew, verdict}
use Rattle.pc_rule_law.specs.Past.{Has}
use Rattle.pc_rule_law.specs.Views.{held, clean}
use Rattle.pc_exchange_law.specs.Ties.{code}
use Rattle.pc_rule.specs.declared.board.Pass.{Pass}
use Rattle.pc_rule.specs.declared.opening.Place.{Place}
use Rattle.pc_rule.specs.Passes.{view, knows, listed}

module _ {H : Type 0} {S : Ghosts H} where
  -- that each listed word held the reference of the own exchange is noted
  abbrev pub HoldsListed : Pass H S → Type 0
  HoldsListed p = (i : ℕ) (x : Place) → get_elem? (listed p) i ≡ some x
      → Has (view p).notes (held (view p).seat (view p).attempt.number x.node x.field)

  -- the stamp was drawn for the own exchange, and the exchange took effect at it
  abbrev pub IsDrawn : Pass H S → ℕ → Type 0
  IsDrawn p s = Has (knows p).told (drew (code (view p).seat (view p).attempt.number) s)

  abbrev pub HasSucceeded : Pass H S → Type 0
  HasSucceeded p = (s : ℕ) × Has (knows p).told (verdict (code (view p).seat (view p).attempt.number) (committed s))

  -- that the listed word at this index is clean of the own exchange is noted
  abbrev pub IsCleanAt : Pass H S → ℕ → Type 0
  IsCleanAt p i = (x : Place) → get_elem? (listed p) i ≡ some x
      → Has (view p).notes (clean (view p).seat (view p).attempt.number x.node x.field)
