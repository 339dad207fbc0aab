-- What a closed board says of the words that a pass read before an exchange of its own.
use Rattle.std.specs.Prelude.{◌≡◌, ℕ, ◌<◌, List}
use mathlib.Core.Option.{some}
use lib.ListN.{get_elem?}
use Rattle.pc_model.specs.declared.cell.Field.{Field}
use Rattle.pc_model.specs.declared.shape.Shape.{Ghosts}
use Rattle.pc_model.specs.Cells.{Cells}
use Rattle.pc_model.specs.Exchanges.{Exchange}
use Rattle.pc_history.specs.WorldRuns.{cells_before}
use Rattle.pc_protocol.specs.Notes.{Note, read_word}
use Rattle.pc_protocol.specs.Seeing.{ChangesVersion}
use Rattle.pc_rule_law.specs.Past.{Has}
use Rattle.pc_rule.specs.declared.board.Pass.{Pass}
use Rattle.pc_rule.specs.declared.closed.Closed.{Closed}
use Rattle.pc_rule.specs.Left.{IsLeftByRun}
use Rattle.pc_rule.specs.Passes.{whole, view, knows}
use Rattle.pc_path.specs.Exchanges.{HasTakenPlace}

module _ {H : Type 0} {S : Ghosts H} where
  -- one of the passes has these notes still
  abbrev pub StillHas : Pass H S → List Note → Type 0
  StillHas p seen = (n : Note) → Has seen n → Has (knows p).told n

  -- A pass had read a word at a version of its node. Then an exchange of its own took effect that changes the node from that version. In front
  -- of it, in the run that the closed board's words are left by, the word has the number that was read.
  abbrev pub ReadsCount : Closed H S → Type 0
  ReadsCount c = (opening : Cells) (passes : List (Pass H S)) (left : IsLeftByRun c opening passes)
      → (i : ℕ) (p : Pass H S) → get_elem? passes i ≡ some p → (view p).seat < 64
      → (seen : List Note) → StillHas p seen → (e : Exchange) (s : ℕ) → HasTakenPlace seen (whole p) e s
      → (n v k b : ℕ) (f : Field) → Has seen (read_word n v f k b) → ChangesVersion e n v
      → cells_before left.begin left.run s n f ≡ k
