-- The nodes that were taken from the end of the list have their lines, and the heights that their sides left.
use Rattle.std.proofs.Common.{vec_len}
use Rattle.pc_plain.specs.PlainCells.{cells_of}
use Rattle.pc_plain.proofs.ShapeBuilding.{IsBuilding}
use Rattle.pc_plain.proofs.tree_shape.lines.Given as goal

abbrev pub invariant-loop-place : goal.invariant-loop-place
invariant-loop-place l = IsBuilding l.cells.slots (cells_of l.cells) l.places.items l.heights.items l.lines.items

abbrev pub decreases-loop-place : goal.decreases-loop-place
decreases-loop-place l = vec_len l.places
