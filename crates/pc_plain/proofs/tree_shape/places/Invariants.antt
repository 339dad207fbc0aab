-- What is listed and what waits are the nodes of the tree; each turn lists one more.
use Rattle.std.proofs.Common.{◌-◌, vec_len}
use Rattle.pc_plain.specs.PlainCells.{cells_of}
use Rattle.pc_plain.proofs.ShapeListing.{IsWalk}
use Rattle.pc_plain.proofs.tree_shape.places.Given as goal

abbrev pub invariant-loop-place : goal.invariant-loop-place
invariant-loop-place l = IsWalk l.cells.slots (cells_of l.cells) l.listed.items l.waiting.items

abbrev pub decreases-loop-place : goal.decreases-loop-place
decreases-loop-place l = l.cells.slots - vec_len l.listed
