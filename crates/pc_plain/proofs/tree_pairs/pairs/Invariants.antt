use Rattle.std.proofs.Common.{◌-◌, ◌*◌, vec_len}
use Rattle.pc_plain.specs.PlainCells.{cells_of}
use Rattle.pc_plain.proofs.Listing.{IsListing}
use Rattle.pc_plain.proofs.tree_pairs.pairs.Given as goal

abbrev pub invariant-walk : goal.invariant-walk
invariant-walk l = IsListing l.cells.slots (cells_of l.cells) l.listed.items l.link l.waiting.items

abbrev pub decreases-walk : goal.decreases-walk
decreases-walk l = 2 * (l.cells.slots - vec_len l.listed) - vec_len l.waiting
