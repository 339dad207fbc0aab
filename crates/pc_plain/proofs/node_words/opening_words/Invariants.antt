use Rattle.std.proofs.Common.{◌≡◌, ◌*◌, ◌+◌, length}
use Rattle.pc_plain.specs.PlainCells.{cells_in}
use Rattle.pc_plain.proofs.Opening.{unused_below}
use Rattle.pc_plain.proofs.node_words.opening_words.Given as goal

abbrev pub invariant-loop-node : goal.invariant-loop-node
invariant-loop-node l = record {
  long : length l.words.near ≡ 4 * (l.slots + 2);
  cells : cells_in l.words ≡ unused_below l.node;
}
