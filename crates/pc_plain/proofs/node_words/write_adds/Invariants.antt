use Rattle.std.proofs.Common.{◌≡◌, drop, length}
use Rattle.pc_plain.specs.PlainCells.{cells_in}
use Rattle.pc_plain.specs.PlainWriting.{with_adds, AddsReach}
use Rattle.pc_plain.proofs.node_words.write_adds.Given as goal

abbrev pub invariant-loop-add : goal.invariant-loop-add
invariant-loop-add l = record {
  reach : AddsReach (length l.words.near) (drop l.add-index l.adds);
  long : length l.words.near ≡ length l.initial.words.near;
  cells : with_adds l.slot (drop l.add-index l.adds) (cells_in l.words) ≡ with_adds l.slot l.adds
      (cells_in l.initial.words);
}
