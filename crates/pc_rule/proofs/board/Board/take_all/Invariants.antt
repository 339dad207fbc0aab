-- What is left to be taken in, and the last pass as it was but for that.
use Rattle.std.proofs.Common.{◌≡◌, ◌++◌, ◌+◌, ◌≤◌, length, take, vec_capacity}
use Rattle.std.specs.List.Sorted.{IsPermutation}
use Rattle.pc_rule.specs.Opened.{AreInOrder}
use Rattle.pc_exchange_law.specs.Wholes.{all_slots_at}
use Rattle.pc_rule.specs.Left.{told_by, slots_by}
use Rattle.pc_rule.specs.Passes.{whole, view, knows, recorded, SitsAt}
use Rattle.pc_rule.specs.Recorded.{calls_of, recorded_by}
use Rattle.pc_rule.proofs.board.Board.take_all.Given as goal

abbrev pub invariant-loop-other : goal.invariant-loop-other
invariant-loop-other g l = record {
  last : SitsAt l.self l.last × (view l.last ≡ record (view l.initial.last) { rest = length l.others.items });
  others : AreInOrder l.self l.others.items;
  entries : IsPermutation (recorded_by l.initial.others.items ++ recorded l.initial.last) (recorded_by l.others.items ++ recorded l.last);
  told : told_by l.initial.others.items ++ (knows l.initial.last).told ≡ told_by l.others.items ++ (knows l.last).told;
  slots : slots_by l.initial.others.items ++ all_slots_at (whole l.initial.last) ≡ slots_by l.others.items ++ all_slots_at (whole l.last);
  room : length (recorded l.last) + calls_of (take (length l.others.items) l.self.shares.items) ≤ vec_capacity l.last.records.entries;
}

abbrev pub decreases-loop-other : goal.decreases-loop-other
decreases-loop-other g l = length l.others.items
