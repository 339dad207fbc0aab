-- The passes that were made, each from the one before it, and the last one.
use Rattle.std.proofs.Common.{◌≡◌, ◌<◌, ◌-◌, length}
use Rattle.pc_rule_law.specs.Tables.{size_of}
use Rattle.pc_rule.specs.Opened.{AreMade, IsLastMade}
use Rattle.pc_rule.specs.Passes.{board_size}
use Rattle.pc_rule.proofs.board.Board.open.Given as goal

abbrev pub invariant-loop-made : goal.invariant-loop-made
invariant-loop-made g l = record {
  sized : board_size l.board ≡ size_of l.opening;
  count : length l.passes.items ≡ l.made;
  room : (l.passes.cap ≡ l.initial.passes.cap) × (l.made < l.opening.seats);
  shares : l.board.shares.items ≡ l.shares;
  last : IsLastMade l.board l.opening l.made l.last;
  made : AreMade l.board l.opening l.passes.items;
}

abbrev pub decreases-loop-made : goal.decreases-loop-made
decreases-loop-made g l = l.opening.seats - l.made
