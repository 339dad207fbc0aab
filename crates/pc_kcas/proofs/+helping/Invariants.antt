-- The links that are left, and at one number of links the order of the calls.
use Rattle.std.proofs.Common.{◌-◌, ◌+◌, ◌*◌, ◌≤◌}
use Rattle.pc_rule_law.specs.Conditions.{IsFree}
use Rattle.pc_rule.specs.Passes.{whole, view, board_size, IsSamePass}
use Rattle.pc_kcas.specs.Bounds.{HasInstalled}
use Rattle.pc_kcas.specs.Obstacles.{GoesOn, HasFollowed}
use Rattle.pc_kcas.specs.Readings.{HasComeTo, HasLoaded}
use Rattle.pc_kcas.specs.Takings.{HoldsBelow}
use Rattle.pc_kcas.proofs.+helping.Given as goal

abbrev pub decreases-hold::hold_word : goal.decreases-hold::hold_word
decreases-hold::hold_word g l = 4 * l.links

abbrev pub decreases-collecting::collect_word : goal.decreases-collecting::collect_word
decreases-collecting::collect_word g l = 4 * l.links + 1

abbrev pub decreases-collecting::collect : goal.decreases-collecting::collect
decreases-collecting::collect g l = 4 * l.links + 2

abbrev pub decreases-helping::help_linked : goal.decreases-helping::help_linked
decreases-helping::help_linked g l = 4 * l.links + 3

abbrev pub invariant-collecting::collect-loop-i : goal.invariant-collecting::collect-loop-i
invariant-collecting::collect-loop-i g l = record {
  below : l.i ≤ l.count;
  fewer : l.left ≤ l.links;
  same : IsSamePass l.initial.pass l.pass;
  goes : GoesOn (whole l.initial.pass) (whole l.pass);
  free : IsFree (view l.pass);
  come : HasComeTo (whole l.pass) l.op;
  counted : HasLoaded (whole l.pass) l.op 1 l.count;
  holds : HoldsBelow (whole l.pass) l.op l.i;
  bounded : HasInstalled (board_size l.board).slots (3 * l.i) (l.links - l.left) (view l.initial.pass) (view l.pass);
  followed : HasFollowed (l.links - l.left) (view l.initial.pass) (whole l.pass);
}

abbrev pub decreases-collecting::collect-loop-i : goal.decreases-collecting::collect-loop-i
decreases-collecting::collect-loop-i g l = l.count - l.i
