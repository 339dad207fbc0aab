-- The visits below i are stored.
use Rattle.std.proofs.Common.{◌-◌, ◌≤◌}
use Rattle.pc_rule_law.specs.Views.{word_in}
use Rattle.pc_rule.specs.Passes.{view, knows, visits, board_size, IsSamePass}
use Rattle.pc_kcas.specs.Exchanges.{VisitsTo, SameBelow, OnlyWrote, OnlyStored}
use Rattle.pc_kcas.proofs.writing.write_visits.Given as goal

abbrev pub invariant-loop-i : goal.invariant-loop-i
invariant-loop-i g l = record {
  below : l.i ≤ l.visits;
  same : IsSamePass l.initial.pass l.pass;
  only : OnlyWrote (view l.initial.pass) (view l.pass);
  beside : OnlyStored (knows l.initial.pass) (knows l.pass);
  first : SameBelow (board_size l.board).slots (word_in (view l.initial.pass).attempt.words) (word_in (view l.pass).attempt.words);
  written : VisitsTo (board_size l.board).slots (visits l.pass) (word_in (view l.pass).attempt.words) l.i;
}

abbrev pub decreases-loop-i : goal.decreases-loop-i
decreases-loop-i g l = l.visits - l.i
