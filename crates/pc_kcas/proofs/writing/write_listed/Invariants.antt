-- The changes below i are stored.
use Rattle.std.proofs.Common.{◌≡◌, ◌-◌, ◌≤◌, length}
use Rattle.pc_rule_law.specs.Views.{word_in}
use Rattle.pc_rule.specs.Passes.{view, knows, listed, IsSamePass}
use Rattle.pc_kcas.specs.Exchanges.{ListsTo, OnlyWrote, OnlyStored}
use Rattle.pc_kcas.proofs.writing.write_listed.Given as goal

abbrev pub invariant-loop-i : goal.invariant-loop-i
invariant-loop-i g l = record {
  below : l.i ≤ l.count;
  count : l.count ≡ length (listed l.pass);
  same : IsSamePass l.initial.pass l.pass;
  only : OnlyWrote (view l.initial.pass) (view l.pass);
  beside : OnlyStored (knows l.initial.pass) (knows l.pass);
  lists : ListsTo l.mode l.visits (listed l.pass) (word_in (view l.pass).attempt.words) l.i;
}

abbrev pub decreases-loop-i : goal.decreases-loop-i
decreases-loop-i g l = l.count - l.i
