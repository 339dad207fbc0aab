-- The visits below `i` have passed.
use Rattle.std.proofs.Common.{ℕ, ◌<◌, ◌≤◌, ◌-◌}
use Rattle.pc_rule_law.specs.Conditions.{IsFree}
use Rattle.pc_rule.specs.Passes.{whole, view, IsSamePass}
use Rattle.pc_kcas.specs.Checking.{HasDrawn, HasPassedAt, KnowsCounts}
use Rattle.pc_kcas.specs.Readings.{HasComeTo}
use Rattle.pc_kcas.specs.Settling.{HasLearnt}
use Rattle.pc_kcas.proofs.checking.check_visits.Given as goal

abbrev pub invariant-loop-i : goal.invariant-loop-i
invariant-loop-i g l = record {
  below : l.i ≤ l.counts.visits;
  same : IsSamePass l.initial.pass l.pass;
  learnt : HasLearnt (whole l.initial.pass) (whole l.pass);
  free : IsFree (view l.pass);
  come : HasComeTo (whole l.pass) l.op;
  drawn : HasDrawn (whole l.pass) l.op l.stamp;
  counts : KnowsCounts (whole l.pass) l.op l.counts;
  passed : (k : ℕ) → k < l.i → HasPassedAt (whole l.pass) l.op l.stamp k;
}

abbrev pub decreases-loop-i : goal.decreases-loop-i
decreases-loop-i g l = l.counts.visits - l.i
