-- The words below `i` are clean.
use Rattle.std.proofs.Common.{ℕ, ◌<◌, ◌≤◌, ◌-◌}
use Rattle.pc_rule.specs.Passes.{whole, IsSamePass}
use Rattle.pc_kcas.specs.Clearing.{KnowsOutcomeOf}
use Rattle.pc_kcas.specs.Concluding.{IsCleanWord}
use Rattle.pc_kcas.specs.Readings.{HasComeTo, HasLoaded, HasRead}
use Rattle.pc_kcas.specs.Settling.{HasLearnt}
use Rattle.pc_kcas.proofs.concluding.clear_collected.Given as goal

abbrev pub invariant-loop-i : goal.invariant-loop-i
invariant-loop-i g l = record {
  below : l.i ≤ l.count;
  same : IsSamePass l.initial.pass l.pass;
  learnt : HasLearnt (whole l.initial.pass) (whole l.pass);
  come : HasComeTo (whole l.pass) l.op;
  counted : HasLoaded (whole l.pass) l.op 1 l.count;
  read : HasRead (whole l.pass) l.op 1 l.count;
  decided : KnowsOutcomeOf (whole l.pass) l.op.seat l.op.number l.won;
  clean : (k : ℕ) → k < l.i → IsCleanWord (whole l.pass) l.op k;
}

abbrev pub decreases-loop-i : goal.decreases-loop-i
decreases-loop-i g l = l.count - l.i
