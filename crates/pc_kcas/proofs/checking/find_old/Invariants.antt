-- None of the changes below `i` is of the version of the node.
use Rattle.std.proofs.Common.{◌≢◌, ℕ, ◌+◌, ◌*◌, ◌<◌, ◌≤◌, ◌-◌}
use Rattle.pc_model.specs.declared.cell.Field.TheVariants.{Version}
use Rattle.pc_rule_law.specs.Board.{place_number}
use Rattle.pc_rule.specs.Passes.{whole, IsSamePass}
use Rattle.pc_kcas.specs.Checking.{KnowsWordOf}
use Rattle.pc_kcas.specs.Readings.{HasComeTo, HasLoaded, HasRead}
use Rattle.pc_kcas.specs.Settling.{HasLearnt}
use Rattle.pc_kcas.proofs.checking.find_old.Given as goal

abbrev pub invariant-loop-i : goal.invariant-loop-i
invariant-loop-i g l = record {
  below : l.i ≤ l.count;
  same : IsSamePass l.initial.pass l.pass;
  learnt : HasLearnt (whole l.initial.pass) (whole l.pass);
  come : HasComeTo (whole l.pass) l.op;
  counted : HasLoaded (whole l.pass) l.op 1 l.count;
  read : HasRead (whole l.pass) l.op 1 l.count;
  others : (k : ℕ) → k < l.i → (place : ℕ) × KnowsWordOf (whole l.pass) l.op (3 + 3 * k) place × (place ≢ place_number l.node Version);
}

abbrev pub decreases-loop-i : goal.decreases-loop-i
decreases-loop-i g l = l.count - l.i
