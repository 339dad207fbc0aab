-- The words below `i` are clean.
use Rattle.std.proofs.Common.{◌≡◌, ℕ, ◌<◌, ◌≤◌, ◌-◌, length}
use Rattle.pc_rule.specs.Passes.{whole, listed, IsSamePass}
use Rattle.pc_kcas.specs.Clearing.{IsCleanAt}
use Rattle.pc_kcas.specs.Exchanges.{IsUncleared}
use Rattle.pc_kcas.specs.Settling.{HasLearnt}
use Rattle.pc_kcas.proofs.clearing.clear_listed.Given as goal

abbrev pub invariant-loop-i : goal.invariant-loop-i
invariant-loop-i g l = record {
  below : l.i ≤ l.count;
  count : l.count ≡ length (listed l.pass);
  same : IsSamePass l.initial.pass l.pass;
  learnt : HasLearnt (whole l.initial.pass) (whole l.pass);
  published : IsUncleared l.pass;
  clean : (k : ℕ) → k < l.i → IsCleanAt l.pass k;
}

abbrev pub decreases-loop-i : goal.decreases-loop-i
decreases-loop-i g l = l.count - l.i
