-- None of the changes below `i` is of the version of the node.
use Rattle.std.proofs.Common.{◌≡◌, ℕ, ◌<◌, ◌≤◌, ◌-◌, length}
use Rattle.pc_rule.specs.Passes.{whole, listed}
use Rattle.pc_kcas.specs.Exchanges.{own_exchange}
use Rattle.pc_kcas.proofs.VisitsPassed.{IsOther}
use Rattle.pc_kcas.proofs.own_checks.own_old.Given as goal

abbrev pub invariant-loop-i : goal.invariant-loop-i
invariant-loop-i g l = record {
  below : (l.i ≤ l.count) × (l.count ≡ length (listed l.pass));
  others : (k : ℕ) → k < l.i → IsOther (whole l.pass) (own_exchange l.pass) l.node k;
}

abbrev pub decreases-loop-i : goal.decreases-loop-i
decreases-loop-i g l = l.count - l.i
