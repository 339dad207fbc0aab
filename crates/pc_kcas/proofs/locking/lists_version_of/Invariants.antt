-- The version stands behind the words below `i`, or not at all.
use Rattle.std.proofs.Common.{◌≡◌, ◌-◌, ◌≤◌, length, drop}
use Rattle.pc_kcas.specs.Locks.{lists_version}
use Rattle.pc_kcas.proofs.locking.lists_version_of.Given as goal

abbrev pub invariant-loop-i : goal.invariant-loop-i
invariant-loop-i g l = record {
  below : l.i ≤ length l.places;
  rest : lists_version l.node l.places ≡ lists_version l.node (drop l.i l.places);
}

abbrev pub decreases-loop-i : goal.decreases-loop-i
decreases-loop-i g l = length l.places - l.i
