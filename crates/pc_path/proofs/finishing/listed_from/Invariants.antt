-- None of the words so far is the version of the node.
use Rattle.std.proofs.Common.{ℕ, ◌-◌, ◌≤◌, length}
use Rattle.pc_path.proofs.Seeing.{IsNotBelow}
use Rattle.pc_path.proofs.finishing.listed_from.Given as goal

abbrev pub invariant-loop-i : goal.invariant-loop-i
invariant-loop-i l = record {
  below : l.i ≤ length l.places;
  none : IsNotBelow l.places l.i l.node;
}

abbrev pub decreases-loop-i : goal.decreases-loop-i
decreases-loop-i l = length l.places - l.i
