-- None of the visits so far is of the node.
use Rattle.std.proofs.Common.{◌≢◌, ℕ, ◌-◌, ◌<◌, ◌≤◌, ◌≡◌, length}
use mathlib.Core.Option.{some}
use lib.ListN.{get_elem?}
use Rattle.pc_rule.specs.declared.visit.Visit.{Visit}
use Rattle.pc_path.proofs.finishing.first_visit.Given as goal

abbrev pub invariant-loop-place : goal.invariant-loop-place
invariant-loop-place l = record {
  few : l.place ≤ length l.visits;
  none : (i : ℕ) (v : Visit) → i < l.place → get_elem? l.visits i ≡ some v → v.node ≢ l.node;
}

abbrev pub decreases-loop-place : goal.decreases-loop-place
decreases-loop-place l = length l.visits - l.place
