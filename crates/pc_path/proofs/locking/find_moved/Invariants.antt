-- Each visit below `at` gave what the first one of its node gave.
use Rattle.std.proofs.Common.{ℕ, ◌≡◌, ◌-◌, ◌<◌, ◌≤◌, length}
use mathlib.Core.Option.{some}
use lib.ListN.{get_elem?}
use Rattle.pc_rule.specs.declared.visit.Visit.{Visit}
use Rattle.pc_path.specs.Losses.{IsFirstVisit}
use Rattle.pc_path.proofs.locking.find_moved.Given as goal

abbrev pub invariant-loop-at : goal.invariant-loop-at
invariant-loop-at l = record {
  below : l.at ≤ length l.visits;
  same : (i : ℕ) (v : Visit) → i < l.at → get_elem? l.visits i ≡ some v → IsFirstVisit l.visits v.node v.version;
}

abbrev pub decreases-loop-at : goal.decreases-loop-at
decreases-loop-at l = length l.visits - l.at
