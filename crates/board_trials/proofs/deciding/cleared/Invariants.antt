-- The words below i are clean.
use Rattle.std.proofs.Common.{◌≡◌, ℕ, ◌<◌, ◌≤◌, ◌-◌, length}
use Rattle.pc_rule_law.specs.Conditions.{IsFree}
use Rattle.pc_rule.specs.Passes.{view, listed, IsSamePass}
use Rattle.pc_kcas.specs.Exchanges.{IsUncleared}
use Rattle.board_trials.specs.Deciding.{HasSucceeded, IsCleanAt}
use Rattle.board_trials.proofs.deciding.cleared.Given as goal

abbrev pub invariant-loop-i : goal.invariant-loop-i
invariant-loop-i l = record {
  below : l.i ≤ l.count;
  count : l.count ≡ length (listed l.pass);
  same : IsSamePass l.initial.pass l.pass;
  published : IsUncleared l.pass;
  free : IsFree (view l.pass);
  succeeded : HasSucceeded l.pass;
  clean : (k : ℕ) → k < l.i → IsCleanAt l.pass k;
}

abbrev pub decreases-loop-i : goal.decreases-loop-i
decreases-loop-i l = l.count - l.i
