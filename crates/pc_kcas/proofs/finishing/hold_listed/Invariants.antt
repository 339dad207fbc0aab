-- The words below `at` hold the reference.
use Rattle.std.proofs.Common.{◌≡◌, ℕ, ◌+◌, ◌<◌, ◌≤◌, ◌-◌, length}
use Rattle.pc_rule_law.specs.Conditions.{IsFree}
use Rattle.pc_rule.specs.Passes.{whole, view, listed, board_size, IsSamePass}
use Rattle.pc_kcas.specs.Bounds.{most_in_end}
use Rattle.pc_kcas.specs.Exchanges.{IsPublished, IsHeldAt}
use Rattle.pc_kcas.specs.Obstacles.{GoesOn}
use Rattle.pc_kcas.proofs.finishing.hold_listed.Given as goal

abbrev pub invariant-loop-at : goal.invariant-loop-at
invariant-loop-at g l = record {
  few : (l.at ≤ l.count) × (l.count ≡ length (listed l.pass));
  same : IsSamePass l.initial.pass l.pass;
  goes_on : GoesOn (whole l.initial.pass) (whole l.pass);
  free : IsFree (view l.pass);
  published : IsPublished l.pass;
  bounded : (view l.pass).install.number ≤ (view l.initial.pass).install.number + most_in_end (board_size l.board) l.at;
  held : (i : ℕ) → i < l.at → IsHeldAt l.initial.pass l.pass i;
}

abbrev pub decreases-loop-at : goal.decreases-loop-at
decreases-loop-at g l = l.count - l.at
