-- The visits below `at` have passed.
use Rattle.std.proofs.Common.{◌≡◌, ℕ, ◌+◌, ◌≤◌, ◌-◌, length}
use Rattle.pc_rule_law.specs.Conditions.{IsFree}
use Rattle.pc_exchange_law.specs.Paths.{Path, with_stamp}
use Rattle.pc_rule.specs.Passes.{whole, view, knows, visits, path, board_size, StaysSeated}
use Rattle.pc_kcas.specs.Obstacles.{GoesOn}
use Rattle.pc_path.specs.Bounds.{most_in_checks}
use Rattle.pc_path.specs.Checks.{IsCheckedTo}
use Rattle.pc_path.proofs.validating.check_visits.Given as goal

abbrev pub invariant-loop-at : goal.invariant-loop-at
invariant-loop-at g l = record {
  few : (l.at ≤ l.count) × (l.count ≡ length (visits l.pass));
  seated : StaysSeated l.initial.pass l.pass;
  goes : GoesOn (whole l.initial.pass) (whole l.pass);
  free : IsFree (view l.pass);
  same_visits : visits l.pass ≡ visits l.initial.pass;
  begun : (path l.pass).begun ≡ (path l.initial.pass).begun;
  bounded : (view l.pass).install.number ≤ (view l.initial.pass).install.number + most_in_checks (board_size l.board) l.at;
  checked : (p : Path) (s : ℕ) → path l.initial.pass ≡ with_stamp p s → IsCheckedTo p s (visits l.pass) l.at (path l.pass) (knows l.pass);
}

abbrev pub decreases-loop-at : goal.decreases-loop-at
decreases-loop-at g l = l.count - l.at
