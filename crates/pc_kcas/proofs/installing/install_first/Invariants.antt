-- The words below `held` held the reference.
use Rattle.std.proofs.Common.{ℕ, ◌+◌, ◌<◌, ◌≤◌, ◌-◌, length}
use Rattle.pc_rule_law.specs.Conditions.{IsFree}
use Rattle.pc_rule_law.specs.Plays.{AddsNotes}
use Rattle.pc_exchange_law.specs.Knowing.{Learns}
use Rattle.pc_rule.specs.Passes.{view, knows, listed, IsSamePass}
use Rattle.pc_dcss.specs.Installs.{KeepsAttempt}
use Rattle.pc_kcas.specs.Exchanges.{IsPublished, IsHeldAt}
use Rattle.pc_kcas.proofs.installing.install_first.Given as goal

abbrev pub invariant-loop-held : goal.invariant-loop-held
invariant-loop-held g l = record {
  few : (l.held ≤ l.count) × (l.held ≤ length (listed l.pass));
  same : IsSamePass l.initial.pass l.pass;
  learns : Learns (knows l.initial.pass) (knows l.pass);
  free : IsFree (view l.pass);
  published : IsPublished l.pass;
  adds : AddsNotes (view l.initial.pass) (view l.pass);
  attempt : KeepsAttempt (view l.initial.pass) (view l.pass);
  most : (view l.pass).install.number ≤ (view l.initial.pass).install.number + l.held;
  held : (i : ℕ) → i < l.held → IsHeldAt l.initial.pass l.pass i;
}

abbrev pub decreases-loop-held : goal.decreases-loop-held
decreases-loop-held g l = l.count - l.held
