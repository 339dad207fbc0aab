-- So far the entries stay, and the map is the same one.
use Rattle.std.proofs.Common.{◌≡◌}
use Rattle.pc_locked.specs.States.{IsSameMap}
use Rattle.pc_locked.proofs.payment.settle.Given as goal

abbrev pub invariant-loop : goal.invariant-loop
invariant-loop g l =
    (goal.iterator-loop g).can_next l.iterator' × (goal.iterator-loop g).is_finite l.iterator'
    × (l.state.entries ≡ l.initial.state.entries) × IsSameMap l.initial.state l.state
