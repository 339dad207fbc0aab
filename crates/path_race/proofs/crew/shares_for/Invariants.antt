-- The shares so far have no slots.
use Rattle.std.proofs.Common.{◌≡◌, ◌-◌, ◌≤◌, vec_len}
use Rattle.pc_rule.specs.Shares.{slots_of}
use Rattle.path_race.proofs.crew.shares_for.Given as goal

abbrev pub invariant-loop-shares : goal.invariant-loop-shares
invariant-loop-shares l = record {
  slots : slots_of l.shares.items ≡ 0;
  few : vec_len l.shares ≤ l.threads;
}

abbrev pub decreases-loop-shares : goal.decreases-loop-shares
decreases-loop-shares l = l.threads - vec_len l.shares
