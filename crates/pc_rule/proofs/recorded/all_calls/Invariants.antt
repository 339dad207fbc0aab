-- The calls so far, with those that are still to come.
use Rattle.std.proofs.Common.{◌≡◌, ◌+◌, ◌-◌, ◌*◌, ◌≤◌, length, drop}
use Rattle.pc_rule.specs.Recorded.{calls_of}
use Rattle.pc_rule.proofs.recorded.all_calls.Given as goal

abbrev pub invariant-loop-i : goal.invariant-loop-i
invariant-loop-i l = record {
  below : l.i ≤ length l.shares;
  rest : l.calls + calls_of (drop l.i l.shares) ≡ calls_of l.shares;
  small : l.calls ≤ 4294967295 * l.i;
}

abbrev pub decreases-loop-i : goal.decreases-loop-i
decreases-loop-i l = length l.shares - l.i
