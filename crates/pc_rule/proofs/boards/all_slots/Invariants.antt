-- The slots so far, with those that are still to come.
use Rattle.std.proofs.Common.{◌≡◌, ◌+◌, ◌-◌, ◌≤◌, length, drop}
use Rattle.pc_rule.specs.Shares.{slots_of}
use Rattle.pc_rule.proofs.boards.all_slots.Given as goal

abbrev pub invariant-loop-i : goal.invariant-loop-i
invariant-loop-i l = record {
  below : l.i ≤ length l.shares;
  rest : l.slots + slots_of (drop l.i l.shares) ≡ slots_of l.shares;
}

abbrev pub decreases-loop-i : goal.decreases-loop-i
decreases-loop-i l = length l.shares - l.i
