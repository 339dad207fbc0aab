-- So far the room is that which the first lists want.
use Rattle.std.proofs.Common.{◌≡◌, take}
use Rattle.pc_run.specs.Shares.{calls_in, lists_of, shares_of}
use Rattle.pc_run.proofs.shares.room_for.Given as goal

abbrev pub invariant-loop-calls : goal.invariant-loop-calls
invariant-loop-calls l = (l.room.slots ≡ shares_of (take l.calls-index (lists_of l.lists)))
    × (l.room.calls ≡ calls_in (take l.calls-index (lists_of l.lists)))
