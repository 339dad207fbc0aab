-- The share that is added has no slots.
use Rattle.std.proofs.Common.{refl, arith}
use Rattle.path_race.proofs.Crews.{no_slots}
use Rattle.path_race.proofs.crew.shares_for.Goals as goal

pub loop-shares-preserved : goal.loop-shares-preserved
loop-shares-preserved c = record {
  slots = no_slots c.loop-shares.shares.items c.push.new.self.items _ c.in_ok-push.ensures.items refl c.loop-shares.invariant.slots;
  few = omega arith;
}
