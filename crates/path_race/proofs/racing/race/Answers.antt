-- One operation less is left, and there is room for the others.
use Rattle.std.proofs.Common.{rules, ◌-◌, arith}
use Rattle.path_race.proofs.racing.race.Goals as goal

pub loop-left-preserved-then-effect : goal.loop-left-preserved-then-effect
loop-left-preserved-then-effect c = let room = c.loop-left.invariant.room in let won = room.0 in let words = room.1 in let some = c.loop-left-test.true in record {
  seated = search rules;
  ready = c.operate.ensures.ready;
  room = c.operate.ensures.room (c.loop-left.left - 1) (omega arith, omega arith);
  tries = omega arith;
}

pub loop-left-preserved-else-effect : goal.loop-left-preserved-else-effect
loop-left-preserved-else-effect c = let room = c.loop-left.invariant.room in let won = room.0 in let words = room.1 in let some = c.loop-left-test.true in
    let few = c.if-tries-lt-MOST_TRIES.true in record {
      seated = search rules;
      ready = c.operate.ensures.ready;
      room = c.operate.ensures.room (c.loop-left.left - 1) (omega arith, omega arith);
      tries = omega arith;
    }
