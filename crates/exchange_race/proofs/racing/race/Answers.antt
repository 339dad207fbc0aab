-- One exchange less is left, and there is room for the others.
use Rattle.std.proofs.Common.{rules, ◌-◌, arith}
use Rattle.exchange_race.proofs.racing.race.Goals as goal

pub loop-left-preserved-then-won : goal.loop-left-preserved-then-won
loop-left-preserved-then-won c = let room = c.loop-left.invariant.room in let won = room.0 in let words = room.1 in let some = c.loop-left-test.true in record {
  seated = search rules;
  ready = c.try_one.ensures.ready;
  room = c.try_one.ensures.room (c.loop-left.left - 1) (omega arith, omega arith);
  tries = omega arith;
}

pub loop-left-preserved-else-won : goal.loop-left-preserved-else-won
loop-left-preserved-else-won c = let room = c.loop-left.invariant.room in let won = room.0 in let words = room.1 in let some = c.loop-left-test.true in
    let few = c.if-tries-lt-MOST_TRIES.true in record {
      seated = search rules;
      ready = c.try_one.ensures.ready;
      room = c.try_one.ensures.room (c.loop-left.left - 1) (omega arith, omega arith);
      tries = omega arith;
    }
