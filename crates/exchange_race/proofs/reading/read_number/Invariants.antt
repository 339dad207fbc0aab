-- The pass is where it was, and has learnt. Fewer installs and exchanges may be passed each time.
use Rattle.std.proofs.Common.{◌+◌}
use Rattle.pc_rule.specs.Passes.{view, knows, IsPassOf, IsSamePass}
use Rattle.exchange_race.specs.Racing.{KeepsTold, MayRace}
use Rattle.exchange_race.proofs.reading.read_number.Given as goal

abbrev pub invariant-loop-number : goal.invariant-loop-number
invariant-loop-number l = record {
  pass : IsPassOf l.board l.pass;
  same : IsSamePass l.fn.pass l.pass;
  may : MayRace (view l.pass);
  told : KeepsTold (knows l.fn.pass) (knows l.pass);
}

abbrev pub decreases-loop-number : goal.decreases-loop-number
decreases-loop-number l = l.way.installs + l.way.exchanges
