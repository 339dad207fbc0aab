-- Proved in ClockEnds.
use Rattle.pc_exchange_law.proofs.ClockEnds.{clock_ends}
use Rattle.pc_exchange_law.proofs.laws.clock_ends.Goals as goal

pub returns : goal.returns
returns c = clock_ends
