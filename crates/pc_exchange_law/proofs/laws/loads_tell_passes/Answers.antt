-- Proved in WordsSeen.
use Rattle.pc_exchange_law.proofs.WordsSeen.{loads_tell_passes}
use Rattle.pc_exchange_law.proofs.laws.loads_tell_passes.Goals as goal

pub returns : goal.returns
returns c = loads_tell_passes
