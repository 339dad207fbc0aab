-- Proved in TieRuns.
use Rattle.pc_exchange_law.proofs.TieRuns.{run_tells}
use Rattle.pc_exchange_law.proofs.laws.run_tells.Goals as goal

pub returns : goal.returns
returns c = run_tells
