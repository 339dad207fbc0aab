-- Proved in Ties.
use Rattle.pc_exchange_law.proofs.Ties.{steps_stay_tied}
use Rattle.pc_exchange_law.proofs.laws.steps_stay_tied.Goals as goal

pub returns : goal.returns
returns c = steps_stay_tied
