-- Proved in Ties.
use Rattle.pc_exchange_law.proofs.Ties.{successes_serve}
use Rattle.pc_exchange_law.proofs.laws.successes_serve.Goals as goal

pub returns : goal.returns
returns c = successes_serve
