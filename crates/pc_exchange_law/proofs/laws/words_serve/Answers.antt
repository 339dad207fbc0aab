-- Proved in Ties.
use Rattle.pc_exchange_law.proofs.Ties.{words_serve}
use Rattle.pc_exchange_law.proofs.laws.words_serve.Goals as goal

pub returns : goal.returns
returns c = words_serve
