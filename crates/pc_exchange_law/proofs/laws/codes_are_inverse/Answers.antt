-- Proved in Codes.
use Rattle.pc_exchange_law.proofs.Codes.{codes_are_inverse}
use Rattle.pc_exchange_law.proofs.laws.codes_are_inverse.Goals as goal

pub returns : goal.returns
returns c = codes_are_inverse
