-- Proved in DebtReasons.
use Rattle.pc_model.proofs.DebtReasons.{no_debt_is_invented}
use Rattle.pc_model.proofs.laws.no_debt_is_invented.Goals as goal

pub returns : goal.returns
returns c = no_debt_is_invented
