-- Proved in DebtLists.
use Rattle.pc_model.proofs.DebtLists.{no_debt_is_forgotten}
use Rattle.pc_model.proofs.laws.no_debt_is_forgotten.Goals as goal

pub returns : goal.returns
returns c = no_debt_is_forgotten
