-- Proved in DebtReasons.
use Rattle.pc_model.proofs.DebtReasons.{first_owed_is_owed}
use Rattle.pc_model.proofs.laws.first_owed_is_owed.Goals as goal

pub returns : goal.returns
returns c = first_owed_is_owed
