-- Proved in Heights.
use Rattle.pc_model.proofs.Heights.{is_balanced_without_debts}
use Rattle.pc_model.proofs.laws.a_tree_without_debts_is_balanced.Goals as goal

pub returns : goal.returns
returns c = is_balanced_without_debts
