-- Proved in Histories.
use Rattle.pc_model.proofs.Histories.{its_calls_in_order}
use Rattle.pc_model.proofs.laws.history_of_one_client_is_its_calls.Goals as goal

pub returns : goal.returns
returns c = its_calls_in_order
