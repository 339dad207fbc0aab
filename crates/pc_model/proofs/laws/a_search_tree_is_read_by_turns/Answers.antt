-- Proved in Readings.
use Rattle.pc_model.proofs.Readings.{is_read_by_turns}
use Rattle.pc_model.proofs.laws.a_search_tree_is_read_by_turns.Goals as goal

pub returns : goal.returns
returns c = is_read_by_turns
