-- Proved in LooseShape.
use Rattle.pc_model.proofs.LooseShape.{is_loose}
use Rattle.pc_model.proofs.shape_laws.loose_cells_are_linked.Goals as goal

pub returns : goal.returns
returns c = is_loose
