-- Proved in MapLawProofs.
use Rattle.pc_model.proofs.MapLawProofs.{finds_nearest}
use Rattle.pc_model.proofs.laws.ceil_and_floor_are_nearest.Goals as goal

pub returns : goal.returns
returns c = finds_nearest
