-- Proved in MapLawProofs.
use Rattle.pc_model.proofs.MapLawProofs.{is_finite_map}
use Rattle.pc_model.proofs.laws.sorted_map_is_finite_map.Goals as goal

pub returns : goal.returns
returns c = is_finite_map
