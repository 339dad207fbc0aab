-- Proved in SearchTreeLinks.
use Rattle.pc_model.proofs.SearchTreeLinks.{trees_are_shapes}
use Rattle.pc_model.proofs.shape_laws.search_trees_are_shapes.Goals as goal

pub returns : goal.returns
returns c = trees_are_shapes
