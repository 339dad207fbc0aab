-- A law of the shape.
use Rattle.pc_model.proofs.shape_laws.shapes_keep_their_laws.Goals as goal

pub returns : goal.returns
returns g c = g.H.Shape.laws
