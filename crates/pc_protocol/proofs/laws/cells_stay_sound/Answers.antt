-- Proved in Protocol.
use Rattle.pc_protocol.proofs.Protocol.{cells_stay_sound}
use Rattle.pc_protocol.proofs.laws.cells_stay_sound.Goals as goal

pub returns : goal.returns
returns g c = cells_stay_sound g.H.Shape.form
