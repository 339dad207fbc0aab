-- Proved in Agreement.
use Rattle.pc_plan.proofs.Agreement.{standing_is_agreeing}
use Rattle.pc_plan.proofs.laws.standing_is_agreeing.Goals as goal

pub returns : goal.returns
returns g c = standing_is_agreeing g.P.Plan.start g.P.Plan.moves
