-- Proved in QuietPlans.
use Rattle.pc_plain.proofs.QuietPlans.{quiet_plans}
use Rattle.pc_plain.proofs.laws.quiet_plans_change_nothing.Goals as goal

pub returns : goal.returns
returns g c = quiet_plans g.P.Plan.start g.P.Plan.moves g.P.Plan.can_call g.P.Plan.form
