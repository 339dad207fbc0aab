-- Proved in FittingPlans.
use Rattle.pc_plan.proofs.FittingPlans.{exchanges_fit}
use Rattle.pc_plan.proofs.laws.exchanges_fit.Goals as goal

pub returns : goal.returns
returns g c =
    exchanges_fit g.P.Plan.start g.P.Plan.moves g.P.Plan.can_call g.P.Plan.terms g.P.Plan.form g.met.P.Plan.laws.runs
