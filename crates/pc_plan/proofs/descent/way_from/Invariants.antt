use Rattle.pc_plan.specs.Descents.{IsLeg}
use Rattle.pc_plan.proofs.descent.way_from.Given as goal

abbrev pub invariant-loop-pass : goal.invariant-loop-pass
invariant-loop-pass g l = IsLeg (g.C.StillCells.cells l.cells) l.fn.key l.fn.node l.leg.above l.leg.node
