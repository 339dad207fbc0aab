use Rattle.std.proofs.Common.{◌*◌}
use Rattle.pc_plan.specs.declared.plan.Told.TheVariants.{Begin}
use Rattle.pc_plan.specs.Turns.{GoesOn}
use Rattle.pc_plain.specs.PlainCells.{cells_of}
use Rattle.pc_plain.proofs.run.end_of.Given as goal

abbrev pub invariant-loop-round : goal.invariant-loop-round
invariant-loop-round g l =
    GoesOn g.P.Plan.moves (cells_of l.nodes) (g.P.Plan.moves (g.P.Plan.start l.fn.call) Begin) (3 * l._round) l.plan l.told
