use Rattle.std.proofs.Common.{inr, sym, ◌∙◌}
use Rattle.pc_plan.proofs.Legs.{leg_leads}
use Rattle.pc_plan.proofs.descent.way_from.Goals as goal

pub node_below-requires : goal.node_below-requires
node_below-requires g c =
    let there = leg_leads (g.C.StillCells.cells c.args.cells.now) c.args.key c.args.node c.loop-pass.leg.above
    c.loop-pass.leg.node c.loop-pass.invariant in c.requires there.0 c.loop-pass.leg.node there.1

pub loop-pass-preserved : goal.loop-pass-preserved
loop-pass-preserved g c =
    let there = leg_leads (g.C.StillCells.cells c.args.cells.now) c.args.key c.args.node c.loop-pass.leg.above
    c.loop-pass.leg.node c.loop-pass.invariant in
    inr (there.0, there.1, sym c.node_below.ensures ∙ c.in-Some.is)
