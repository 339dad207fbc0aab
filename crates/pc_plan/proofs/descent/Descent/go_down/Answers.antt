use Rattle.std.proofs.Common.{ℕ, sym, subst}
use Rattle.pc_plan.specs.declared.descent.Descent.{Descent}
use Rattle.pc_plan.specs.Descents.{Passes}
use Rattle.pc_plan.proofs.Legs.{leads_by_nodes, leg_above_is_node, leg_is_node, leg_passes}
use Rattle.pc_plan.proofs.descent.Descent.go_down.Goals as goal

pub way_from-leg-requires : goal.way_from-leg-requires
way_from-leg-requires g c =
    leads_by_nodes (g.C.StillCells.slots c.args.cells.now) (g.C.StillCells.cells c.args.cells.now) c.args.self c.requires

pub at_leg-requires : goal.at_leg-requires
at_leg-requires g c = record {
  above = leg_above_is_node (g.C.StillCells.slots c.args.cells.now) (g.C.StillCells.cells c.args.cells.now) c.args.self
      c.requires c.way_from-leg.result.above c.way_from-leg.result.node c.way_from-leg.ensures c.if-leg-self.false;
  node = leg_is_node (g.C.StillCells.slots c.args.cells.now) (g.C.StillCells.cells c.args.cells.now) c.args.self
      c.requires c.way_from-leg.result.above c.way_from-leg.result.node c.way_from-leg.ensures;
}

pub returns : goal.returns
returns g c =
    subst (λ (d : Descent). (m : ℕ) × Passes (g.C.StillCells.cells c.args.cells.now) c.args.self m d)
    (sym c.at_leg.ensures)
    (leg_passes (g.C.StillCells.cells c.args.cells.now) c.args.self c.way_from-leg.result.above
    c.way_from-leg.result.node c.way_from-leg.ensures c.if-leg-self.false)
