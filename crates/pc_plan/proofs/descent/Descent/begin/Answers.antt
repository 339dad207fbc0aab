use Rattle.std.proofs.Common.{refl, ◌∙◌}
use Rattle.pc_plan.proofs.Descending.{begins_down}
use Rattle.pc_plan.proofs.descent.Descent.begin.Goals as goal

pub enter-requires : goal.enter-requires
enter-requires g c d enters = c.requires d (
  d,
  0,
  begins_down (g.C.StillCells.cells c.args.cells.now) c.args.walk c.args.above_key c.args.told
      c.in-Begin-Begin.is-0 c.in-Begin-Begin.is-1 c.if-walk-eq-SENTINEL.true ∙ enters,
  refl,
)
