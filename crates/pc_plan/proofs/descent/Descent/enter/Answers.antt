use Rattle.std.proofs.Common.{◌≡◌, [], ◌∷◌, Some, false, sym, ap, ◌∙◌}
use Rattle.std.specs.ControlFlow.{continue_value}
use Rattle.pc_model.specs.declared.cell.Field.TheVariants.{Left as LeftLink}
use Rattle.pc_model.specs.Cells.{node_at}
use Rattle.pc_model.specs.Debts.{has}
use Rattle.pc_plan.specs.Descents.{entered}
use Rattle.pc_plan.proofs.Descending.{enters}
use Rattle.pc_plan.proofs.descent.Descent.enter.Goals as goal

pub at-requires : goal.at-requires
at-requires g c =
    let is : node_at (g.C.StillCells.cells c.args.cells.now 1 LeftLink) ≡ Some c.in_ok-node.node
    = ap node_at (sym c.word.ensures) ∙ sym c.node_of.ensures ∙ c.branch-node.ensures
    ∙ ap continue_value c.in_ok-node.is in
    let onward : has c.in_ok-node.node (1 ∷ 1 ∷ []) ≡ false = sym c.leads_back.ensures ∙ c.if-leads_back.false in
    c.requires
    (entered (g.C.StillCells.cells c.args.cells.now) c.args.walk c.args.above_key c.in_ok-node.node)
    (enters (g.C.StillCells.cells c.args.cells.now) c.args.walk c.args.above_key c.in_ok-node.node is onward)
