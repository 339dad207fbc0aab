use Rattle.std.proofs.Common.{◌≡◌, false, [], ◌∷◌, sym, ap, subst, ◌∙◌}
use Rattle.pc_model.specs.Cells.{node_at}
use Rattle.pc_model.specs.Debts.{has}
use Rattle.pc_avl.specs.declared.repair.Place.{Place}
use Rattle.pc_avl.specs.declared.repair.Place.TheVariants.{Node}
use Rattle.pc_avl.specs.declared.repair.RepairPhase.TheVariants.{Looking}
use Rattle.pc_avl.specs.Closings.{height_at}
use Rattle.pc_avl.proofs.Closing.{if_names, left_is_node, right_is_node, closes_if}
use Rattle.pc_avl.proofs.RepairStrides.{looks_at_node}
use Rattle.pc_avl.proofs.repair.Repair.close.Goals as goal

pub at_once-requires : goal.at_once-requires
at_once-requires g c =
    looks_at_node (g.C.StillCells.slots c.args.cells.now) (g.C.StillCells.cells c.args.cells.now) c.args.self.now Node
    c.args.told (c.in-Looking.is ∙ ap (λ (p : Place). Looking p) c.in-Node.is) c.requires

pub height_at-requires : goal.height_at-requires
height_at-requires g c =
    if_names (node_at c.in_ok-node.field-0.seen.left) _
    (left_is_node (g.C.StillCells.slots c.args.cells.now) (g.C.StillCells.cells c.args.cells.now) c.args.self.now
    c.args.told c.in_ok-node.field-0
    (c.in-Looking.is ∙ ap (λ (p : Place). Looking p) c.in-Node.is) c.if-not-is_blank.ensures
    (sym c.at_once.ensures ∙ c.in_ok-node.was) c.requires)

pub height_at-requires-2 : goal.height_at-requires-2
height_at-requires-2 g c =
    if_names (node_at c.in_ok-node.field-0.seen.right) _
    (λ n names new. right_is_node (g.C.StillCells.slots c.args.cells.now) (g.C.StillCells.cells c.args.cells.now)
    c.args.self.now c.args.told c.in_ok-node.field-0
    (c.in-Looking.is ∙ ap (λ (p : Place). Looking p) c.in-Node.is) c.if-not-is_blank.ensures
    (sym c.at_once.ensures ∙ c.in_ok-node.was) c.requires c.in_ok-left.left
    (sym c.height_at.ensures ∙ c.in_ok-left.was) n names
    (subst (λ x. has n (c.args.self.now.above.above.node ∷ c.in_ok-node.field-0.seen.node ∷ x ∷ []) ≡ false)
    c.number_of.ensures new))

pub returns : goal.returns
returns g c =
    closes_if (g.C.StillCells.slots c.args.cells.now) (g.C.StillCells.cells c.args.cells.now) c.args.self.now
    c.args.told c.in_ok-node.field-0
    (c.in-Looking.is ∙ ap (λ (p : Place). Looking p) c.in-Node.is) c.if-not-is_blank.ensures
    (sym c.at_once.ensures ∙ c.in_ok-node.was) c.requires c.in_ok-left.left
    (sym c.height_at.ensures ∙ c.in_ok-left.was) c.in_ok-right.right
    (ap (λ x. height_at (g.C.StillCells.cells c.args.cells.now)
    (c.args.self.now.above.above.node ∷ c.in_ok-node.field-0.seen.node ∷ x ∷ [])
    (node_at c.in_ok-node.field-0.seen.right)) (sym c.number_of.ensures) ∙ sym c.height_at-2.ensures
    ∙ c.in_ok-right.was) c.close_over.new.change c.close_over.result c.close_over.ensures.close c.close_over.ensures.end
