use Rattle.std.proofs.Common.{◌∙◌}
use Rattle.pc_plan.specs.Asking.{asked}
use Rattle.pc_plan.specs.Turns.{last_ask}
use Rattle.pc_plan.proofs.TurnSteps.{told_for, ended_for, can_be_told, goes_if_told, ends_if_ended}
use Rattle.pc_bst.specs.Gets.{get_moves}
use Rattle.pc_bst.proofs.get.BstGetPlan.stride.Goals as goal

pub tell-requires : goal.tell-requires
tell-requires g c = (
  c.step.new._change,
  can_be_told get_moves (g.C.StillCells.cells c.args.cells.now) (get_moves c.args.self.now c.args.told)
      c.descend-next.ensures.trace c.descend-next.ensures.agrees c.step.new.self
      (asked c.step.result c.step.new._change) (c.step.ensures ∙ c.descend-next.ensures.leads)
      (g.C.StillCells.slots c.args.cells.now) c.requires,
)

pub returns-clause-goes_on : goal.returns-clause-goes_on
returns-clause-goes_on g c =
    goes_if_told get_moves (g.C.StillCells.cells c.args.cells.now) (get_moves c.args.self.now c.args.told)
    c.descend-next.ensures.trace c.descend-next.ensures.agrees c.step.new.self
    (asked c.step.result c.step.new._change) (c.step.ensures ∙ c.descend-next.ensures.leads) c.tell.result
    (told_for (g.C.StillCells.cells c.args.cells.now) c.step.result c.step.new._change c.tell.result c.tell.ensures.told)

pub returns-clause-ends : goal.returns-clause-ends
returns-clause-ends g c =
    ends_if_ended get_moves (g.C.StillCells.cells c.args.cells.now) (get_moves c.args.self.now c.args.told)
    c.descend-next.ensures.trace c.descend-next.ensures.agrees c.step.new.self
    (asked c.step.result c.step.new._change) (c.step.ensures ∙ c.descend-next.ensures.leads)
    (λ end. last_ask end c.step.new._change) c.tell.result
    (ended_for c.step.result c.step.new._change c.tell.result c.tell.ensures.ended)
