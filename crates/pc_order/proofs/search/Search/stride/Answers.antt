use Rattle.std.proofs.Common.{[]}
use Rattle.pc_model.specs.declared.call.Reply.TheVariants.{None as Nothing}
use Rattle.pc_plan.specs.Asking.{asked}
use Rattle.pc_plan.specs.Planned.{replying}
use Rattle.pc_plan.specs.Turns.{last_ask}
use Rattle.pc_plan.proofs.TurnSteps.{told_for, ended_for, can_be_told, goes_if_told, ends_if_ended}
use Rattle.pc_order.specs.Searches.{search_moves}
use Rattle.pc_order.proofs.search.Search.stride.Goals as goal

pub tell-requires : goal.tell-requires
tell-requires g c = (
  replying Nothing,
  can_be_told search_moves (g.C.StillCells.cells c.args.cells.now) (search_moves c.args.self.now c.args.told) [] tt c.step.new.self
      (asked c.step.result (replying Nothing)) (c.step.ensures (replying Nothing)) (g.C.StillCells.slots c.args.cells.now) c.requires,
)

pub returns-clause-goes_on : goal.returns-clause-goes_on
returns-clause-goes_on g c =
    goes_if_told search_moves (g.C.StillCells.cells c.args.cells.now) (search_moves c.args.self.now c.args.told) [] tt c.step.new.self
    (asked c.step.result (replying Nothing)) (c.step.ensures (replying Nothing)) c.tell.result
    (told_for (g.C.StillCells.cells c.args.cells.now) c.step.result (replying Nothing) c.tell.result c.tell.ensures.told)

pub returns-clause-ends : goal.returns-clause-ends
returns-clause-ends g c =
    ends_if_ended search_moves (g.C.StillCells.cells c.args.cells.now) (search_moves c.args.self.now c.args.told) [] tt
    c.step.new.self (asked c.step.result c.args._change.now) (c.step.ensures c.args._change.now)
    (λ end. last_ask end c.args._change.now) c.tell.result
    (ended_for c.step.result c.args._change.now c.tell.result c.tell.ensures.ended)
