use Rattle.pc_plan.specs.Turns.{last_ask}
use Rattle.pc_plan.proofs.TurnSteps.{goes_on_by, ends_by, can_further}
use Rattle.pc_plain.specs.PlainCells.{cells_of}
use Rattle.pc_plain.proofs.run.take_two_strides.Goals as goal

pub stride-requires-2 : goal.stride-requires-2
stride-requires-2 g c =
    can_further g.P.Plan.moves (cells_of c.args.nodes.now) (g.P.Plan.moves c.args.plan.now c.args.told) 1 c.stride.new.self
    c.in_ok-second.second c.in_ok-second.ensures.goes_on c.args.nodes.now.slots c.requires

pub returns-clause-goes_on : goal.returns-clause-goes_on
returns-clause-goes_on g c =
    goes_on_by g.P.Plan.moves (cells_of c.args.nodes.now) (g.P.Plan.moves c.args.plan.now c.args.told) 1 c.stride.new.self
    c.in_ok-second.second c.in_ok-second.ensures.goes_on 1 c.stride-2.new.self c.stride-2.result
    c.stride-2.ensures.goes_on

pub returns-clause-ends : goal.returns-clause-ends
returns-clause-ends g c =
    ends_by g.P.Plan.moves (cells_of c.args.nodes.now) (g.P.Plan.moves c.args.plan.now c.args.told) 1 c.stride.new.self
    c.in_ok-second.second c.in_ok-second.ensures.goes_on
    (λ end. last_ask end c.stride-2.new.change) c.stride-2.result c.stride-2.ensures.ends
