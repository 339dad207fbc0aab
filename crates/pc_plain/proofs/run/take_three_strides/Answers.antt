use Rattle.pc_plan.specs.Turns.{last_ask}
use Rattle.pc_plan.proofs.TurnSteps.{goes_on_by, ends_by, can_further}
use Rattle.pc_plain.specs.PlainCells.{cells_of}
use Rattle.pc_plain.proofs.run.take_three_strides.Goals as goal

pub take_two_strides-requires : goal.take_two_strides-requires
take_two_strides-requires g c =
    can_further g.P.Plan.moves (cells_of c.args.nodes.now) (g.P.Plan.moves c.args.plan.now c.args.told) 1 c.stride.new.self
    c.in_ok-second.second c.in_ok-second.ensures.goes_on c.args.nodes.now.slots c.requires

pub returns-clause-goes_on : goal.returns-clause-goes_on
returns-clause-goes_on g c =
    goes_on_by g.P.Plan.moves (cells_of c.args.nodes.now) (g.P.Plan.moves c.args.plan.now c.args.told) 1 c.stride.new.self
    c.in_ok-second.second c.in_ok-second.ensures.goes_on 2 c.take_two_strides.new.plan c.take_two_strides.result
    c.take_two_strides.ensures.goes_on

pub returns-clause-ends : goal.returns-clause-ends
returns-clause-ends g c =
    ends_by g.P.Plan.moves (cells_of c.args.nodes.now) (g.P.Plan.moves c.args.plan.now c.args.told) 1 c.stride.new.self
    c.in_ok-second.second c.in_ok-second.ensures.goes_on
    (λ end. last_ask end c.take_two_strides.new.change) c.take_two_strides.result
    c.take_two_strides.ensures.ends
