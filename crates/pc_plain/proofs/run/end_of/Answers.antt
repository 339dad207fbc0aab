use Rattle.std.proofs.Common.{◌≡◌, ◌*◌, ◌+◌, ◌<◌, ◌≤◌, length, subst, arith}
use Rattle.pc_plan.specs.declared.plan.Told.TheVariants.{Begin}
use Rattle.pc_plan.specs.Turns.{last_ask, GoesOn}
use Rattle.pc_plan.proofs.TurnSteps.{goes_at_first, goes_further, comes_further, can_further}
use Rattle.pc_plain.specs.PlainCells.{cells_of}
use Rattle.pc_plain.proofs.RunRight.{can_go_on, ends_before}
use Rattle.pc_plain.proofs.run.end_of.Goals as goal
use Rattle.pc_plain.proofs.run.end_of.Goals.{After-slots}

pub loop-round-init : goal.loop-round-init
loop-round-init g c =
    rw c.begin-plan.ensures (goes_at_first g.P.Plan.moves (cells_of c.args.nodes.now) (g.P.Plan.start c.args.call) Begin)

pub take_three_strides-requires : goal.take_three_strides-requires
take_three_strides-requires g c =
    can_further g.P.Plan.moves (cells_of c.args.nodes.now) (g.P.Plan.moves (g.P.Plan.start c.args.call) Begin)
    (3 * c.loop-round._round)
    c.loop-round.plan c.loop-round.told c.loop-round.invariant
    c.args.nodes.now.slots (can_go_on g.P.Plan.start g.P.Plan.moves g.P.Plan.can_call g.P.Plan.terms g.P.Plan.form g.met.P.Plan.laws
    c.args.nodes.now c.slots.ensures.few c.slots.ensures.fit c.args.call c.requires.call c.requires.sound)

pub returns-in-Err-clause-comes : goal.returns-in-Err-clause-comes
returns-in-Err-clause-comes g c =
    comes_further g.P.Plan.moves (cells_of c.args.nodes.now) (g.P.Plan.moves (g.P.Plan.start c.args.call) Begin)
    (3 * c.loop-round._round) c.loop-round.plan c.loop-round.told c.loop-round.invariant
    (last_ask c.in-Err.end c.take_three_strides.new.change) c.in-Err.ensures.ends

pub loop-round-preserved : goal.loop-round-preserved
loop-round-preserved g c =
    let turns : 3 * c.loop-round._round + 3 ≡ 3 * (c.loop-round._round + 1) = omega arith in
    subst (λ n. GoesOn g.P.Plan.moves (cells_of c.args.nodes.now) (g.P.Plan.moves (g.P.Plan.start c.args.call) Begin) n
    c.take_three_strides.new.plan c.in-Ok.next) turns
    (goes_further g.P.Plan.moves (cells_of c.args.nodes.now) (g.P.Plan.moves (g.P.Plan.start c.args.call) Begin)
    (3 * c.loop-round._round) c.loop-round.plan c.loop-round.told c.loop-round.invariant
    3 c.take_three_strides.new.plan c.in-Ok.next c.in-Ok.ensures.goes_on)

pub unreachable-requires : goal.unreachable-requires
unreachable-requires g c =
    let before : length c.loop-round.invariant.trace < 9 * (c.args.nodes.now.slots + 2)
    = ends_before g.P.Plan.start g.P.Plan.moves g.P.Plan.can_call g.P.Plan.terms g.P.Plan.form g.met.P.Plan.laws
    c.args.nodes.now c.slots.ensures.few c.slots.ensures.fit c.args.call c.requires.call
    c.requires.sound.0 c.requires.sound.1 c.loop-round.invariant.trace c.loop-round.invariant.agrees in
    let turns : 3 * c.loop-round._round ≤ length c.loop-round.invariant.trace = c.loop-round.invariant.long in
    let same : c.slots.result ≡ c.args.nodes.now.slots = c.slots.ensures.same in
    let past : 3 * (c.slots.result + 2) ≤ c.loop-round._round = c.loop-round-test.false in
    omega arith
