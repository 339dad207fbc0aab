use Rattle.std.proofs.Common.{◌≡◌, [], ◌∙◌}
use Rattle.pc_plan.specs.declared.plan.Ask.{Ask}
use Rattle.pc_plan.specs.declared.plan.Told.TheVariants.{Version as VersionTold}
use Rattle.pc_plan.specs.Asking.{asked}
use Rattle.pc_plan.specs.Planned.{Planned}
use Rattle.pc_plan.specs.Turns.{GoesOn}
use Rattle.pc_plan.proofs.TurnSteps.{can_further, goes_on_by}
use Rattle.pc_avl.specs.declared.repair.Repair.{Repair}
use Rattle.pc_avl.specs.Repairs.{repair_moves}
use Rattle.pc_avl.proofs.RepairStrides.{walks_on, can_tell, goes_if, ends_if, ends_further, goes_by_nodes, goes_down, at_walk}
use Rattle.pc_avl.proofs.repair.Repair.go_down.Given.{Over}
use Rattle.pc_avl.proofs.repair.Repair.go_down.Goals as goal
use Rattle.pc_avl.proofs.repair.Repair.go_down.Goals.{After-walk_on, In-Some}

-- the turn of a walk that is not on its way down
turn : (g : Over) (c : After-walk_on g) (p : Planned)
    → ◌≡◌ {A = Repair × Ask} (c.walk_on.new.self, asked c.walk_on.result p) (repair_moves c.args.self.now c.args.told)
turn g c p = c.walk_on.ensures p ∙ walks_on c.args.self.now c.args.told c.requires.walks

-- where the way down leads
leads : (g : Over) (c : In-Some g)
    → GoesOn repair_moves (g.C.StillCells.cells c.args.cells.now) (repair_moves c.args.self.now c.args.told) 0
    (at_walk c.args.self.now c.args.self.now.phase c.in-Some.descent.walk c.in-Some.descent.above_key)
    (VersionTold c.in-Some.descent.version)
leads g c =
    goes_down c.args.self.now (g.C.StillCells.slots c.args.cells.now) (g.C.StillCells.cells c.args.cells.now)
    c.args.told c.requires.walks c.requires.can c.in-Some.descent c.in-Some.ensures

pub of-requires : goal.of-requires
of-requires g c =
    goes_by_nodes c.args.self.now (g.C.StillCells.slots c.args.cells.now) (g.C.StillCells.cells c.args.cells.now)
    c.args.told c.requires.walks c.requires.can

pub tell-requires : goal.tell-requires
tell-requires g c =
    can_tell (g.C.StillCells.cells c.args.cells.now) (repair_moves c.args.self.now c.args.told) [] tt c.walk_on.new.self
    c.walk_on.result (turn g (goal.at.tell-requires g c).After-walk_on) (g.C.StillCells.slots c.args.cells.now) c.requires.can

pub returns-in_default-clause-goes_on : goal.returns-in_default-clause-goes_on
returns-in_default-clause-goes_on g c =
    goes_if (g.C.StillCells.cells c.args.cells.now) (repair_moves c.args.self.now c.args.told) [] tt c.walk_on.new.self
    c.walk_on.result (turn g (goal.at.returns-in_default-clause-goes_on g c).After-walk_on) c.tell.result
    c.tell.ensures.told

pub returns-in_default-clause-ends : goal.returns-in_default-clause-ends
returns-in_default-clause-ends g c =
    ends_if (g.C.StillCells.cells c.args.cells.now) (repair_moves c.args.self.now c.args.told) [] tt c.walk_on.new.self
    c.walk_on.result (turn g (goal.at.returns-in_default-clause-ends g c).After-walk_on) c.tell.result
    c.tell.ensures.ended

pub come_to-requires-clause-can : goal.come_to-requires-clause-can
come_to-requires-clause-can g c =
    can_further repair_moves (g.C.StillCells.cells c.args.cells.now) (repair_moves c.args.self.now c.args.told) 0
    (at_walk c.args.self.now c.args.self.now.phase c.in-Some.descent.walk c.in-Some.descent.above_key)
    (VersionTold c.in-Some.descent.version) (leads g (goal.at.come_to-requires-clause-can g c).In-Some)
    (g.C.StillCells.slots c.args.cells.now) c.requires.can

pub returns-clause-goes_on : goal.returns-clause-goes_on
returns-clause-goes_on g c =
    goes_on_by repair_moves (g.C.StillCells.cells c.args.cells.now) (repair_moves c.args.self.now c.args.told) 0
    (at_walk c.args.self.now c.args.self.now.phase c.in-Some.descent.walk c.in-Some.descent.above_key)
    (VersionTold c.in-Some.descent.version) (leads g (goal.at.returns-clause-goes_on g c).In-Some) 1
    c.come_to.new.self c.come_to.result c.come_to.ensures.goes_on

pub returns-clause-ends : goal.returns-clause-ends
returns-clause-ends g c =
    ends_further (g.C.StillCells.cells c.args.cells.now) (repair_moves c.args.self.now c.args.told) 0
    (at_walk c.args.self.now c.args.self.now.phase c.in-Some.descent.walk c.in-Some.descent.above_key)
    (VersionTold c.in-Some.descent.version) (leads g (goal.at.returns-clause-ends g c).In-Some)
    c.come_to.result c.come_to.ensures.ends
