use Rattle.std.proofs.Common.{◌≡◌, [], ◌∙◌}
use Rattle.pc_plan.specs.declared.plan.Ask.{Ask}
use Rattle.pc_plan.specs.declared.plan.Told.TheVariants.{Version as VersionTold}
use Rattle.pc_plan.specs.Asking.{asked}
use Rattle.pc_plan.specs.Planned.{Planned}
use Rattle.pc_plan.specs.Traces.{after}
use Rattle.pc_plan.specs.Turns.{GoesOn}
use Rattle.pc_avl.specs.declared.repair.Repair.{Repair}
use Rattle.pc_avl.specs.Repairs.{repair_moves}
use Rattle.pc_avl.proofs.RepairStrides.{walks_on, can_tell, goes_told, goes_if, ends_if}
use Rattle.pc_avl.proofs.repair.Repair.come_to.Given.{Over}
use Rattle.pc_avl.proofs.repair.Repair.come_to.Goals as goal
use Rattle.pc_avl.proofs.repair.Repair.come_to.Goals.{After-walk_on, In_ok-key, After-walk_on-in-Walking}

turn : (g : Over) (c : After-walk_on g) (p : Planned)
    → ◌≡◌ {A = Repair × Ask} (c.walk_on.new.self, asked c.walk_on.result p) (repair_moves c.args.self.now (VersionTold c.args.version))
turn g c p = c.walk_on.ensures p ∙ walks_on c.args.self.now (VersionTold c.args.version) c.requires.walks

-- where the first turn leads
first : (g : Over) (c : In_ok-key g)
    → GoesOn repair_moves (g.C.StillCells.cells c.args.cells.now) (repair_moves c.args.self.now (VersionTold c.args.version)) 1
    c.walk_on.new.self c.in_ok-key.key
first g c =
    goes_told (g.C.StillCells.cells c.args.cells.now) (repair_moves c.args.self.now (VersionTold c.args.version)) [] tt
    c.walk_on.new.self c.walk_on.result
    (λ p. c.walk_on.ensures p ∙ walks_on c.args.self.now (VersionTold c.args.version) c.requires.walks)
    c.in_ok-key.key c.in_ok-key.ensures.told

second : (g : Over) (c : After-walk_on-in-Walking g) (goes : GoesOn repair_moves
    (g.C.StillCells.cells c.args.cells.now) (repair_moves c.args.self.now (VersionTold c.args.version)) 1 c.walk_on.new.self c.in_ok-key.key) (p : Planned)
    → ◌≡◌ {A = Repair × Ask} (c.walk_on-in-Walking.new.self, asked c.walk_on-in-Walking.result p)
    (after repair_moves (repair_moves c.args.self.now (VersionTold c.args.version)) goes.trace)
second g c goes p =
    c.walk_on-in-Walking.ensures p ∙ walks_on c.walk_on.new.self c.in_ok-key.key c.in-Walking.is ∙ goes.leads

pub tell-requires : goal.tell-requires
tell-requires g c =
    can_tell (g.C.StillCells.cells c.args.cells.now) (repair_moves c.args.self.now (VersionTold c.args.version)) [] tt
    c.walk_on.new.self c.walk_on.result (turn g (goal.at.tell-requires g c).After-walk_on)
    (g.C.StillCells.slots c.args.cells.now) c.requires.can

pub tell-requires-in-Walking : goal.tell-requires-in-Walking
tell-requires-in-Walking g c =
    let at = goal.at.tell-requires-in-Walking g c in
    let goes = first g at.In_ok-key in
    can_tell (g.C.StillCells.cells c.args.cells.now) (repair_moves c.args.self.now (VersionTold c.args.version)) goes.trace
    goes.agrees c.walk_on-in-Walking.new.self c.walk_on-in-Walking.result
    (second g at.After-walk_on-in-Walking goes) (g.C.StillCells.slots c.args.cells.now) c.requires.can

pub returns-in-Walking-clause-goes_on : goal.returns-in-Walking-clause-goes_on
returns-in-Walking-clause-goes_on g c =
    let at = goal.at.returns-in-Walking-clause-goes_on g c in
    let goes = first g at.In_ok-key in
    goes_if (g.C.StillCells.cells c.args.cells.now) (repair_moves c.args.self.now (VersionTold c.args.version)) goes.trace
    goes.agrees c.walk_on-in-Walking.new.self c.walk_on-in-Walking.result
    (second g at.After-walk_on-in-Walking goes) c.tell-in-Walking.result c.tell-in-Walking.ensures.told

pub returns-in-Walking-clause-ends : goal.returns-in-Walking-clause-ends
returns-in-Walking-clause-ends g c =
    let at = goal.at.returns-in-Walking-clause-ends g c in
    let goes = first g at.In_ok-key in
    ends_if (g.C.StillCells.cells c.args.cells.now) (repair_moves c.args.self.now (VersionTold c.args.version)) goes.trace
    goes.agrees c.walk_on-in-Walking.new.self c.walk_on-in-Walking.result
    (second g at.After-walk_on-in-Walking goes) c.tell-in-Walking.result c.tell-in-Walking.ensures.ended

pub returns-in_default : goal.returns-in_default
returns-in_default g c = record {
  goes_on = first g (goal.at.returns-in_default g c).In_ok-key;
  ends = tt;
}
