use Rattle.pc_plan.specs.Turns.{last_ask}
use Rattle.pc_plan.proofs.TurnSteps.{can_further, comes_further}
use Rattle.pc_avl.specs.Repairs.{repair_moves}
use Rattle.pc_avl.proofs.repair.Repair.go_all_the_way.Goals as goal

pub close-requires : goal.close-requires
close-requires g c =
    can_further repair_moves (g.C.StillCells.cells c.args.cells.now) (repair_moves c.args.self.now c.args.told) 1
    c.go_down.new.self c.in_ok-next.next c.in_ok-next.ensures.goes_on (g.C.StillCells.slots c.args.cells.now)
    c.requires.can

pub returns-in-Some-clause-ends : goal.returns-in-Some-clause-ends
returns-in-Some-clause-ends g c =
    comes_further repair_moves (g.C.StillCells.cells c.args.cells.now) (repair_moves c.args.self.now c.args.told) 1
    c.go_down.new.self c.in_ok-next.next c.in_ok-next.ensures.goes_on (last_ask c.in-Some.end c.close.new.change)
    c.in-Some.ensures
