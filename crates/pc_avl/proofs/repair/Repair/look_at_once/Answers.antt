use Rattle.std.proofs.Common.{◌≡◌, [], sym, ◌∙◌}
use Rattle.pc_plan.specs.declared.plan.Ask.{Ask}
use Rattle.pc_plan.specs.Asking.{asked}
use Rattle.pc_plan.specs.Traces.{after}
use Rattle.pc_plan.specs.Turns.{last_ask}
use Rattle.pc_plan.proofs.TurnSteps.{told_for, ended_for, can_be_told, goes_if_told, ends_if_ended}
use Rattle.pc_avl.specs.declared.repair.Repair.{Repair}
use Rattle.pc_avl.specs.Repairs.{repair_moves}
use Rattle.pc_avl.proofs.RepairStrides.{EndsLook, ends_look, looks_at_node}
use Rattle.pc_avl.proofs.repair.Repair.look_at_once.Given.{Over}
use Rattle.pc_avl.proofs.repair.Repair.look_at_once.Goals as goal
use Rattle.pc_avl.proofs.repair.Repair.look_at_once.Goals.{After-keep}

-- the rest of the look
ends : (g : Over) (c : After-keep g)
    → EndsLook (g.C.StillCells.cells c.args.cells.now) c.args.self.now c.args.place c.args.told c.in-Some.look
ends g c =
    ends_look (g.C.StillCells.cells c.args.cells.now) c.args.self.now c.args.place c.args.told c.in-Some.look
    c.requires.looks (sym c.at_once.ensures ∙ c.in-Some.is)

kept : (g : Over) (c : After-keep g)
    → ◌≡◌ {A = Repair × Ask} (c.keep.new.self, asked c.keep.result c.keep.new.change)
    (after repair_moves (repair_moves c.args.self.now c.args.told) (ends g c).trace)
kept g c = c.keep.ensures ∙ sym (ends g c).leads

pub at_once-requires : goal.at_once-requires
at_once-requires g c =
    looks_at_node (g.C.StillCells.slots c.args.cells.now) (g.C.StillCells.cells c.args.cells.now)
    c.args.self.now c.args.place c.args.told c.requires.looks c.requires.can

pub tell-requires : goal.tell-requires
tell-requires g c = (
  c.step.new.change,
  can_be_told repair_moves (g.C.StillCells.cells c.args.cells.now) (repair_moves c.args.self.now c.args.told) [] tt
      c.step.new.self (asked c.step.result c.step.new.change) c.step.ensures (g.C.StillCells.slots c.args.cells.now) c.requires.can,
)

pub returns-in_default-clause-goes_on : goal.returns-in_default-clause-goes_on
returns-in_default-clause-goes_on g c =
    goes_if_told repair_moves (g.C.StillCells.cells c.args.cells.now) (repair_moves c.args.self.now c.args.told) [] tt
    c.step.new.self (asked c.step.result c.step.new.change) c.step.ensures c.tell.result
    (told_for (g.C.StillCells.cells c.args.cells.now) c.step.result c.step.new.change c.tell.result c.tell.ensures.told)

pub returns-in_default-clause-ends : goal.returns-in_default-clause-ends
returns-in_default-clause-ends g c =
    ends_if_ended repair_moves (g.C.StillCells.cells c.args.cells.now) (repair_moves c.args.self.now c.args.told) [] tt
    c.step.new.self (asked c.step.result c.step.new.change) c.step.ensures
    (λ end. last_ask end c.step.new.change) c.tell.result
    (ended_for c.step.result c.step.new.change c.tell.result c.tell.ensures.ended)

pub tell-requires-2 : goal.tell-requires-2
tell-requires-2 g c =
    let b : After-keep g = (goal.at.tell-requires-2 g c).After-keep in (
      c.keep.new.change,
      can_be_told repair_moves (g.C.StillCells.cells c.args.cells.now) (repair_moves c.args.self.now c.args.told)
          (ends g b).trace (ends g b).agrees c.keep.new.self (asked c.keep.result c.keep.new.change) (kept g b)
          (g.C.StillCells.slots c.args.cells.now) c.requires.can,
    )

pub returns-clause-goes_on : goal.returns-clause-goes_on
returns-clause-goes_on g c =
    let b : After-keep g = (goal.at.returns-clause-goes_on g c).After-keep in
    goes_if_told repair_moves (g.C.StillCells.cells c.args.cells.now) (repair_moves c.args.self.now c.args.told)
    (ends g b).trace (ends g b).agrees c.keep.new.self (asked c.keep.result c.keep.new.change) (kept g b)
    c.tell-2.result
    (told_for (g.C.StillCells.cells c.args.cells.now) c.keep.result c.keep.new.change c.tell-2.result c.tell-2.ensures.told)

pub returns-clause-ends : goal.returns-clause-ends
returns-clause-ends g c =
    let b : After-keep g = (goal.at.returns-clause-ends g c).After-keep in
    ends_if_ended repair_moves (g.C.StillCells.cells c.args.cells.now) (repair_moves c.args.self.now c.args.told)
    (ends g b).trace (ends g b).agrees c.keep.new.self (asked c.keep.result c.keep.new.change) (kept g b)
    (λ end. last_ask end c.keep.new.change) c.tell-2.result
    (ended_for c.keep.result c.keep.new.change c.tell-2.result c.tell-2.ensures.ended)
