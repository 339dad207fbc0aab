use Rattle.std.proofs.Common.{[]}
use Rattle.pc_plan.specs.Asking.{asked}
use Rattle.pc_plan.specs.Turns.{last_ask}
use Rattle.pc_plan.proofs.TurnSteps.{told_for, ended_for, can_be_told, goes_if_told, ends_if_ended}
use Rattle.pc_avl.specs.Repairs.{repair_moves}
use Rattle.pc_avl.proofs.repair.Repair.stride.Goals as goal

pub tell-requires : goal.tell-requires
tell-requires g c = (
  c.step.new.change,
  can_be_told repair_moves (g.C.StillCells.cells c.args.cells.now) (repair_moves c.args.self.now c.args.told) [] tt
      c.step.new.self (asked c.step.result c.step.new.change) c.step.ensures (g.C.StillCells.slots c.args.cells.now) c.requires,
)

pub returns-in_default : goal.returns-in_default
returns-in_default g c = record {
  goes_on = goes_if_told repair_moves (g.C.StillCells.cells c.args.cells.now) (repair_moves c.args.self.now c.args.told) [] tt
      c.step.new.self (asked c.step.result c.step.new.change) c.step.ensures c.tell.result
      (told_for (g.C.StillCells.cells c.args.cells.now) c.step.result c.step.new.change c.tell.result c.tell.ensures.told);
  ends = ends_if_ended repair_moves (g.C.StillCells.cells c.args.cells.now) (repair_moves c.args.self.now c.args.told) [] tt
      c.step.new.self (asked c.step.result c.step.new.change) c.step.ensures
      (λ end. last_ask end c.step.new.change) c.tell.result
      (ended_for c.step.result c.step.new.change c.tell.result c.tell.ensures.ended);
}
