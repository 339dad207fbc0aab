-- Proved with the laws of a repair, for either aim.
use Rattle.pc_avl.specs.declared.repair.Aim.TheVariants.{Exact, Nearest}
use Rattle.pc_avl.specs.RepairLaws.{repair_ends, stands_for_repair}
use Rattle.pc_avl.proofs.laws.repairs_end_by_cases.Goals as goal

pub returns : goal.returns
returns c = record {
  key = stands_for_repair Exact;
  key_ends = repair_ends Exact;
  nearest = stands_for_repair Nearest;
  nearest_ends = repair_ends Nearest;
}
