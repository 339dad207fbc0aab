-- Proved in NoSlots and RepairSlots.
use Rattle.pc_bst.specs.declared.kind.NodeKind.TheVariants.{Balanced}
use Rattle.pc_bst.proofs.NoSlots.{put_wants_slot_for_new}
use Rattle.pc_avl.specs.declared.repair.Aim.TheVariants.{Exact, Nearest}
use Rattle.pc_avl.proofs.NoSlots.{remove_wants_no_slot}
use Rattle.pc_avl.proofs.RepairSlots.{repair_wants_no_slot}
use Rattle.pc_avl.proofs.laws.slots_are_for_new_keys.Goals as goal

pub returns : goal.returns
returns c = record {
  put = put_wants_slot_for_new Balanced;
  remove = remove_wants_no_slot;
  repair = repair_wants_no_slot Exact;
  repair_from = repair_wants_no_slot Nearest;
}
