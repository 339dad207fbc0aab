-- Proved in the crate of the plain tree, for either kind, and with the laws of a remove.
use Rattle.pc_bst.specs.declared.kind.NodeKind.TheVariants.{Balanced}
use Rattle.pc_bst.specs.GetLaws.{get_is_quiet}
use Rattle.pc_bst.specs.PutLaws.{put_ends}
use Rattle.pc_avl.specs.RemoveLaws.{remove_ends_in_change, remove_ends_in_answer}
use Rattle.pc_avl.proofs.laws.plans_end_as_their_calls_do.Goals as goal

pub returns : goal.returns
returns c = record {
  get = get_is_quiet;
  put = put_ends Balanced;
  remove = remove_ends_in_change;
  missing = remove_ends_in_answer;
}
