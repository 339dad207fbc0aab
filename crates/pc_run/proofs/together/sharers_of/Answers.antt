-- Each client is one of 32, and its calls are few and in range.
use Rattle.std.proofs.Common.{ℕ, List, ◌∙◌, arith}
use Rattle.pc_model.specs.declared.call.Call.{Call}
use Rattle.pc_run.specs.Shares.{lists_of}
use Rattle.pc_run.proofs.Sharing.{doable_at, list_at, as_many_lists}
use Rattle.pc_run.proofs.together.sharers_of.Goals as goal

pub invariant_of-push_reserved : goal.invariant_of-push_reserved
invariant_of-push_reserved c =
    let i : ℕ = c.loop-place.place in
    let lists = c.args.lists.now in
    let calls : List Call = c.deref.result.now in
    let long = as_many_lists lists in
    doable_at (lists_of lists) i calls
    (c.deref.ensures.value ∙ list_at lists i c.index-lists-place.result c.loop-place-test.true c.index-lists-place.is)
    (omega arith) (omega arith) c.requires.few c.requires.in_range
