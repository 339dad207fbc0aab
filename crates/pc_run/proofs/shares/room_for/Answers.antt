-- One list more, and what all of them want is within the limits.
use Rattle.std.proofs.Common.{ℕ, ◌≡◌, ◌≤◌, ◌<◌, List, length, ◌∙◌, ap, arith, Vec, Global}
use Rattle.std.specs.Prelude.{slice_index_or}
use Rattle.pc_model.specs.declared.call.Call.{Call}
use Rattle.pc_text.specs.declared.limits.TheConstants.{MOST_CLIENTS}
use Rattle.pc_text.specs.ScriptFacts.{AreFew}
use Rattle.pc_run.specs.Shares.{lists_of}
use Rattle.pc_run.proofs.Sharing.{IsOneMore, one_list_more, shares_within, list_at, as_many_lists}
use Rattle.pc_run.proofs.shares.room_for.Goals as goal

next : (vectors : List (Vec Call Global)) (i : ℕ) (v : Vec Call Global) (calls : List Call) → i < length vectors
    → length vectors ≤ MOST_CLIENTS → AreFew (lists_of vectors) → v ≡ slice_index_or vectors i v → calls ≡ v.items
    → IsOneMore (lists_of vectors) i calls
next vectors i v calls inside clients few is value = let long = as_many_lists vectors in
    one_list_more (lists_of vectors) i calls (omega arith) (omega arith) few (value ∙ list_at vectors i v inside is)

pub share_of-requires : goal.share_of-requires
share_of-requires c = (next c.args.lists.now c.loop-calls.calls-index c.calls-item.result c.deref.result.now
    c.loop-calls-test.true c.requires.clients c.requires.few c.calls-item.is c.deref.ensures.value).few

pub overflow_add-room : goal.overflow_add-room
overflow_add-room c = let more = next c.args.lists.now c.loop-calls.calls-index c.calls-item.result
    c.deref.result.now c.loop-calls-test.true c.requires.clients c.requires.few c.calls-item.is
    c.deref.ensures.value in
    omega (arith, more.shares, more.few_shares, c.loop-calls.invariant.0, c.share_of.ensures.share)

pub overflow_cast-room : goal.overflow_cast-room
overflow_cast-room c = let more = next c.args.lists.now c.loop-calls.calls-index c.calls-item.result
    c.deref.result.now c.loop-calls-test.true c.requires.clients c.requires.few c.calls-item.is
    c.deref.ensures.value in
    omega (arith, more.few, c.len.ensures, c.deref.ensures.len, ap length c.deref.ensures.value)

pub overflow_add-room-in-loop-calls : goal.overflow_add-room-in-loop-calls
overflow_add-room-in-loop-calls c = let more = next c.args.lists.now c.loop-calls.calls-index c.calls-item.result
    c.deref.result.now c.loop-calls-test.true c.requires.clients c.requires.few c.calls-item.is
    c.deref.ensures.value in
    omega (
      arith,
      more.calls_more,
      more.few_calls,
      c.loop-calls.invariant.1,
      c.len.ensures,
      c.deref.ensures.len,
      ap length c.deref.ensures.value,
    )

pub loop-calls-preserved : goal.loop-calls-preserved
loop-calls-preserved c = let more = next c.args.lists.now c.loop-calls.calls-index c.calls-item.result
    c.deref.result.now c.loop-calls-test.true c.requires.clients c.requires.few c.calls-item.is
    c.deref.ensures.value in (
      omega (arith, more.shares, c.loop-calls.invariant.0, c.share_of.ensures.share),
      omega (
        arith,
        more.calls_more,
        c.loop-calls.invariant.1,
        c.len.ensures,
        c.deref.ensures.len,
        ap length c.deref.ensures.value,
      ),
    )

pub returns-clause-within : goal.returns-clause-within
returns-clause-within c = let long = as_many_lists c.args.lists.now in
    let within = shares_within (lists_of c.args.lists.now) c.loop-calls.calls-index (omega arith) (omega arith)
    c.requires.few in
    omega (arith, within, c.loop-calls.invariant.0)
