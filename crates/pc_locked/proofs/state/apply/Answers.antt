-- One entry more: its number counts the pass's own entries, and the tree has the map's next pairs.
use Rattle.std.proofs.Common.{◌≡◌, ℕ, ◌+◌, ◌-◌, ◌^◌, ◌<◌, ◌≤◌, List, ◌∷◌, [], ◌++◌, length, sym, ap, ◌∙◌, subst, arith}
use Rattle.std.specs.Prelude.{slice_index, slice_set}
use Rattle.pc_model.specs.declared.call.Entry.{Entry}
use Rattle.pc_model.specs.History.{entries_of}
use Rattle.pc_model.specs.Replay.{fold_of}
use Rattle.pc_avl.specs.TreeKinds.{kind_of}
use Rattle.pc_locked.specs.Answers.{WantsSlotInVain}
use Rattle.pc_locked.specs.States.{IsRightState, AreCounts, HasRoom, MapState, next_entry}
use Rattle.pc_locked.proofs.Refusals.{granted}
use Rattle.pc_locked.proofs.StateSteps.{few_of_pass, counted_more, one_more}
use Rattle.pc_locked.proofs.state.apply.Goals as goal
use Rattle.pc_locked.proofs.state.apply.Goals.{After-push_reserved}

pub count_one-number-requires-clause-room : goal.count_one-number-requires-clause-room
count_one-number-requires-clause-room c =
    let es = c.state.inside.entries.items in
    let count : slice_index c.state.inside.counts (c.args.pass - 1) ≡ length (entries_of c.args.pass es) =
    c.state.invariant.1.each c.args.pass c.requires.pass.0 c.requires.pass.1 in
    let few : length (entries_of c.args.pass es) ≤ length es = few_of_pass c.args.pass es in
    let room : length es < c.state.inside.calls = subst HasRoom (sym c.state.view_is) c.requires.room in
    let small : c.state.inside.calls < 2 ^ 32 = c.state.invariant.0.few_calls in
    omega arith

-- the entry that was put behind the others
entered : (c : After-push_reserved) → c.push_reserved.new.self.items
    ≡ c.state.inside.entries.items
    ++ (next_entry c.state.inside.entries.items c.args.pass c.args.call c.in_ok-reply.reply ∷ [])
entered c =
    let es = c.state.inside.entries.items in
    let count : slice_index c.state.inside.counts (c.args.pass - 1) ≡ length (entries_of c.args.pass es) =
    c.state.invariant.1.each c.args.pass c.requires.pass.0 c.requires.pass.1 in
    let number : c.count_one-number.result ≡ length (entries_of c.args.pass es) + 1 =
    c.count_one-number.ensures.number ∙ ap (λ (n : ℕ). n + 1) count in
    let place : c.len.result ≡ length es = c.len.ensures ∙ c.state.inside.entries.ok.0 in
    c.push_reserved.ensures.items ∙ (λ i. es ++ (record {
      pass = c.args.pass;
      number = number i;
      call = c.args.call;
      reply = c.in_ok-reply.reply;
      stamp = place i + 1;
    } ∷ []))

pub invariant_of-state-2 : goal.invariant_of-state-2
invariant_of-state-2 c =
    let es = c.state.inside.entries.items in
    let right = one_more c.state.inside.kind c.state.inside.cells c.answer.new.cells es c.state.inside.calls
    c.state.inside.owed c.answer.new.owed c.state.invariant.0 c.args.pass c.requires.pass.0 c.requires.pass.1
    c.args.call c.in_ok-reply.reply c.answer.ensures.size c.in_ok-reply.ensures.right c.in_ok-reply.ensures.answered
    c.answer.ensures.free (subst HasRoom (sym c.state.view_is) c.requires.room) in
    let counts = counted_more c.state.inside.kind c.state.inside.cells c.answer.new.cells es c.state.inside.calls
    c.state.inside.owed c.answer.new.owed c.state.invariant.0 c.args.pass c.requires.pass.0 c.requires.pass.1
    c.args.call c.in_ok-reply.reply c.state.inside.counts c.count_one-number.new.counts c.state.invariant.1
    c.count_one-number.array_long
    (c.count_one-number.ensures.counts ∙ ap (slice_set c.state.inside.counts (c.args.pass - 1))
    c.count_one-number.ensures.number) in (
      subst (λ (xs : List Entry). IsRightState (record {
        kind = c.state.inside.kind;
        cells = c.answer.new.cells;
        entries = xs;
        calls = c.state.inside.calls;
        owed = c.answer.new.owed;
      })) (sym (entered c)) right,
      subst (AreCounts c.count_one-number.new.counts) (sym (entered c)) counts,
      subst (λ (n : ℕ). c.state.inside.calls ≤ n) (sym c.push_reserved.ensures.capacity) c.state.invariant.2,
    )

pub returns-clause-granted : goal.returns-clause-granted
returns-clause-granted c vain =
    let es = c.state.inside.entries.items in
    granted (kind_of c.state.inside.kind) c.args.call c.state.inside.cells c.answer.new.cells (fold_of es)
    c.answer.ensures.size (c.in_ok-reply.ensures.right (fold_of es) c.state.invariant.0.tree).1
    (subst (λ (s : MapState). WantsSlotInVain c.args.call (fold_of s.entries) s.cells.slots) (sym c.state.view_is) vain)
