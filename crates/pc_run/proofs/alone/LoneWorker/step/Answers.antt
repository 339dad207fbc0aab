-- The next call has a slot and room for its entry, and its entry is the next step.
use Rattle.std.proofs.Common.{◌≡◌, ℕ, ◌+◌, ◌-◌, List, length, ap, ◌∙◌, arith, length-append}
use Rattle.std.specs.Prelude.{take, slice_index_or}
use Rattle.pc_model.specs.declared.call.Call.{Call}
use Rattle.pc_model.specs.declared.call.Entry.{Entry}
use Rattle.pc_model.specs.declared.call.Call.TheVariants.{Put}
use Rattle.pc_model.specs.Calls.{puts_in}
use Rattle.pc_model.specs.History.{calls_of}
use Rattle.pc_model.proofs.Sizes.{puts_in-take}
use Rattle.pc_pool.specs.Working.{up_to}
use Rattle.pc_pool.proofs.UpTo.{length_up_to, up_to_next}
use Rattle.pc_run.proofs.Steps.{one_more}
use Rattle.pc_run.proofs.alone.LoneWorker.step.Goals as goal

-- the number is that of the next call
next : (entries entries' : List Entry) (number : ℕ) → length entries ≡ length entries'
    → number ≡ length (up_to (length entries')) + 1 → number ≡ length entries + 1
next entries entries' number same is = omega (arith, length_up_to (length entries'))

pub run_call-requires-clause-room : goal.run_call-requires-clause-room
run_call-requires-clause-room g c =
    let long : length c.self.inside.calls.now ≡ length c.args.self.now.calls = ap (λ w. length w.calls) c.self.view_is in
    omega (
      arith,
      next c.self.inside.map.entries c.args.self.now.map.entries c.args.number
          (ap (λ w. length w.map.entries) c.self.view_is) c.requires.next,
      c.requires.within,
      c.self.invariant.room,
    )

pub run_call-requires-clause-slots : goal.run_call-requires-clause-slots
run_call-requires-clause-slots g c =
    let calls : List Call = c.self.inside.calls.now in
    let n : ℕ = length c.self.inside.map.entries in
    let puts : puts_in (calls_of c.self.inside.map.entries) ≡ puts_in (take n calls) =
    ap puts_in c.self.invariant.in_order in
    omega (arith, c.self.invariant.few, puts, puts_in-take n calls, c.self.invariant.slots)

pub invariant_of-self : goal.invariant_of-self
invariant_of-self g c =
    let long : length c.self.inside.calls.now ≡ length c.args.self.now.calls = ap (λ w. length w.calls) c.self.view_is in
    let number = next c.self.inside.map.entries c.args.self.now.map.entries c.args.number
    (ap (λ w. length w.map.entries) c.self.view_is) c.requires.next in
    let place : c.args.number - 1 ≡ length c.self.inside.map.entries = omega arith in
    one_more c.self.inside.calls.now c.self.inside.map c.run_call.new.map _ (Put 0 0) c.self.invariant
    (omega (arith, c.requires.within)) (ap (λ (i : ℕ). slice_index_or c.self.inside.calls.now i (Put 0 0)) place)
    c.run_call.ensures.entries c.run_call.ensures.same c.run_call.ensures.settled

pub returns-clause-done : goal.returns-clause-done
returns-clause-done g c =
    let same : length c.self.inside.map.entries ≡ length c.args.self.now.map.entries =
    ap (λ w. length w.map.entries) c.self.view_is in
    let longer : length c.run_call.new.map.entries ≡ length c.self.inside.map.entries + 1 =
    ap length c.run_call.ensures.entries ∙ length-append c.self.inside.map.entries _ in
    let number = next c.self.inside.map.entries c.args.self.now.map.entries c.args.number
    (ap (λ w. length w.map.entries) c.self.view_is) c.requires.next in
    let is : length c.run_call.new.map.entries ≡ c.args.number = omega arith in
    ap up_to is ∙ up_to_next (length c.args.self.now.map.entries) c.args.number c.requires.next
