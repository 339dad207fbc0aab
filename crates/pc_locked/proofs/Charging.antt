-- What a run of a recorded call leaves owed: such a call settles nothing.
use Rattle.std.proofs.Common.{◌≡◌, [], Result, Ok, Err, refl, ap, ◌∙◌}
use Rattle.std.specs.Prelude.{IfOk, OnOk, OnErr, IsSome}
use Rattle.pc_model.specs.declared.call.Reply.{Reply}
use Rattle.pc_model.specs.declared.owed.Settle.{Settle}
use Rattle.pc_model.specs.Debts.{Debts, taken_up}
use Rattle.pc_model.specs.Forms.{Form}
use Rattle.pc_plan.specs.declared.plan.Ask.{Ask}
use Rattle.pc_plan.specs.declared.plan.Ask.TheVariants.{Visit, Read, Change, Answer}
use Rattle.pc_plan.specs.declared.plan.Told.{Told}
use Rattle.pc_plan.specs.EndLaws.{IsFree, ChargesNothing}
use Rattle.pc_plan.specs.Laws.{PlanLaws}
use Rattle.pc_plan.specs.Runs.{reached}
use Rattle.pc_plan.specs.Terms.{Terms}
use Rattle.pc_plain.specs.PlainCells.{PlainWords}
use Rattle.pc_plain.specs.OwedRuns.{charged_by, charges_of, IsOwedRunOf}
use Rattle.pc_plain.specs.declared.node_store.NoPlainSlot.{NoPlainSlot}
use Rattle.pc_locked.specs.Answers.{AreCharged}

no_charges : (a : Ask) → IsFree a → charged_by a ≡ []
no_charges (Visit n) free = refl
no_charges (Read n f) free = refl
no_charges (Change p) free = free
no_charges (Answer r) free = refl

module _ {P C : Type 0} (start : C → P) (moves : P → Told → P × Ask) (can_call : C → Type 0) (terms : C → Terms)
    (form : Form) (laws : PlanLaws start moves can_call terms form) (call : C) (recorded : IsSome (terms call).entry)
    (old new : PlainWords) (before then : Debts) where
  module _ (r : Reply) (run : IsOwedRunOf start moves form (terms call) call old new before then r) where
    -- what a recorded call charges is entered, and nothing else becomes of the debts
    pub run_charges : AreCharged before then
    run_charges = (
      charges_of start moves form call old new r run.0,
      run.1 ∙ ap (λ (s : Settle). taken_up s (charges_of start moves form call old new r run.0) before)
          (laws.settles_nothing call r recorded),
    )

    -- where its plan charges no key, what is owed stays
    pub free_run : can_call call → ChargesNothing start moves can_call → then ≡ before
    free_run can free = run.1 ∙ (λ i. taken_up (laws.settles_nothing call r recorded i)
        (no_charges (reached start moves call run.0.0).1 (free call run.0.0 can) i) before)

  pub ok_charges : (result : Result Reply NoPlainSlot)
      → IfOk result (IsOwedRunOf start moves form (terms call) call old new before then)
      → OnOk result (AreCharged before then)
  ok_charges (Ok r) run = run_charges r run
  ok_charges (Err e) run = tt

  pub free_either : (result : Result Reply NoPlainSlot)
      → IfOk result (IsOwedRunOf start moves form (terms call) call old new before then)
      → OnErr result (then ≡ before) → can_call call → ChargesNothing start moves can_call → then ≡ before
  free_either (Ok r) run stays can free = free_run r run can free
  free_either (Err e) run stays can free = stays
