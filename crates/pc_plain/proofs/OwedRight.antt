-- What a run leaves owed: its debts are those that its call settles and its exchange charges, and each key in
-- debt is answered for.
use Rattle.std.proofs.Common.{◌≡◌, ℕ, ◌≤◌, ◌⊎◌, inl, inr, ⊎_elim, List, [], Option, Some, None, refl}
use Rattle.std.proofs.Common.{sym, ap, ◌∙◌, subst, arith}
use Rattle.std.specs.Prelude.{IsTrue, IfSome, IsSomeAnd}
use Rattle.pc_model.specs.declared.call.Reply.{Reply}
use Rattle.pc_model.specs.declared.owed.Settle.{Settle}
use Rattle.pc_model.specs.declared.owed.Settle.TheVariants.{Nothing, Release, First, Raise}
use Rattle.pc_model.specs.Cells.{Cells}
use Rattle.pc_model.specs.Debts.{Debts, has, IsOwed, settled, taken_up}
use Rattle.pc_model.specs.DebtLaws.{MayForget}
use Rattle.pc_model.specs.Exchanges.{applied}
use Rattle.pc_model.specs.Forms.{Form}
use Rattle.pc_model.proofs.DebtLists.{no_debt_is_forgotten}
use Rattle.pc_plan.specs.declared.plan.Ask.{Ask}
use Rattle.pc_plan.specs.declared.plan.Ask.TheVariants.{Change, Answer}
use Rattle.pc_plan.specs.declared.plan.Told.{Told}
use Rattle.pc_plan.specs.Planned.{Planned}
use Rattle.pc_plan.specs.Terms.{Terms}
use Rattle.pc_plan.specs.Laws.{PlanLaws}
use Rattle.pc_plan.specs.Runs.{SettlesIn, past_of}
use Rattle.pc_plain.specs.PlainCells.{PlainWords, cells_of, AreBelowLimits}
use Rattle.pc_plain.specs.PlainRuns.{exchange_in, HoldsPairs, EndsWith, ComesTo, RunsRight}
use Rattle.pc_plain.specs.PlainWriting.{IsWritten}
use Rattle.pc_plain.specs.OwedRuns.{AnswersForDebts, BeginsInReach, charged_by, IsOwedRunOf}
use Rattle.pc_plain.proofs.RunRight.{kept_but_versions, comes_right, change_run, change_right, holds_after}

within_reach : (lower k : ℕ) (from : Option ℕ) → IfSome from (λ n. lower ≤ n) → IsSomeAnd from (λ n. n ≤ k) → lower ≤ k
within_reach lower k None begins reached = absurd reached
within_reach lower k (Some n) begins reached = omega arith

module _ (form : Form) (slots : ℕ) (c : Cells) (charges : List ℕ) (terms : Terms) (d : Debts)
    (begins : BeginsInReach terms d) (k : ℕ) (debt : form.in_debt slots c k) where
  -- what a settlement forgets of a key in debt is charged with it
  forgotten_is_charged : (s : Settle) → SettlesIn form slots c charges terms.lower s → MayForget s d k
      → IsTrue (has k charges)
  forgotten_is_charged Nothing settles forgets = absurd forgets
  forgotten_is_charged (Release j) settles same = ⊎_elim
      (λ there. subst (λ (x : ℕ). IsTrue (has x charges)) (sym same) there)
      (λ right. absurd (right (subst (form.in_debt slots c) same debt))) settles
  forgotten_is_charged (First j) settles forgets = absurd forgets
  forgotten_is_charged (Raise to) settles forgets = ⊎_elim (λ there. there) (λ right. absurd (right debt))
      (settles k (within_reach terms.lower k d.from begins forgets.0) forgets.1)

  -- a key in debt that was owed, or is charged, is owed
  still_owed : (s : Settle) → SettlesIn form slots c charges terms.lower s → IsOwed k d ⊎ IsTrue (has k charges)
      → IsOwed k (taken_up s charges d)
  still_owed s settles (inl owed) = ⊎_elim (no_debt_is_forgotten.owed_once_settled k s charges d)
      (λ forgets. no_debt_is_forgotten.charges_are_owed k s charges d (forgotten_is_charged s settles forgets))
      (no_debt_is_forgotten.settled_forgets k s d owed)
  still_owed s settles (inr there) = no_debt_is_forgotten.charges_are_owed k s charges d there

module _ {P C : Type 0} (start : C → P) (moves : P → Told → P × Ask) (can_call : C → Type 0) (terms : C → Terms)
    (form : Form) (laws : PlanLaws start moves can_call terms form) (w old : PlainWords) (same : w ≡ old)
    (few : w.slots ≤ 61000) (fit : AreBelowLimits (cells_of w)) (call : C) (can : can_call call)
    (sound : HoldsPairs form old) where
  holds : HoldsPairs form w
  holds = subst (HoldsPairs form) (sym same) sound

  -- what each key in debt in the cells is answered by, before and then
  abbrev pub KeepsAnswers : PlainWords → Debts → Debts → Type 0
  KeepsAnswers new before then = BeginsInReach (terms call) before → AnswersForDebts form old before
      → AnswersForDebts form new then

  module _ (r : Reply) (come : ComesTo start moves w call (Answer r)) (before then : Debts)
      (owes : then ≡ settled ((terms call).settles r) before) where
    -- where the plan answered, its call settles and nothing is charged
    pub answer_owes : IsOwedRunOf start moves form (terms call) call old w before then r
    answer_owes = subst (λ (x : PlainWords). IsOwedRunOf start moves form (terms call) call x w before then r) same (
      (come.0, come.1, subst (EndsWith form w w (past_of start moves call come.0) r) (sym come.2) (refl, refl)),
      owes ∙ ap (λ (a : Ask). taken_up ((terms call).settles r) (charged_by a) before) (sym come.2),
    )

    pub answer_answers : KeepsAnswers w before then
    answer_answers begins answers k debt =
        let right = comes_right start moves can_call terms form laws w few fit call can (Answer r) come holds.0
        holds.1 in
        let known : IsOwed k before = answers k
        (subst (λ (x : PlainWords). form.in_debt x.slots (cells_of x) k) same debt)
        in
        subst (IsOwed k) (sym owes)
        (still_owed form w.slots (cells_of w) [] (terms call) before begins k debt ((terms call).settles r) right.2
        (inl known))

  module _ (p : Planned) (come : ComesTo start moves w call (Change p)) (new : PlainWords)
      (size : new.slots ≡ w.slots) (written : IsWritten w new p) (r : Reply) (is : r ≡ p.reply) where
    pub made_right : RunsRight form (terms call) old new r
    made_right = subst (λ (x : PlainWords × Reply). RunsRight form (terms call) x.0 new x.1) (λ i. (same i, sym is i))
        (change_right start moves can_call terms form laws w few fit call can p come new size written)

    pub made_sound : HoldsPairs form new
    made_sound = holds_after form (terms call) old new r made_right sound

    module _ (before then : Debts) (owes : then ≡ taken_up ((terms call).settles r) p.charged before) where
      -- where an exchange was made, its charges are entered after what the call settles
      pub change_owes : IsOwedRunOf start moves form (terms call) call old new before then r
      unfolding change_run
      change_owes = subst (λ (x : PlainWords × Reply).
          IsOwedRunOf start moves form (terms call) call x.0 new before then
          x.1) (λ i. (same i, sym is i)) (
            change_run start moves can_call terms form laws w few fit call can p come new size written holds,
            owes ∙ (λ i. taken_up ((terms call).settles (is i)) (charged_by (sym come.2 i)) before),
          )

      pub change_answers : KeepsAnswers new before then
      change_answers begins answers k debt =
          let past = past_of start moves call come.0 in
          let after : Cells = applied (exchange_in w past p written.slot) (cells_of w) in
          let right = (comes_right start moves can_call terms form laws w few fit call can (Change p) come holds.0
          holds.1).1 written.slot written.takes in
          let new_debt : form.in_debt w.slots (cells_of new) k
          = subst (λ (slots : ℕ). form.in_debt slots (cells_of new) k) size debt in
          let left_debt : form.in_debt w.slots after k = laws.form_laws.debt_parity w.slots after (cells_of new) k
          (kept_but_versions w.slots after (cells_of new) written.cells)
          (((terms call).step holds.0).pairs, right.0.leaves) new_debt in
          let known : IsOwed k before ⊎ IsTrue (has k p.charged) = ⊎_elim
          (λ debt_before. inl (answers k
          (subst (λ (x : PlainWords). form.in_debt x.slots (cells_of x) k) same debt_before)))
          inr (right.0.charges k left_debt) in
          let settles : SettlesIn form w.slots after p.charged (terms call).lower ((terms call).settles r)
          = subst (λ (x : Reply). SettlesIn form w.slots after p.charged (terms call).lower ((terms call).settles x))
          (sym is) right.1 in
          subst (IsOwed k) (sym owes)
          (still_owed form w.slots after p.charged (terms call) before begins k left_debt
          ((terms call).settles r) settles known)
