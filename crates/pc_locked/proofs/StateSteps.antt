-- A state that was opened just now, and a state with one entry more.
use Rattle.std.proofs.Common.{◌≡◌, ◌≢◌, ℕ, zero, suc, ◌+◌, ◌-◌, ◌%◌, ◌^◌, ◌<◌, ◌≤◌, ◌==◌, ⊎_elim, List, []}
use Rattle.std.proofs.Common.{◌∷◌, ◌++◌, length, refl}
use Rattle.std.proofs.Common.{sym, ap, ◌∙◌, subst, arith, length-append}
use Rattle.std.specs.Prelude.{slice_index, slice_set, true}
use Rattle.std.specs.List.{list_all}
use Rattle.std.proofs.lemmas.List.{get_or-set_same, get_or-set_other}
use Rattle.std.proofs.lemmas.Bool.{cases_eq, cond_both, and_parts, eqb-true}
use Rattle.std.proofs.lemmas.Bool.Decides.{nat_tests}
use Rattle.pc_model.specs.declared.call.Call.{Call}
use Rattle.pc_model.specs.declared.call.Reply.{Reply}
use Rattle.pc_model.specs.declared.call.Entry.{Entry}
use Rattle.pc_model.specs.declared.cell.Field.TheVariants.{Version}
use Rattle.pc_model.specs.Cells.{opening_fields}
use Rattle.pc_model.specs.Debts.{Debts, no_debts}
use Rattle.pc_model.specs.History.{entries_of, IsNumberedFrom}
use Rattle.pc_model.specs.Replay.{fold_of}
use Rattle.pc_model.specs.Trees.{plain, balanced}
use Rattle.pc_model.proofs.Histories.{IsNumberedFrom_push, AreOfClients_push, entries_of-push_same}
use Rattle.pc_model.proofs.Histories.{entries_of-push_other}
use Rattle.pc_model.proofs.Replaying.{fold_from-push, right_push}
use Rattle.pc_plain.specs.PlainCells.{PlainWords, cells_of, AreOpening, IsEmptyTree}
use Rattle.pc_plain.specs.OwedRuns.{AnswersForDebts}
use Rattle.pc_avl.specs.declared.tree_kind.TreeKind.{TreeKind}
use Rattle.pc_avl.specs.declared.tree_kind.TreeKind.TheVariants.{Bst, Avl}
use Rattle.pc_avl.specs.TreeKinds.{kind_of}
use Rattle.pc_locked.specs.Answers.{AnswersAs}
use Rattle.pc_locked.specs.States.{form_of, IsStampedFrom, IsRightState, AreCounts, next_entry}

-- in the opening cells no key is in debt
no_debt_at_opening : (kind : TreeKind) (w : PlainWords) (k : ℕ) → AreOpening w
    → (form_of kind).in_debt w.slots (cells_of w) k → ⊥
no_debt_at_opening Bst w k opening debt = debt
no_debt_at_opening Avl w k opening debt =
    let n : ℕ = debt.node in
    let low : 2 ≤ n = debt.slot.0 in
    let high : n ≤ w.slots + 1 = debt.slot.1 in
    let unused : opening_fields n Version ≡ 1 = grind (arith, nat_tests) in
    let version : cells_of w n Version ≡ 1 = opening n Version (omega arith, high) ∙ unused in
    absurd (let odd : 1 % 2 ≡ 0 = rw version at debt.unmarked in omega arith)

-- an empty tree of both kinds is one of either
pub empty_of : (kind : TreeKind) (w : PlainWords) → IsEmptyTree plain w → IsEmptyTree balanced w
    → IsEmptyTree (kind_of kind) w
empty_of Bst w empty empty_balanced = empty
empty_of Avl w empty empty_balanced = empty_balanced

-- with no entries and no debts an empty tree is a right state
pub opened_right : (kind : TreeKind) (w : PlainWords) (es : List Entry) (calls : ℕ) (owed : Debts) → w.slots ≤ 61000
    → calls < 2 ^ 32 → AreOpening w → IsEmptyTree (kind_of kind) w → es ≡ [] → owed ≡ no_debts
    → IsRightState (record { kind = kind; cells = w; entries = es; calls = calls; owed = owed })
opened_right kind w es calls owed few small opening empty none nothing =
    subst (λ (x : List Entry).
    IsRightState (record { kind = kind; cells = w; entries = x; calls = calls; owed = owed }))
    (sym none)
    (record {
      right = tt;
      tree = empty;
      numbered = λ pass. tt;
      stamped = tt;
      of_passes = tt;
      answered = λ k debt. absurd (no_debt_at_opening kind w k opening debt);
      plain_owes_nothing = λ _. nothing;
      few = omega arith;
      few_calls = small;
      few_slots = few;
    })

zeros : (xs : List ℕ) (i : ℕ) → list_all (λ x. x == 0) xs ≡ true → slice_index xs i ≡ 0
zeros [] i all = refl
zeros (x ∷ xs) zero all = eqb-true x 0 (and_parts (x == 0) (list_all (λ x. x == 0) xs) all).0
zeros (x ∷ xs) (suc i) all = zeros xs i (and_parts (x == 0) (list_all (λ x. x == 0) xs) all).1

-- with no entries each pass has none
pub opened_counts : (counts : List ℕ) (es : List Entry) → length counts ≡ 32 → list_all (λ x. x == 0) counts ≡ true
    → es ≡ [] → AreCounts counts es
opened_counts counts es passes all none = record {
  passes = passes;
  each = λ pass low high. zeros counts (pass - 1) all ∙ ap (λ (x : List Entry). length (entries_of pass x)) (sym none);
}

IsStampedFrom_push : (n : ℕ) (es : List Entry) (e : Entry) → IsStampedFrom n es → e.stamp ≡ n + length es
    → IsStampedFrom n (es ++ (e ∷ []))
IsStampedFrom_push n [] e stamped next = (omega arith, tt)
IsStampedFrom_push n (d ∷ es) e stamped next =
    (stamped.0, IsStampedFrom_push (n + 1) es e stamped.1 (omega arith))

-- a pass has no more entries than there are
pub few_of_pass : (pass : ℕ) (es : List Entry) → length (entries_of pass es) ≤ length es
few_of_pass pass [] = omega arith
few_of_pass pass (e ∷ es) =
    let fewer : length (entries_of pass es) ≤ length es = few_of_pass pass es in
    cond_both (e.pass == pass) (e ∷ entries_of pass es) (entries_of pass es)
    (λ (xs : List Entry). length xs ≤ suc (length es)) (λ _. omega arith) (λ _. omega arith)

module _ (kind : TreeKind) (old new : PlainWords) (es : List Entry) (calls : ℕ) (before then : Debts)
    (was : IsRightState (record { kind = kind; cells = old; entries = es; calls = calls; owed = before }))
    (pass : ℕ) (low : 1 ≤ pass) (high : pass ≤ 32) (call : Call) (r : Reply) where
  abbrev e : Entry
  e = next_entry es pass call r

  numbered_still : (p : ℕ) → IsNumberedFrom 1 (entries_of p (es ++ (e ∷ [])))
  numbered_still p = ⊎_elim
      (λ (same : pass ≡ p). rw (entries_of-push_same p es e same)
      (IsNumberedFrom_push 1 (entries_of p es) e (was.numbered p)
      (ap (λ (q : ℕ). length (entries_of q es) + 1) same ∙ omega arith)))
      (λ other. rw (entries_of-push_other p es e other) (was.numbered p))
      (cases_eq pass p)

  -- the counts with one entry more of this pass
  pub counted_more : (counts more : List ℕ) → AreCounts counts es → length more ≡ 32
      → more ≡ slice_set counts (pass - 1) (slice_index counts (pass - 1) + 1) → AreCounts more (es ++ (e ∷ []))
  counted_more counts more are long set = record {
    passes = long;
    each = λ p p_low p_high. ⊎_elim
        (λ (same : pass ≡ p).
        let place : pass - 1 < length counts = omega (arith, are.passes) in
        let entries : length (entries_of pass (es ++ (e ∷ []))) ≡ length (entries_of pass es) + 1 =
        ap length (entries_of-push_same pass es e refl) ∙ length-append (entries_of pass es) (e ∷ []) in
        let here : slice_index more (pass - 1) ≡ length (entries_of pass es) + 1 =
        ap (λ (xs : List ℕ). slice_index xs (pass - 1)) set
        ∙ get_or-set_same counts (pass - 1) (slice_index counts (pass - 1) + 1) 0 place
        ∙ ap (λ (n : ℕ). n + 1) (are.each pass low high) in
        subst (λ (q : ℕ). slice_index more (q - 1) ≡ length (entries_of q (es ++ (e ∷ [])))) same
        (here ∙ sym entries))
        (λ (other : pass ≢ p).
        let apart : p - 1 ≢ pass - 1 = omega arith in
        ap (λ (xs : List ℕ). slice_index xs (p - 1)) set
        ∙ get_or-set_other counts (pass - 1) (p - 1) (slice_index counts (pass - 1) + 1) 0 apart
        ∙ are.each p p_low p_high
        ∙ ap length (sym (entries_of-push_other p es e other)))
        (cases_eq pass p);
  }

  -- a state with the entry of a call that was answered as the map answers
  pub one_more : new.slots ≡ old.slots → AnswersAs kind call old new r → AnswersForDebts (form_of kind) new then
      → (kind ≡ Bst → then ≡ before) → length es < calls
      → IsRightState (record { kind = kind; cells = new; entries = es ++ (e ∷ []); calls = calls; owed = then })
  one_more size answers answered free room =
      let answer = answers (fold_of es) was.tree in
      let long : length (es ++ (e ∷ [])) ≡ length es + 1 = length-append es (e ∷ []) in
      record {
        right = right_push [] es e was.right answer.0;
        tree = rw (fold_from-push [] es e) answer.1;
        numbered = numbered_still;
        stamped = IsStampedFrom_push 1 es e was.stamped (omega arith);
        of_passes = AreOfClients_push 32 es e was.of_passes low high;
        answered = answered;
        plain_owes_nothing = λ is. free is ∙ was.plain_owes_nothing is;
        few = omega arith;
        few_calls = was.few_calls;
        few_slots = subst (λ (n : ℕ). n ≤ 61000) (sym size) was.few_slots;
      }
