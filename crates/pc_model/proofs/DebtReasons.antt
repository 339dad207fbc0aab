-- Nothing is owed without a reason, and what is owed first is owed.
use Rattle.std.proofs.Common.{◌≡◌, ℕ, ◌-◌, ◌≤◌, ◌==◌, ◌⊎◌, ◌↔◌, inl, inr, nat_lt, true, false, IsTrue, List, [], ◌∷◌}
use Rattle.std.proofs.Common.{length, take, slice_index, ⊎_elim, get_or, Option, Some, None, IfSome, refl, sym, ◌∙◌}
use Rattle.std.proofs.Common.{arith}
use Rattle.std.proofs.lemmas.Bool.{cond_both, cases_Bool, cases_eq, cases_lt, eq-eqb, ltb-false}
use Rattle.std.proofs.lemmas.List.Folds.{list_any_at}
use Rattle.std.specs.Option.{IsSomeAnd}
use Rattle.pc_model.specs.declared.owed.Owing.TheVariants.{Key}
use Rattle.pc_model.specs.declared.owed.Settle.{Settle}
use Rattle.pc_model.specs.declared.owed.Settle.TheVariants.{Nothing, Release, First, Raise}
use Rattle.pc_model.specs.Debts.{Debts, has, IsOwed, without_key, lowered, with_room, charged, put_in_front, released}
use Rattle.pc_model.specs.Debts.{raised, settled, first_owed}
use Rattle.pc_model.specs.DebtLaws.{IsReached, HasKeyTo, IsSettled, NoDebtIsInvented, IsOwing, FirstOwedIsOwed}
use Rattle.pc_model.proofs.DebtLists.{has-front, has-cases, has-without_key, has-without_other, has-with_room}

has-of_without : (q k : ℕ) (keys : List ℕ) → has q (without_key k keys) ≡ true → has q keys ≡ true
has-of_without q k keys there = ⊎_elim
    (λ same. let none : has k (without_key k keys) ≡ false = has-without_key k keys in absurd (cc))
    (λ differs. sym (has-without_other q k keys differs) ∙ there) (cases_eq q k)

has-of_room : (q : ℕ) (d : Debts) → has q (with_room d).keys ≡ true → has q d.keys ≡ true
has-of_room q d there =
    ⊎_elim (λ is. is) (λ absent. let none : has q (with_room d).keys ≡ false = has-with_room q d absent in
    absurd (cc)) (cases_Bool (has q d.keys))

lowered-cases : (q k : ℕ) (from : Option ℕ) → IsSomeAnd (lowered k from) (λ n. n ≤ q)
    → IsSomeAnd from (λ n. n ≤ q) ⊎ (k ≤ q)
lowered-cases q k None low = inr low
lowered-cases q k (Some n) low = ⊎_elim (λ lt. inr (omega arith)) inl (cases_lt q n)

reached_room : (q : ℕ) (d : Debts) → IsSomeAnd (with_room d).from (λ n. n ≤ q) → IsReached q d ⊎ HasKeyTo q d.keys
reached_room q d =
    let last : ℕ = length d.keys - 1 in
    cond_both (nat_lt (length d.keys) 64) d
    (record { keys = take last d.keys; from = lowered (slice_index d.keys last) d.from })
    (λ (e : Debts). IsSomeAnd e.from (λ n. n ≤ q) → IsReached q d ⊎ HasKeyTo q d.keys)
    (λ room reached. inl reached)
    (λ full reached. let many : 64 ≤ length d.keys = ltb-false (length d.keys) 64 full in
    let there : has (slice_index d.keys last) d.keys ≡ true =
    list_any_at (λ y. y == slice_index d.keys last) d.keys last 0 (omega arith)
    (eq-eqb (get_or d.keys last 0) (slice_index d.keys last) refl) in
    ⊎_elim inl (λ le. inr (slice_index d.keys last, there, le))
    (lowered-cases q (slice_index d.keys last) d.from reached))

after_charge : (q k : ℕ) (d : Debts) → IsOwed q (charged k d) → IsOwed q d ⊎ (k ≤ q)
after_charge q k d =
    cond_both (has k d.keys) d _ (λ (e : Debts). IsOwed q e → IsOwed q d ⊎ (k ≤ q)) (λ there owed. inl owed)
    (λ absent. cond_both (nat_lt (length d.keys) 64) (record { keys = k ∷ d.keys; from = d.from })
    (record { keys = d.keys; from = lowered k d.from }) (λ (e : Debts). IsOwed q e → IsOwed q d ⊎ (k ≤ q))
    (λ room owed. ⊎_elim (λ there. ⊎_elim (λ same. inr (omega (arith, same))) (λ behind. inl (inl behind))
    (has-cases q k d.keys there)) (λ reached. inl (inr reached)) owed)
    (λ full owed. ⊎_elim (λ there. inl (inl there))
    (λ low. ⊎_elim (λ reached. inl (inr reached)) inr (lowered-cases q k d.from low)) owed))

after_put_first : (q k : ℕ) (d : Debts) → IsOwed q (put_in_front k d) → (q ≡ k) ⊎ (IsReached q d ⊎ HasKeyTo q d.keys)
after_put_first q k d =
    cond_both (has k d.keys) (record { keys = k ∷ without_key k d.keys; from = d.from })
    (record { keys = k ∷ (with_room d).keys; from = (with_room d).from })
    (λ (e : Debts). IsOwed q e → (q ≡ k) ⊎ (IsReached q d ⊎ HasKeyTo q d.keys))
    (λ there owed. ⊎_elim
    (λ listed. ⊎_elim inl (λ behind. inr (inr (q, has-of_without q k d.keys behind, omega arith)))
    (has-cases q k (without_key k d.keys) listed)) (λ reached. inr (inl reached)) owed)
    (λ absent owed. ⊎_elim (λ listed. ⊎_elim inl (λ behind. inr (inr (q, has-of_room q d behind, omega arith)))
    (has-cases q k (with_room d).keys listed)) (λ reached. inr (reached_room q d reached)) owed)

after_release : (k : ℕ) (d : Debts) → (IsReached k d → ⊥) → IsOwed k (released k d) → ⊥
after_release k d unreached owed =
    ⊎_elim (λ there. let none : has k (without_key k d.keys) ≡ false = has-without_key k d.keys in
    absurd (cc)) unreached owed

put_first_is_first : (k : ℕ) (d : Debts) → first_owed (put_in_front k d).keys (put_in_front k d).from ≡ Some (Key k)
put_first_is_first k d =
    cond_both (has k d.keys) (record { keys = k ∷ without_key k d.keys; from = d.from })
    (record { keys = k ∷ (with_room d).keys; from = (with_room d).from })
    (λ (e : Debts). first_owed e.keys e.from ≡ Some (Key k)) (λ there. refl) (λ absent. refl)

settles : (s : Settle) (d : Debts) → IsSettled s d (settled s d)
settles Nothing d = refl
settles (Release k) d = has-without_key k d.keys
settles (First k) d = put_first_is_first k d
settles (Raise to) d = refl

after_raise_to_none : (q : ℕ) (d : Debts) → IsOwed q (raised None d) ↔ IsTrue (has q d.keys)
after_raise_to_none q d = (λ owed. ⊎_elim (λ there. there) (λ none. absurd none) owed, inl)

pub no_debt_is_invented : NoDebtIsInvented
no_debt_is_invented = record {
  after_charge = after_charge;
  after_put_first = after_put_first;
  after_release = after_release;
  after_raise_to_none = after_raise_to_none;
  after_raise = λ q n d. (λ owed. owed, λ owed. owed);
  settles = settles;
  put_first_is_first = put_first_is_first;
  keys_before_number = λ k keys from. refl;
}

-- What is owed first

first_owed-none : (keys : List ℕ) (from : Option ℕ)
    → (first_owed keys from ≡ None) ↔ ((q : ℕ) → IsOwed q (record { keys = keys; from = from }) → ⊥)
first_owed-none [] None = (λ _ q owed. ⊎_elim (λ there. absurd cc) (λ none. none) owed, λ _. refl)
first_owed-none [] (Some n) = (λ e. absurd cc, λ nothing. let le : n ≤ n = omega arith in absurd (nothing n (inr le)))
first_owed-none (k ∷ keys) from = (λ e. absurd cc, λ nothing. absurd (nothing k (inl (has-front k keys))))

first_owed-some : (keys : List ℕ) (from : Option ℕ)
    → IfSome (first_owed keys from) (IsOwing (record { keys = keys; from = from }))
first_owed-some [] None = tt
first_owed-some [] (Some n) = (refl, λ q. (λ owed. ⊎_elim (λ there. absurd cc) (λ le. le) owed, inr))
first_owed-some (k ∷ keys) from = inl (has-front k keys)

pub first_owed_is_owed : FirstOwedIsOwed
first_owed_is_owed = record {
  none = λ d. first_owed-none d.keys d.from;
  some = λ d. first_owed-some d.keys d.from;
}
