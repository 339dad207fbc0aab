-- Lists of keys that are owed, and what is owed after each change.
use Rattle.std.proofs.Common.{◌≡◌, ◌≢◌, ℕ, zero, suc, ◌+◌, ◌-◌, ◌≤◌, ◌<◌, ◌==◌, ◌⊎◌, inl, inr, nat_lt, true, false}
use Rattle.std.proofs.Common.{not, ◌||◌, List, [], ◌∷◌, ◌++◌, length, take, drop, slice_index, subst, ⊎_elim, get_or}
use Rattle.std.proofs.Common.{Option, Some, None, refl, ap, sym, ◌∙◌, arith}
use Rattle.std.proofs.lemmas.Bool.{cond_both, cases_eq, cases_lt, eq-eqb, eqb-true, ltb-false}
use Rattle.std.proofs.lemmas.Bool.Decides.{nat_tests}
use Rattle.std.proofs.lemmas.List.{take-append-drop, length-take-le, length-drop, drop-set}
use borrow.Rule.Slice.PartMut.{mid_of, put_mid}
use Rattle.std.proofs.lemmas.List.Quantifiers.{position-Some}
use Rattle.std.proofs.Math.ListN.{set}
use Rattle.std.proofs.Math.Seq.{take-suc, take-length, drop-append-add, drop-append_seam}
use Rattle.std.proofs.lemmas.List.Folds.{list_any-append, list_any_at}
use Rattle.std.proofs.lemmas.Iterator.Adapters.{position_from-zero}
use Rattle.std.specs.List.{remove, position, position_from}
use Rattle.std.specs.Option.{IsSomeAnd}
use Rattle.pc_model.specs.declared.owed.Settle.{Settle}
use Rattle.pc_model.specs.declared.owed.Settle.TheVariants.{Nothing, Release, First, Raise}
use Rattle.pc_model.specs.Debts.{Debts, has, AreDifferent, IsOwed, without_key, lowered, with_room, charged}
use Rattle.pc_model.specs.Debts.{put_in_front, released, raised, settled, all_charged}
use Rattle.pc_model.specs.DebtLaws.{MayForget, NoDebtIsForgotten}

-- Keys in a list

pub has-front : (k : ℕ) (keys : List ℕ) → has k (k ∷ keys) ≡ true
has-front k keys = grind (arith, nat_tests)

pub has-behind : (q k : ℕ) (keys : List ℕ) → has q keys ≡ true → has q (k ∷ keys) ≡ true
has-behind q k keys there = grind (arith, nat_tests)

pub has-without_key : (k : ℕ) (keys : List ℕ) → has k (without_key k keys) ≡ false
has-without_key k [] = refl
has-without_key k (x ∷ keys) = grind (arith, nat_tests, has-without_key k keys)

pub has-without_other : (q k : ℕ) (keys : List ℕ) → q ≢ k → has q (without_key k keys) ≡ has q keys
has-without_other q k [] differs = refl
has-without_other q k (x ∷ keys) differs = grind (arith, nat_tests, has-without_other q k keys differs)

pub without_key-absent : (k : ℕ) (keys : List ℕ) → has k keys ≡ false → without_key k keys ≡ keys
without_key-absent k [] absent = refl
without_key-absent k (x ∷ keys) absent = let rest : has k keys ≡ false → without_key k keys ≡ keys =
    without_key-absent k keys in grind (arith, nat_tests)

take-take-le : (n m : ℕ) (keys : List ℕ) → n ≤ m → take n (take m keys) ≡ take n keys
take-take-le zero m keys le = refl
take-take-le (suc n) zero keys le = absurd (omega arith)
take-take-le (suc n) (suc m) [] le = refl
take-take-le (suc n) (suc m) (k ∷ keys) le = ap (λ (l : List ℕ). k ∷ l) (take-take-le n m keys (omega arith))

pub has-take : (k n : ℕ) (keys : List ℕ) → has k keys ≡ false → has k (take n keys) ≡ false
has-take k n keys absent = let whole : has k (take n keys ++ drop n keys) ≡ false =
    ap (has k) (take-append-drop n keys) ∙ absent in
    let parts : has k (take n keys ++ drop n keys) ≡ (has k (take n keys) || has k (drop n keys)) =
    list_any-append (λ x. x == k) (take n keys) (drop n keys) in
    grind (arith, nat_tests)

pub length-without_key-le : (k : ℕ) (keys : List ℕ) → length (without_key k keys) ≤ length keys
length-without_key-le k [] = omega arith
length-without_key-le k (x ∷ keys) = let rest : length (without_key k keys) ≤ length keys =
    length-without_key-le k keys in grind (arith, nat_tests)

-- a key that is there leaves a shorter list
pub length-without_key : (k : ℕ) (keys : List ℕ) → has k keys ≡ true → length (without_key k keys) < length keys
length-without_key k [] there = absurd cc
length-without_key k (x ∷ keys) there =
    let less : has k keys ≡ true → length (without_key k keys) < length keys = length-without_key k keys in
    let rest : length (without_key k keys) ≤ length keys = length-without_key-le k keys in
    grind (arith, nat_tests)

-- Different keys

-- some of the first keys are different too
pub different_take : (n : ℕ) (keys : List ℕ) → AreDifferent keys → AreDifferent (take n keys)
different_take zero keys different = tt
different_take (suc n) [] different = tt
different_take (suc n) (k ∷ keys) different = (has-take k n keys different.0, different_take n keys different.1)

has-without_key_absent : (q k : ℕ) (keys : List ℕ) → has q keys ≡ false → has q (without_key k keys) ≡ false
has-without_key_absent q k [] absent = refl
has-without_key_absent q k (x ∷ keys) absent = let rest : has q keys ≡ false → has q (without_key k keys) ≡ false =
    has-without_key_absent q k keys in grind (arith, nat_tests)

pub different_without_key : (k : ℕ) (keys : List ℕ) → AreDifferent keys → AreDifferent (without_key k keys)
different_without_key k [] different = tt
different_without_key k (x ∷ keys) different =
    cond_both (not (x == k)) (x ∷ without_key k keys) (without_key k keys) AreDifferent
    (λ _. (has-without_key_absent x k keys different.0, different_without_key k keys different.1))
    (λ _. different_without_key k keys different.1)

-- taking away the one place of a key takes the key away
pub remove-is_without_key : (i k : ℕ) (keys : List ℕ) → AreDifferent keys → i < length keys → get_or keys i 0 ≡ k
    → remove keys i ≡ without_key k keys
remove-is_without_key i k [] different inside here = absurd (omega arith)
remove-is_without_key zero k (x ∷ keys) different inside here =
    let absent : has k keys ≡ false = subst (λ n. has n keys ≡ false) here different.0 in
    let same : without_key k keys ≡ keys = without_key-absent k keys absent in
    grind (arith, nat_tests)
remove-is_without_key (suc i) k (x ∷ keys) different inside here =
    let rest : remove keys i ≡ without_key k keys = remove-is_without_key i k keys different.1 (omega arith) here in
    let there : has k keys ≡ true =
    list_any_at (λ y. y == k) keys i 0 (omega arith) (eq-eqb (get_or keys i 0) k here) in
    grind (arith, nat_tests)

absent_from : (k i : ℕ) (keys : List ℕ) → position_from (λ x. x == k) i keys ≡ None → has k keys ≡ false
absent_from k i [] none = refl
absent_from k i (x ∷ keys) none = let rest : position_from (λ y. y == k) (i + 1) keys ≡ None → has k keys ≡ false =
    absent_from k (i + 1) keys in elim (cases_eq x k) [
      | inl same ↦ absurd (grind (arith, nat_tests))
      | inr differs ↦ grind (arith, nat_tests)
    ]

-- a key that has no place isn't there
pub absent_from_position : (k : ℕ) (keys : List ℕ) → position (λ x. x == k) keys ≡ None → has k keys ≡ false
absent_from_position k keys none = absent_from k 0 keys (sym (position_from-zero (λ x. x == k) keys) ∙ none)

-- An array of which the last are the list

take-one : (i : ℕ) (keys : List ℕ) → i < length keys → drop i (take (suc i) keys) ≡ get_or keys i 0 ∷ []
take-one i [] inside = absurd (omega arith)
take-one zero (k ∷ keys) inside = refl
take-one (suc i) (k ∷ keys) inside = take-one i keys (omega arith)

-- where the first of a list are turned by one, the last of them stands before the others
turned_part : (i : ℕ) (keys rest : List ℕ) → i < length keys
    → drop 1 ((drop i (take (suc i) keys) ++ take i (take (suc i) keys)) ++ rest) ≡ take i keys ++ rest
turned_part i keys rest inside =
    rw (take-one i keys inside, take-take-le i (suc i) keys (omega arith)) refl

released_by : (array part : List ℕ) (front place k : ℕ) → length array ≡ 64 → front ≤ 64
    → position (λ x. x == k) (drop front array) ≡ Some place → AreDifferent (drop front array)
    → part ≡ drop place (mid_of front (suc place) array) ++ take place (mid_of front (suc place) array)
    → drop (suc front) (put_mid front (suc place) array part) ≡ without_key k (drop front array)
released_by array part front place k long few found different turned =
    let keys : List ℕ = drop front array in
    let at = position-Some (λ x. x == k) keys place 0 found in
    let length_is : length (take front array) ≡ front = length-take-le front array (omega arith) in
    let behind : drop (length (take front array) + 1) (take front array ++ (part ++ drop (suc place) keys))
    ≡ drop 1 (part ++ drop (suc place) keys) = drop-append-add (take front array) (part ++ drop (suc place) keys) 1 in
    let one : length (take front array) + 1 ≡ suc front = omega (arith, length_is) in
    subst (λ n. drop n (put_mid front (suc place) array part) ≡ drop 1 (part ++ drop (suc place) keys)) one behind
    ∙ ap (λ (p : List ℕ). drop 1 (p ++ drop (suc place) keys)) turned
    ∙ turned_part place keys (drop (suc place) keys) at.0
    ∙ remove-is_without_key place k keys different at.0 (eqb-true (get_or keys place 0) k at.1)

-- where the part from the front to the place of a key is turned by one, what stands behind its first are the keys
-- without that one
pub released_list : (array part : List ℕ) (front place size k : ℕ) → length array ≡ 64 → front ≤ 64
    → position (λ x. x == k) (drop front array) ≡ Some place → AreDifferent (drop front array) → size ≡ suc place
    → part ≡ drop (length (mid_of front size array) - 1) (mid_of front size array)
    ++ take (length (mid_of front size array) - 1) (mid_of front size array)
    → drop (front + 1) (put_mid front size array part) ≡ without_key k (drop front array)
released_list array part front place size k long few found different size_is turned =
    let at = position-Some (λ x. x == k) (drop front array) place 0 found in
    let mid : List ℕ = mid_of front (suc place) array in
    let long_mid : length mid ≡ suc place = length-take-le (suc place) (drop front array) (omega (arith, at.0)) in
    let last : length mid - 1 ≡ place = omega (arith, long_mid) in
    let sized : part ≡ drop (length mid - 1) mid ++ take (length mid - 1) mid
    = subst (λ s. part ≡ drop (length (mid_of front s array) - 1) (mid_of front s array)
    ++ take (length (mid_of front s array) - 1) (mid_of front s array)) size_is turned in
    let one : suc front ≡ front + 1 = omega arith in
    subst (λ n. drop n (put_mid front size array part) ≡ without_key k (drop front array)) one
    (subst (λ s. drop (suc front) (put_mid front s array part) ≡ without_key k (drop front array)) (sym size_is)
    (released_by array part front place k long few found different (sized ∙ ap (λ n. drop n mid ++ take n mid) last)))

-- where a key has a place there is a front
pub has_front : (array : List ℕ) (front place k : ℕ) → length array ≡ 64
    → position (λ x. x == k) (drop front array) ≡ Some place → front < 64
has_front array front place k long found =
    let at = position-Some (λ x. x == k) (drop front array) place 0 found in
    omega (arith, at.0, length-drop front array)

-- where another key comes before the front
pub pushed_list : (array : List ℕ) (front k : ℕ) → length array ≡ 64 → front ≤ 64 → 0 < front
    → drop (front - 1) (set array (front - 1) k) ≡ k ∷ drop front array
pushed_list array front k long few some =
    let one : (front - 1) + 1 ≡ front = omega arith in
    drop-set array (front - 1) k (omega arith) ∙ ap (λ n. k ∷ drop n array) one

-- where a full array is turned by one, what stands behind its first are all but the last
pub turned_list : (array turned : List ℕ) → length array ≡ 64 → turned ≡ drop 63 array ++ take 63 array
    → drop 1 turned ≡ take 63 array
turned_list array turned long is =
    let one : length (drop 63 array) ≡ 1 = length-drop 63 array ∙ ap (λ n. n - 63) long in
    ap (drop 1) is ∙ subst (λ n. drop n (drop 63 array ++ take 63 array) ≡ take 63 array) one
    (drop-append_seam (drop 63 array) (take 63 array))

-- room is made in a full array
pub room_made : (array turned : List ℕ) (front : ℕ) (from : Option ℕ) (d : Debts) → length array ≡ 64 → front ≤ 0
    → ◌≡◌ {A = Debts} (record { keys = drop front array; from = from }) d
    → turned ≡ drop (length array - 1) array ++ take (length array - 1) array
    → ◌≡◌ {A = Debts} (record { keys = drop 1 turned; from = lowered (slice_index array 63) from }) (with_room d)
room_made array turned front from d long none view is =
    let zeroth : front ≡ 0 = omega arith in
    let whole : ◌≡◌ {A = Debts} (record { keys = array; from = from }) d
    = subst (λ n. ◌≡◌ {A = Debts} (record { keys = drop n array; from = from }) d) zeroth view in
    let by_one : turned ≡ drop 63 array ++ take 63 array
    = subst (λ n. turned ≡ drop (n - 1) array ++ take (n - 1) array) long is in
    let full : with_room (record { keys = array; from = from })
    ≡ record { keys = take 63 array; from = lowered (slice_index array 63) from } = rw long refl in
    ap (λ (keys : List ℕ). record { keys = keys; from = lowered (slice_index array 63) from })
    (turned_list array turned long by_one)
    ∙ sym full ∙ ap with_room whole

-- and the keys that are left are different
pub different_made : (array turned : List ℕ) (front : ℕ) → length array ≡ 64 → front ≤ 0
    → AreDifferent (drop front array) → turned ≡ drop (length array - 1) array ++ take (length array - 1) array
    → AreDifferent (drop 1 turned)
different_made array turned front long none different is =
    let zeroth : front ≡ 0 = omega arith in
    let whole : AreDifferent array = subst (λ n. AreDifferent (drop n array)) zeroth different in
    let by_one : turned ≡ drop 63 array ++ take 63 array
    = subst (λ n. turned ≡ drop (n - 1) array ++ take (n - 1) array) long is in
    subst AreDifferent (sym (turned_list array turned long by_one)) (different_take 63 array whole)

pub few_made : (array turned : List ℕ) → length array ≡ 64
    → turned ≡ drop (length array - 1) array ++ take (length array - 1) array → length (drop 1 turned) < 64
few_made array turned long is =
    let by_one : turned ≡ drop 63 array ++ take 63 array
    = subst (λ n. turned ≡ drop (n - 1) array ++ take (n - 1) array) long is in
    let left : drop 1 turned ≡ take 63 array = turned_list array turned long by_one in
    let few : length (drop 1 turned) ≡ 63
    = ap (λ (l : List ℕ). length l) left ∙ length-take-le 63 array (omega (arith, long)) in
    omega (arith, few)

-- The number

reached : (k : ℕ) (from : Option ℕ) → IsSomeAnd (lowered k from) (λ n. n ≤ k)
reached k None = omega arith
reached k (Some n) = omega arith

still_reached : (q k : ℕ) (from : Option ℕ) → IsSomeAnd from (λ n. n ≤ q) → IsSomeAnd (lowered k from) (λ n. n ≤ q)
still_reached q k None there = absurd there
still_reached q k (Some n) there = omega arith

-- Debts

pub has-with_room : (k : ℕ) (d : Debts) → has k d.keys ≡ false → has k (with_room d).keys ≡ false
has-with_room k d absent =
    cond_both (nat_lt (length d.keys) 64) d (record {
      keys = take (length d.keys - 1) d.keys;
      from = lowered (slice_index d.keys (length d.keys - 1)) d.from;
    }) (λ (e : Debts). has k e.keys ≡ false)
    (λ _. absent) (λ _. has-take k (length d.keys - 1) d.keys absent)

pub charged_is_owed : (k : ℕ) (d : Debts) → IsOwed k (charged k d)
charged_is_owed k d =
    cond_both (has k d.keys) d _ (λ (e : Debts). IsOwed k e) (λ there. inl there)
    (λ absent. cond_both (nat_lt (length d.keys) 64) (record { keys = k ∷ d.keys; from = d.from })
    (record { keys = d.keys; from = lowered k d.from }) (λ (e : Debts). IsOwed k e)
    (λ room. inl (has-front k d.keys)) (λ full. inr (reached k d.from)))

pub owed_after_charge : (q k : ℕ) (d : Debts) → IsOwed q d → IsOwed q (charged k d)
owed_after_charge q k d owed =
    cond_both (has k d.keys) d _ (λ (e : Debts). IsOwed q e) (λ there. owed)
    (λ absent. cond_both (nat_lt (length d.keys) 64) (record { keys = k ∷ d.keys; from = d.from })
    (record { keys = d.keys; from = lowered k d.from }) (λ (e : Debts). IsOwed q e)
    (λ room. ⊎_elim (λ there. inl (has-behind q k d.keys there)) inr owed)
    (λ full. ⊎_elim inl (λ from. inr (still_reached q k d.from from)) owed))

pub first_is_owed : (k : ℕ) (d : Debts) → IsOwed k (put_in_front k d)
first_is_owed k d =
    cond_both (has k d.keys) (record { keys = k ∷ without_key k d.keys; from = d.from })
    (record { keys = k ∷ (with_room d).keys; from = (with_room d).from }) (λ (e : Debts). IsOwed k e)
    (λ there. inl (has-front k (without_key k d.keys))) (λ absent. inl (has-front k (with_room d).keys))

-- a key of a list is the last one, or stands before it
has-last : (q n : ℕ) (keys : List ℕ) → length keys ≡ suc n → has q keys ≡ true
    → (has q (take n keys) ≡ true) ⊎ (slice_index keys n ≡ q)
has-last q n keys long there =
    let last : ℕ = get_or keys n 0 in
    let whole : keys ≡ take n keys ++ (last ∷ []) = sym (take-length keys) ∙ ap (λ m. take m keys) long
    ∙ take-suc keys n 0 (omega arith) in
    let parts : has q (take n keys ++ (last ∷ [])) ≡ (has q (take n keys) || has q (last ∷ [])) =
    list_any-append (λ x. x == q) (take n keys) (last ∷ []) in
    let some : (has q (take n keys) || has q (last ∷ [])) ≡ true = sym parts ∙ sym (ap (has q) whole) ∙ there in
    elim (cases_eq last q) [
      | inl same ↦ inr same
      | inr differs ↦ inl (grind (arith, nat_tests))
    ]

owed_with_room : (q : ℕ) (d : Debts) → IsOwed q d → IsOwed q (with_room d)
owed_with_room q d owed =
    let last : ℕ = length d.keys - 1 in
    cond_both (nat_lt (length d.keys) 64) d
    (record { keys = take last d.keys; from = lowered (slice_index d.keys last) d.from })
    (λ (e : Debts). IsOwed q e) (λ room. owed)
    (λ full. let many : 64 ≤ length d.keys = ltb-false (length d.keys) 64 full in ⊎_elim
    (λ there. ⊎_elim inl
    (λ same. inr (subst (λ k. IsSomeAnd (lowered k d.from) (λ n. n ≤ q)) (sym same) (reached q d.from)))
    (has-last q last d.keys (omega arith) there))
    (λ from. inr (still_reached q (slice_index d.keys last) d.from from)) owed)

pub owed_after_put_first : (q k : ℕ) (d : Debts) → IsOwed q d → IsOwed q (put_in_front k d)
owed_after_put_first q k d owed =
    cond_both (has k d.keys) (record { keys = k ∷ without_key k d.keys; from = d.from })
    (record { keys = k ∷ (with_room d).keys; from = (with_room d).from }) (λ (e : Debts). IsOwed q e)
    (λ there. elim (cases_eq q k) [
      | inl same ↦ inl (subst (λ n. has n (k ∷ without_key k d.keys) ≡ true) (sym same)
          (has-front k (without_key k d.keys)))
      | inr differs ↦ ⊎_elim
          (λ in_list. inl (has-behind q k (without_key k d.keys) (has-without_other q k d.keys differs ∙ in_list))) inr
          owed
    ])
    (λ absent. ⊎_elim (λ in_list. inl (has-behind q k (with_room d).keys in_list)) inr (owed_with_room q d owed))

pub owed_after_release : (q k : ℕ) (d : Debts) → q ≢ k → IsOwed q d → IsOwed q (released k d)
owed_after_release q k d differs owed = ⊎_elim (λ there. inl (has-without_other q k d.keys differs ∙ there)) inr owed

-- Settlements, and the charges after them

-- a key of a longer list is the front or stands behind it
pub has-cases : (q k : ℕ) (keys : List ℕ) → has q (k ∷ keys) ≡ true → (q ≡ k) ⊎ (has q keys ≡ true)
has-cases q k keys there = ⊎_elim inl (λ differs. inr (grind (arith, nat_tests))) (cases_eq q k)

owed_after_raise : (q : ℕ) (to : Option ℕ) (d : Debts) → IsOwed q d → IsOwed q (raised to d) ⊎ MayForget (Raise to) d q
owed_after_raise q None d owed = ⊎_elim (λ there. inl (inl there)) (λ reached. inr (reached, tt)) owed
owed_after_raise q (Some n) d owed = ⊎_elim (λ there. inl (inl there))
    (λ reached. ⊎_elim (λ below. inr (reached, below)) (λ from. inl (inr from)) (cases_lt q n)) owed

settled_forgets : (q : ℕ) (s : Settle) (d : Debts) → IsOwed q d → IsOwed q (settled s d) ⊎ MayForget s d q
settled_forgets q Nothing d owed = inl owed
settled_forgets q (Release k) d owed =
    ⊎_elim inr (λ differs. inl (owed_after_release q k d differs owed)) (cases_eq q k)
settled_forgets q (First k) d owed = inl (owed_after_put_first q k d owed)
settled_forgets q (Raise to) d owed = owed_after_raise q to d owed

pub owed_after_charges : (q : ℕ) (charges : List ℕ) (d : Debts) → IsOwed q d → IsOwed q (all_charged charges d)
owed_after_charges q [] d owed = owed
owed_after_charges q (k ∷ charges) d owed = owed_after_charges q charges (charged k d) (owed_after_charge q k d owed)

pub charges_are_owed : (q : ℕ) (charges : List ℕ) (d : Debts) → has q charges ≡ true → IsOwed q (all_charged charges d)
charges_are_owed q [] d there = absurd cc
charges_are_owed q (k ∷ charges) d there = ⊎_elim
    (λ same. owed_after_charges q charges (charged k d) (rw same (charged_is_owed k d)))
    (λ behind. charges_are_owed q charges (charged k d) behind)
    (has-cases q k charges there)

pub no_debt_is_forgotten : NoDebtIsForgotten
no_debt_is_forgotten = record {
  charged_is_owed = charged_is_owed;
  owed_after_charge = owed_after_charge;
  first_is_owed = first_is_owed;
  owed_after_put_first = owed_after_put_first;
  owed_after_release = owed_after_release;
  settled_forgets = settled_forgets;
  owed_once_settled = λ q s charges d. owed_after_charges q charges (settled s d);
  charges_are_owed = λ q s charges d. charges_are_owed q charges (settled s d);
}
