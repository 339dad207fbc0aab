-- The words that a pass lists: one more, the same in another order, and after a step.
use Rattle.std.proofs.Common.{◌≡◌, ◌≢◌, ℕ, zero, suc, ◌+◌, ◌<◌, ◌≤◌, ◌==◌, Bool, false, List, [], ◌∷◌, ◌++◌, length, get_or, sym, subst, arith}
use Rattle.std.proofs.Math.ListN.{length-append}
use Rattle.std.proofs.lemmas.Bool.Decides.{nat_tests}
use Rattle.std.proofs.lemmas.List.Elements.{All-nil, All-push}
use Rattle.std.proofs.lemmas.List.Quantifiers.{all_pairs_push}
use Rattle.std.proofs.lemmas.List.Sorted.{length_permutation, All-permutation}
use Rattle.std.proofs.lemmas.Map.Keys.{IsDistinct-IsPermutation}
use Rattle.std.specs.List.{AllPairs, AllByRecursion, IsDistinct}
use Rattle.std.specs.List.Sorted.{IsPermutation}
use Rattle.pc_rule_law.specs.Plays.{SameSeat}
use Rattle.pc_rule_law.specs.Views.{View}
use Rattle.pc_rule.specs.declared.opening.Place.{Place}
use Rattle.pc_rule.specs.Listed.{word_number, FitsWord, IsUnlisted, AreListed}

abbrev Apart : List Place → Type 0
Apart places = AllPairs (λ p q. word_number p ≢ word_number q) places

-- whether two are of the same word
abbrev is_same : Place → Place → Bool
is_same p q = word_number p == word_number q

is_other : (p q : Place) → word_number p ≢ word_number q → is_same p q ≡ false
is_other p q ne = grind (arith, nat_tests)

is_apart : (p q : Place) → is_same p q ≡ false → word_number p ≢ word_number q
is_apart p q differ = grind (arith, nat_tests)

flips : (p q : Place) → is_same p q ≡ is_same q p
flips p q = grind (arith, nat_tests)

-- what holds of each element, by recursion and by index
by_recursion : {X : Type 0} (P : X → Type 0) (xs : List X) → ((k : ℕ) (d : X) → k < length xs → P (get_or xs k d)) → AllByRecursion P xs
by_recursion P [] all = tt
by_recursion P (x ∷ xs) all = (all 0 x (omega arith), by_recursion P xs (λ k d lt. all (suc k) d (omega arith)))

by_index : {X : Type 0} (P : X → Type 0) (xs : List X) → AllByRecursion P xs → (k : ℕ) (d : X) → k < length xs → P (get_or xs k d)
by_index P [] all k d lt = absurd (omega arith)
by_index P (x ∷ xs) all zero d lt = all.0
by_index P (x ∷ xs) all (suc k) d lt = by_index P xs all.1 k d (omega arith)

distinct : (places : List Place) → Apart places → IsDistinct is_same places
unfolding IsDistinct
distinct [] apart = tt
distinct (p ∷ places) apart = (
  by_recursion (λ q. is_same p q ≡ false) places (λ k d lt. is_other p (get_or places k d) (apart 0 (suc k) d (omega arith) (omega arith))),
  distinct places (λ i j d lt below. apart (suc i) (suc j) d (omega arith) (omega arith)),
)

apart_again : (places : List Place) → IsDistinct is_same places → Apart places
unfolding IsDistinct
apart_again [] is i j d lt below = absurd (omega arith)
apart_again (p ∷ places) is zero zero d lt below = absurd (omega arith)
apart_again (p ∷ places) is zero (suc j) d lt below = is_apart p (get_or places j d) (by_index (λ q. is_same p q ≡ false) places is.0 j d (omega arith))
apart_again (p ∷ places) is (suc i) zero d lt below = absurd (omega arith)
apart_again (p ∷ places) is (suc i) (suc j) d lt below = apart_again places is.1 i j d (omega arith) (omega arith)

pub none_listed : (slots : ℕ) (places : List Place) → places ≡ [] → AreListed slots places
none_listed slots places e = subst (AreListed slots) (sym e) record {
  few = omega arith;
  fit = All-nil (FitsWord slots);
  apart = λ i j d lt below. absurd (omega arith);
}

pub one_listed : (slots : ℕ) (old new : List Place) (p : Place) → new ≡ old ++ p ∷ [] → AreListed slots old → length old < 25 + slots → FitsWord slots p → IsUnlisted old p → AreListed slots new
one_listed slots old new p e all lt fits apart = subst (AreListed slots) (sym e) record {
  few = (let n = length-append old (p ∷ []) in omega arith);
  fit = All-push (FitsWord slots) old p all.fit fits;
  apart = all_pairs_push (λ q r. word_number q ≢ word_number r) old p all.apart apart;
}

pub listed_again : (slots : ℕ) (old new : List Place) → IsPermutation old new → AreListed slots old → AreListed slots new
listed_again slots old new same all = record {
  few = (let n = length_permutation old new same in let few = all.few in omega arith);
  fit = All-permutation (FitsWord slots) old new same all.fit;
  apart = apart_again new (IsDistinct-IsPermutation is_same flips old new same (distinct old all.apart));
}

-- they are listed still after a step, which keeps the size that the pass knows
pub still_listed : (v w : View) (places : List Place) → SameSeat v w → AreListed v.size.slots places → AreListed w.size.slots places
still_listed v w places same all = subst (λ z. AreListed z.slots places) (sym same.4) all

-- there is room for them still
pub still_ample : (v w : View) (room : ℕ) → SameSeat v w → 25 + v.size.slots ≤ room → 25 + w.size.slots ≤ room
still_ample v w room same ample = subst (λ z. 25 + z.slots ≤ room) (sym same.4) ample
