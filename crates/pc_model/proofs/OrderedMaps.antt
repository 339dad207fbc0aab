-- std's ordered map from numbers to numbers, seen as its entries, is the sorted map.
use Rattle.std.proofs.Common.{◌≡◌, ℕ, ◌+◌, ◌≤◌, ◌<◌, inl, inr, List, [], ◌∷◌, refl, arith}
use Rattle.std.proofs.lemmas.Bool.{cases_lt}
use Rattle.std.proofs.lemmas.Bool.Decides.{nat_tests}
use Rattle.std.specs.Ordering.{nat_cmp}
use Rattle.std.specs.List.{AllByRecursion}
use Rattle.std.specs.List.Sorted.{IsStrictlySortedBy}
use Rattle.std.specs.Map.{keys_of, lookup, remove_entry}
use Rattle.std.specs.BTreeMap.{insert_entry, is_at}
use Rattle.std.specs.BTreeMap.Range.{entries_between}
use Rattle.std.specs.declared.ops.Bound.TheVariants.{Included, Unbounded}
use Rattle.std.specs.declared.cmp.Ordering.TheVariants.{Less}
use Rattle.pc_model.specs.Map.{Pairs, RisesFrom, AreAbove, value_at, put, without, ceil_of, floor_of, first_of}
use Rattle.pc_model.specs.Map.{last_of}
use Rattle.pc_model.proofs.SortedLists.{rises_above}

pub lookup-is_value_at : (k : ℕ) (ps : Pairs) → lookup (is_at (nat_cmp k)) ps ≡ value_at k ps
lookup-is_value_at k [] = refl
lookup-is_value_at k (p ∷ ps) = grind (arith, nat_tests, lookup-is_value_at k ps)

pub insert_entry-is_put : (k v : ℕ) (ps : Pairs) → insert_entry nat_cmp ps k v ≡ put k v ps
insert_entry-is_put k v [] = refl
insert_entry-is_put k v (p ∷ ps) = grind (arith, nat_tests, insert_entry-is_put k v ps)

pub remove_entry-is_without : (k : ℕ) (ps : Pairs) → remove_entry (is_at (nat_cmp k)) ps ≡ without k ps
remove_entry-is_without k [] = refl
remove_entry-is_without k (p ∷ ps) = grind (arith, nat_tests, remove_entry-is_without k ps)

-- the first pair from a key up
pub first_from-is_ceil_of : (k : ℕ) (ps : Pairs) → first_of (entries_between nat_cmp (Included k) Unbounded ps)
    ≡ ceil_of k ps
first_from-is_ceil_of k [] = refl
first_from-is_ceil_of k (p ∷ ps) = grind (arith, nat_tests, first_from-is_ceil_of k ps)

-- no pair is above the key and in the range up to it
none_to : (k : ℕ) (ps : Pairs) → AreAbove k ps → entries_between nat_cmp Unbounded (Included k) ps ≡ []
none_to k [] above = refl
none_to k (p ∷ ps) above = let less : k < p.0 = above.0 in let rest = none_to k ps above.1 in grind (arith, nat_tests)

last_to_from : (low k : ℕ) (ps : Pairs) → RisesFrom low ps
    → last_of (entries_between nat_cmp Unbounded (Included k) ps) ≡ floor_of k ps
last_to_from low k [] rises = refl
last_to_from low k (p ∷ ps) rises = elim (cases_lt k p.0) [
  | inl less ↦ let none = none_to k ps (rises_above k (p.0 + 1) ps (omega arith) rises.1) in grind (arith, nat_tests)
  | inr le ↦ let rest = last_to_from (p.0 + 1) k ps rises.1 in grind (arith, nat_tests)
]

next_from : (k : ℕ) (ks : List ℕ) → AllByRecursion (λ y. nat_cmp k y ≡ Less) ks → AllByRecursion (λ y. k + 1 ≤ y) ks
next_from k [] above = tt
next_from k (y ∷ ys) above = (
  let less : nat_cmp k y ≡ Less = above.0 in
      grind (arith, nat_tests),
  next_from k ys above.1,
)

rises_from_sorted : (low : ℕ) (ps : Pairs) → AllByRecursion (λ y. low ≤ y) (keys_of ps)
    → IsStrictlySortedBy nat_cmp (keys_of ps) → RisesFrom low ps
unfolding IsStrictlySortedBy
rises_from_sorted low [] from sorted = tt
rises_from_sorted low (p ∷ ps) from sorted =
    (from.0, rises_from_sorted (p.0 + 1) ps (next_from p.0 (keys_of ps) sorted.0) sorted.1)

all_from_zero : (ks : List ℕ) → AllByRecursion (λ y. 0 ≤ y) ks
all_from_zero [] = tt
all_from_zero (k ∷ ks) = (omega arith, all_from_zero ks)

-- the last pair up to a key
pub last_to-is_floor_of : (k : ℕ) (ps : Pairs) → IsStrictlySortedBy nat_cmp (keys_of ps)
    → last_of (entries_between nat_cmp Unbounded (Included k) ps) ≡ floor_of k ps
last_to-is_floor_of k ps sorted = last_to_from 0 k ps (rises_from_sorted 0 ps (all_from_zero (keys_of ps)) sorted)
