-- The sorted list of pairs is std's finite map, and its ceil and floor are the nearest keys.
use Rattle.std.proofs.Common.{◌≡◌, ℕ, ◌+◌, ◌<◌, ◌≤◌, ◌==◌, nat_le, cond, [], ◌∷◌, Option, Some, None, MatchOption}
use Rattle.std.proofs.Common.{refl, ap, sym, subst, inl, inr, ◌∙◌, arith}
use Rattle.std.proofs.lemmas.Bool.{leb-true, leb-false, cond_both, cases_eq}
use Rattle.std.proofs.lemmas.Bool.Decides.{nat_tests}
use Rattle.std.specs.Ordering.{nat_cmp, eq_by_cmp}
use Rattle.std.specs.FinMap.{get, insert, remove, find, get-from_entries, get-insert, get-remove, same_map}
use Rattle.std.specs.FinMap.{nat_cmp-IsAntisymmetric}
use Rattle.std.specs.Cmp.{nat_cmp_total}
use Rattle.pc_model.specs.Map.{Pairs, RisesFrom, IsRising, AreAbove, value_at, put, without, ceil_of, floor_of, later}
use Rattle.pc_model.specs.MapLaws.{map_of, IsFiniteMap, IsLeastFrom, IsGreatestTo, FindsNearest}
use Rattle.pc_model.proofs.SortedLists.{value_at-found, above_weaker, without-same, value_at-skip, value_at-above}
use Rattle.pc_model.proofs.SortedLists.{rises_above, put_rises, without_rises, value_at-HasKey, HasKey_above}

-- The finite map

same_test : (q k : ℕ) → eq_by_cmp nat_cmp q k ≡ (q == k)
same_test q k = grind (arith, nat_tests)

find_is_value_at : (q : ℕ) (ps : Pairs) → find nat_cmp q ps ≡ value_at q ps
find_is_value_at q [] = refl
find_is_value_at q (p ∷ ps) = λ i. cond (same_test q p.0 i) (Some p.1) (find_is_value_at q ps i)

-- what a put leaves at each key
pub value_at-put : (q k v : ℕ) (ps : Pairs) → value_at q (put k v ps) ≡ cond (q == k) (Some v) (value_at q ps)
value_at-put q k v [] = refl
value_at-put q k v (p ∷ ps) = grind (arith, nat_tests, value_at-put q k v ps)

without_head : (q k : ℕ) (p : ℕ × ℕ) (ps : Pairs) → k ≡ p.0 → AreAbove k ps
    → value_at q ps ≡ cond (q == k) None (value_at q (p ∷ ps))
without_head q k p ps same above = elim (cases_eq q k) [
  | inl here ↦ grind (arith, nat_tests, value_at-above q ps (subst (λ n. AreAbove n ps) (sym here) above))
  | inr elsewhere ↦ grind (arith, nat_tests)
]

-- what a remove leaves at each key
value_at-without_from : (low q k : ℕ) (ps : Pairs) → RisesFrom low ps
    → value_at q (without k ps) ≡ cond (q == k) None (value_at q ps)
value_at-without_from low q k [] rises = grind (arith, nat_tests)
value_at-without_from low q k (p ∷ ps) rises = elim (cases_eq k p.0) [
  | inl same ↦ ap (value_at q) (without-same k p ps same)
      ∙ without_head q k p ps same (rises_above k (p.0 + 1) ps (omega arith) rises.1)
  | inr differs ↦ grind (arith, nat_tests, value_at-without_from (p.0 + 1) q k ps rises.1)
]

pub value_at-without : (q k : ℕ) (ps : Pairs) → IsRising ps
    → value_at q (without k ps) ≡ cond (q == k) None (value_at q ps)
value_at-without q k ps rising = value_at-without_from 0 q k ps rising

pub lookup : (k : ℕ) (ps : Pairs) → value_at k ps ≡ get (map_of ps) k
lookup k ps = sym (get-from_entries nat_cmp_total ps k ∙ find_is_value_at k ps)

pub insertion : (k v : ℕ) (ps : Pairs) → map_of (put k v ps) ≡ insert (map_of ps) k v
insertion k v ps = same_map nat_cmp_total nat_cmp-IsAntisymmetric (map_of (put k v ps)) (insert (map_of ps) k v)
    (λ q. sym (lookup q (put k v ps)) ∙ value_at-put q k v ps
    ∙ (λ i. cond (sym (same_test q k) i) (Some v) (lookup q ps i))
    ∙ sym (get-insert nat_cmp_total (map_of ps) k v q))

pub removal : (k : ℕ) (ps : Pairs) → IsRising ps → map_of (without k ps) ≡ remove (map_of ps) k
removal k ps rising = same_map nat_cmp_total nat_cmp-IsAntisymmetric (map_of (without k ps)) (remove (map_of ps) k)
    (λ q. sym (lookup q (without k ps)) ∙ value_at-without q k ps rising
    ∙ (λ i. cond (sym (same_test q k) i) None (lookup q ps i)) ∙ sym (get-remove nat_cmp_total (map_of ps) k q))

pub is_finite_map : IsFiniteMap
is_finite_map = record {
  lookup = lookup;
  insertion = insertion;
  removal = removal;
  insertion_rises = put_rises;
  removal_rises = without_rises;
}

-- The nearest keys

match_weaker : {A : Type 0} (o : Option A) (P P' : Type 0) (Q Q' : A → Type 0) → (P → P') → ((x : A) → Q x → Q' x)
    → MatchOption o P Q → MatchOption o P' Q'
match_weaker None P P' Q Q' none some h = none h
match_weaker (Some x) P P' Q Q' none some h = some x h

value_at-head : (p : ℕ × ℕ) (ps : Pairs) → value_at p.0 (p ∷ ps) ≡ Some p.1
value_at-head p ps = value_at-found p.0 ps p.1 ps

least_head : (k : ℕ) (p : ℕ × ℕ) (ps : Pairs) → k ≤ p.0 → AreAbove p.0 ps → IsLeastFrom k (p ∷ ps) p
least_head k p ps le above = record {
  there = value_at-head p ps;
  above = le;
  least = λ q from less. value_at-skip q p ps (λ same. omega arith)
      ∙ value_at-above q ps (above_weaker q p.0 ps (omega arith) above);
}

least_tail : (k : ℕ) (p : ℕ × ℕ) (ps : Pairs) → p.0 < k → (x : ℕ × ℕ) → IsLeastFrom k ps x → IsLeastFrom k (p ∷ ps) x
least_tail k p ps less x is = record {
  there = value_at-skip x.0 p ps (λ same. omega (arith, is.above)) ∙ is.there;
  above = is.above;
  least = λ q from below. value_at-skip q p ps (λ same. omega arith) ∙ is.least q from below;
}

ceil_is_nearest : (low k : ℕ) (ps : Pairs) → RisesFrom low ps
    → MatchOption (ceil_of k ps) ((q : ℕ) → k ≤ q → value_at q ps ≡ None) (IsLeastFrom k ps)
ceil_is_nearest low k [] rises = λ q from. refl
ceil_is_nearest low k (p ∷ ps) rises =
    cond_both (nat_le k p.0) (Some p) (ceil_of k ps)
    (λ o. MatchOption o ((q : ℕ) → k ≤ q → value_at q (p ∷ ps) ≡ None) (IsLeastFrom k (p ∷ ps)))
    (λ test. least_head k p ps (leb-true k p.0 test) (rises_above p.0 (p.0 + 1) ps (omega arith) rises.1))
    (λ test. let less : p.0 < k = leb-false k p.0 test in
    match_weaker (ceil_of k ps) _ _ (IsLeastFrom k ps) (IsLeastFrom k (p ∷ ps))
    (λ none q from. value_at-skip q p ps (λ same. omega arith) ∙ none q from)
    (least_tail k p ps less)
    (ceil_is_nearest (p.0 + 1) k ps rises.1))

match_later : (p : ℕ × ℕ) (o : Option (ℕ × ℕ)) (P P' : Type 0) (Q Q' : ℕ × ℕ → Type 0) → (P → Q' p)
    → ((x : ℕ × ℕ) → Q x → Q' x) → MatchOption o P Q → MatchOption (later p o) P' Q'
match_later p None P P' Q Q' none some h = none h
match_later p (Some x) P P' Q Q' none some h = some x h

greatest_head : (k : ℕ) (p : ℕ × ℕ) (ps : Pairs) → p.0 ≤ k → ((q : ℕ) → q ≤ k → value_at q ps ≡ None)
    → IsGreatestTo k (p ∷ ps) p
greatest_head k p ps le none = record {
  there = value_at-head p ps;
  below = le;
  greatest = λ q more to. value_at-skip q p ps (λ same. omega arith) ∙ none q to;
}

greatest_tail : (k : ℕ) (p : ℕ × ℕ) (ps : Pairs) → AreAbove p.0 ps → (x : ℕ × ℕ) → IsGreatestTo k ps x
    → IsGreatestTo k (p ∷ ps) x
greatest_tail k p ps above x is =
    let more : p.0 < x.0 = HasKey_above p.0 x.0 ps above (value_at-HasKey x.0 x.1 ps is.there) in
    record {
      there = value_at-skip x.0 p ps (λ same. omega arith) ∙ is.there;
      below = is.below;
      greatest = λ q over to. value_at-skip q p ps (λ same. omega arith) ∙ is.greatest q over to;
    }

floor_is_nearest : (low k : ℕ) (ps : Pairs) → RisesFrom low ps
    → MatchOption (floor_of k ps) ((q : ℕ) → q ≤ k → value_at q ps ≡ None) (IsGreatestTo k ps)
floor_is_nearest low k [] rises = λ q to. refl
floor_is_nearest low k (p ∷ ps) rises =
    let above : AreAbove p.0 ps = rises_above p.0 (p.0 + 1) ps (omega arith) rises.1 in
    cond_both (nat_le p.0 k) (later p (floor_of k ps)) None
    (λ o. MatchOption o ((q : ℕ) → q ≤ k → value_at q (p ∷ ps) ≡ None) (IsGreatestTo k (p ∷ ps)))
    (λ test. match_later p (floor_of k ps) _ _ (IsGreatestTo k ps) (IsGreatestTo k (p ∷ ps))
    (greatest_head k p ps (leb-true p.0 k test))
    (greatest_tail k p ps above)
    (floor_is_nearest (p.0 + 1) k ps rises.1))
    (λ test. let less : k < p.0 = leb-false p.0 k test in
    λ q to. value_at-skip q p ps (λ same. omega arith)
    ∙ value_at-above q ps (above_weaker q p.0 ps (omega arith) above))

pub finds_nearest : FindsNearest
finds_nearest = record {
  ceil = λ k ps rising. ceil_is_nearest 0 k ps rising;
  floor = λ k ps rising. floor_is_nearest 0 k ps rising;
}
