-- The first two of a list that was cut behind the first.
use Rattle.std.proofs.Common.{◌≡◌, ◌≤◌, List, [], ◌∷◌, ◌++◌, length, get_or, set, refl, sym, ap, ◌∙◌, arith}
use mathlib.Core.Option.{some}
use lib.ListN.{get_elem?}

-- the first, and the list without it and the second
record FirstTwo {V : Type 0} (l front back : List V) : Type 0 where
  first : V
  second : V
  others : List V
  whole : l ≡ first ∷ second ∷ others
  is_front : front ≡ first ∷ []
  is_back : back ≡ second ∷ others

first_two : {V : Type 0} (l front back : List V) → l ≡ front ++ back → length front ≡ 1 → 2 ≤ length l → FirstTwo l front back
first_two l [] back e one two = absurd (omega arith)
first_two l (x ∷ []) [] e one two = let n : length l ≡ 1 = ap length e in absurd (omega arith)
first_two l (x ∷ []) (y ∷ ys) e one two = record { first = x; second = y; others = ys; whole = e; is_front = refl; is_back = refl }
first_two l (x ∷ y ∷ ys) back e one two = absurd (omega arith)

module _ {V : Type 0} (l front back : List V) (e : l ≡ front ++ back) (one : length front ≡ 1) (two : 2 ≤ length l) where
  pub first_at : (d : V) → get_elem? l 0 ≡ some (get_or front 0 d)
  first_at d = let t = first_two l front back e one two in ap (λ (m : List V). get_elem? m 0) t.whole ∙ sym (ap (λ (m : List V). some (get_or m 0 d)) t.is_front)

  pub second_at : (d : V) → get_elem? l 1 ≡ some (get_or back 0 d)
  second_at d = let t = first_two l front back e one two in ap (λ (m : List V). get_elem? m 1) t.whole ∙ sym (ap (λ (m : List V). some (get_or m 0 d)) t.is_back)

  pub second_after : (a d : V) → get_elem? (set l 0 a) 1 ≡ some (get_or back 0 d)
  second_after a d = let t = first_two l front back e one two in ap (λ (m : List V). get_elem? (set m 0 a) 1) t.whole ∙ sym (ap (λ (m : List V). some (get_or m 0 d)) t.is_back)

  pub both_set : (a b : V) → set (set l 0 a) 1 b ≡ set front 0 a ++ set back 0 b
  both_set a b = let t = first_two l front back e one two in ap (λ (m : List V). set (set m 0 a) 1 b) t.whole
      ∙ (ap (λ (m : List V). a ∷ set m 0 b) (sym t.is_back) ∙ ap (λ (m : List V). set m 0 a ++ set back 0 b) (sym t.is_front))
