-- The nearest pair on one side of a key, where a walk meets a node: the pairs are those of a fork.
use Rattle.std.proofs.Common.{◌≡◌, ◌≢◌, ℕ, ◌<◌, ◌++◌, ◌∷◌, [], if◌then◌else◌, true, false, Option, Some, None}
use Rattle.std.proofs.Common.{refl, sym, ap, ◌∙◌, arith}
use Rattle.std.specs.Prelude.{nat_le}
use Rattle.std.proofs.lemmas.Bool.{le-leb, lt-leb, cond-true, cond-false}
use Rattle.pc_model.specs.declared.cell.Side.{Side}
use Rattle.pc_model.specs.declared.cell.Side.TheVariants.{Left, Right}
use Rattle.pc_model.specs.declared.cell.Field.{Field}
use Rattle.pc_model.specs.declared.cell.Field.TheVariants.{Key}
use Rattle.pc_model.specs.Map.{Pairs, IsRising, AreBelow, AreAbove, ceil_of, floor_of, found_or, pair_or_nothing}
use Rattle.pc_model.specs.Map.{reply_of, pairs_after}
use Rattle.pc_model.specs.Cells.{Cells}
use Rattle.pc_model.specs.Trees.{Tree, Fork, Kind, pair_of}
use Rattle.pc_model.proofs.SortedLists.{ceil_of-front, ceil_of-back, floor_of-front, floor_of-back}
use Rattle.pc_model.proofs.Holes.{Hole}
use Rattle.pc_model.proofs.HolePairs.{ceil_of-hole, floor_of-hole}
use Rattle.pc_order.specs.Searches.{call_on, is_on}

abbrev pub nearest_on : Side → ℕ → Pairs → Option (ℕ × ℕ)
nearest_on Left k ps = floor_of k ps
nearest_on Right k ps = ceil_of k ps

-- what a search remembers once it has met a pair
abbrev pub kept_on : Side → ℕ → ℕ × ℕ → Option (ℕ × ℕ) → Option (ℕ × ℕ)
kept_on side k p o = if is_on side k p.0 then Some p else o

pub nearest-reply : (side : Side) (k : ℕ) (ps : Pairs)
    → pair_or_nothing (nearest_on side k ps) ≡ reply_of (call_on side k) ps
nearest-reply Left k ps = refl
nearest-reply Right k ps = refl

pub nearest-stays : (side : Side) (k : ℕ) (ps : Pairs) → pairs_after (call_on side k) ps ≡ ps
nearest-stays Left k ps = refl
nearest-stays Right k ps = refl

pub nearest-none : (side : Side) (k : ℕ) → nearest_on side k [] ≡ None
nearest-none Left k = refl
nearest-none Right k = refl

-- the key itself lies on both sides
pub off_differs : (side : Side) (k x : ℕ) → is_on side k x ≡ false → x ≢ k
off_differs Left k x off = λ e. let on : is_on Left k x ≡ true = le-leb x k (omega arith) in cc
off_differs Right k x off = λ e. let on : is_on Right k x ≡ true = le-leb k x (omega arith) in cc

-- where a node has the key, the nearest pair is its own
pub nearest-hole : (side : Side) (kind : Kind) (slots : ℕ) (c : Cells) (ps : Pairs) (whole : Tree) (k above : ℕ)
    (link : Field) (n : ℕ) (l r : Tree) → IsRising ps → Hole kind slots c ps whole k above link (Fork n l r)
    → c n Key ≡ k → nearest_on side k ps ≡ Some (pair_of c n)
nearest-hole Left = floor_of-hole
nearest-hole Right = ceil_of-hole

found_twice : (o : Option (ℕ × ℕ)) (p : ℕ × ℕ) (other : Option (ℕ × ℕ))
    → found_or (found_or o (Some p)) other ≡ found_or o (Some p)
found_twice None p other = refl
found_twice (Some q) p other = refl

module _ (k : ℕ) (a : Pairs) (p : ℕ × ℕ) (b : Pairs) (o : Option (ℕ × ℕ)) where
  -- the pair has a greater key: the nearest one lies before it, or else it is what is remembered now
  pub nearest-before : (side : Side) → AreAbove p.0 b → k < p.0
      → found_or (nearest_on side k (a ++ (p ∷ b))) o ≡ found_or (nearest_on side k a) (kept_on side k p o)
  nearest-before Left above less =
      ap (λ (x : Option (ℕ × ℕ)). found_or x o) (floor_of-front k a p b above less)
      ∙ ap (found_or (floor_of k a)) (sym (cond-false (nat_le p.0 k) (Some p) o (lt-leb p.0 k less)))
  nearest-before Right above less =
      ap (λ (x : Option (ℕ × ℕ)). found_or x o) (ceil_of-front k a p b (omega arith)) ∙ found_twice (ceil_of k a) p o
      ∙ ap (found_or (ceil_of k a)) (sym (cond-true (nat_le k p.0) (Some p) o (le-leb k p.0 (omega arith))))

  -- the pair has a smaller key: the nearest one lies behind it, or else it is what is remembered now
  pub nearest-behind : (side : Side) → AreBelow p.0 a → p.0 < k
      → found_or (nearest_on side k (a ++ (p ∷ b))) o ≡ found_or (nearest_on side k b) (kept_on side k p o)
  nearest-behind Left below less =
      ap (λ (x : Option (ℕ × ℕ)). found_or x o) (floor_of-back k a p b below (omega arith))
      ∙ found_twice (floor_of k b) p o
      ∙ ap (found_or (floor_of k b)) (sym (cond-true (nat_le p.0 k) (Some p) o (le-leb p.0 k (omega arith))))
  nearest-behind Right below less =
      ap (λ (x : Option (ℕ × ℕ)). found_or x o) (ceil_of-back k a p b below less)
      ∙ ap (found_or (ceil_of k b)) (sym (cond-false (nat_le k p.0) (Some p) o (lt-leb k p.0 less)))
