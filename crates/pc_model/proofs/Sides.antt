-- A fork seen from one of its sides: what its links spell, which nodes it has, and how its pairs lie
-- around those of the tree on that side.
use Rattle.std.proofs.Common.{◌≡◌, ◌≢◌, ℕ, ◌⊎◌, inl, inr, ⊎_elim, [], ◌∷◌, ◌++◌, refl, sym, ap, ◌∙◌, append_assoc}
use Rattle.std.proofs.Common.{arith}
use Rattle.std.proofs.lemmas.List.{append-nil}
use Rattle.pc_model.specs.declared.cell.Field.TheVariants.{Key, Left, Right}
use Rattle.pc_model.specs.Map.{Pairs, IsRising, AreBelow, AreAbove}
use Rattle.pc_model.specs.Cells.{Cells}
use Rattle.pc_model.specs.Trees.{Tree, Kind, IsTreeNode, Spells, IsIn, pair_of, pairs_of}
use Rattle.pc_model.specs.declared.cell.Side.{Side}
use Rattle.pc_model.specs.declared.cell.Side.TheVariants.{Left as left, Right as right}
use Rattle.pc_model.specs.Sides.{link_of, opposite, fork_on, IsToward, pairs_before, pairs_behind}
use Rattle.pc_model.proofs.SortedLists.{AreBelow-join, below_weaker, above_weaker}
use Rattle.pc_model.proofs.Framing.{Apart, apart_from_rising}

-- each link is that of a side
pub link_of-is_link : (side : Side) → (link_of side ≡ Left) ⊎ (link_of side ≡ Right)
link_of-is_link left = inl refl
link_of-is_link right = inr refl

pub opposite_differs : (side : Side) → link_of (opposite side) ≢ link_of side
opposite_differs left = λ e. cc
opposite_differs right = λ e. cc

-- What a fork spells

pub record SpellsOn (kind : Kind) (slots : ℕ) (c : Cells) (side : Side) (n : ℕ) (near far : Tree)
    (above link : ℕ) : Type 0 where
  pub linked : link ≡ n
  pub node : IsTreeNode kind slots c above n
  pub near_spelled : Spells kind slots c near n (c n (link_of side))
  pub far_spelled : Spells kind slots c far n (c n (link_of (opposite side)))

module _ (kind : Kind) (slots : ℕ) (c : Cells) (n : ℕ) (near far : Tree) (above link : ℕ) where
  pub spells_on : (side : Side) → Spells kind slots c (fork_on side n near far) above link
      → SpellsOn kind slots c side n near far above link
  spells_on left s = record { linked = s.0; node = s.1; near_spelled = s.2; far_spelled = s.3 }
  spells_on right s = record { linked = s.0; node = s.1; near_spelled = s.3; far_spelled = s.2 }

  pub spells_from_side : (side : Side) → SpellsOn kind slots c side n near far above link
      → Spells kind slots c (fork_on side n near far) above link
  spells_from_side left s = (s.linked, s.node, s.near_spelled, s.far_spelled)
  spells_from_side right s = (s.linked, s.node, s.far_spelled, s.near_spelled)

-- Which nodes a fork has

module _ (m n : ℕ) (near far : Tree) where
  pub in_root : (side : Side) → m ≡ n → IsIn m (fork_on side n near far)
  in_root left e = inl e
  in_root right e = inl e

  pub in_near : (side : Side) → IsIn m near → IsIn m (fork_on side n near far)
  in_near left i = inr (inl i)
  in_near right i = inr (inr i)

  pub in_far : (side : Side) → IsIn m far → IsIn m (fork_on side n near far)
  in_far left i = inr (inr i)
  in_far right i = inr (inl i)

  pub in_which : (side : Side) → IsIn m (fork_on side n near far) → (m ≡ n) ⊎ (IsIn m near ⊎ IsIn m far)
  in_which left i = i
  in_which right i = ⊎_elim (λ e. inl e) (λ j. ⊎_elim (λ k. inr (inr k)) (λ k. inr (inl k)) j) i

-- Its pairs

pub pairs_on : (side : Side) (c : Cells) (n : ℕ) (near far : Tree)
    → pairs_of c (fork_on side n near far) ≡ pairs_before side c n far ++
    (pairs_of c near ++ pairs_behind side c n far)
pairs_on left c n near far = refl
pairs_on right c n near far = sym (append_assoc (pairs_of c far) (pair_of c n ∷ []) (pairs_of c near ++ [])
    ∙ ap (λ (x : Pairs). pairs_of c far ++ (pair_of c n ∷ x)) (append-nil (pairs_of c near)))

-- the same where the node and the tree on the other side keep their pairs
pub pairs_before_same : (side : Side) (c c' : Cells) (n : ℕ) (far : Tree) → pair_of c' n ≡ pair_of c n
    → pairs_of c' far ≡ pairs_of c far
    → pairs_before side c' n far ≡ pairs_before side c n far
pairs_before_same left c c' n far here there = refl
pairs_before_same right c c' n far here there = λ i. there i ++ (here i ∷ [])

pub pairs_behind_same : (side : Side) (c c' : Cells) (n : ℕ) (far : Tree) → pair_of c' n ≡ pair_of c n
    → pairs_of c' far ≡ pairs_of c far
    → pairs_behind side c' n far ≡ pairs_behind side c n far
pairs_behind_same left c c' n far here there = λ i. here i ∷ there i
pairs_behind_same right c c' n far here there = refl

-- What rising keys say of a fork

pub record ApartOn (c : Cells) (side : Side) (n : ℕ) (near far : Tree) : Type 0 where
  pub near_rising : IsRising (pairs_of c near)
  pub far_rising : IsRising (pairs_of c far)
  pub not_near : IsIn n near → ⊥
  pub not_far : IsIn n far → ⊥
  pub not_both : (m : ℕ) → IsIn m near → IsIn m far → ⊥
  pub before : (k : ℕ) → IsToward side k (c n Key) → AreBelow k (pairs_before side c n far)
  pub behind : (k : ℕ) → IsToward side k (c n Key) → AreAbove k (pairs_behind side c n far)

pub apart_on : (side : Side) (c : Cells) (n : ℕ) (near far : Tree) → IsRising (pairs_of c (fork_on side n near far))
    → ApartOn c side n near far
apart_on left c n near far rising =
    let a : Apart c n near far = apart_from_rising c n near far rising in
    record {
      near_rising = a.left;
      far_rising = a.right;
      not_near = a.not_left;
      not_far = a.not_right;
      not_both = a.not_both;
      before = λ k toward. tt;
      behind = λ k toward. (toward, above_weaker k (c n Key) (pairs_of c far) (omega arith) a.above);
    }
apart_on right c n near far rising =
    let a : Apart c n far near = apart_from_rising c n far near rising in
    record {
      near_rising = a.right;
      far_rising = a.left;
      not_near = a.not_right;
      not_far = a.not_left;
      not_both = λ m i j. a.not_both m j i;
      before = λ k toward. AreBelow-join k (pairs_of c far) (pair_of c n ∷ [])
          (below_weaker (c n Key) k (pairs_of c far) (omega arith) a.below) (toward, tt);
      behind = λ k toward. tt;
    }
