-- Trees in cells: what stays where the fields of a tree's nodes stay, and that rising keys keep the
-- nodes of a tree apart.
use Rattle.std.proofs.Common.{◌≡◌, ◌≢◌, ℕ, ◌<◌, ◌⊎◌, inl, inr, ⊎_elim, [], ◌∷◌, ◌++◌, refl, ◌∙◌, subst, arith}
use Rattle.std.proofs.lemmas.Bool.{cases_eq}
use Rattle.pc_model.specs.declared.cell.Field.{Field}
use Rattle.pc_model.specs.declared.cell.Field.TheVariants.{Version, Key, Value, Left, Right, Parent, Height}
use Rattle.pc_model.specs.Map.{IsRising, AreBelow, AreAbove}
use Rattle.pc_model.specs.Cells.{Cells, IsEven, IsSlot}
use Rattle.pc_model.specs.Trees.{Tree, Empty, Fork, Kind, plain, balanced, IsOfKind, parent_for, IsTreeNode, Spells}
use Rattle.pc_model.specs.Trees.{IsIn, pair_of, pairs_of}
use Rattle.pc_model.proofs.SortedLists.{AreBelow-split, AreAbove-split, rising_around, rising_front, rising_back}

-- a node of a tree, or none of it
pub is_in_or_not : (n : ℕ) (t : Tree) → IsIn n t ⊎ (IsIn n t → ⊥)
is_in_or_not n Empty = inr (λ h. h)
is_in_or_not n (Fork m l r) = ⊎_elim (λ e. inl (inl e))
    (λ ne. ⊎_elim (λ h. inl (inr (inl h)))
    (λ nl. ⊎_elim (λ h. inl (inr (inr h))) (λ nr. inr (λ h. ⊎_elim ne (λ k. ⊎_elim nl nr k) h)) (is_in_or_not n r))
    (is_in_or_not n l))
    (cases_eq n m)

pub of_kind_same : (kind : Kind) (c c' : Cells) (above n : ℕ) → c' n Parent ≡ c n Parent → c' n Height ≡ c n Height
    → IsOfKind kind c above n → IsOfKind kind c' above n
of_kind_same plain c c' above n p h k = (p ∙ k.0, h ∙ k.1)
of_kind_same balanced c c' above n p h k = (p ∙ k.0, rw h k.1)

pub tree_node_same : (kind : Kind) (slots : ℕ) (c c' : Cells) (above n : ℕ) → IsEven (c' n Version)
    → c' n Parent ≡ c n Parent → c' n Height ≡ c n Height
    → IsTreeNode kind slots c above n → IsTreeNode kind slots c' above n
tree_node_same kind slots c c' above n even p h node =
    record { slot = node.slot; unmarked = even; of_kind = of_kind_same kind c c' above n p h node.of_kind }

-- the words of the tree's nodes stay but for versions, and its nodes stay in use
pub record IsKept (c c' : Cells) (t : Tree) : Type 0 where
  pub words : (n : ℕ) (f : Field) → IsIn n t → f ≢ Version → c' n f ≡ c n f
  pub unmarked : (n : ℕ) → IsIn n t → IsEven (c' n Version)

pub kept_left : (c c' : Cells) (n : ℕ) (l r : Tree) → IsKept c c' (Fork n l r) → IsKept c c' l
kept_left c c' n l r kept = record {
  words = λ m f i. kept.words m f (inr (inl i));
  unmarked = λ m i. kept.unmarked m (inr (inl i));
}

pub kept_right : (c c' : Cells) (n : ℕ) (l r : Tree) → IsKept c c' (Fork n l r) → IsKept c c' r
kept_right c c' n l r kept = record {
  words = λ m f i. kept.words m f (inr (inr i));
  unmarked = λ m i. kept.unmarked m (inr (inr i));
}

-- the link spells the same tree
pub spells_kept : (kind : Kind) (slots : ℕ) (c c' : Cells) (t : Tree) (above link : ℕ) → IsKept c c' t
    → Spells kind slots c t above link → Spells kind slots c' t above link
spells_kept kind slots c c' Empty above link kept s = s
spells_kept kind slots c c' (Fork n l r) above link kept s =
    let here : (f : Field) → f ≢ Version → c' n f ≡ c n f = λ f. kept.words n f (inl refl) in
    let left : Spells kind slots c' l n (c n Left) =
    spells_kept kind slots c c' l n (c n Left) (kept_left c c' n l r kept) s.2 in
    let right : Spells kind slots c' r n (c n Right) =
    spells_kept kind slots c c' r n (c n Right) (kept_right c c' n l r kept) s.3 in
    let node : IsTreeNode kind slots c' above n = tree_node_same kind slots c c' above n (kept.unmarked n (inl refl))
    (here Parent (λ e. cc)) (here Height (λ e. cc)) s.1 in
    (s.0, node, rw (here Left (λ e. cc)) left, rw (here Right (λ e. cc)) right)

-- where each node keeps its pair, so does the tree
pub pairs_same : (c c' : Cells) (t : Tree) → ((n : ℕ) → IsIn n t → pair_of c' n ≡ pair_of c n)
    → pairs_of c' t ≡ pairs_of c t
pairs_same c c' Empty same = refl
pairs_same c c' (Fork n l r) same =
    let left : pairs_of c' l ≡ pairs_of c l = pairs_same c c' l (λ m h. same m (inr (inl h))) in
    let right : pairs_of c' r ≡ pairs_of c r = pairs_same c c' r (λ m h. same m (inr (inr h))) in
    let here : pair_of c' n ≡ pair_of c n = same n (inl refl) in
    λ i. left i ++ (here i ∷ right i)

pub pairs_kept : (c c' : Cells) (t : Tree) → IsKept c c' t → pairs_of c' t ≡ pairs_of c t
pairs_kept c c' t kept = pairs_same c c' t (λ n h.
    let key : c' n Key ≡ c n Key = kept.words n Key h (λ e. cc) in
    let value : c' n Value ≡ c n Value = kept.words n Value h (λ e. cc) in
    λ i. (key i, value i))

-- the nodes of a spelled tree are slots in use
pub slot_in : (kind : Kind) (slots : ℕ) (c : Cells) (t : Tree) (above link n : ℕ) → Spells kind slots c t above link
    → IsIn n t → IsSlot slots n
slot_in kind slots c Empty above link n s h = absurd h
slot_in kind slots c (Fork m l r) above link n s h = ⊎_elim (λ e. rw e s.1.slot)
    (λ k. ⊎_elim (slot_in kind slots c l m (c m Left) n s.2) (slot_in kind slots c r m (c m Right) n s.3) k) h

pub unmarked_in : (kind : Kind) (slots : ℕ) (c : Cells) (t : Tree) (above link n : ℕ)
    → Spells kind slots c t above link → IsIn n t → IsEven (c n Version)
unmarked_in kind slots c Empty above link n s h = absurd h
unmarked_in kind slots c (Fork m l r) above link n s h = ⊎_elim (λ e. rw e s.1.unmarked)
    (λ k. ⊎_elim (unmarked_in kind slots c l m (c m Left) n s.2) (unmarked_in kind slots c r m (c m Right) n s.3) k) h

-- where all keys are below a bound, so is each node's
pub below_in : (k : ℕ) (c : Cells) (t : Tree) (n : ℕ) → AreBelow k (pairs_of c t) → IsIn n t → c n Key < k
below_in k c Empty n b h = absurd h
below_in k c (Fork m l r) n b h =
    let parts : AreBelow k (pairs_of c l) × AreBelow k (pair_of c m ∷ pairs_of c r) =
    AreBelow-split k (pairs_of c l) (pair_of c m ∷ pairs_of c r) b in
    ⊎_elim (λ e. rw e parts.1.0) (λ h'. ⊎_elim (below_in k c l n parts.0) (below_in k c r n parts.1.1) h') h

pub above_in : (k : ℕ) (c : Cells) (t : Tree) (n : ℕ) → AreAbove k (pairs_of c t) → IsIn n t → k < c n Key
above_in k c Empty n b h = absurd h
above_in k c (Fork m l r) n b h =
    let parts : AreAbove k (pairs_of c l) × AreAbove k (pair_of c m ∷ pairs_of c r) =
    AreAbove-split k (pairs_of c l) (pair_of c m ∷ pairs_of c r) b in
    ⊎_elim (λ e. rw e parts.1.0) (λ h'. ⊎_elim (above_in k c l n parts.0) (above_in k c r n parts.1.1) h') h

-- what rising keys say of a fork
pub record Apart (c : Cells) (n : ℕ) (l r : Tree) : Type 0 where
  pub below : AreBelow (c n Key) (pairs_of c l)
  pub above : AreAbove (c n Key) (pairs_of c r)
  pub left : IsRising (pairs_of c l)
  pub right : IsRising (pairs_of c r)
  pub not_left : IsIn n l → ⊥
  pub not_right : IsIn n r → ⊥
  pub not_both : (m : ℕ) → IsIn m l → IsIn m r → ⊥

pub apart_from_rising : (c : Cells) (n : ℕ) (l r : Tree) → IsRising (pairs_of c (Fork n l r)) → Apart c n l r
apart_from_rising c n l r rising =
    let sides : AreBelow (c n Key) (pairs_of c l) × AreAbove (c n Key) (pairs_of c r) =
    rising_around (pairs_of c l) (pair_of c n) (pairs_of c r) rising in
    let tail : IsRising (pair_of c n ∷ pairs_of c r) =
    rising_back (pairs_of c l) (pair_of c n ∷ pairs_of c r) rising in
    record {
      below = sides.0;
      above = sides.1;
      left = rising_front (pairs_of c l) (pair_of c n ∷ pairs_of c r) rising;
      right = rising_back (pair_of c n ∷ []) (pairs_of c r) tail;
      not_left = λ h. let lt : c n Key < c n Key = below_in (c n Key) c l n sides.0 h in absurd (omega arith);
      not_right = λ h. let lt : c n Key < c n Key = above_in (c n Key) c r n sides.1 h in absurd (omega arith);
      not_both = λ m a b. let lt : c m Key < c n Key = below_in (c n Key) c l m sides.0 a in
          let gt : c n Key < c m Key = above_in (c n Key) c r m sides.1 b in absurd (omega arith);
    }

-- A tree whose root comes to hang below another node

pub of_kind_rehung : (kind : Kind) (c c' : Cells) (old above n : ℕ) → c' n Parent ≡ parent_for kind above (c n Parent)
    → c' n Height ≡ c n Height → IsOfKind kind c old n → IsOfKind kind c' above n
of_kind_rehung plain c c' old above n p h k = (p ∙ k.0, h ∙ k.1)
of_kind_rehung balanced c c' old above n p h k = (p, rw h k.1)

-- the words of the tree's nodes stay but for versions and the root's parent, which is the node above
pub record IsRehung (kind : Kind) (c c' : Cells) (t : Tree) (above root : ℕ) : Type 0 where
  pub parent : root ≢ 0 → c' root Parent ≡ parent_for kind above (c root Parent)
  pub words : (n : ℕ) (f : Field) → IsIn n t → f ≢ Version → (n ≡ root → f ≢ Parent) → c' n f ≡ c n f
  pub unmarked : (n : ℕ) → IsIn n t → IsEven (c' n Version)

pub spells_rehung : (kind : Kind) (slots : ℕ) (c c' : Cells) (t : Tree) (old above root : ℕ)
    → IsRehung kind c c' t above root
    → IsRising (pairs_of c t) → Spells kind slots c t old root → Spells kind slots c' t above root
spells_rehung kind slots c c' Empty old above root hung rising s = s
spells_rehung kind slots c c' (Fork n l r) old above root hung rising s =
    let apart : Apart c n l r = apart_from_rising c n l r rising in
    let not_zero : root ≢ 0 = λ e. (let slot = s.1.slot in let is = s.0 in absurd (omega arith)) in
    let same : (f : Field) → f ≢ Version → f ≢ Parent → c' n f ≡ c n f =
    λ f v p. hung.words n f (inl refl) v (λ _. p) in
    let parent : c' n Parent ≡ parent_for kind above (c n Parent) =
    subst (λ (x : ℕ). c' x Parent ≡ parent_for kind above (c x Parent)) s.0 (hung.parent not_zero) in
    let left : IsKept c c' l = record {
      words = λ m f i v. hung.words m f (inr (inl i)) v
          (λ e. absurd (apart.not_left (subst (λ (x : ℕ). IsIn x l) (e ∙ s.0) i)));
      unmarked = λ m i. hung.unmarked m (inr (inl i));
    } in
    let right : IsKept c c' r = record {
      words = λ m f i v. hung.words m f (inr (inr i)) v
          (λ e. absurd (apart.not_right (subst (λ (x : ℕ). IsIn x r) (e ∙ s.0) i)));
      unmarked = λ m i. hung.unmarked m (inr (inr i));
    } in
    let node : IsTreeNode kind slots c' above n = record {
      slot = s.1.slot;
      unmarked = hung.unmarked n (inl refl);
      of_kind = of_kind_rehung kind c c' old above n parent (same Height (λ e. cc) (λ e. cc)) s.1.of_kind;
    } in (
      s.0,
      node,
      rw (same Left (λ e. cc) (λ e. cc)) (spells_kept kind slots c c' l n (c n Left) left s.2),
      rw (same Right (λ e. cc) (λ e. cc)) (spells_kept kind slots c c' r n (c n Right) right s.3),
    )

pub pairs_rehung : (kind : Kind) (c c' : Cells) (t : Tree) (above root : ℕ) → IsRehung kind c c' t above root
    → pairs_of c' t ≡ pairs_of c t
pairs_rehung kind c c' t above root hung = pairs_same c c' t (λ n h.
    let key : c' n Key ≡ c n Key = hung.words n Key h (λ e. cc) (λ _ e. cc) in
    let value : c' n Value ≡ c n Value = hung.words n Value h (λ e. cc) (λ _ e. cc) in
    λ i. (key i, value i))
