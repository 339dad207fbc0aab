-- A key comes into a search tree: a leaf hangs at the empty link where the key belongs; or the value of
-- the node that has the key changes.
use Rattle.std.proofs.Common.{◌≡◌, ◌≢◌, ℕ, ◌%◌, ◌≤◌, inl, ⊎_elim, [], ◌∷◌, ◌++◌, sym, ap, ◌∙◌, subst, arith}
use Rattle.std.proofs.lemmas.Bool.{cases_eq}
use Rattle.pc_model.specs.declared.cell.Field.{Field}
use Rattle.pc_model.specs.declared.cell.Field.TheVariants.{Version, Key, Value, Left, Right, Parent, Height}
use Rattle.pc_model.specs.Map.{Pairs, put}
use Rattle.pc_model.specs.Cells.{Cells, IsEven, IsOdd, IsSlot}
use Rattle.pc_model.specs.Trees.{Tree, Empty, Fork, Kind, IsOfKind, IsTreeNode, Spells, IsIn, pairs_of, IsSearchTree}
use Rattle.pc_model.proofs.SortedLists.{put_rises, put_small}
use Rattle.pc_model.proofs.Framing.{tree_node_same, IsKept, spells_kept, pairs_kept, unmarked_in, Apart}
use Rattle.pc_model.proofs.Holes.{Framed, Hole, hole_apart, refilled}
use Rattle.pc_model.proofs.Links.{link_alone}
use Rattle.pc_model.proofs.HolePairs.{put-hole, put-empty_hole}

-- a slot came into use as a leaf with this key and value, and hangs at a link of the node above it
pub record IsHung (kind : Kind) (c c' : Cells) (above : ℕ) (side : Field) (leaf k v : ℕ) : Type 0 where
  pub linked : c' above side ≡ leaf
  pub key : c' leaf Key ≡ k
  pub value : c' leaf Value ≡ v
  pub no_left : c' leaf Left ≡ 0
  pub no_right : c' leaf Right ≡ 0
  pub of_kind : IsOfKind kind c' above leaf
  pub unmarked : IsEven (c' leaf Version)
  -- other words stay, and versions keep their parity
  pub words : (m : ℕ) (f : Field) → m ≢ leaf → f ≢ Version → (m ≡ above → f ≢ side) → c' m f ≡ c m f
  pub parity : (m : ℕ) → m ≢ leaf → c' m Version % 2 ≡ c m Version % 2

-- a node has another value
pub record IsRevalued (c c' : Cells) (n v : ℕ) : Type 0 where
  pub value : c' n Value ≡ v
  -- other words stay, and versions keep their parity
  pub words : (m : ℕ) (f : Field) → f ≢ Version → (m ≡ n → f ≢ Value) → c' m f ≡ c m f
  pub parity : (m : ℕ) → c' m Version % 2 ≡ c m Version % 2

module _ (kind : Kind) (slots : ℕ) (c : Cells) (ps : Pairs) (s : IsSearchTree kind slots c ps) (k v above : ℕ)
    (side : Field)
    (small_key : k ≤ 999999999999999999) (small_value : v ≤ 999999999999999999) where
  -- a leaf hangs at the empty hole
  module _ (leaf : ℕ) (c' : Cells) (h : Hole kind slots c ps s.tree k above side Empty) (is_slot : IsSlot slots leaf)
      (odd : IsOdd (c leaf Version)) (hung : IsHung kind c c' above side leaf k v) where
    not_leaf : (m : ℕ) → IsEven (c m Version) → m ≢ leaf
    not_leaf m even e = let was : c leaf Version % 2 ≡ 0 = subst (λ (x : ℕ). IsEven (c x Version)) e even in
        absurd (omega arith)

    leaf_framed : Framed slots c c' above side Empty
    leaf_framed = record {
      words = λ m f outside. hung.words m f (not_leaf m outside.unmarked);
      unmarked = λ m outside. hung.parity m (not_leaf m outside.unmarked) ∙ outside.unmarked;
    }

    leaf_covers : (m : ℕ) → IsEven (c' m Version) → c m Version % 2 ≡ 1 → m ≡ leaf
    leaf_covers m even was_odd = ⊎_elim (λ e. e)
        (λ ne. let same : c' m Version % 2 ≡ c m Version % 2 = hung.parity m ne in absurd (omega arith))
        (cases_eq m leaf)

    pub leaf_hung : IsSearchTree kind slots c' (put k v ps)
    leaf_hung =
        let t : Tree = Fork leaf Empty Empty in
        let node : IsTreeNode kind slots c' above leaf =
        record { slot = is_slot; unmarked = hung.unmarked; of_kind = hung.of_kind } in
        let spelled : Spells kind slots c' t above (c' above side) =
        (hung.linked, node, hung.no_left, hung.no_right) in
        let pair : pairs_of c' t ≡ (k, v) ∷ [] = (let key = hung.key in let value = hung.value in
        λ i. (key i, value i) ∷ []) in
        refilled kind slots c ps s k above side Empty t h c' (put k v ps) leaf_framed spelled
        (ap (λ (x : Pairs). h.before ++ (x ++ h.after)) pair
        ∙ sym (put-empty_hole kind slots c ps s.tree k above side v h))
        (put_rises k v ps s.rising) (put_small k v ps small_key small_value s.small)
        (λ m is even old. ⊎_elim (λ i. absurd i) (λ was_odd. inl (leaf_covers m even was_odd)) old)

  -- the value of the node at the hole changes
  module _ (n : ℕ) (l r : Tree) (c' : Cells) (h : Hole kind slots c ps s.tree k above side (Fork n l r))
      (key : c n Key ≡ k)
      (changed : IsRevalued c c' n v) where
    value_apart : Apart c n l r
    value_apart = hole_apart kind slots c ps s.tree k above side n l r s.rising h

    value_framed : Framed slots c c' above side (Fork n l r)
    value_framed = record {
      words = λ m f outside not_version _. changed.words m f not_version (λ e. absurd (outside.out (inl e)));
      unmarked = λ m outside. changed.parity m ∙ outside.unmarked;
    }

    -- a tree that the node is no part of, and that is in use
    value_kept : (t : Tree) (link : ℕ) → (IsIn n t → ⊥) → Spells kind slots c t n link → IsKept c c' t
    value_kept t link out spelled = record {
      words = λ m f i not_version. changed.words m f not_version (λ e. absurd (out (subst (λ (x : ℕ). IsIn x t) e i)));
      unmarked = λ m i. changed.parity m ∙ unmarked_in kind slots c t n link m spelled i;
    }

    pub value_changed : IsSearchTree kind slots c' (put k v ps)
    value_changed =
        let t : Tree = Fork n l r in
        let same : (f : Field) → f ≢ Version → f ≢ Value → c' n f ≡ c n f =
        λ f not_version not_value. changed.words n f not_version (λ _. not_value) in
        let kept_l : IsKept c c' l = value_kept l (c n Left) value_apart.not_left h.spelled.2 in
        let kept_r : IsKept c c' r = value_kept r (c n Right) value_apart.not_right h.spelled.3 in
        let left : Spells kind slots c' l n (c n Left) =
        spells_kept kind slots c c' l n (c n Left) kept_l h.spelled.2 in
        let right : Spells kind slots c' r n (c n Right) =
        spells_kept kind slots c c' r n (c n Right) kept_r h.spelled.3 in
        let node : IsTreeNode kind slots c' above n = tree_node_same kind slots c c' above n
        (changed.parity n ∙ h.spelled.1.unmarked)
        (same Parent (λ e. cc) (λ e. cc)) (same Height (λ e. cc) (λ e. cc)) h.spelled.1 in
        let link : c' above side ≡ c above side = changed.words above side
        (λ e. (link_alone side h.link).version (sym e)) (λ e. absurd (h.apart (inl e))) in
        let spelled : Spells kind slots c' t above (c' above side) = (
          link ∙ h.spelled.0,
          node,
          rw (same Left (λ e. cc) (λ e. cc)) left,
          rw (same Right (λ e. cc) (λ e. cc)) right,
        ) in
        let pairs_l : pairs_of c' l ≡ pairs_of c l = pairs_kept c c' l kept_l in
        let pairs_r : pairs_of c' r ≡ pairs_of c r = pairs_kept c c' r kept_r in
        let own_key : c' n Key ≡ k = same Key (λ e. cc) (λ e. cc) ∙ key in
        let own_value : c' n Value ≡ v = changed.value in
        let pairs : pairs_of c' t ≡ pairs_of c l ++ ((k, v) ∷ pairs_of c r) =
        (λ i. pairs_l i ++ ((own_key i, own_value i) ∷ pairs_r i)) in
        refilled kind slots c ps s k above side t t h c' (put k v ps) value_framed spelled
        (ap (λ (x : Pairs). h.before ++ (x ++ h.after)) pairs
        ∙ sym (put-hole kind slots c ps s.tree k above side v n l r s.rising h key))
        (put_rises k v ps s.rising) (put_small k v ps small_key small_value s.small)
        (λ m is even old. ⊎_elim (λ i. i)
        (λ odd. let p : c' m Version % 2 ≡ c m Version % 2 = changed.parity m in absurd (omega arith)) old)
