-- What debts an insertion into a balanced tree brings: a new leaf only that of the node above it, and
-- another value none.
use Rattle.std.proofs.Common.{◌≡◌, ◌≢◌, ℕ, ◌%◌, inl, inr, ⊎_elim, List, [], ◌∷◌, sym, subst, arith}
use Rattle.pc_model.specs.declared.cell.Field.{Field}
use Rattle.pc_model.specs.declared.cell.Field.TheVariants.{Version, Key, Right, Height}
use Rattle.pc_model.specs.Map.{Pairs}
use Rattle.pc_model.specs.Cells.{Cells, IsEven, IsOdd}
use Rattle.pc_model.specs.Trees.{Empty, balanced, IsSearchTree}
use Rattle.pc_model.specs.TreeForms.{height_at, IsInBalanceOver, IsInBalance}
use Rattle.pc_model.proofs.Holes.{Hole}
use Rattle.pc_model.proofs.Insertion.{IsHung, IsRevalued}
use Rattle.pc_model.proofs.Links.{link_alone}
use Rattle.pc_model.proofs.DebtsBrought.{IsConfinedTo, IsCharged, BringsOnly, brings_only, charged_still}

module _ (slots : ℕ) (c : Cells) (ps : Pairs) (s : IsSearchTree balanced slots c ps) where
  -- a leaf hangs at the empty hole
  module _ (k v above : ℕ) (side : Field) (leaf : ℕ) (c' : Cells)
      (h : Hole balanced slots c ps s.tree k above side Empty) (odd : IsOdd (c leaf Version))
      (hung : IsHung balanced c c' above side leaf k v) where
    not_the_leaf : above ≢ leaf
    not_the_leaf e = let was : c leaf Version % 2 ≡ 0 = subst (λ (x : ℕ). IsEven (c x Version)) e h.unmarked in
        absurd (omega arith)

    above_stays : (f : Field) → f ≢ Version → f ≢ side → c' above f ≡ c above f
    above_stays f not_version not_side = hung.words above f not_the_leaf not_version (λ _. not_side)

    hung_confined : IsConfinedTo (leaf ∷ above ∷ []) slots c c'
    hung_confined = record {
      words = λ m f out not_version _ _. hung.words m f (λ e. out (inl e)) not_version
          (λ e. absurd (out (inr (inl e))));
      parity = λ m out. hung.parity m (λ e. out (inl e));
      heights = λ m i is even. ⊎_elim
          (λ e. let was : c leaf Version % 2 ≡ 0 = subst (λ (x : ℕ). IsEven (c x Version)) e even in
          absurd (omega arith))
          (λ j. ⊎_elim
          (λ e. inl (subst (λ (x : ℕ). c' x Height ≡ c x Height) (sym e)
          (above_stays Height (λ d. cc) (link_alone side h.link).height)))
          (λ no. absurd no) j) i;
    }

    -- a leaf of height 1 is in balance
    pub leaf_in_balance : c' leaf Height ≡ 1 → IsInBalance c' leaf
    leaf_in_balance height =
        subst (λ (x : ℕ). IsInBalanceOver (height_at c' x) (height_at c' (c' leaf Right)) (c' leaf Height))
        (sym hung.no_left)
        (subst (λ (x : ℕ). IsInBalanceOver 0 (height_at c' x) (c' leaf Height)) (sym hung.no_right)
        (height, (omega arith, omega arith)))

    pub leaf_brings_only : (charged : List ℕ) → c' leaf Height ≡ 1 → IsCharged charged c above
        → BringsOnly charged slots c c'
    leaf_brings_only charged height is = brings_only (leaf ∷ above ∷ []) slots c c' hung_confined ps s charged
        (λ m i slot even. ⊎_elim
        (λ e. inl (subst (IsInBalance c') (sym e) (leaf_in_balance height)))
        (λ j. ⊎_elim
        (λ e. inr (charged_still charged slots c c' m (subst (IsCharged charged c) (sym e) is) slot
        (subst (λ (x : ℕ). c' x Key ≡ c x Key) (sym e)
        (above_stays Key (λ d. cc) (link_alone side h.link).key))))
        (λ no. absurd no) j) i)

  -- a node has another value
  pub value_brings_nothing : (n v : ℕ) (c' : Cells) → IsRevalued c c' n v → BringsOnly [] slots c c'
  value_brings_nothing n v c' changed =
      let confined : IsConfinedTo [] slots c c' = record {
        words = λ m f _ not_version _ not_value. changed.words m f not_version (λ _. not_value);
        parity = λ m _. changed.parity m;
        heights = λ m i is even. absurd i;
      } in
      brings_only [] slots c c' confined ps s [] (λ m i slot even. absurd i)
