-- A node of a balanced tree gets another stored height: the tree and its pairs stay, the debt that this
-- may bring is that of the node above it, and with the height that its children ask for the node is in
-- balance.
use Rattle.std.proofs.Common.{◌≡◌, ◌≢◌, ℕ, ◌^◌, ◌<◌, ◌==◌, inl, inr, ⊎_elim, if◌then◌else◌, List, [], ◌∷◌}
use Rattle.std.proofs.Common.{refl, sym, ap, ◌∙◌, subst, arith}
use Rattle.pc_model.specs.declared.cell.Field.{Field}
use Rattle.pc_model.specs.declared.cell.Field.TheVariants.{Version, Key, Value, Left, Right, Parent, Height}
use Rattle.pc_model.specs.Map.{Pairs}
use Rattle.pc_model.specs.Cells.{Cells}
use Rattle.pc_model.specs.Trees.{Tree, Empty, Fork, balanced, IsTreeNode, Spells, IsIn, pairs_of, IsSearchTree}
use Rattle.pc_model.specs.TreeForms.{height_at, height_over, AreClose, IsInBalanceOver, IsInBalance, InDebt}
use Rattle.pc_model.specs.Rotations.{IsReheighted, height_asked}
use Rattle.pc_model.proofs.Framing.{IsKept, spells_kept, pairs_same, unmarked_in, Apart}
use Rattle.pc_model.proofs.Holes.{Framed, Hole, hole_apart, refilled_same}
use Rattle.pc_model.proofs.Links.{link_alone}
use Rattle.pc_model.proofs.NodeKeys.{in_balance_not_in_debt}
use Rattle.pc_model.proofs.DebtsBrought.{IsConfinedTo, IsCharged, BringsOnly, brings_only, charged_still}

pub height_over-small : (a b : ℕ) → height_over a b < 2 ^ 62
height_over-small a b = omega arith

module _ (slots : ℕ) (c : Cells) (ps : Pairs) (s : IsSearchTree balanced slots c ps) (k above : ℕ) (side : Field)
    (n : ℕ) (l r : Tree) (h : Hole balanced slots c ps s.tree k above side (Fork n l r)) (height : ℕ) (c' : Cells)
    (re : IsReheighted c c' n height) where
  apart_here : Apart c n l r
  apart_here = hole_apart balanced slots c ps s.tree k above side n l r s.rising h

  own_stays : (f : Field) → f ≢ Version → f ≢ Height → c' n f ≡ c n f
  own_stays f not_version not_height = re.words n f not_version (λ _. not_height)

  side_kept : (t : Tree) (link : ℕ) → (IsIn n t → ⊥) → Spells balanced slots c t n link → IsKept c c' t
  side_kept t link out spelled = record {
    words = λ m f i not_version. re.words m f not_version (λ e. absurd (out (subst (λ (x : ℕ). IsIn x t) e i)));
    unmarked = λ m i. re.parity m ∙ unmarked_in balanced slots c t n link m spelled i;
  }

  -- the tree and its pairs stay
  pub reheighted : height < 2 ^ 62 → IsSearchTree balanced slots c' ps
  reheighted small =
      let framed : Framed slots c c' above side (Fork n l r) = record {
        words = λ m f outside not_version _. re.words m f not_version (λ e. absurd (outside.out (inl e)));
        unmarked = λ m outside. re.parity m ∙ outside.unmarked;
      } in
      let node : IsTreeNode balanced slots c' above n = record {
        slot = h.spelled.1.slot;
        unmarked = re.parity n ∙ h.spelled.1.unmarked;
        of_kind = (own_stays Parent (λ e. cc) (λ e. cc) ∙ h.spelled.1.of_kind.0, rw re.stored small);
      } in
      let upper : c' above side ≡ c above side = re.words above side
      (λ e. (link_alone side h.link).version (sym e)) (λ e. absurd (h.apart (inl e))) in
      let left : Spells balanced slots c' l n (c n Left) = spells_kept balanced slots c c' l n (c n Left)
      (side_kept l (c n Left) apart_here.not_left h.spelled.2) h.spelled.2 in
      let right : Spells balanced slots c' r n (c n Right) = spells_kept balanced slots c c' r n (c n Right)
      (side_kept r (c n Right) apart_here.not_right h.spelled.3) h.spelled.3 in
      let spelled : Spells balanced slots c' (Fork n l r) above (c' above side) = (
        upper ∙ h.spelled.0,
        node,
        rw (own_stays Left (λ e. cc) (λ e. cc)) left,
        rw (own_stays Right (λ e. cc) (λ e. cc)) right,
      ) in
      let pairs : pairs_of c' (Fork n l r) ≡ pairs_of c (Fork n l r) = pairs_same c c' (Fork n l r) (λ m i.
      let key : c' m Key ≡ c m Key = re.words m Key (λ e. cc) (λ _ e. cc) in
      let value : c' m Value ≡ c m Value = re.words m Value (λ e. cc) (λ _ e. cc) in
      λ d. (key d, value d)) in
      refilled_same balanced slots c ps s k above side (Fork n l r) (Fork n l r) h c' framed spelled pairs
      (λ m i. i) (λ m is odd. re.parity m ∙ odd)

  -- the stored heights at the node's links stay
  side_height_same : (t : Tree) (link : ℕ) → (IsIn n t → ⊥) → Spells balanced slots c t n link
      → height_at c' link ≡ height_at c link
  side_height_same Empty link out spelled = rw spelled refl
  side_height_same (Fork m a b) link out spelled =
      let same : c' m Height ≡ c m Height = re.words m Height (λ e. cc) (λ e. absurd (out (inl (sym e)))) in
      rw spelled.0 (λ i. if m == 0 then 0 else same i)

  -- with the height that its children ask for, where their heights are close, the node is in balance
  pub reheighted_in_balance : height ≡ height_asked c n → AreClose (height_at c (c n Left)) (height_at c (c n Right))
      → IsInBalance c' n
  reheighted_in_balance asked close =
      let left : height_at c' (c' n Left) ≡ height_at c (c n Left) =
      ap (height_at c') (own_stays Left (λ e. cc) (λ e. cc))
      ∙ side_height_same l (c n Left) apart_here.not_left h.spelled.2 in
      let right : height_at c' (c' n Right) ≡ height_at c (c n Right) =
      ap (height_at c') (own_stays Right (λ e. cc) (λ e. cc))
      ∙ side_height_same r (c n Right) apart_here.not_right h.spelled.3 in
      let own : c' n Height ≡ height_asked c n = re.stored ∙ asked in
      subst (λ (x : ℕ). IsInBalanceOver x (height_at c' (c' n Right)) (c' n Height)) (sym left)
      (subst (λ (x : ℕ). IsInBalanceOver (height_at c (c n Left)) x (c' n Height)) (sym right) (own, close))

  reheighted_confined : IsConfinedTo (n ∷ above ∷ []) slots c c'
  reheighted_confined = record {
    words = λ m f out not_version _ _. re.words m f not_version (λ e. absurd (out (inl e)));
    parity = λ m _. re.parity m;
    heights = λ m i is even. ⊎_elim
        (λ e. inr (inr (inl ((λ d. c (e d) Parent) ∙ h.spelled.1.of_kind.0))))
        (λ j. ⊎_elim
        (λ e. inl (re.words m Height (λ d. cc) (λ d. absurd (h.apart (inl (sym e ∙ d))))))
        (λ no. absurd no) j) i;
  }

  -- where the node is in balance then, only the node above it may come into debt
  pub reheighted_brings_only : (charged : List ℕ) → IsInBalance c' n → IsCharged charged c above
      → BringsOnly charged slots c c'
  reheighted_brings_only charged balance is = brings_only (n ∷ above ∷ []) slots c c' reheighted_confined ps s charged
      (λ m i slot even. ⊎_elim
      (λ e. inl (subst (IsInBalance c') (sym e) balance))
      (λ j. ⊎_elim
      (λ e. inr (charged_still charged slots c c' m (subst (IsCharged charged c) (sym e) is) slot
      (re.words m Key (λ d. cc) (λ _ d. cc))))
      (λ no. absurd no) j) i)

  -- and the node's key isn't in debt
  pub reheighted_not_in_debt : height < 2 ^ 62 → c n Key ≡ k → IsInBalance c' n → InDebt slots c' k → ⊥
  reheighted_not_in_debt small key balance = in_balance_not_in_debt slots c' ps (reheighted small) n k
      h.spelled.1.slot (re.parity n ∙ h.spelled.1.unmarked) (own_stays Key (λ e. cc) (λ e. cc) ∙ key) balance
