-- What debts a removal from a balanced tree brings: only that of the node above an unlinked one, and
-- where a successor comes up, that of the successor's key too.
use Rattle.std.proofs.Common.{◌≡◌, ◌≢◌, ℕ, ◌⊎◌, inl, inr, ⊎_elim, List, [], ◌∷◌, refl, sym, ◌∙◌, subst, IsTrue}
use Rattle.std.proofs.Common.{arith}
use Rattle.std.proofs.lemmas.Bool.{cases_eq}
use Rattle.pc_model.specs.declared.cell.Field.{Field}
use Rattle.pc_model.specs.declared.cell.Field.TheVariants.{Version, Key, Left, Right, Parent, Height}
use Rattle.pc_model.specs.Map.{Pairs}
use Rattle.pc_model.specs.Cells.{Cells, IsEven, IsOdd}
use Rattle.pc_model.specs.Debts.{has}
use Rattle.pc_model.specs.Trees.{Tree, Empty, Fork, balanced, Spells, IsSearchTree}
use Rattle.pc_model.proofs.Holes.{Hole}
use Rattle.pc_model.proofs.Removal.{IsUnlinked, IsFirst, IsLifted}
use Rattle.pc_model.proofs.Links.{IsLinkAlone, link_alone}
use Rattle.pc_model.proofs.DebtsBrought.{IsConfinedTo, IsCharged, BringsOnly, brings_only, charged_still}

both_parities : (v : ℕ) → IsEven v → IsOdd v → ⊥
both_parities v even odd = absurd (omega (arith, even, odd))

-- The first node of a tree at a link: the link that it hangs at, and its parent

pub first_at_link : (q : ℕ) (link : Field) (s : ℕ) (rs : Tree) (above : ℕ) (side : Field) (t : Tree)
    → (side ≡ Left) ⊎ (side ≡ Right) → IsFirst above side t q link s rs → (link ≡ Left) ⊎ (link ≡ Right)
first_at_link q link s rs above side Empty is_link first = absurd first
first_at_link q link s rs above side (Fork m Empty r) is_link first =
    ⊎_elim (λ e. inl (first.1 ∙ e)) (λ e. inr (first.1 ∙ e)) is_link
first_at_link q link s rs above side (Fork m (Fork a b d) r) is_link first =
    first_at_link q link s rs m Left (Fork a b d) (inl refl) first

pub first_parent : (slots : ℕ) (c : Cells) (q : ℕ) (link : Field) (s : ℕ) (rs : Tree) (above : ℕ) (side : Field)
    (t : Tree) (start : ℕ) → IsFirst above side t q link s rs → Spells balanced slots c t above start → c s Parent ≡ q
first_parent slots c q link s rs above side Empty start first spelled = absurd first
first_parent slots c q link s rs above side (Fork m Empty r) start first spelled =
    (λ i. c (first.2 i) Parent) ∙ spelled.1.of_kind.0 ∙ sym first.0
first_parent slots c q link s rs above side (Fork m (Fork a b d) r) start first spelled =
    first_parent slots c q link s rs m Left (Fork a b d) (c m Left) first spelled.2

module _ (slots : ℕ) (c : Cells) (ps : Pairs) (s : IsSearchTree balanced slots c ps) (k above : ℕ) (side : Field)
    (n : ℕ) (l r : Tree) (h : Hole balanced slots c ps s.tree k above side (Fork n l r)) where
  -- the node with at most one child is unlinked
  module _ (child : ℕ) (c' : Cells) (un : IsUnlinked balanced c c' above side n child) where
    above_stays : (f : Field) → f ≢ Version → f ≢ side → f ≢ Parent → c' above f ≡ c above f
    above_stays f not_version not_side not_parent = un.words above f (λ e. h.apart (inl e)) not_version
        (λ _. not_side) (λ _. not_parent)

    unlinked_confined : IsConfinedTo (n ∷ above ∷ []) slots c c'
    unlinked_confined = record {
      words = λ m f out not_version not_parent _. un.words m f (λ e. out (inl e)) not_version
          (λ e. absurd (out (inr (inl e)))) (λ _. not_parent);
      parity = λ m out. un.parity m (λ e. out (inl e));
      heights = λ m i is even. ⊎_elim
          (λ e. inr (inr (inl ((λ d. c (e d) Parent) ∙ h.spelled.1.of_kind.0))))
          (λ j. ⊎_elim
          (λ e. inl (subst (λ (x : ℕ). c' x Height ≡ c x Height) (sym e)
          (above_stays Height (λ d. cc) (link_alone side h.link).height (λ d. cc))))
          (λ no. absurd no) j) i;
    }

    pub unlinked_brings_only : (charged : List ℕ) → IsCharged charged c above → BringsOnly charged slots c c'
    unlinked_brings_only charged is = brings_only (n ∷ above ∷ []) slots c c' unlinked_confined ps s charged
        (λ m i slot even. ⊎_elim
        (λ e. absurd (both_parities (c' n Version) (subst (λ (x : ℕ). IsEven (c' x Version)) e even) un.marked))
        (λ j. ⊎_elim
        (λ e. inr (charged_still charged slots c c' m (subst (IsCharged charged c) (sym e) is) slot
        (subst (λ (x : ℕ). c' x Key ≡ c x Key) (sym e)
        (above_stays Key (λ d. cc) (link_alone side h.link).key (λ d. cc)))))
        (λ no. absurd no) j) i)

  -- the node's successor comes up
  module _ (q : ℕ) (link : Field) (next : ℕ) (rs : Tree) (c' : Cells) (first : IsFirst n Right r q link next rs)
      (up : IsLifted balanced c c' n q link next) where
    link_stands_alone : IsLinkAlone link
    link_stands_alone = link_alone link (first_at_link q link next rs n Right r (inr refl) first)

    next_parent : c next Parent ≡ q
    next_parent = first_parent slots c q link next rs n Right r (c n Right) first h.spelled.3

    -- the heights of nodes other than the successor stay
    height_stays : (m : ℕ) → m ≢ next → c' m Height ≡ c m Height
    height_stays m not_next = up.words m Height not_next (λ d. cc) (λ _ d. cc) (λ _ d. cc)
        (λ _. link_stands_alone.height) (λ _ d. cc)

    lifted_confined : IsConfinedTo (n ∷ q ∷ next ∷ []) slots c c'
    lifted_confined = record {
      words = λ m f out not_version not_parent _. up.words m f (λ e. out (inr (inr (inl e)))) not_version
          (λ e. absurd (out (inl e))) (λ e. absurd (out (inl e))) (λ e. absurd (out (inr (inl e)))) (λ _. not_parent);
      parity = λ m out. up.parity m (λ e. out (inr (inr (inl e))));
      heights = λ m i is even. ⊎_elim
          (λ e. inr (inr (inl ((λ d. c (e d) Parent) ∙ next_parent))))
          (λ ne. inl (height_stays m ne))
          (cases_eq m next);
    }

    -- a node other than the successor that keeps its place keeps its key
    key_stays : (m : ℕ) → m ≢ next → m ≢ n → c' m Key ≡ c m Key
    key_stays m not_next not_n = up.words m Key not_next (λ d. cc) (λ e. absurd (not_n e)) (λ e. absurd (not_n e))
        (λ _. link_stands_alone.key) (λ _ d. cc)

    -- the key that came up is charged, and that of the node that the successor hung below
    pub lifted_brings_only : (charged : List ℕ) → IsTrue (has (c next Key) charged)
        → (q ≢ n → IsTrue (has (c q Key) charged)) → BringsOnly charged slots c c'
    lifted_brings_only charged came_up hung_below =
        brings_only (n ∷ q ∷ next ∷ []) slots c c' lifted_confined ps s charged
        (λ m i slot even. inr (⊎_elim
        (λ e. subst (λ (x : ℕ). IsTrue (has (c' x Key) charged)) (sym e)
        (subst (λ (x : ℕ). IsTrue (has x charged)) (sym up.key) came_up))
        (λ not_n. ⊎_elim
        (λ e. absurd (both_parities (c' next Version) (subst (λ (x : ℕ). IsEven (c' x Version)) e even) up.marked))
        (λ not_next. ⊎_elim (λ e. absurd (not_n e)) (λ j. ⊎_elim
        (λ e. charged_still charged slots c c' m
        (λ _. subst (λ (x : ℕ). IsTrue (has (c x Key) charged)) (sym e) (hung_below (λ d. not_n (e ∙ d)))) slot
        (key_stays m not_next not_n))
        (λ j'. ⊎_elim (λ e. absurd (not_next e)) (λ no. absurd no) j') j) i)
        (cases_eq m next))
        (cases_eq m n)))
