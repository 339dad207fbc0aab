-- What debts a change of cells may bring: where it is confined to some nodes of a balanced tree, a key
-- that comes into debt is that of one of them.
use Rattle.std.proofs.Common.{◌≡◌, ◌≢◌, ℕ, ◌%◌, ◌==◌, ◌⊎◌, inl, inr, ⊎_elim, if◌then◌else◌, List, [], ◌∷◌, refl}
use Rattle.std.proofs.Common.{sym, ap}
use Rattle.std.proofs.Common.{◌∙◌, subst, IsTrue, arith}
use Rattle.std.proofs.lemmas.Bool.{cases_eq}
use Rattle.pc_model.specs.declared.cell.Field.{Field}
use Rattle.pc_model.specs.declared.cell.Field.TheVariants.{Version, Key, Value, Left, Right, Parent, Height}
use Rattle.pc_model.specs.Map.{Pairs}
use Rattle.pc_model.specs.Cells.{Cells, IsEven, IsSlot}
use Rattle.pc_model.specs.Debts.{has}
use Rattle.pc_model.specs.Trees.{Tree, Empty, Fork, balanced, Spells, IsSearchTree}
use Rattle.pc_model.specs.TreeForms.{height_at, IsInBalanceOver, IsInBalance, InDebt}
use Rattle.pc_model.proofs.TreeNodes.{NodeOfTree, node_of_tree}

-- the node is one of a list
abbrev pub IsAmong : ℕ → List ℕ → Type 0
IsAmong n [] = ⊥
IsAmong n (m ∷ ms) = (n ≡ m) ⊎ IsAmong n ms

pub among_or_not : (n : ℕ) (ms : List ℕ) → IsAmong n ms ⊎ (IsAmong n ms → ⊥)
among_or_not n [] = inr (λ no. no)
among_or_not n (m ∷ ms) = ⊎_elim (λ e. inl (inl e))
    (λ ne. ⊎_elim (λ i. inl (inr i)) (λ out. inr (λ i. ⊎_elim ne out i)) (among_or_not n ms))
    (cases_eq n m)

-- The keys, links, heights and marks of all nodes but these stay, and where the height of one of these
-- changes, the node above it is one of these.
pub record IsConfinedTo (nodes : List ℕ) (slots : ℕ) (c c' : Cells) : Type 0 where
  pub words : (n : ℕ) (f : Field) → (IsAmong n nodes → ⊥) → f ≢ Version → f ≢ Parent → f ≢ Value → c' n f ≡ c n f
  pub parity : (n : ℕ) → (IsAmong n nodes → ⊥) → c' n Version % 2 ≡ c n Version % 2
  pub heights : (n : ℕ) → IsAmong n nodes → IsSlot slots n → IsEven (c n Version)
      → (c' n Height ≡ c n Height) ⊎ IsAmong (c n Parent) nodes

-- the node's key is charged, unless the node is the sentinel
abbrev pub IsCharged : List ℕ → Cells → ℕ → Type 0
IsCharged charged c n = n ≢ 1 → IsTrue (has (c n Key) charged)

-- each key that comes into debt is charged
abbrev pub BringsOnly : List ℕ → ℕ → Cells → Cells → Type 0
BringsOnly charged slots c c' = (k : ℕ) → InDebt slots c' k → InDebt slots c k ⊎ IsTrue (has k charged)

module _ (nodes : List ℕ) (slots : ℕ) (c c' : Cells) (confined : IsConfinedTo nodes slots c c') where
  -- a link of a node that isn't one of these names a node of the same height, or none
  child_height_same : (t : Tree) (above link : ℕ) → (IsAmong above nodes → ⊥)
      → Spells balanced slots c t above link → height_at c' link ≡ height_at c link
  child_height_same Empty above link out s = rw s refl
  child_height_same (Fork n l r) above link out s =
      let same : c' n Height ≡ c n Height = ⊎_elim
      (λ i. ⊎_elim (λ e. e) (λ j. absurd (out (subst (λ (x : ℕ). IsAmong x nodes) s.1.of_kind.0 j)))
      (confined.heights n i s.1.slot s.1.unmarked))
      (λ no. confined.words n Height no (λ e. cc) (λ e. cc) (λ e. cc)) (among_or_not n nodes) in
      rw s.0 (λ i. if n == 0 then 0 else same i)

  -- such a node is in balance after as before
  balance_stays : (n : ℕ) → (IsAmong n nodes → ⊥) → NodeOfTree balanced slots c n → IsInBalance c n → IsInBalance c' n
  balance_stays n out node balance =
      let own : c' n Height ≡ c n Height = confined.words n Height out (λ e. cc) (λ e. cc) (λ e. cc) in
      let left : height_at c' (c' n Left) ≡ height_at c (c n Left) =
      ap (height_at c') (confined.words n Left out (λ e. cc) (λ e. cc) (λ e. cc))
      ∙ child_height_same node.left_tree n (c n Left) out node.left in
      let right : height_at c' (c' n Right) ≡ height_at c (c n Right) =
      ap (height_at c') (confined.words n Right out (λ e. cc) (λ e. cc) (λ e. cc))
      ∙ child_height_same node.right_tree n (c n Right) out node.right in
      subst (λ (x : ℕ). IsInBalanceOver x (height_at c' (c' n Right)) (c' n Height)) (sym left)
      (subst (λ (x : ℕ). IsInBalanceOver (height_at c (c n Left)) x (c' n Height)) (sym right)
      (subst (IsInBalanceOver (height_at c (c n Left)) (height_at c (c n Right))) (sym own) balance))

  module _ (ps : Pairs) (s : IsSearchTree balanced slots c ps) where
    -- a key in debt after was in debt before, or is that of one of these nodes
    pub debts_brought : (k : ℕ) → (debt : InDebt slots c' k) → InDebt slots c k ⊎ IsAmong debt.node nodes
    debts_brought k debt =
        let n : ℕ = debt.node in
        ⊎_elim (λ i. inr i)
        (λ out.
        let even : IsEven (c n Version) = sym (confined.parity n out) ∙ debt.unmarked in
        let node : NodeOfTree balanced slots c n =
        node_of_tree balanced slots c s.tree 1 (c 1 Left) n s.spelled (s.covered n debt.slot even) in
        inl (record {
          node = n;
          slot = debt.slot;
          unmarked = even;
          key = sym (confined.words n Key out (λ e. cc) (λ e. cc) (λ e. cc)) ∙ debt.key;
          out_of_balance = λ balance. debt.out_of_balance (balance_stays n out node balance);
        }))
        (among_or_not n nodes)

    -- so it is enough that each of these that is in use after is in balance then, or its key is charged
    pub brings_only : (charged : List ℕ)
        → ((n : ℕ) → IsAmong n nodes → IsSlot slots n → IsEven (c' n Version)
        → IsInBalance c' n ⊎ IsTrue (has (c' n Key) charged))
        → BringsOnly charged slots c c'
    brings_only charged each k debt = ⊎_elim (λ was. inl was)
        (λ i. ⊎_elim (λ balance. absurd (debt.out_of_balance balance))
        (λ found. inr (subst (λ (x : ℕ). IsTrue (has x charged)) debt.key found))
        (each debt.node i debt.slot debt.unmarked))
        (debts_brought k debt)

-- the key of a slot stays and is charged
pub charged_still : (charged : List ℕ) (slots : ℕ) (c c' : Cells) (n : ℕ) → IsCharged charged c n → IsSlot slots n
    → c' n Key ≡ c n Key → IsTrue (has (c' n Key) charged)
charged_still charged slots c c' n is slot same =
    subst (λ (x : ℕ). IsTrue (has x charged)) (sym same) (is (λ e. absurd (omega arith)))
