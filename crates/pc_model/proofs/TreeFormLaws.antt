-- The forms of search trees keep the laws of a form, and each key in debt is one of the tree's.
use Rattle.std.proofs.Common.{◌≡◌, ℕ, ◌==◌, ◌⊎◌, ⊎_elim, if◌then◌else◌, refl, sym, ◌∙◌, subst}
use Rattle.pc_model.specs.declared.cell.Field.TheVariants.{Version, Key, Left, Right, Height}
use Rattle.pc_model.specs.Map.{Pairs, HasKey}
use Rattle.pc_model.specs.Cells.{Cells, IsEven, IsSlot, SameButVersions}
use Rattle.pc_model.specs.Trees.{Kind, plain, balanced, pairs_of}
use Rattle.pc_model.specs.Trees.{IsSearchTree}
use Rattle.pc_model.specs.Forms.{IsSound}
use Rattle.pc_model.specs.FormLaws.{FormLaws}
use Rattle.pc_model.specs.TreeForms.{height_at, IsInBalanceOver, IsInBalance, in_debt_of, tree_form, ordered_form}
use Rattle.pc_model.proofs.TreeNodes.{link_in_range, NodeOfTree, node_of_tree, key_of_node}
use Rattle.pc_model.proofs.Soundness.{search_tree_parity, search_tree_full}

-- each key in debt is one of the tree's
pub debt_has_key : (kind : Kind) (slots : ℕ) (c : Cells) (ps : Pairs) (k : ℕ) → IsSearchTree kind slots c ps
    → in_debt_of kind slots c k → HasKey k ps
debt_has_key plain slots c ps k s debt = absurd debt
debt_has_key balanced slots c ps k s debt =
    let has : HasKey (c debt.node Key) (pairs_of c s.tree) =
    key_of_node c s.tree debt.node (s.covered debt.node debt.slot debt.unmarked) in
    subst (λ (x : ℕ). HasKey x ps) debt.key (subst (HasKey (c debt.node Key)) s.pairs has)

-- Cells that are the same but for versions

same_back : (slots : ℕ) (c c' : Cells) → SameButVersions slots c c' → SameButVersions slots c' c
same_back slots c c' same = record {
  fields = λ n f le ne. sym (same.fields n f le ne);
  parity = λ n le. sym (same.parity n le);
}

module _ (slots : ℕ) (c c' : Cells) (same : SameButVersions slots c c') where
  height_at_same : (link : ℕ) → (link ≡ 0) ⊎ IsSlot slots link → height_at c' link ≡ height_at c link
  height_at_same link range = ⊎_elim
      (λ e. subst (λ (x : ℕ). height_at c' x ≡ height_at c x) (sym e) refl)
      (λ slot. let height : c' link Height ≡ c link Height = same.fields link Height slot.1 (λ e. cc) in
      λ i. if link == 0 then 0 else height i)
      range

  -- a node of a tree is in balance in both
  balance_same : (kind : Kind) (n : ℕ) → NodeOfTree kind slots c n → IsInBalance c n → IsInBalance c' n
  balance_same kind n node balance =
      let slot : IsSlot slots n = node.node.slot in
      let left : height_at c' (c n Left) ≡ height_at c (c n Left) =
      height_at_same (c n Left) (link_in_range kind slots c node.left_tree n (c n Left) node.left) in
      let right : height_at c' (c n Right) ≡ height_at c (c n Right) =
      height_at_same (c n Right) (link_in_range kind slots c node.right_tree n (c n Right) node.right) in
      let same_left : height_at c' (c' n Left) ≡ height_at c (c n Left) =
      (λ i. height_at c' (same.fields n Left slot.1 (λ e. cc) i)) ∙ left in
      let same_right : height_at c' (c' n Right) ≡ height_at c (c n Right) =
      (λ i. height_at c' (same.fields n Right slot.1 (λ e. cc) i)) ∙ right in
      let own : c' n Height ≡ c n Height = same.fields n Height slot.1 (λ e. cc) in
      subst (λ (x : ℕ). IsInBalanceOver x (height_at c' (c' n Right)) (c' n Height)) (sym same_left)
      (subst (λ (x : ℕ). IsInBalanceOver (height_at c (c n Left)) x (c' n Height)) (sym same_right)
      (subst (IsInBalanceOver (height_at c (c n Left)) (height_at c (c n Right))) (sym own) balance))

  debt_same : (kind : Kind) (k : ℕ) → IsSound (tree_form kind) slots c → in_debt_of kind slots c' k
      → in_debt_of kind slots c k
  debt_same plain k sound debt = debt
  debt_same balanced k sound debt =
      let s : IsSearchTree balanced slots c sound.0 = sound.1 in
      let n : ℕ = debt.node in
      let even : IsEven (c n Version) = sym (same.parity n debt.slot.1) ∙ debt.unmarked in
      let node : NodeOfTree balanced slots c n =
      node_of_tree balanced slots c s.tree 1 (c 1 Left) n s.spelled (s.covered n debt.slot even) in
      record {
        node = n;
        slot = debt.slot;
        unmarked = even;
        key = sym (same.fields n Key debt.slot.1 (λ e. cc)) ∙ debt.key;
        out_of_balance = λ balance. debt.out_of_balance (balance_same balanced n node balance);
      }

-- The laws

pub tree_form_laws : (kind : Kind) → FormLaws (tree_form kind)
tree_form_laws kind = record {
  parity = λ slots c c' ps same s. search_tree_parity kind slots c c' same ps s;
  debt_parity = λ slots c c' k same s debt. debt_same slots c c' same kind k s debt;
  full = λ slots c ps s all. search_tree_full kind slots c ps s all;
  sentinel = λ slots c ps s. s.unmarked;
}

pub ordered_form_laws : FormLaws ordered_form
ordered_form_laws = record {
  parity = λ slots c c' ps same s. (s.0, search_tree_parity s.0 slots c c' same ps s.1);
  debt_parity = λ slots c c' k same s debt.
      let kind : Kind = debt.0 in
      let before : IsSound (tree_form kind) slots c =
      (debt.1.0, search_tree_parity kind slots c' c (same_back slots c c' same) debt.1.0 debt.1.1) in
      (kind, before, debt_same slots c c' same kind k before debt.2);
  full = λ slots c ps s all. search_tree_full s.0 slots c ps s.1 all;
  sentinel = λ slots c ps s. s.1.unmarked;
}
