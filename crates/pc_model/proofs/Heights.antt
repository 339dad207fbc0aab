-- True heights: no key is in debt exactly where the tree is balanced by true heights, and a balanced tree
-- is shallow.
use Rattle.std.proofs.Common.{◌≡◌, ℕ, zero, suc, ◌+◌, ◌*◌, ◌^◌, ◌≤◌, ◌⊎◌, ◌↔◌, ◌==◌, false, inl, inr, ⊎_elim}
use Rattle.std.proofs.Common.{length, max}
use Rattle.std.proofs.Common.{refl, sym, ap, ◌∙◌, subst, arith}
use Rattle.std.proofs.lemmas.Bool.{cases_eq, cases_lt, ne_eqb, cond-false}
use Rattle.pc_model.specs.declared.cell.Field.TheVariants.{Key, Left, Right, Height}
use Rattle.pc_model.specs.Map.{Pairs}
use Rattle.pc_model.specs.Cells.{Cells, IsSlot}
use Rattle.pc_model.specs.Trees.{Tree, Empty, Fork, Kind, balanced, Spells, IsIn, size_of, IsSearchTree}
use Rattle.pc_model.specs.TreeForms.{greatest_height, height_at, height_over, IsInBalanceOver, IsInBalance}
use Rattle.pc_model.specs.TreeForms.{InDebt}
use Rattle.pc_model.specs.Heights.{height_of, IsBalanced}
use Rattle.pc_model.specs.HeightLaws.{IsBalancedWithoutDebts}
use Rattle.pc_model.proofs.Framing.{slot_in, unmarked_in}
use Rattle.pc_model.proofs.Counting.{length-pairs_of}

pub height-le-size : (t : Tree) → height_of t ≤ size_of t
height-le-size Empty = omega arith
height-le-size (Fork n l r) =
    let left : height_of l ≤ size_of l = height-le-size l in
    let right : height_of r ≤ size_of r = height-le-size r in
    omega arith

balance_or_not : (a b own : ℕ) → IsInBalanceOver a b own ⊎ (IsInBalanceOver a b own → ⊥)
balance_or_not a b own = ⊎_elim
    (λ e. ⊎_elim (λ lt. inr (λ is. absurd (omega arith)))
    (λ left. ⊎_elim (λ lt. inr (λ is. absurd (omega arith))) (λ right. inl (e, (left, right))) (cases_lt (a + 1) b))
    (cases_lt (b + 1) a))
    (λ ne. inr (λ is. ne is.0))
    (cases_eq own (height_over a b))

-- where the children's stored heights are true and do not come to the end, a node is in balance by its
-- true height
over_true : (a b own : ℕ) → suc (max a b) ≤ greatest_height → (own ≡ height_over a b) ↔ (own ≡ suc (max a b))
over_true a b own small = (λ e. omega arith, λ e. omega arith)

-- a balanced tree of a height has many nodes
pub balanced_size : (c : Cells) (t : Tree) → IsBalanced c t → (k : ℕ) → 2 * k ≤ height_of t → 2 ^ k ≤ size_of t + 1
balanced_size c t is zero le = omega arith
balanced_size c Empty is (suc k) le = absurd (omega arith)
balanced_size c (Fork n l r) is (suc k) le =
    let left : 2 ^ k ≤ size_of l + 1 = balanced_size c l is.2 k (omega arith) in
    let right : 2 ^ k ≤ size_of r + 1 = balanced_size c r is.3 k (omega arith) in
    omega arith

module _ (kind : Kind) (slots : ℕ) (c : Cells) where
  -- the stored height at a link to a balanced tree is its height
  height_at_tree : (t : Tree) (above link : ℕ)
      → Spells kind slots c t above link → IsBalanced c t → height_at c link ≡ height_of t
  height_at_tree Empty above link s is = rw s refl
  height_at_tree (Fork n l r) above link s is =
      let slot : IsSlot slots n = s.1.slot in
      let some : (n == 0) ≡ false = ne_eqb n 0 (λ e. absurd (omega arith)) in
      rw s.0 (cond-false (n == 0) 0 (c n Height) some ∙ is.0)

  pub balanced_by_nodes : (t : Tree) (above link : ℕ) → Spells kind slots c t above link
      → size_of t ≤ greatest_height → ((n : ℕ) → IsIn n t → IsInBalance c n) → IsBalanced c t
  balanced_by_nodes Empty above link s few each = tt
  balanced_by_nodes (Fork n l r) above link s few each =
      let left : IsBalanced c l =
      balanced_by_nodes l n (c n Left) s.2 (omega arith) (λ m i. each m (inr (inl i))) in
      let right : IsBalanced c r =
      balanced_by_nodes r n (c n Right) s.3 (omega arith) (λ m i. each m (inr (inr i))) in
      let at_left : height_at c (c n Left) ≡ height_of l = height_at_tree l n (c n Left) s.2 left in
      let at_right : height_at c (c n Right) ≡ height_of r = height_at_tree r n (c n Right) s.3 right in
      let here : IsInBalanceOver (height_of l) (height_of r) (c n Height) =
      rw (at_left, at_right) at (each n (inl refl)) in
      let small : height_of (Fork n l r) ≤ size_of (Fork n l r) = height-le-size (Fork n l r) in
      ((over_true (height_of l) (height_of r) (c n Height) (omega arith)).0 here.0, here.1, left, right)

  pub nodes_balanced : (t : Tree) (above link n : ℕ) → Spells kind slots c t above link
      → size_of t ≤ greatest_height → IsBalanced c t → IsIn n t → IsInBalance c n
  nodes_balanced Empty above link n s few is i = absurd i
  nodes_balanced (Fork m l r) above link n s few is i =
      let at_left : height_at c (c m Left) ≡ height_of l = height_at_tree l m (c m Left) s.2 is.2 in
      let at_right : height_at c (c m Right) ≡ height_of r = height_at_tree r m (c m Right) s.3 is.3 in
      let small : height_of (Fork m l r) ≤ size_of (Fork m l r) = height-le-size (Fork m l r) in
      let true_here : IsInBalanceOver (height_of l) (height_of r) (c m Height) =
      ((over_true (height_of l) (height_of r) (c m Height) (omega arith)).1 is.0, is.1) in
      let here : IsInBalance c m = rw (at_left, at_right) true_here in
      ⊎_elim (λ e. subst (IsInBalance c) (sym e) here)
      (λ below. ⊎_elim
      (λ j. nodes_balanced l m (c m Left) n s.2 (omega arith) is.2 j)
      (λ j. nodes_balanced r m (c m Right) n s.3 (omega arith) is.3 j) below) i

module _ (slots : ℕ) (c : Cells) (ps : Pairs) (s : IsSearchTree balanced slots c ps) where
  size_is : size_of s.tree ≡ length ps
  size_is = sym (length-pairs_of c s.tree) ∙ ap length s.pairs

  balanced_without_debts : length ps ≤ greatest_height → ((k : ℕ) → InDebt slots c k → ⊥) → IsBalanced c s.tree
  balanced_without_debts few none =
      let size : size_of s.tree ≡ length ps = size_is in
      let each : (n : ℕ) → IsIn n s.tree → IsInBalance c n = λ n i. ⊎_elim (λ is. is)
      (λ out. absurd (none (c n Key) (record {
        node = n;
        slot = slot_in balanced slots c s.tree 1 (c 1 Left) n s.spelled i;
        unmarked = unmarked_in balanced slots c s.tree 1 (c 1 Left) n s.spelled i;
        key = refl;
        out_of_balance = out;
      })))
      (balance_or_not (height_at c (c n Left)) (height_at c (c n Right)) (c n Height)) in
      balanced_by_nodes balanced slots c s.tree 1 (c 1 Left) s.spelled (omega arith) each

  no_debts_in_balanced : length ps ≤ greatest_height → IsBalanced c s.tree → (k : ℕ) → InDebt slots c k → ⊥
  no_debts_in_balanced few is k debt =
      let size : size_of s.tree ≡ length ps = size_is in
      debt.out_of_balance (nodes_balanced balanced slots c s.tree 1 (c 1 Left) debt.node s.spelled (omega arith) is
      (s.covered debt.node debt.slot debt.unmarked))

  shallow : IsBalanced c s.tree → (k : ℕ) → 2 * k ≤ height_of s.tree → 2 ^ k ≤ length ps + 1
  shallow is k le =
      let size : size_of s.tree ≡ length ps = size_is in
      let many : 2 ^ k ≤ size_of s.tree + 1 = balanced_size c s.tree is k le in
      omega arith

pub is_balanced_without_debts : IsBalancedWithoutDebts
is_balanced_without_debts = record {
  exactly = λ slots c ps s few. (balanced_without_debts slots c ps s few, no_debts_in_balanced slots c ps s few);
  shallow = shallow;
}
