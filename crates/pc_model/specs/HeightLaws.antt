-- What no debts say of a balanced search tree: it is balanced by true heights, and so it is shallow.
use Rattle.std.specs.Prelude.{ℕ, ◌+◌, ◌*◌, ◌^◌, ◌≤◌, ◌↔◌, length}
use Rattle.pc_model.specs.Map.{Pairs}
use Rattle.pc_model.specs.Cells.{Cells}
use Rattle.pc_model.specs.Trees.{balanced, IsSearchTree}
use Rattle.pc_model.specs.TreeForms.{greatest_height, InDebt}
use Rattle.pc_model.specs.Heights.{height_of, IsBalanced}

-- no key is in debt exactly where the tree is balanced, as long as stored heights can tell
pub record IsBalancedWithoutDebts : Type 0 where
  pub exactly : (slots : ℕ) (c : Cells) (ps : Pairs) (s : IsSearchTree balanced slots c ps)
      → length ps ≤ greatest_height → ((k : ℕ) → InDebt slots c k → ⊥) ↔ IsBalanced c s.tree
  pub shallow : (slots : ℕ) (c : Cells) (ps : Pairs) (s : IsSearchTree balanced slots c ps)
      → IsBalanced c s.tree → (k : ℕ) → 2 * k ≤ height_of s.tree → 2 ^ k ≤ length ps + 1
