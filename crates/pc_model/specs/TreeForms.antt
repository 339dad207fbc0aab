-- The forms of search trees of cells: of one kind, and of either kind. A key is in debt where a node of
-- a balanced tree that has it is out of balance; in a plain tree no key is in debt.
use Rattle.std.specs.Prelude.{◌≡◌, ℕ, ◌+◌, ◌≤◌, ◌==◌, min, max, if◌then◌else◌}
use Rattle.pc_model.specs.declared.cell.Field.TheVariants.{Version, Key, Left, Right, Height}
use Rattle.pc_model.specs.Cells.{Cells, IsEven, IsSlot}
use Rattle.pc_model.specs.Trees.{Kind, plain, balanced, IsSearchTree}
use Rattle.pc_model.specs.Forms.{Form, IsSound}

-- where stored heights end
abbrev pub greatest_height : ℕ
greatest_height = 4611686018427387903

-- the stored height at a link: 0 where it names no node
abbrev pub height_at : Cells → ℕ → ℕ
height_at c link = if link == 0 then 0 else c link Height

-- one more than the greater of two stored heights
abbrev pub height_over : ℕ → ℕ → ℕ
height_over a b = min greatest_height (max a b + 1)

-- two stored heights differ by at most one
abbrev pub AreClose : ℕ → ℕ → Type 0
AreClose a b = (a ≤ b + 1) × (b ≤ a + 1)

-- a node whose children have these stored heights is right to store this one, and they are close
abbrev pub IsInBalanceOver : ℕ → ℕ → ℕ → Type 0
IsInBalanceOver left right own = (own ≡ height_over left right) × AreClose left right

-- a node stores one more than the greater of its children's stored heights, which are close
abbrev pub IsInBalance : Cells → ℕ → Type 0
IsInBalance c n = IsInBalanceOver (height_at c (c n Left)) (height_at c (c n Right)) (c n Height)

-- a slot in use has the key and is out of balance
pub record InDebt (slots : ℕ) (c : Cells) (k : ℕ) : Type 0 where
  pub node : ℕ
  pub slot : IsSlot slots node
  pub unmarked : IsEven (c node Version)
  pub key : c node Key ≡ k
  pub out_of_balance : IsInBalance c node → ⊥

abbrev pub in_debt_of : Kind → ℕ → Cells → ℕ → Type 0
in_debt_of plain slots c k = ⊥
in_debt_of balanced slots c k = InDebt slots c k

-- search trees of one kind
abbrev pub tree_form : Kind → Form
tree_form kind = record { sound = IsSearchTree kind; in_debt = in_debt_of kind }

-- search trees of either kind
abbrev pub ordered_form : Form
ordered_form = record {
  sound = λ slots c ps. (kind : Kind) × IsSearchTree kind slots c ps;
  in_debt = λ slots c k. (kind : Kind) × IsSound (tree_form kind) slots c × in_debt_of kind slots c k;
}
