-- How a repair ends on cells that stand still where it makes no rotation.
use Rattle.std.specs.Prelude.{◌≡◌, ℕ, ◌==◌, if◌then◌else◌, List, Option, Some, None}
use Rattle.pc_model.specs.declared.cell.Field.TheVariants.{Height as HeightField}
use Rattle.pc_model.specs.Cells.{Cells}
use Rattle.pc_model.specs.Debts.{has}
use Rattle.pc_model.specs.TreeForms.{height_over}
use Rattle.pc_plan.specs.declared.plan.Ask.{Ask}
use Rattle.pc_plan.specs.declared.plan.Ask.TheVariants.{Change, Answer}
use Rattle.pc_plan.specs.NodeChanges.{planned_by}
use Rattle.pc_avl.specs.declared.look.Looked.{Looked}
use Rattle.pc_avl.specs.declared.repair.Aim.{Aim}
use Rattle.pc_avl.specs.declared.repair.Repair.{Repair}
use Rattle.pc_avl.specs.declared.repair.Upper.{Upper}
use Rattle.pc_avl.specs.RepairChanges.{reheighting}
use Rattle.pc_avl.specs.Repairs.{balanced_reply}

-- No node is kept but the one above, and perhaps one at the place of the node itself.
pub record IsBlank (r : Repair) : Type 0 where
  pub last : r.last.above.node ≡ 0
  pub left : r.left.node ≡ 0
  pub right : r.right.node ≡ 0
  pub outer : r.outer.node ≡ 0
  pub inner : r.inner.node ≡ 0
  pub near : r.near.node ≡ 0
  pub far : r.far.node ≡ 0

-- the number of a node, or 0
abbrev pub number_of : Option ℕ → ℕ
number_of None = 0
number_of (Some n) = n

-- the stored height of a node that was not met, or 0
abbrev pub height_at : Cells → List ℕ → Option ℕ → Option ℕ
height_at c met None = Some 0
height_at c met (Some n) = if has n met then None else Some (c n HeightField)

-- the end over nodes of these heights, which are close
abbrev pub closing : Aim → Upper → Looked → ℕ → ℕ → Ask
closing aim above node left right =
    if node.height == height_over left right then Answer (balanced_reply aim node.key)
    else Change (planned_by (reheighting above.above above.key node (height_over left right)))
