-- True heights of trees, and when a tree of cells is balanced.
use Rattle.std.specs.Prelude.{◌≡◌, ℕ, suc, max}
use Rattle.pc_model.specs.declared.cell.Field.TheVariants.{Height}
use Rattle.pc_model.specs.Cells.{Cells}
use Rattle.pc_model.specs.Trees.{Tree, Empty, Fork}
use Rattle.pc_model.specs.TreeForms.{AreClose}

-- 0 for the empty tree, else one more than the greater height of its two sides
abbrev pub height_of : Tree → ℕ
height_of Empty = 0
height_of (Fork n l r) = suc (max (height_of l) (height_of r))

-- each node stores its true height, and the true heights of its two sides differ by at most one
abbrev pub IsBalanced : Cells → Tree → Type 0
IsBalanced c Empty = Unit {0}
IsBalanced c (Fork n l r) =
    (c n Height ≡ height_of (Fork n l r)) × AreClose (height_of l) (height_of r) × IsBalanced c l × IsBalanced c r
