-- The shape of a tree: a line for each node, a node before its left side and that before its right side.
use Rattle.std.specs.Prelude.{ℕ, ◌+◌, ℤ, pos, ◌-ℤ◌, List, [], ◌∷◌, ◌++◌}
use Rattle.pc_model.specs.declared.cell.Field.TheVariants.{Key}
use Rattle.pc_model.specs.Cells.{Cells}
use Rattle.pc_model.specs.Trees.{Tree, Empty, Fork}
use Rattle.pc_model.specs.Heights.{height_of}
use Rattle.pc_text.specs.declared.shape.ShapeLine.{ShapeLine}

-- the height of the left side less that of the right side
abbrev pub balance_of : Tree → Tree → ℤ
balance_of left right = pos (height_of left) -ℤ pos (height_of right)

-- the lines of a tree whose root lies at a depth
abbrev pub shape_of : Cells → ℕ → Tree → List ShapeLine
shape_of c depth Empty = []
shape_of c depth (Fork n l r) = record {
  depth = depth;
  key = c n Key;
  height = height_of (Fork n l r);
  balance = balance_of l r;
} ∷ (shape_of c (depth + 1) l ++ shape_of c (depth + 1) r)
