-- The shape of the tree that plain cells spell.
use Rattle.std.specs.Prelude.{◌≡◌, List}
use Rattle.pc_model.specs.Map.{Pairs}
use Rattle.pc_model.specs.Trees.{Kind, IsSearchTree}
use Rattle.pc_text.specs.declared.shape.ShapeLine.{ShapeLine}
use Rattle.pc_text.specs.Shapes.{shape_of}
use Rattle.pc_plain.specs.PlainCells.{PlainWords, cells_of}

-- these are the lines of the search tree, whose root lies at depth 1
abbrev pub IsShapeOf : PlainWords → List ShapeLine → Type 0
IsShapeOf w lines = (kind : Kind) (ps : Pairs) (search : IsSearchTree kind w.slots (cells_of w) ps)
    → lines ≡ shape_of (cells_of w) 1 search.tree
