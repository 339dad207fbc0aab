-- The pairs of the tree that plain cells spell.
use Rattle.std.specs.Prelude.{◌≡◌}
use Rattle.pc_model.specs.Map.{Pairs}
use Rattle.pc_model.specs.Trees.{Kind, IsSearchTree}
use Rattle.pc_plain.specs.PlainCells.{PlainWords, cells_of}

-- the cells are a search tree, of whichever kind
abbrev pub SpellsTree : PlainWords → Type 0
SpellsTree w = (kind : Kind) × (ps : Pairs) × IsSearchTree kind w.slots (cells_of w) ps

-- these are the pairs of the search tree
abbrev pub ArePairsOf : PlainWords → Pairs → Type 0
ArePairsOf w qs = (kind : Kind) (ps : Pairs) → IsSearchTree kind w.slots (cells_of w) ps → qs ≡ ps
