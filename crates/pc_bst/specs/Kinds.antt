-- The kinds of search trees, what a fresh leaf of each has, and whose keys a change charges.
use Rattle.std.specs.Prelude.{ℕ, ◌==◌, if◌then◌else◌, List, [], ◌∷◌, ◌++◌}
use Rattle.pc_model.specs.Trees.{Kind, plain, balanced}
use Rattle.pc_plan.specs.Planned.{Planned}
use Rattle.pc_bst.specs.declared.kind.NodeKind.{NodeKind}
use Rattle.pc_bst.specs.declared.kind.NodeKind.TheVariants.{Plain, Balanced}

abbrev pub kind_of : NodeKind → Kind
kind_of Plain = plain
kind_of Balanced = balanced

-- a fresh leaf of a plain tree has no parent and no height
abbrev pub leaf_parent : NodeKind → ℕ → ℕ
leaf_parent Plain above = 0
leaf_parent Balanced above = above

abbrev pub leaf_height : NodeKind → ℕ
leaf_height Plain = 0
leaf_height Balanced = 1

-- the key of a node, unless the node is the sentinel
abbrev pub key_unless_sentinel : ℕ → ℕ → List ℕ
key_unless_sentinel n key = if n == 1 then [] else key ∷ []

-- where a leaf comes to hang below a node, a balanced tree charges that node's key
abbrev pub leaf_charges : NodeKind → ℕ → ℕ → List ℕ
leaf_charges Plain above key = []
leaf_charges Balanced above key = key_unless_sentinel above key

abbrev pub with_key_charged : Planned → ℕ → ℕ → Planned
with_key_charged p n key = record p { charged = p.charged ++ key_unless_sentinel n key }
