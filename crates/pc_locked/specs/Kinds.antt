-- The kinds of trees by their numbers.
use Rattle.std.specs.Prelude.{ℕ, zero, suc}
use Rattle.pc_avl.specs.declared.tree_kind.TreeKind.{TreeKind}
use Rattle.pc_avl.specs.declared.tree_kind.TreeKind.TheVariants.{Bst, Avl}

-- the kind with this number, and the balanced one past the last
abbrev pub kind_numbered : ℕ → TreeKind
kind_numbered zero = Bst
kind_numbered (suc n) = Avl
