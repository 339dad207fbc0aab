-- The kinds of search trees, as kinds of cells.
use Rattle.pc_model.specs.Trees.{Kind, plain, balanced}
use Rattle.pc_avl.specs.declared.tree_kind.TreeKind.{TreeKind}
use Rattle.pc_avl.specs.declared.tree_kind.TreeKind.TheVariants.{Bst, Avl}

abbrev pub kind_of : TreeKind → Kind
kind_of Bst = plain
kind_of Avl = balanced
