-- The kind of tree that stands under a lock.
use Rattle.pc_avl.specs.declared.tree_kind.TreeKind.{TreeKind}
use Rattle.pc_avl.specs.declared.tree_kind.TreeKind.TheVariants.{Bst, Avl}
use Rattle.pc_locked.specs.declared.locked_map.Locked.{Locked}
use Rattle.pc_locked.specs.declared.locked_map.Locked.TheVariants.{Plain, Balanced}

abbrev pub kind_under : Locked → TreeKind
kind_under (Plain lock) = Bst
kind_under (Balanced lock) = Avl
