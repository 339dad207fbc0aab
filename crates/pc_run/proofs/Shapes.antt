-- The shape that is printed is that of a tree of the kind that was asked for, with the pairs that are left.
use Rattle.std.proofs.Common.{◌≡◌, Bool, true, false, List, Option, Some, None, sym, subst}
use Rattle.pc_model.specs.Map.{Pairs}
use Rattle.pc_model.specs.Replay.{fold_of}
use Rattle.pc_model.specs.Trees.{IsSearchTree}
use Rattle.pc_text.specs.declared.shape.ShapeLine.{ShapeLine}
use Rattle.pc_plain.specs.PlainCells.{cells_of}
use Rattle.pc_plain.specs.PlainShapes.{IsShapeOf}
use Rattle.pc_avl.specs.declared.tree_kind.TreeKind.{TreeKind}
use Rattle.pc_avl.specs.declared.tree_kind.TreeKind.TheVariants.{Bst, Avl}
use Rattle.pc_avl.specs.TreeKinds.{kind_of}
use Rattle.pc_locked.specs.States.{MapState, IsRightState}
use Rattle.pc_run.specs.Runs.{IsShapeOfPairs, IsListedIfAsked, IsSettled}

module _ (s : MapState) (settled : IsSettled s) (lines : List ShapeLine) (shape : IsShapeOf s.cells lines) where
  shape_of_kind : (kind : TreeKind) → s.kind ≡ kind → (ps : Pairs)
      → IsSearchTree (kind_of kind) s.cells.slots (cells_of s.cells) ps → IsShapeOfPairs (kind_of kind) ps lines
  shape_of_kind Bst is ps tree = record {
    slots = s.cells.slots;
    cells = cells_of s.cells;
    search = tree;
    in_balance = λ e. absurd (cc);
    shape = shape (kind_of Bst) ps tree;
  }
  shape_of_kind Avl is ps tree = record {
    slots = s.cells.slots;
    cells = cells_of s.cells;
    search = tree;
    in_balance = λ e. settled is ps tree;
    shape = shape (kind_of Avl) ps tree;
  }

  pub shape_of_state : (kind : TreeKind) → s.kind ≡ kind → IsRightState s → (ps : Pairs) → ps ≡ fold_of s.entries
      → IsShapeOfPairs (kind_of kind) ps lines
  shape_of_state kind is right ps left = shape_of_kind kind is ps
      (subst (λ (k : TreeKind). IsSearchTree (kind_of k) s.cells.slots (cells_of s.cells) ps) is
      (subst (IsSearchTree (kind_of s.kind) s.cells.slots (cells_of s.cells)) (sym left) right.tree))

-- lines that are listed are such lines too
pub listed_as : (asked : Bool) (IsIt IsThat : List ShapeLine → Type 0) (o : Option (List ShapeLine))
    → ((lines : List ShapeLine) → IsIt lines → IsThat lines) → IsListedIfAsked asked IsIt o
    → IsListedIfAsked asked IsThat o
listed_as true IsIt IsThat None weaken h = absurd h
listed_as true IsIt IsThat (Some lines) weaken h = weaken lines h
listed_as false IsIt IsThat o weaken h = h
