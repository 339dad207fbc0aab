-- The pairs of the tree are the map that the history leaves, and the shape is that of the tree.
use Rattle.std.proofs.Common.{◌≡◌, sym, subst}
use Rattle.pc_model.specs.Map.{Pairs, IsRising}
use Rattle.pc_model.specs.Replay.{fold_of}
use Rattle.pc_plain.specs.PlainCells.{PlainWords}
use Rattle.pc_plain.specs.PlainPairs.{ArePairsOf}
use Rattle.pc_plain.specs.PlainShapes.{IsShapeOf}
use Rattle.pc_avl.specs.TreeKinds.{kind_of}
use Rattle.pc_locked.specs.States.{MapState, IsRightState}
use Rattle.pc_run.specs.Runs.{IsShapeOfPairs, lines_of}
use Rattle.pc_run.proofs.Shapes.{shape_of_state, listed_as}
use Rattle.pc_run.proofs.run.run_script.Goals as goal

pub returns-clause-run : goal.returns-clause-run
returns-clause-run g c =
    let s : MapState = c.in_ok-map.map in
    let right : IsRightState s = c.cells.ensures.right in
    let pairs : Pairs = c.in_ok-pairs.pairs.items in
    let listed : ArePairsOf s.cells pairs
    = subst (λ (w : PlainWords). ArePairsOf w pairs) c.cells.ensures.cells c.in_ok-pairs.ensures in
    let left : pairs ≡ fold_of s.entries = listed (kind_of s.kind) (fold_of s.entries) right.tree in
    record {
      map = record {
        right = right.right;
        left = left;
        rising = subst IsRising (sym left) right.tree.rising;
        numbered = right.numbered;
        of_clients = right.of_passes;
      };
      of_one_client = c.in_ok-map.ensures.of_one_client;
    }

pub returns-clause-shape : goal.returns-clause-shape
returns-clause-shape g c =
    let s : MapState = c.in_ok-map.map in
    let right : IsRightState s = c.cells.ensures.right in
    let pairs : Pairs = c.in_ok-pairs.pairs.items in
    let listed : ArePairsOf s.cells pairs
    = subst (λ (w : PlainWords). ArePairsOf w pairs) c.cells.ensures.cells c.in_ok-pairs.ensures in
    listed_as c.args.options.shape (IsShapeOf c.cells-2.result.now) (IsShapeOfPairs (kind_of c.args.options.tree) pairs)
    (lines_of c.in_ok-shape.shape)
    (λ lines shape. shape_of_state s c.in_ok-map.ensures.settled lines
    (subst (λ (w : PlainWords). IsShapeOf w lines) c.cells-2.ensures.cells shape) c.args.options.tree
    c.in_ok-map.ensures.kind right pairs (listed (kind_of s.kind) (fold_of s.entries) right.tree))
    c.in_ok-shape.ensures
