-- What a run leaves: the history of the map with its pairs, and the shape of its tree.
use Rattle.std.specs.Prelude.{◌≡◌, ℕ, Bool, true, false, List, length, Option, IsNone, IsSomeAnd, option_map}
use Rattle.std.specs.Prelude.{Vec}
use Rattle.pc_model.specs.declared.call.Call.{Call}
use Rattle.pc_model.specs.declared.call.Entry.{Entry}
use Rattle.pc_model.specs.Map.{Pairs, IsRising}
use Rattle.pc_model.specs.Replay.{fold_of, IsRight}
use Rattle.pc_model.specs.History.{IsHistoryOf, IsNumberedFrom, AreOfClients, entries_of}
use Rattle.pc_model.specs.Trees.{Kind, balanced, IsSearchTree}
use Rattle.pc_model.specs.Heights.{IsBalanced}
use Rattle.pc_model.specs.Cells.{Cells}
use Rattle.pc_text.specs.declared.limits.TheConstants.{MOST_CLIENTS}
use Rattle.pc_text.specs.declared.shape.ShapeLine.{ShapeLine}
use Rattle.pc_text.specs.Shapes.{shape_of}
use Rattle.pc_avl.specs.declared.tree_kind.TreeKind.TheVariants.{Avl}
use Rattle.pc_locked.specs.Repairs.{IsInFullBalance}
use Rattle.pc_locked.specs.States.{MapState}

-- one history of a map: each reply is what a sorted map gives at that place, the pairs are the map that is left, by
-- rising key, and the entries of each client are numbered 1, 2 and so on
pub record IsMapHistory (history : List Entry) (pairs : Pairs) : Type 0 where
  pub right : IsRight history
  pub left : pairs ≡ fold_of history
  pub rising : IsRising pairs
  pub numbered : (client : ℕ) → IsNumberedFrom 1 (entries_of client history)
  pub of_clients : AreOfClients MOST_CLIENTS history

-- What a run of a script leaves is one history of a map. Where the script has one client, it is one history of all
-- clients: each call stands there once, in its client's order, and nothing else does. What several clients did behind
-- their lock no clause tells.
pub record IsRunOf (script : List (List Call)) (history : List Entry) (pairs : Pairs) : Type 0 where
  pub map : IsMapHistory history pairs
  pub of_one_client : length script ≡ 1 → IsHistoryOf script history

-- the shape of some sound cells of this kind of tree with these pairs; a tree of the balanced kind is in balance
pub record IsShapeOfPairs (kind : Kind) (pairs : Pairs) (lines : List ShapeLine) : Type 0 where
  pub slots : ℕ
  pub cells : Cells
  pub search : IsSearchTree kind slots cells pairs
  pub in_balance : kind ≡ balanced → IsBalanced cells search.tree
  pub shape : lines ≡ shape_of cells 1 search.tree

-- where lines are asked for these are they; else there are none
abbrev pub IsListedIfAsked : Bool → (List ShapeLine → Type 0) → Option (List ShapeLine) → Type 0
IsListedIfAsked true IsIt lines = IsSomeAnd lines IsIt
IsListedIfAsked false IsIt lines = IsNone lines

-- where a shape is asked for it is that of such a tree; else there is none
abbrev pub IsShapeIfAsked : Kind → Bool → Pairs → Option (List ShapeLine) → Type 0
IsShapeIfAsked kind asked pairs shape = IsListedIfAsked asked (IsShapeOfPairs kind pairs) shape

module _ {Z : Type 0} where
  -- the lines of a shape, if there is one
  abbrev pub lines_of : Option (Vec ShapeLine Z) → Option (List ShapeLine)
  lines_of = option_map (λ lines. lines.items)

-- a balanced tree is in full balance
abbrev pub IsSettled : MapState → Type 0
IsSettled s = s.kind ≡ Avl → IsInFullBalance s.cells
