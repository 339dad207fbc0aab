-- Reading the tree from cells, by turns: a turn is one step down.
use Rattle.std.specs.Prelude.{◌≡◌, ℕ, zero, suc, Option, Some, None}
use Rattle.pc_model.specs.declared.cell.Field.TheVariants.{Version, Left, Right, Parent}
use Rattle.pc_model.specs.Map.{Pairs, IsRising, AreSmall}
use Rattle.pc_model.specs.Cells.{Cells, IsEven, IsSlot}
use Rattle.pc_model.specs.Counts.{count}
use Rattle.pc_model.specs.Trees.{Tree, Empty, Fork, Kind, IsOfKind, nodes_of, pairs_of}

-- the fork of two trees, where both could be read
abbrev pub forked : ℕ → Option Tree → Option Tree → Option Tree
forked n None right = None
forked n (Some l) None = None
forked n (Some l) (Some r) = Some (Fork n l r)

-- the tree that a link leads to: the empty one at 0, and none where the turns run out
abbrev pub read_tree : ℕ → Cells → ℕ → Option Tree
read_tree turns c zero = Some Empty
read_tree zero c (suc n) = None
read_tree (suc turns) c (suc n) =
    forked (suc n) (read_tree turns c (c (suc n) Left)) (read_tree turns c (c (suc n) Right))

-- a slot that is not marked
abbrev pub IsInUse : ℕ → Cells → ℕ → Type 0
IsInUse slots c n = IsSlot slots n × IsEven (c n Version)

-- each node of a tree that hangs below a node meets what its kind asks
abbrev pub AreOfKind : Kind → Cells → Tree → ℕ → Type 0
AreOfKind kind c Empty above = Unit {0}
AreOfKind kind c (Fork n l r) above = IsOfKind kind c above n × AreOfKind kind c l n × AreOfKind kind c r n

-- The tree that the sentinel's left link leads to, read in as many turns as there are slots, has each slot
-- in use once and no other node. Its nodes are of the kind, and its pairs are these, with keys that rise
-- strictly. The sentinel is unmarked and has no right and no parent.
pub record IsReadSearchTree (kind : Kind) (slots : ℕ) (c : Cells) (ps : Pairs) : Type 0 where
  pub tree : Tree
  pub read : read_tree slots c (c 1 Left) ≡ Some tree
  pub once : (n : ℕ) → IsInUse slots c n → count n (nodes_of tree) ≡ 1
  pub no_other : (n : ℕ) → (IsInUse slots c n → ⊥) → count n (nodes_of tree) ≡ 0
  pub of_kind : AreOfKind kind c tree 1
  pub pairs : pairs_of c tree ≡ ps
  pub rising : IsRising ps
  pub small : AreSmall ps
  pub unmarked : IsEven (c 1 Version)
  pub no_right : c 1 Right ≡ 0
  pub no_parent : c 1 Parent ≡ 0
