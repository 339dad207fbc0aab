-- The tree that cells spell, read from the sentinel's left link, and when cells are sound.
use Rattle.std.specs.Prelude.{◌≡◌, ℕ, suc, ◌+◌, ◌^◌, ◌<◌, ◌⊎◌, List, [], ◌∷◌, ◌++◌}
use Rattle.pc_model.specs.declared.cell.Field.TheVariants.{Version, Key, Value, Left, Right, Parent, Height}
use Rattle.pc_model.specs.Map.{Pairs, IsRising, AreSmall}
use Rattle.pc_model.specs.Cells.{Cells, IsEven, IsSlot}

-- a binary tree of nodes
pub data Tree : Type 0 where
  Empty : Tree
  Fork : ℕ → Tree → Tree → Tree

-- the plain tree, and the one with parents and stored heights
pub data Kind : Type 0 where
  plain : Kind
  balanced : Kind

-- what a kind of tree asks of a node that hangs below another
abbrev pub IsOfKind : Kind → Cells → ℕ → ℕ → Type 0
IsOfKind plain c above n = (c n Parent ≡ 0) × (c n Height ≡ 0)
IsOfKind balanced c above n = (c n Parent ≡ above) × (c n Height < 2 ^ 62)

-- the parent of a node that comes to hang below another: a plain tree has no parents, so none changes
abbrev pub parent_for : Kind → ℕ → ℕ → ℕ
parent_for plain above old = old
parent_for balanced above old = above

-- a node of the tree is a slot in use, of the tree's kind
pub record IsTreeNode (kind : Kind) (slots : ℕ) (c : Cells) (above n : ℕ) : Type 0 where
  pub slot : IsSlot slots n
  pub unmarked : IsEven (c n Version)
  pub of_kind : IsOfKind kind c above n

-- a link below a node spells a tree
abbrev pub Spells : Kind → ℕ → Cells → Tree → ℕ → ℕ → Type 0
Spells kind slots c Empty above link = link ≡ 0
Spells kind slots c (Fork n l r) above link = (link ≡ n) × IsTreeNode kind slots c above n
    × Spells kind slots c l n (c n Left) × Spells kind slots c r n (c n Right)

-- a node stands in a tree
abbrev pub IsIn : ℕ → Tree → Type 0
IsIn n Empty = ⊥
IsIn n (Fork m l r) = (n ≡ m) ⊎ (IsIn n l ⊎ IsIn n r)

-- how many nodes a tree has
abbrev pub size_of : Tree → ℕ
size_of Empty = 0
size_of (Fork n l r) = suc (size_of l + size_of r)

-- the nodes of a tree in order
abbrev pub nodes_of : Tree → List ℕ
nodes_of Empty = []
nodes_of (Fork n l r) = nodes_of l ++ (n ∷ nodes_of r)

abbrev pub pair_of : Cells → ℕ → ℕ × ℕ
pair_of c n = (c n Key, c n Value)

-- keys and values in order
abbrev pub pairs_of : Cells → Tree → Pairs
pairs_of c Empty = []
pairs_of c (Fork n l r) = pairs_of c l ++ (pair_of c n ∷ pairs_of c r)

-- The cells are a search tree with these pairs: the sentinel's left link spells a tree that has every
-- unmarked slot, whose keys rise strictly from left to right. The sentinel is unmarked and has no right
-- and no parent.
pub record IsSearchTree (kind : Kind) (slots : ℕ) (c : Cells) (ps : Pairs) : Type 0 where
  pub tree : Tree
  pub spelled : Spells kind slots c tree 1 (c 1 Left)
  pub pairs : pairs_of c tree ≡ ps
  pub rising : IsRising ps
  pub small : AreSmall ps
  pub covered : (n : ℕ) → IsSlot slots n → IsEven (c n Version) → IsIn n tree
  pub unmarked : IsEven (c 1 Version)
  pub no_right : c 1 Right ≡ 0
  pub no_parent : c 1 Parent ≡ 0
