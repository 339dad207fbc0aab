-- Plain cells: the words of all nodes in two lists, four a node in each, and which slots are out of use.
use Rattle.std.specs.Prelude.{◌≡◌, ℕ, ◌+◌, ◌*◌, ◌%◌, ◌<◌, ◌≤◌, ◌==◌, nat_lt, nat_le, ◌&&◌, if◌then◌else◌, Bool, true, false}
use Rattle.std.specs.Prelude.{List, [], length, slice_index}
use Rattle.pc_model.specs.declared.cell.Field.{Field}
use Rattle.pc_model.specs.declared.cell.Field.TheVariants.{Version, Key, Value, Left, Right, Parent, Height, Spare}
use Rattle.pc_model.specs.Cells.{Cells, IsNode, opening_fields}
use Rattle.pc_model.specs.Counts.{count, one_if}
use Rattle.pc_model.specs.Trees.{Kind, IsSearchTree}

-- the words of all nodes from node 0 on, four a node in each list: those that a walk reads, and the others
pub record SplitWords : Type 0 where
  pub near : List ℕ
  pub far : List ℕ

-- how many slots there are, and the words of all nodes
pub record PlainWords : Type 0 where
  pub slots : ℕ
  pub words : SplitWords

-- a walk reads the field
abbrev pub is_near : Field → Bool
is_near Version = true
is_near Key = true
is_near Left = true
is_near Right = true
is_near Value = false
is_near Parent = false
is_near Height = false
is_near Spare = false

-- the place of a field's word among the four of its node
abbrev pub place_of : Field → ℕ
place_of Version = 0
place_of Key = 1
place_of Left = 2
place_of Right = 3
place_of Value = 0
place_of Parent = 1
place_of Height = 2
place_of Spare = 3

-- the cells that words are
abbrev pub cells_in : SplitWords → Cells
cells_in w n f = slice_index (if is_near f then w.near else w.far) (4 * n + place_of f)

abbrev pub cells_of : PlainWords → Cells
cells_of p = cells_in p.words

-- what a number in a field stays below
abbrev pub limit : Field → ℕ
limit Version = 1152921504606846970
limit Key = 4611686018427387904
limit Value = 4611686018427387904
limit Left = 4611686018427387904
limit Right = 4611686018427387904
limit Parent = 4611686018427387904
limit Height = 4611686018427387904
limit Spare = 4611686018427387904

abbrev pub AreBelowLimits : Cells → Type 0
AreBelowLimits c = (n : ℕ) (f : Field) → c n f < limit f

-- the slot is out of use
abbrev pub is_free : ℕ → Cells → ℕ → Bool
is_free slots c n = (nat_le 2 n && nat_le n (slots + 1)) && ((c n Version % 2) == 1)

-- the words fit, and the stack has each slot that is out of use once, and nothing else
pub record IsSoundPlain (slots : ℕ) (words : SplitWords) (free : List ℕ) (capacity : ℕ) : Type 0 where
  pub few : slots ≤ 61000
  pub long : length words.near ≡ 4 * (slots + 2)
  pub fit : AreBelowLimits (cells_in words)
  pub free_once : (n : ℕ) → count n free ≡ one_if (is_free slots (cells_in words) n)
  pub room : slots ≤ capacity

-- the cells of every node are those that a tree opens with
abbrev pub AreOpening : PlainWords → Type 0
AreOpening p = (n : ℕ) (f : Field) → IsNode p.slots n → cells_of p n f ≡ opening_fields n f

-- the cells are an empty tree of this kind
abbrev pub IsEmptyTree : Kind → PlainWords → Type 0
IsEmptyTree kind p = IsSearchTree kind p.slots (cells_of p) []

-- a version that is too great is set back to 0 or 1, as it is even or odd
abbrev pub kept : Field → ℕ → ℕ
kept Version x = if nat_lt x 1152921504606846970 then x else x % 2
kept Key x = x
kept Value x = x
kept Left x = x
kept Right x = x
kept Parent x = x
kept Height x = x
kept Spare x = x

abbrev pub kept_cells : Cells → Cells
kept_cells c = λ n f. kept f (c n f)
