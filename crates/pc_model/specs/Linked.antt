-- The links of cells, whatever is stored in them: which nodes are in use, and what their links name.
use Rattle.std.specs.Prelude.{◌≡◌, ◌≢◌, ℕ, ◌+◌, ◌==◌, ◌⊎◌, if◌then◌else◌}
use Rattle.pc_model.specs.declared.cell.Field.{Field}
use Rattle.pc_model.specs.declared.cell.Field.TheVariants.{Version, Key, Value, Left, Right, Parent, Height, Spare}
use Rattle.pc_model.specs.Cells.{Cells, IsEven, IsSlot, IsNode}

-- the fields that name a node, or are 0
abbrev pub IsLinkField : Field → Type 0
IsLinkField Version = ⊥
IsLinkField Key = ⊥
IsLinkField Value = ⊥
IsLinkField Left = Unit {0}
IsLinkField Right = Unit {0}
IsLinkField Parent = Unit {0}
IsLinkField Height = ⊥
IsLinkField Spare = ⊥

-- a node that is in use
abbrev pub IsUnmarked : ℕ → Cells → ℕ → Type 0
IsUnmarked slots c n = IsNode slots n × IsEven (c n Version)

-- the left or the right link of a node names this one
abbrev pub IsChildOf : Cells → ℕ → ℕ → Type 0
IsChildOf c n above = (c above Left ≡ n) ⊎ (c above Right ≡ n)

-- the node is the child of one unmarked node, and of no other
pub record HangsOnce (slots : ℕ) (c : Cells) (n : ℕ) : Type 0 where
  pub above : ℕ
  pub unmarked : IsUnmarked slots c above
  pub child : IsChildOf c n above
  pub no_other : (m : ℕ) → IsUnmarked slots c m → IsChildOf c n m → m ≡ above

-- The sentinel is unmarked; each left, right and parent of an unmarked node names an unmarked node or is 0;
-- each unmarked node but the sentinel is the child of exactly one unmarked node.
pub record IsLinked (slots : ℕ) (c : Cells) : Type 0 where
  pub sentinel : IsEven (c 1 Version)
  pub links : (n : ℕ) (f : Field) → IsUnmarked slots c n → IsLinkField f → c n f ≢ 0 → IsUnmarked slots c (c n f)
  pub hang : (n : ℕ) → IsSlot slots n → IsEven (c n Version) → HangsOnce slots c n

-- the cells that a board opens with, where versions start at this even number: the sentinel alone, and
-- every slot unused
abbrev pub opening_cells : ℕ → Cells
opening_cells start n Version = if n == 1 then start else start + 1
opening_cells start n Key = if n == 1 then 4611686018427387903 else 0
opening_cells start n Value = 0
opening_cells start n Left = 0
opening_cells start n Right = 0
opening_cells start n Parent = 0
opening_cells start n Height = 0
opening_cells start n Spare = 0
