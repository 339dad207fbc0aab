-- Cells: the numbers that the fields of all nodes hold. Node 0 is no node, node 1 is the sentinel, and
-- the slots are numbered from 2 on.
use Rattle.std.specs.Prelude.{◌≡◌, ◌≢◌, ℕ, ◌+◌, ◌%◌, ◌^◌, ◌<◌, ◌≤◌, ◌==◌, nat_lt, if◌then◌else◌, Option, Some, None}
use Rattle.pc_model.specs.declared.cell.Field.{Field}
use Rattle.pc_model.specs.declared.cell.Field.TheVariants.{Version, Key, Value, Left, Right, Parent, Height, Spare}

-- what each field of each node holds
abbrev pub Cells : Type 0
Cells = ℕ → Field → ℕ

abbrev pub field_number : Field → ℕ
field_number Version = 0
field_number Key = 1
field_number Value = 2
field_number Left = 3
field_number Right = 4
field_number Parent = 5
field_number Height = 6
field_number Spare = 7

abbrev pub IsEven : ℕ → Type 0
IsEven n = n % 2 ≡ 0

abbrev pub IsOdd : ℕ → Type 0
IsOdd n = n % 2 ≡ 1

-- one of the slots
abbrev pub IsSlot : ℕ → ℕ → Type 0
IsSlot slots n = (2 ≤ n) × (n ≤ slots + 1)

-- the sentinel or one of the slots
abbrev pub IsNode : ℕ → ℕ → Type 0
IsNode slots n = (1 ≤ n) × (n ≤ slots + 1)

-- the cells with this number in this field
abbrev pub written : ℕ → Field → ℕ → Cells → Cells
written n f v c = λ m g. if field_number g == field_number f then (if m == n then v else c m g) else c m g

-- the cells with these fields at this node
abbrev pub with_node : ℕ → (Field → ℕ) → Cells → Cells
with_node n fields c = λ m g. if m == n then fields g else c m g

-- the node that a link names: none where it is 0 or too great for a node's number
abbrev pub node_at : ℕ → Option ℕ
node_at link = if link == 0 then None else if nat_lt 4294967295 link then None else Some link

-- the key of the sentinel, above every key
abbrev pub sentinel_key : ℕ
sentinel_key = 4611686018427387903

-- the cells that a tree opens with: the sentinel alone, and every slot unused
abbrev pub opening_fields : ℕ → Field → ℕ
opening_fields n Version = if n == 1 then 0 else 1
opening_fields n Key = if n == 1 then 4611686018427387903 else 0
opening_fields n Value = 0
opening_fields n Left = 0
opening_fields n Right = 0
opening_fields n Parent = 0
opening_fields n Height = 0
opening_fields n Spare = 0

-- numbers fit a word, with room above every version
pub record FitsWords (slots : ℕ) (c : Cells) : Type 0 where
  pub words : (n : ℕ) (f : Field) → n ≤ slots + 1 → c n f < 2 ^ 62
  pub versions : (n : ℕ) → n ≤ slots + 1 → c n Version < 2 ^ 60

-- the same cells but for versions, whose parity is the same
pub record SameButVersions (slots : ℕ) (old new : Cells) : Type 0 where
  pub fields : (n : ℕ) (f : Field) → n ≤ slots + 1 → f ≢ Version → new n f ≡ old n f
  pub parity : (n : ℕ) → n ≤ slots + 1 → new n Version % 2 ≡ old n Version % 2
