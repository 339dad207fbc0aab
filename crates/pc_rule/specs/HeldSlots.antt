-- What a pass holds of the slots of its share, and what that says of them.
use Rattle.std.specs.Prelude.{◌≡◌, ℕ, ◌+◌, ◌<◌, ◌≤◌, ◌&&◌, if◌then◌else◌, Bool, true, false, List, Option, Some, None}
use Rattle.pc_model.specs.declared.cell.Field.{Field}
use Rattle.pc_model.specs.Cells.{IsNode}
use Rattle.pc_model.specs.Exchanges.{FreshNode}
use Rattle.pc_exchange_law.specs.OwnSlots.{OwnSlots, filled_in, MakesOwn}
use Rattle.pc_exchange_law.specs.Wholes.{Whole}
use Rattle.pc_rule.specs.declared.held_slots.HeldSlots.{HeldSlots}

-- none of these slots is taken
abbrev pub new_slots : ℕ → ℕ → HeldSlots
new_slots begin slots = record { next = begin; until = begin + slots; spare = None; version = 0; filled = false; named = false; won = false }

-- the attempt is cleared
abbrev pub cleared_slots : HeldSlots → HeldSlots
cleared_slots s = record s { spare = (if s.named && s.won then None else s.spare); filled = false; named = false }

-- the numbers that were filled in, and the node that has them
abbrev pub number_or_none : Option ℕ → ℕ
number_or_none None = 0
number_or_none (Some n) = n

abbrev pub filled_node : OwnSlots → FreshNode
filled_node o = record { node = number_or_none o.spare; fields = λ f. number_or_none (filled_in o.filled f) }

-- the node that an exchange makes, where it makes the spare's
abbrev pub node_made : Bool → OwnSlots → Option FreshNode
node_made false o = None
node_made true o = Some (filled_node o)

-- what the pass knows of its slots is what it holds: there is room between the sentinel and the end of the share, the spare is one of
-- the board's nodes with the version of its opening, and where the running operation filled it, its exchange may make it
pub record HoldsSlots (x : Whole) (s : HeldSlots) : Type 0 where
  pub next : x.knows.slots.next ≡ s.next
  pub until : x.knows.slots.until ≡ s.until
  pub spare : x.knows.slots.spare ≡ s.spare
  pub version : x.knows.slots.version ≡ s.version
  pub named : x.knows.slots.named ≡ s.named
  pub within : (2 ≤ s.next) × (s.next ≤ s.until) × (s.until ≤ x.view.size.slots + 2)
  pub inside : (n : ℕ) → s.spare ≡ Some n → IsNode x.view.size.slots n
  pub early : s.version ≤ x.view.size.starts.version + 1
  pub makes : s.filled ≡ true → MakesOwn x.knows.slots (Some (filled_node x.knows.slots))
