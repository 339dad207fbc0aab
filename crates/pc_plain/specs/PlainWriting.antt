-- How the words of nodes are written: a fresh node into a slot, and the words of an exchange.
use Rattle.std.specs.Prelude.{◌≡◌, ℕ, ◌+◌, ◌*◌, ◌%◌, ◌^◌, ◌<◌, ◌≤◌, nat_le, ◌&&◌, List, [], ◌∷◌, ◌++◌, length}
use Rattle.std.specs.Prelude.{Option, IfSome, option_to_list}
use Rattle.pc_model.specs.declared.cell.Field.{Field}
use Rattle.pc_model.specs.declared.cell.Field.TheVariants.{Version as VersionField}
use Rattle.pc_model.specs.Cells.{Cells, IsEven, IsNode, IsSlot, written, opening_fields}
use Rattle.pc_model.specs.Counts.{count, one_if}
use Rattle.pc_model.specs.Exchanges.{with_fresh, applied}
use Rattle.pc_plan.specs.declared.change.Add.{Add}
use Rattle.pc_plan.specs.declared.change.Fresh.{Fresh}
use Rattle.pc_plan.specs.Planned.{Planned}
use Rattle.pc_plan.specs.SlotsAfter.{taken_by, parity_after}
use Rattle.pc_plan.specs.Runs.{number_at, fresh_at, exchange_of, Takes}
use Rattle.pc_plan.specs.Lawful.{FitsWord}
use Rattle.pc_plain.specs.PlainCells.{PlainWords, SplitWords, cells_in, cells_of, AreBelowLimits, kept, kept_cells}

-- the cells with these words' new numbers, one after another
abbrev pub with_adds : ℕ → List Add → Cells → Cells
with_adds slot [] c = c
with_adds slot (a ∷ adds) c = with_adds slot adds (written a.node a.field (kept a.field (number_at slot a.new)) c)

-- a node's words stand in two lists of this length
abbrev pub ReachWords : ℕ → ℕ → Type 0
ReachWords n len = 4 * n + 4 ≤ len

abbrev pub AddsReach : ℕ → List Add → Type 0
AddsReach len [] = Unit {0}
AddsReach len (a ∷ adds) = ReachWords a.node len × AddsReach len adds

-- the words fit, and each slot of the stack has its words
pub record CanTakeSlot (words : SplitWords) (free : List ℕ) : Type 0 where
  pub fit : AreBelowLimits (cells_in words)
  pub within : (n : ℕ) → 0 < count n free → ReachWords n (length words.near)

-- the slot was the stack's last where there is a fresh node, and the node is written there
pub record TakesSlot (fresh : Option Fresh) (old_words new_words : SplitWords) (old_free new_free : List ℕ) (slot : ℕ) : Type 0 where
  pub taken : old_free ≡ new_free ++ option_to_list (taken_by fresh slot)
  pub cells : cells_in new_words ≡ kept_cells
      (with_fresh (fresh_at slot (cells_in old_words slot VersionField) fresh) (cells_in old_words))
  pub long : length new_words.near ≡ length old_words.near
  pub small : slot < 4294967296
  pub parent : IfSome fresh (λ f. f.parent < 4294967296)

-- the cells after an exchange whose fresh node takes this slot
abbrev pub changed_cells : Planned → ℕ → Cells → Cells
changed_cells p slot c = applied (exchange_of [] p slot (c slot VersionField)) c

-- words of nodes, which get numbers that fit
abbrev pub AreWordsOf : ℕ → List Add → Type 0
AreWordsOf slots [] = Unit {0}
AreWordsOf slots (a ∷ adds) = (IsNode slots a.node × FitsWord a.new) × AreWordsOf slots adds

-- a fresh node's numbers fit
pub record FreshFits (f : Fresh) : Type 0 where
  pub key : f.key < 2 ^ 62
  pub value : f.value < 2 ^ 62
  pub height : f.height < 2 ^ 62

-- the exchange writes words of nodes that fit, and marks a slot in use; and what it leaves out of use
pub record IsFitting (slots : ℕ) (c : Cells) (p : Planned) (slot : ℕ) : Type 0 where
  pub parity : (n : ℕ) → IsSlot slots n → changed_cells p slot c n VersionField % 2 ≡ parity_after p slot c n
  pub marked : IfSome p.mark (λ n. IsSlot slots n × IsEven (c n VersionField))
  pub words : AreWordsOf slots p.adds
  pub fresh : IfSome p.fresh FreshFits

-- the exchange can be made, whichever slot its fresh node takes
abbrev pub CanMake : PlainWords → Planned → Type 0
CanMake w p = (slot : ℕ) → Takes w.slots (cells_of w) p slot → IsFitting w.slots (cells_of w) p slot

-- the fresh node took a slot out of use, and the new cells are those that the exchange leaves, but that
-- great versions were set back
pub record IsWritten (old new : PlainWords) (p : Planned) : Type 0 where
  pub slot : ℕ
  pub takes : Takes old.slots (cells_of old) p slot
  pub cells : (n : ℕ) (f : Field) → cells_of new n f ≡ kept f (changed_cells p slot (cells_of old) n f)

-- the cells of every node from node 0 on are those that a tree opens with
abbrev pub OpensCells : ℕ → Cells → Type 0
OpensCells slots c = (n : ℕ) (f : Field) → n ≤ slots + 1 → c n f ≡ opening_fields n f

-- each slot stands in the list once, and nothing else
abbrev pub HasEachSlot : ℕ → List ℕ → Type 0
HasEachSlot slots xs = (n : ℕ) → count n xs ≡ one_if (nat_le 2 n && nat_le n (slots + 1))
