-- What clauses say of a pass's spare.
use Rattle.std.specs.Prelude.{◌≡◌, ℕ, ◌≤◌, true, Option, None, is_some}
use Rattle.pc_model.specs.declared.numbers.Numbers.{Numbers}
use Rattle.pc_model.specs.declared.shape.Shape.{Ghosts}
use Rattle.pc_model.specs.Cells.{IsOdd}
use Rattle.pc_exchange_law.specs.OwnSlots.{with_spare}
use Rattle.pc_rule.specs.declared.board.Pass.{Pass}
use Rattle.pc_rule.specs.Passes.{whole, knows, slots}
use Rattle.pc_epoch.specs.declared.no_spare.NoSpare.{NoSpare}
use Rattle.pc_epoch.specs.declared.no_spare.NoSpare.TheVariants.{NoSlot, Numbers as OutOfNumbers}

module _ {H : Type 0} {S : Ghosts H} where
  -- the pass has a spare
  abbrev pub HasSpare : Pass H S → Type 0
  HasSpare p = is_some (slots p).spare ≡ true

  -- it has none, and no slot of its share is left
  abbrev pub HasNoSlot : Pass H S → Type 0
  HasNoSlot p = ((slots p).spare ≡ None) × ((slots p).until ≤ (slots p).next)

  -- it took the next slot of its share as its spare, whose version it found odd, and knows the same but for that
  abbrev pub HasTakenSpare : Pass H S → Pass H S → Type 0
  HasTakenSpare old new = (v : ℕ) × IsOdd v × (whole new ≡ record (whole old) { knows = record (knows old) { slots = with_spare (slots old) v } })

-- X holds where this is why it has none
abbrev pub IfNoSlot : NoSpare → (ℕ → Option (ℕ × ℕ) → Type 0) → Type 0
IfNoSlot (NoSlot limbo waits) X = X limbo waits
IfNoSlot (OutOfNumbers n) X = Unit {0}

abbrev pub IfNumbers : NoSpare → (Numbers → Type 0) → Type 0
IfNumbers (NoSlot limbo waits) X = Unit {0}
IfNumbers (OutOfNumbers n) X = X n
