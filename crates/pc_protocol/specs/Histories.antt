-- The state of the exchange protocol without its words: the run, for what each stamp was drawn, the stage of each
-- exchange, and which words hold a reference to one.
use Rattle.std.specs.Prelude.{◌≡◌, ℕ, ◌<◌, Option}
use Rattle.pc_model.specs.declared.cell.Field.{Field}
use Rattle.pc_model.specs.Cells.{Cells}
use Rattle.pc_model.specs.Exchanges.{Exchange}
use Rattle.pc_history.specs.Runs.{Items, cells_at}

-- for what a stamp was drawn: for an exchange, or for a read of a pass
pub data Purpose : Type 0 where
  for_exchange : ℕ → Purpose
  for_read : ℕ → Purpose

-- why an exchange failed: its owner withdrew it; another did, at the clock's end; a node's version is above the one
-- that it covers; another pass has an exchange with that node's version
pub data Cause : Type 0 where
  withdrawn : Cause
  ended : Cause
  changed : ℕ → Cause
  locked : ℕ → ℕ → Cause

-- an exchange before it is published, until it is decided, and then for ever; one that took effect has its stamp
pub data Stage : Type 0 where
  absent : Stage
  undecided : Stage
  committed : ℕ → Stage
  aborted : Cause → Stage

-- a node's slot: free, to be taken; a spare, whose words are its pass's own; or used, as
-- the sentinel is, and each node that was ever in the tree
pub data Slot : Type 0 where
  free : Slot
  spare : Slot
  used : Slot

pub record History : Type 0 where
  -- the cells that the board opened with
  pub opening : Cells
  -- the next stamp, and the last one
  pub clock : ℕ
  pub last : ℕ
  -- the run
  pub item : Items
  -- for what each stamp below the clock was drawn
  pub drawn_for : ℕ → Purpose
  -- each exchange of each pass has one number, for ever: its pass, its stage, what it is, and the clock before it was
  -- published
  pub owner : ℕ → ℕ
  pub stage : ℕ → Stage
  pub op : ℕ → Exchange
  pub published_at : ℕ → ℕ
  -- the plain value of each word, and the exchange whose reference stands there
  pub plain : Cells
  pub reference : ℕ → Field → Option ℕ
  pub slot : ℕ → Slot
  -- the clock that was read after an exchange's words were cleared of its references
  pub cleared_at : ℕ → Option ℕ

-- the cells at each moment, and now
abbrev pub moments : History → ℕ → Cells
moments h = cells_at h.opening h.item

abbrev pub cells_now : History → Cells
cells_now h = cells_at h.opening h.item h.clock

abbrev pub IsPublished : Stage → Type 0
IsPublished absent = ⊥
IsPublished undecided = Unit {0}
IsPublished (committed s) = Unit {0}
IsPublished (aborted cause) = Unit {0}

abbrev pub IsUndecided : Stage → Type 0
IsUndecided absent = ⊥
IsUndecided undecided = Unit {0}
IsUndecided (committed s) = ⊥
IsUndecided (aborted cause) = ⊥

abbrev pub IsDecided : Stage → Type 0
IsDecided absent = ⊥
IsDecided undecided = ⊥
IsDecided (committed s) = Unit {0}
IsDecided (aborted cause) = Unit {0}

-- what a word with a reference is worth: the new number where the exchange took effect, else the old one
abbrev pub value_by : Stage → ℕ → ℕ → ℕ
value_by absent old new = old
value_by undecided old new = old
value_by (committed s) old new = new
value_by (aborted cause) old new = old

abbrev pub IsFree : Slot → Type 0
IsFree free = Unit {0}
IsFree spare = ⊥
IsFree used = ⊥

abbrev pub IsSpare : Slot → Type 0
IsSpare free = ⊥
IsSpare spare = Unit {0}
IsSpare used = ⊥

abbrev pub IsUsed : Slot → Type 0
IsUsed free = ⊥
IsUsed spare = ⊥
IsUsed used = Unit {0}

-- the stamp was drawn for the exchange; an exchange may have many, and it doesn't matter who drew one
abbrev pub Drew : ℕ → (ℕ → Purpose) → ℕ → ℕ → Type 0
Drew clock drawn_for t x = (t < clock) × (drawn_for t ≡ for_exchange x)

-- the stamp was drawn for a read
abbrev pub IsForRead : Purpose → Type 0
IsForRead purpose = (p : ℕ) × (purpose ≡ for_read p)
