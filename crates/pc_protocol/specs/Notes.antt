-- What a pass may note, and when it is true. A note that is true stays so at every step.
use Rattle.std.specs.Prelude.{◌≡◌, ℕ, ◌<◌, ◌≤◌, Option, Some, None}
use Rattle.pc_model.specs.declared.cell.Field.{Field}
use Rattle.pc_model.specs.declared.cell.Field.TheVariants.{Version}
use Rattle.pc_model.specs.Exchanges.{Changed, Exchange}
use Rattle.pc_history.specs.Footprints.{IsAmong, IsOfWord, LeavesWord}
use Rattle.pc_protocol.specs.Histories.{changed, Stage, History, moments, IsPublished, IsUndecided, IsDecided, value_by, IsUsed, Drew}
use Rattle.pc_protocol.specs.Seeing.{SawWord, Saw}
use Rattle.pc_protocol.specs.Rules.{Rival, IsCause}

-- what a check finds in a version word: a number, plain or the one that an install names, or a reference
pub data Found : Type 0 where
  value : ℕ → Found
  by : ℕ → Found

abbrev pub IsBy : Found → ℕ → Type 0
IsBy (value w) x = ⊥
IsBy (by y) x = y ≡ x

-- the exchange was published and changes this node's version, which by its stage is at least this number
pub record IsBoundedBy (stage : ℕ → Stage) (op : ℕ → Exchange) (n v x : ℕ) : Type 0 where
  pub published : IsPublished (stage x)
  pub change : Changed
  pub among : IsAmong change (op x).changes
  pub is_of : IsOfWord n Version change
  pub bound : v ≤ value_by (stage x) change.old change.new

-- what was found is a bound of the version
abbrev pub IsBelowFound : (ℕ → Stage) → (ℕ → Exchange) → ℕ → ℕ → Found → Type 0
IsBelowFound stage op n v (value w) = v ≤ w
IsBelowFound stage op n v (by x) = IsBoundedBy stage op n v x

-- A version word was looked at for a stamp, and this was found. No other exchange that isn't decided and has a stamp
-- below changes that version or makes the node; and at the stamp the version was no greater than what was found.
pub record Looked (h : History) (s n : ℕ) (f : Found) : Type 0 where
  pub others : (y t : ℕ) → IsUndecided (h.stage y) → Drew h.clock h.drawn_for t y → t < s → (IsBy f y → ⊥)
      → LeavesWord (h.op y) n Version
  pub below : IsBelowFound h.stage h.op n (moments h s n Version) f

-- the clock after clearing was read
abbrev pub IsCleared : Option ℕ → Type 0
IsCleared None = ⊥
IsCleared (Some c) = Unit {0}

pub data Note : Type 0 where
  -- the clock has come to this number
  clock_was : ℕ → Note
  -- the node had at least this version at a moment
  visited : ℕ → ℕ → ℕ → Note
  -- after a visit at this version the word had this number
  read_word : ℕ → ℕ → Field → ℕ → ℕ → Note
  -- all that an exchange visits and reads was so
  saw : ℕ → Exchange → Note
  -- a version word was looked at for a stamp
  looked : ℕ → ℕ → Found → Note
  -- the exchange is published, is this one, and this is the clock before its publication
  published : ℕ → Exchange → ℕ → Note
  -- the exchange's reference was found in this word, or put there
  held : ℕ → ℕ → Field → Note
  -- a stamp was drawn for the exchange
  drew : ℕ → ℕ → Note
  -- the exchange was decided so
  verdict : ℕ → Stage → Note
  -- the node's slot is in use
  in_use : ℕ → Note
  -- a pass has an exchange with this node's version that wasn't cleared before this clock
  rival : ℕ → ℕ → ℕ → Note
  -- this exchange or read stands in the run at this stamp
  in_run : ℕ → Exchange → Note
  -- the clock was read after the exchange was cleared
  cleared : ℕ → Note
  -- the exchange is published, and the node's version is above the one that it covers
  outdated : ℕ → ℕ → Note

abbrev pub IsTrueNote : History → Note → Type 0
IsTrueNote h (clock_was c) = c ≤ h.clock
IsTrueNote h (visited n v b) = (b ≤ h.clock) × (v ≤ moments h b n Version)
IsTrueNote h (read_word n v f x b) = (b ≤ h.clock) × SawWord (moments h) b n v f x
IsTrueNote h (saw b e) = (b ≤ h.clock) × Saw (moments h) b e
IsTrueNote h (looked s n f) = (s < h.clock) × Looked h s n f
IsTrueNote h (published x e b) = IsPublished (h.stage x) × (h.op x ≡ e) × (h.published_at x ≡ b)
IsTrueNote h (held x n f) = IsPublished (h.stage x) × (IsUndecided (h.stage x) → h.reference n f ≡ Some x)
IsTrueNote h (drew x s) = Drew h.clock h.drawn_for s x
IsTrueNote h (verdict x st) = (h.stage x ≡ st) × IsDecided st
IsTrueNote h (in_use n) = IsUsed (h.slot n)
IsTrueNote h (rival pass n c) = Rival h pass n c
IsTrueNote h (in_run s e) = h.item s ≡ Some e
IsTrueNote h (cleared x) = IsCleared (h.cleared_at x)
IsTrueNote h (outdated x n) = IsPublished (h.stage x) × IsCause h x (changed n)
