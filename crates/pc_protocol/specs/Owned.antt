-- What a pass has for itself: a stamp that it drew for a read, until that read ends; and a spare, with what it filled
-- in, until an exchange that makes it takes effect. No other step takes them away.
use Rattle.std.specs.Prelude.{◌≡◌, ◌≢◌, ℕ, ◌<◌, Option, Some, None}
use Rattle.pc_model.specs.declared.cell.Field.{Field}
use Rattle.pc_model.specs.declared.cell.Field.TheVariants.{Version}
use Rattle.pc_model.specs.Exchanges.{FreshNode, Exchange}
use Rattle.pc_protocol.specs.Histories.{Purpose, for_read, Cause, History, cells_now, IsFree, IsSpare}
use Rattle.pc_protocol.specs.Steps.{draw, publish, commit, CanCommit, abort, take_read, CanRead, refer}
use Rattle.pc_protocol.specs.Steps.{fill, take_slot, clear}

-- the stamp was drawn for a read of this pass, which didn't take effect
abbrev pub IsUnread : History → ℕ → ℕ → Type 0
IsUnread h p s = (s < h.clock) × (h.drawn_for s ≡ for_read p) × (h.item s ≡ None)

-- the node's slot is a spare, with this version in the cells
abbrev pub HasSpare : History → ℕ → ℕ → Type 0
HasSpare h n v = IsSpare (h.slot n) × (cells_now h n Version ≡ v)

-- a word of a spare has this number
abbrev pub IsFilled : History → ℕ → Field → ℕ → Type 0
IsFilled h n f w = IsSpare (h.slot n) × (h.plain n f ≡ w)

-- all this stays
pub record KeepsOwned (h h' : History) : Type 0 where
  pub unread : (p s : ℕ) → IsUnread h p s → IsUnread h' p s
  pub spares : (n v : ℕ) → HasSpare h n v → HasSpare h' n v
  pub filled : (n w : ℕ) (f : Field) → IsFilled h n f w → IsFilled h' n f w

-- the exchange doesn't make the node
abbrev pub MakesNot : Exchange → ℕ → Type 0
MakesNot e n = (g : FreshNode) → e.fresh ≡ Some g → n ≢ g.node

pub record StepsKeepOwned (h : History) : Type 0 where
  pub draws : (d : Purpose) → KeepsOwned h (draw h d)
  pub publishes : (x : ℕ) (e : Exchange) (b : ℕ) → KeepsOwned h (publish h x e b)
  pub aborts : (x : ℕ) (cause : Cause) → KeepsOwned h (abort h x cause)
  pub refers : (n : ℕ) (f : Field) (r : Option ℕ) → KeepsOwned h (refer h n f r)
  pub takes_slots : (n : ℕ) → IsFree (h.slot n) → KeepsOwned h (take_slot h n)
  pub clears : (x : ℕ) → KeepsOwned h (clear h x)
  -- an exchange that takes effect, but for the node that it makes
  pub commits_unread : (x t p s : ℕ) → CanCommit h x t → IsUnread h p s → IsUnread (commit h x t) p s
  pub commits_spares : (x t n v : ℕ) → CanCommit h x t → MakesNot (h.op x) n → HasSpare h n v
      → HasSpare (commit h x t) n v
  pub commits_filled : (x t n w : ℕ) (f : Field) → CanCommit h x t → MakesNot (h.op x) n → IsFilled h n f w
      → IsFilled (commit h x t) n f w
  -- a read, but for its own stamp
  pub reads_unread : (q t : ℕ) (e : Exchange) (p s : ℕ) → s ≢ t → IsUnread h p s → IsUnread (take_read h t e) p s
  pub reads_spares : (q t : ℕ) (e : Exchange) (n v : ℕ) → CanRead h q t e → HasSpare h n v
      → HasSpare (take_read h t e) n v
  pub reads_filled : (t : ℕ) (e : Exchange) (n w : ℕ) (f : Field) → IsFilled h n f w → IsFilled (take_read h t e) n f w
  -- a fill, but for its word
  pub fills_unread : (m : ℕ) (g : Field) (u p s : ℕ) → IsUnread h p s → IsUnread (fill h m g u) p s
  pub fills_spares : (m : ℕ) (g : Field) (u n v : ℕ) → HasSpare h n v → HasSpare (fill h m g u) n v
  pub fills_filled : (m : ℕ) (g : Field) (u n w : ℕ) (f : Field) → (n ≡ m → f ≢ g) → IsFilled h n f w
      → IsFilled (fill h m g u) n f w
  -- how they begin
  pub begins_read : (p : ℕ) → IsUnread (draw h (for_read p)) p h.clock
  pub begins_spare : (n : ℕ) → HasSpare (take_slot h n) n (cells_now h n Version)
  pub begins_filled : (n w : ℕ) (f : Field) → IsSpare (h.slot n) → IsFilled (fill h n f w) n f w
