-- The rule of the protocol, by topics. It holds between any two steps.
use Rattle.std.specs.Prelude.{◌≡◌, ◌≢◌, ℕ, ◌+◌, ◌<◌, ◌≤◌, ◌⊎◌, [], Option, Some, None}
use Rattle.pc_model.specs.declared.cell.Field.{Field}
use Rattle.pc_model.specs.declared.cell.Field.TheVariants.{Version}
use Rattle.pc_model.specs.Cells.{Cells, IsOdd}
use Rattle.pc_model.specs.Exchanges.{Changed, FreshNode, Exchange}
use Rattle.pc_history.specs.Footprints.{IsAmong, IsOfWord, HasChange, WritesMiss, IsWellFormed}
use Rattle.pc_history.specs.Runs.{OnItem, IsRun}
use Rattle.pc_protocol.specs.Histories.{Purpose, for_exchange, Cause, withdrawn, ended, changed, locked, Stage, committed, aborted}
use Rattle.pc_protocol.specs.Histories.{Slot, History, moments, cells_now, IsPublished, IsUndecided, IsDecided, value_by}
use Rattle.pc_protocol.specs.Histories.{IsSpare, IsUsed, Drew, IsForRead}
use Rattle.pc_protocol.specs.Seeing.{Visits, Covers, Saw}

-- what stands in the run at a stamp: a read, which changes nothing, at a stamp for one; or the exchange that took
-- effect at this stamp, which was drawn for it
abbrev pub IsTaken : Purpose → (ℕ → Stage) → (ℕ → Exchange) → ℕ → Exchange → Type 0
IsTaken purpose stage op t e = (IsForRead purpose × (e.changes ≡ []) × (e.fresh ≡ None))
    ⊎ ((x : ℕ) × (purpose ≡ for_exchange x) × (stage x ≡ committed t) × (e ≡ op x))

-- a word with a reference: the exchange is published and changes the word, whose plain value is the number of
-- that change by the exchange's stage; and the word is of a used node
pub record Refers (stage : ℕ → Stage) (op : ℕ → Exchange) (plain : Cells) (slot : ℕ → Slot) (n : ℕ) (f : Field) (x : ℕ)
    : Type 0 where
  pub published : IsPublished (stage x)
  pub change : Changed
  pub among : IsAmong change (op x).changes
  pub is_of : IsOfWord n f change
  pub value : value_by (stage x) change.old change.new ≡ plain n f
  pub in_use : IsUsed (slot n)

-- the fresh node of an exchange that isn't decided: its slot is a spare, one version below the node's, and its words
-- are filled
pub record IsReady (now plain : Cells) (slot : ℕ → Slot) (g : FreshNode) : Type 0 where
  pub is_spare : IsSpare (slot g.node)
  pub version : g.fields Version ≡ now g.node Version + 1
  pub filled : (f : Field) → plain g.node f ≡ g.fields f

-- this clock isn't above the one that was read after clearing, if it was
abbrev pub IsFrom : ℕ → Option ℕ → Type 0
IsFrom c None = Unit {0}
IsFrom c (Some cleared) = c ≤ cleared

-- A pass has an exchange with the version of a node among its words, which isn't cleared, or whose clock after clearing
-- isn't below this one.
pub record IsRival (owner : ℕ → ℕ) (stage : ℕ → Stage) (op : ℕ → Exchange) (cleared_at : ℕ → Option ℕ) (clock : ℕ)
    (pass n c : ℕ) : Type 0 where
  pub exchange : ℕ
  pub owned : owner exchange ≡ pass
  pub published : IsPublished (stage exchange)
  pub changes : HasChange (op exchange) n Version
  pub past : c ≤ clock
  pub cleared : IsFrom c (cleared_at exchange)

abbrev pub Rival : History → ℕ → ℕ → ℕ → Type 0
Rival h = IsRival h.owner h.stage h.op h.cleared_at h.clock

-- why an exchange may fail: its owner withdraws; the clock is at its last stamp or above; a node has a greater version than the one that it covers; or for a
-- node that it visits another pass is a rival since before it was published
abbrev pub IsCause : History → ℕ → Cause → Type 0
IsCause h x withdrawn = Unit {0}
IsCause h x ended = h.last ≤ h.clock
IsCause h x (changed n) = (v : ℕ) × Covers (h.op x) n v × (v < cells_now h n Version)
IsCause h x (locked n pass) = (v : ℕ) × Visits (h.op x) n v × (pass ≢ h.owner x) × Rival h pass n (h.published_at x)

pub record Rule (h : History) : Type 0 where
  -- the run: nothing stands from the clock on, each exchange stands in the cells at its stamp, and versions rise
  pub run : IsRun h.opening h.clock h.item
  -- it has reads and the exchanges that took effect, each at a stamp of its own
  pub taken : (t : ℕ) → OnItem (IsTaken (h.drawn_for t) h.stage h.op t) (h.item t)
  pub standing : (x t : ℕ) → h.stage x ≡ committed t
      → Drew h.clock h.drawn_for t x × (h.item t ≡ Some (h.op x))
  -- an exchange is published after the clock was read, and each of its stamps is drawn after that
  pub past : (x : ℕ) → IsPublished (h.stage x) → h.published_at x ≤ h.clock
  pub drawn : (x t : ℕ) → Drew h.clock h.drawn_for t x → IsPublished (h.stage x) × (h.published_at x ≤ t)
  -- until it is decided, an exchange with a stamp has its reference in each of its words
  pub held : (x t : ℕ) (a : Changed) → IsUndecided (h.stage x) → Drew h.clock h.drawn_for t x
      → IsAmong a (h.op x).changes → h.reference a.node a.field ≡ Some x
  -- and what it writes misses all that stands above its stamp
  pub misses : (x t u : ℕ) → IsUndecided (h.stage x) → Drew h.clock h.drawn_for t x → t < u
      → OnItem (WritesMiss (h.op x)) (h.item u)
  -- the plain values are the run's cells, but for spares
  pub plain_is : (n : ℕ) (f : Field) → (IsSpare (h.slot n) → ⊥) → h.plain n f ≡ cells_now h n f
  pub refers : (n : ℕ) (f : Field) (x : ℕ) → h.reference n f ≡ Some x → Refers h.stage h.op h.plain h.slot n f x
  -- a slot that isn't used is marked
  pub unused : (n : ℕ) → (IsUsed (h.slot n) → ⊥) → IsOdd (cells_now h n Version)
  -- the form of exchanges
  pub well_formed : (x : ℕ) → IsPublished (h.stage x) → IsWellFormed (h.op x)
  -- fresh nodes, and that no two exchanges have the same one
  pub fresh : (x : ℕ) (g : FreshNode) → IsUndecided (h.stage x) → (h.op x).fresh ≡ Some g
      → IsReady (cells_now h) h.plain h.slot g
  pub apart : (x y : ℕ) (g k : FreshNode) → x ≢ y → IsUndecided (h.stage x) → IsUndecided (h.stage y)
      → (h.op x).fresh ≡ Some g → (h.op y).fresh ≡ Some k → g.node ≢ k.node
  -- what an exchange saw before it was published
  pub saw : (x : ℕ) → IsUndecided (h.stage x) → Saw (moments h) (h.published_at x) (h.op x)
  -- an exchange that failed has its cause
  pub caused : (x : ℕ) (cause : Cause) → h.stage x ≡ aborted cause → IsCause h x cause
  -- the clock after clearing is read once an exchange is decided and no word has its reference
  pub uncleared : (n : ℕ) (f : Field) (x : ℕ) → h.reference n f ≡ Some x → h.cleared_at x ≡ None
  pub running : (x : ℕ) → (IsDecided (h.stage x) → ⊥) → h.cleared_at x ≡ None
