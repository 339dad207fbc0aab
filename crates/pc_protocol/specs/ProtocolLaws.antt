-- The laws of the protocol.
use Rattle.std.specs.Prelude.{◌≡◌, ℕ, ◌<◌, ◌≤◌, List, Option, Some}
use Rattle.pc_model.specs.declared.cell.Field.{Field}
use Rattle.pc_model.specs.declared.cell.Field.TheVariants.{Version}
use Rattle.pc_model.specs.Cells.{Cells, IsEven, IsOdd}
use Rattle.pc_model.specs.Exchanges.{Changed, Exchange, Stands, applied}
use Rattle.pc_model.specs.Forms.{Form, IsSound, Fits}
use Rattle.pc_model.specs.Linked.{opening_cells}
use Rattle.pc_history.specs.Footprints.{IsAmong, IsOfWord}
use Rattle.pc_history.specs.WorldRuns.{run_of, IsListOf}
use Rattle.pc_protocol.specs.Histories.{for_exchange, for_read, Cause, committed, aborted, Slot, History, moments}
use Rattle.pc_protocol.specs.Histories.{cells_now, IsPublished, IsFree, IsUsed, Drew}
use Rattle.pc_protocol.specs.Rules.{IsTaken, IsCause, Rule}
use Rattle.pc_protocol.specs.Steps.{Keeps, draw, CanDraw, publish, CanPublish, commit, CanCommit, abort, CanAbort}
use Rattle.pc_protocol.specs.Steps.{take_read, CanRead, refer, CanRefer, fill, CanFill, take_slot, clear, CanClear}
use Rattle.pc_protocol.specs.Notes.{IsCleared}
use Rattle.pc_protocol.specs.Telling.{LoadsTell}
use Rattle.pc_protocol.specs.Serving.{NotesServe}
use Rattle.pc_protocol.specs.Bases.{BasesTell}
use Rattle.pc_protocol.specs.Openings.{opened, opening_slots}

-- the rule holds where a board opens, also of the opening cells at any even version
pub record RuleHoldsAtOpenings : Type 0 where
  pub any : (cells : Cells) (start last : ℕ) (owner : ℕ → ℕ) (slots : ℕ → Slot)
      → ((n : ℕ) → (IsUsed (slots n) → ⊥) → IsOdd (cells n Version)) → Rule (opened cells start last owner slots)
  pub usual : (version start last : ℕ) (owner : ℕ → ℕ) → IsEven version
      → Rule (opened (opening_cells version) start last owner opening_slots)

-- each step that may be made keeps the rule and every note
pub record StepsKeepTheRule (h : History) : Type 0 where
  pub draws : (x : ℕ) → CanDraw h x → Keeps h (draw h (for_exchange x))
  pub read_draws : (p : ℕ) → Keeps h (draw h (for_read p))
  pub publishes : (x : ℕ) (e : Exchange) (b : ℕ) → CanPublish h x e b → Keeps h (publish h x e b)
  pub commits : (x s : ℕ) → CanCommit h x s → Keeps h (commit h x s)
  pub aborts : (x : ℕ) (cause : Cause) → CanAbort h x cause → Keeps h (abort h x cause)
  pub reads : (p s : ℕ) (e : Exchange) → CanRead h p s e → Keeps h (take_read h s e)
  pub refers : (n : ℕ) (f : Field) (r : Option ℕ) → CanRefer h n f r → Keeps h (refer h n f r)
  pub fills : (n : ℕ) (f : Field) (v : ℕ) → CanFill h n → Keeps h (fill h n f v)
  pub takes_slots : (n : ℕ) → IsFree (h.slot n) → Keeps h (take_slot h n)
  pub clears : (x : ℕ) → CanClear h x → Keeps h (clear h x)

-- An exchange that took effect stands in the run at its stamp, which was drawn for it, is below the clock, and isn't
-- below the clock that was read before it was published.
pub record StandsAtStamp (h : History) (x s : ℕ) : Type 0 where
  pub drew : Drew h.clock h.drawn_for s x
  pub since : h.published_at x ≤ s
  pub item : h.item s ≡ Some (h.op x)
  pub stands : Stands (h.op x) (moments h s)

-- What the decision that an exchange takes effect does: each of its words held its reference in place of its old number,
-- and is worth its new one then; every other word is worth what it was; and the exchange is applied to the cells.
pub record CommitChanges (h : History) (x s : ℕ) : Type 0 where
  pub held : (a : Changed) → IsAmong a (h.op x).changes → h.reference a.node a.field ≡ Some x
  pub old : (a : Changed) → IsAmong a (h.op x).changes → h.plain a.node a.field ≡ a.old
  pub new : (a : Changed) → IsAmong a (h.op x).changes → (commit h x s).plain a.node a.field ≡ a.new
  pub others : (n : ℕ) (f : Field) → ((a : Changed) → IsAmong a (h.op x).changes → IsOfWord n f a → ⊥)
      → (commit h x s).plain n f ≡ h.plain n f
  pub cells : cells_now (commit h x s) ≡ applied (h.op x) (cells_now h)
  pub stands : StandsAtStamp (commit h x s) x s

-- what stands in the run at a stamp is below the clock, and stands in the cells that the earlier ones leave; it is a
-- read, or an exchange that took effect at this stamp
pub record StandsInRun (h : History) (s : ℕ) (e : Exchange) : Type 0 where
  pub below : s < h.clock
  pub taken : IsTaken (h.drawn_for s) h.stage h.op s e
  pub stands : Stands e (moments h s)

pub record RuleTells (h : History) : Type 0 where
  -- the list of the run below any moment is a world run, and leaves the cells at that moment
  pub world : (t : ℕ) → IsListOf h.opening h.item t (run_of h.item t)
  pub committed_stands : (x s : ℕ) → h.stage x ≡ committed s → StandsAtStamp h x s
  pub item_stands : (s : ℕ) (e : Exchange) → h.item s ≡ Some e → StandsInRun h s e
  pub commit_changes : (x s : ℕ) → CanCommit h x s → CommitChanges h x s
  -- once an exchange was cleared, no word has its reference
  pub cleared_words : (x n : ℕ) (f : Field) → IsCleared (h.cleared_at x) → h.reference n f ≡ Some x → ⊥
  -- a failed exchange has its cause
  pub cause : (x : ℕ) (w : Cause) → h.stage x ≡ aborted w → IsCause h x w
  pub loads : LoadsTell h
  pub notes : NotesServe h
  pub bases : BasesTell h

-- sound cells stay sound at every moment, where each published exchange fits
abbrev pub CellsStaySound : Form → Type 0
CellsStaySound form = (slots : ℕ) (h : History) (charged : ℕ → List ℕ) → Rule h
    → ((x : ℕ) → IsPublished (h.stage x) → Fits form slots (h.op x) (charged x)) → IsSound form slots h.opening
    → (t : ℕ) → IsSound form slots (moments h t)
