-- Which nodes links name. The links of an unmarked node name unmarked nodes, as sound cells say; those of a marked node
-- name nodes that were in use when it was marked. So a pass that reads a link of a node in use learns of one in use,
-- until slots are freed.
use Rattle.std.specs.Prelude.{◌≡◌, ◌≢◌, ℕ, Option}
use Rattle.pc_model.specs.declared.cell.Field.{Field}
use Rattle.pc_model.specs.declared.cell.Field.TheVariants.{Version}
use Rattle.pc_model.specs.Cells.{IsNode, IsEven, IsOdd}
use Rattle.pc_model.specs.Exchanges.{Changed, Exchange}
use Rattle.pc_model.specs.Linked.{IsLinkField, IsLinked, opening_cells}
use Rattle.pc_history.specs.Footprints.{IsAmong}
use Rattle.pc_protocol.specs.Histories.{for_exchange, for_read, Cause, History, cells_now, IsPublished, IsFree, IsUsed}
use Rattle.pc_protocol.specs.Rules.{Rule}
use Rattle.pc_protocol.specs.Steps.{draw, CanDraw, publish, CanPublish, commit, CanCommit, abort, CanAbort, take_read}
use Rattle.pc_protocol.specs.Steps.{CanRead, refer, CanRefer, fill, CanFill, take_slot, clear, CanClear}
use Rattle.pc_protocol.specs.Openings.{opened, opening_slots}

-- an exchange that marks a node changes no other word of it
abbrev pub MarksAlone : Exchange → Type 0
MarksAlone e = (a b : Changed) → IsAmong a e.changes → IsAmong b e.changes → a.field ≡ Version → IsOdd a.new
    → b.node ≡ a.node
    → b.field ≡ Version

pub record LinksRule (slots : ℕ) (h : History) : Type 0 where
  -- slots that were taken are nodes
  pub ranged : (n : ℕ) → (IsFree (h.slot n) → ⊥) → IsNode slots n
  pub marks : (x : ℕ) → IsPublished (h.stage x) → MarksAlone (h.op x)
  -- a link of a marked node names a node in use; once slots are freed this holds for some epochs only
  pub dead_links : (n : ℕ) (f : Field) → IsUsed (h.slot n) → IsOdd (cells_now h n Version) → IsLinkField f
      → cells_now h n f ≢ 0
      → IsUsed (h.slot (cells_now h n f))

-- in linked cells a link of a node in use, marked or not, names a node in use, or is 0
abbrev pub LinksAreInUse : History → Type 0
LinksAreInUse h = (n : ℕ) (f : Field) → IsUsed (h.slot n) → IsLinkField f → cells_now h n f ≢ 0
    → IsUsed (h.slot (cells_now h n f))

-- each step keeps the rule of links
pub record StepsKeepLinks (slots : ℕ) (h : History) : Type 0 where
  pub draws : (x : ℕ) → CanDraw h x → LinksRule slots (draw h (for_exchange x))
  pub read_draws : (p : ℕ) → LinksRule slots (draw h (for_read p))
  pub publishes : (x : ℕ) (e : Exchange) (b : ℕ) → CanPublish h x e b → MarksAlone e → LinksRule slots (publish h x e b)
  pub commits : (x s : ℕ) → CanCommit h x s → LinksRule slots (commit h x s)
  pub aborts : (x : ℕ) (cause : Cause) → CanAbort h x cause → LinksRule slots (abort h x cause)
  pub reads : (p s : ℕ) (e : Exchange) → CanRead h p s e → LinksRule slots (take_read h s e)
  pub refers : (n : ℕ) (f : Field) (r : Option ℕ) → CanRefer h n f r → LinksRule slots (refer h n f r)
  pub fills : (n : ℕ) (f : Field) (v : ℕ) → CanFill h n → LinksRule slots (fill h n f v)
  pub takes_slots : (n : ℕ) → IsFree (h.slot n) → IsNode slots n → LinksRule slots (take_slot h n)
  pub clears : (x : ℕ) → CanClear h x → LinksRule slots (clear h x)

pub record LinksLaw : Type 0 where
  pub opening : (slots version start last : ℕ) (owner : ℕ → ℕ) → IsEven version
      → LinksRule slots (opened (opening_cells version) start last owner opening_slots)
  pub in_use : (slots : ℕ) (h : History) → Rule h → LinksRule slots h → IsLinked slots (cells_now h) → LinksAreInUse h
  pub steps : (slots : ℕ) (h : History) → Rule h → LinksRule slots h → IsLinked slots (cells_now h)
      → StepsKeepLinks slots h
