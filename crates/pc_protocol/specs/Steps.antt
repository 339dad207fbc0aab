-- The steps of the protocol: what each changes, and on what condition. Each keeps the rule and every note.
use Rattle.std.specs.Prelude.{◌≡◌, ◌≢◌, ℕ, suc, ◌<◌, ◌≤◌, ◌⊎◌, [], Option, Some, None}
use Rattle.pc_model.specs.declared.cell.Field.{Field}
use Rattle.pc_model.specs.declared.cell.Field.TheVariants.{Version}
use Rattle.pc_model.specs.Exchanges.{Visited, Changed, FreshNode, Exchange, with_changes}
use Rattle.pc_history.specs.Updates.{updated, word_updated}
use Rattle.pc_history.specs.Footprints.{IsAmong, IsOfWord, IsWellFormed}
use Rattle.pc_history.specs.Runs.{put_item}
use Rattle.pc_protocol.specs.Histories.{Purpose, for_read, Cause, Stage, absent, undecided, committed, aborted}
use Rattle.pc_protocol.specs.Histories.{Slot, spare, used, History, moments, cells_now, IsPublished, IsUndecided}
use Rattle.pc_protocol.specs.Histories.{IsDecided, value_by, IsSpare, Drew}
use Rattle.pc_protocol.specs.Seeing.{ChangesVersion, Saw}
use Rattle.pc_protocol.specs.Rules.{Refers, IsReady, IsCause, Rule}
use Rattle.pc_protocol.specs.Notes.{Found, value, by, Looked, Note, IsTrueNote}

-- the rule still holds, and what was noted is still true
pub record Keeps (h h' : History) : Type 0 where
  pub rule : Rule h'
  pub notes : (k : Note) → IsTrueNote h k → IsTrueNote h' k

-- A stamp is drawn, for an exchange or for a read

abbrev pub draw : History → Purpose → History
draw h purpose = record h { clock = suc h.clock; drawn_for = updated h.drawn_for h.clock purpose }

-- the exchange is published, and, where it isn't decided, has its reference in each of its words
pub record CanDraw (h : History) (x : ℕ) : Type 0 where
  pub published : IsPublished (h.stage x)
  pub held : (a : Changed) → IsUndecided (h.stage x) → IsAmong a (h.op x).changes
      → h.reference a.node a.field ≡ Some x

-- An exchange is published

abbrev pub publish : History → ℕ → Exchange → ℕ → History
publish h x e b = record h {
  stage = updated h.stage x undecided;
  op = updated h.op x e;
  published_at = updated h.published_at x b;
}

pub record CanPublish (h : History) (x : ℕ) (e : Exchange) (b : ℕ) : Type 0 where
  pub is_new : h.stage x ≡ absent
  pub past : b ≤ h.clock
  pub well_formed : IsWellFormed e
  pub saw : Saw (moments h) b e
  pub fresh : (g : FreshNode) → e.fresh ≡ Some g → IsReady (cells_now h) h.plain h.slot g
  pub apart : (y : ℕ) (g k : FreshNode) → IsUndecided (h.stage y) → e.fresh ≡ Some g → (h.op y).fresh ≡ Some k
      → g.node ≢ k.node

-- An exchange takes effect at a stamp that was drawn for it

-- the slot of the fresh node is used
abbrev pub slots_with : Option FreshNode → (ℕ → Slot) → ℕ → Slot
slots_with None slot = slot
slots_with (Some g) slot = updated slot g.node used

abbrev pub commit : History → ℕ → ℕ → History
commit h x s = record h {
  item = put_item h.item s (h.op x);
  stage = updated h.stage x (committed s);
  plain = with_changes (h.op x).changes h.plain;
  slot = slots_with (h.op x).fresh h.slot;
}

-- What was found is no greater than this version; a reference is of an exchange that is decided, so that its word is
-- settled.
abbrev pub IsSettled : (ℕ → Stage) → (ℕ → Exchange) → ℕ → ℕ → Found → Type 0
IsSettled stage op n v (value w) = w ≤ v
IsSettled stage op n v (by x) = (IsUndecided (stage x) → ⊥) × ((a : Changed) → IsAmong a (op x).changes
    → IsOfWord n Version a → value_by (stage x) a.old a.new ≤ v)

-- a visited version passed the check for a stamp
pub record HasPassed (h : History) (s : ℕ) (v : Visited) : Type 0 where
  pub found : Found
  pub looked : Looked h s v.node found
  pub settled : IsSettled h.stage h.op v.node v.version found

pub record CanCommit (h : History) (x s : ℕ) : Type 0 where
  pub undecided : IsUndecided (h.stage x)
  pub drew : Drew h.clock h.drawn_for s x
  pub checked : (v : Visited) → IsAmong v (h.op x).visits
      → ChangesVersion (h.op x) v.node v.version ⊎ HasPassed h s v

-- An exchange fails

abbrev pub abort : History → ℕ → Cause → History
abort h x cause = record h { stage = updated h.stage x (aborted cause) }

pub record CanAbort (h : History) (x : ℕ) (w : Cause) : Type 0 where
  pub undecided : IsUndecided (h.stage x)
  pub cause : IsCause h x w

-- A read takes effect at a stamp that was drawn for it

abbrev pub take_read : History → ℕ → Exchange → History
take_read h s e = record h { item = put_item h.item s e }

pub record CanRead (h : History) (p s : ℕ) (e : Exchange) : Type 0 where
  pub drew : (s < h.clock) × (h.drawn_for s ≡ for_read p)
  pub empty : h.item s ≡ None
  pub no_changes : e.changes ≡ []
  pub no_fresh : e.fresh ≡ None
  pub seen_at : ℕ
  pub past : seen_at ≤ s
  pub saw : Saw (moments h) seen_at e
  pub checked : (v : Visited) → IsAmong v e.visits → HasPassed h s v

-- A reference is put into a word, or taken out of it; the plain value stays

abbrev pub refer : History → ℕ → Field → Option ℕ → History
refer h n f r = record h { reference = word_updated h.reference n f r }

-- what is put there refers, to an exchange that isn't cleared; and the reference of one that isn't decided stays
pub record CanRefer (h : History) (n : ℕ) (f : Field) (r : Option ℕ) : Type 0 where
  pub refers : (x : ℕ) → r ≡ Some x → Refers h.stage h.op h.plain h.slot n f x
  pub uncleared : (x : ℕ) → r ≡ Some x → h.cleared_at x ≡ None
  pub stays : (y : ℕ) → h.reference n f ≡ Some y → IsUndecided (h.stage y) → r ≡ Some y

-- A word of a spare is filled

abbrev pub fill : History → ℕ → Field → ℕ → History
fill h n f v = record h { plain = word_updated h.plain n f v }

pub record CanFill (h : History) (n : ℕ) : Type 0 where
  pub is_spare : IsSpare (h.slot n)
  pub not_named : (x : ℕ) (g : FreshNode) → IsUndecided (h.stage x) → (h.op x).fresh ≡ Some g → g.node ≢ n

-- A free slot is taken as a spare

abbrev pub take_slot : History → ℕ → History
take_slot h n = record h { slot = updated h.slot n spare }

-- The clock is read after an exchange's words were cleared

abbrev pub clear : History → ℕ → History
clear h x = record h { cleared_at = updated h.cleared_at x (Some h.clock) }

-- it is decided, and no word has its reference
pub record CanClear (h : History) (x : ℕ) : Type 0 where
  pub decided : IsDecided (h.stage x)
  pub no_words : (n : ℕ) (f : Field) → h.reference n f ≡ Some x → ⊥
