-- When a history of the protocol of exchanges is that of a board, whose past is remembered: which reference each word
-- holds, how far each attempt has come, and what it is.
use Rattle.std.specs.Prelude.{◌≡◌, ℕ, ◌+◌, ◌*◌, ◌/◌, ◌%◌, ◌<◌, ◌≤◌, ◌⊎◌, Option, Some, None}
use Rattle.pc_model.specs.declared.cell.Field.{Field}
use Rattle.pc_model.specs.Cells.{Cells}
use Rattle.pc_model.specs.Exchanges.{Changed, Exchange as PathExchange}
use Rattle.pc_model.specs.Forms.{Form, IsSound}
use Rattle.pc_words.specs.declared.word.WordKind.{WordKind}
use Rattle.pc_words.specs.declared.word.WordKind.TheVariants.{Plain, Install, Exchange}
use Rattle.pc_words.specs.declared.status.Stage.{Stage as StatusStage}
use Rattle.pc_words.specs.declared.status.Stage.TheVariants.{Idle, Undecided, Succeeded, Withdrawn, Changed as ChangedNode, Locked}
use Rattle.pc_words.specs.declared.status.Status.{Status}
use Rattle.pc_rule_law.specs.Board.{Board}
use Rattle.pc_rule_law.specs.Past.{Has, Attempt, Past}
use Rattle.pc_protocol.specs.Histories.{withdrawn, ended, changed, locked, Stage, absent, undecided, committed, aborted}
use Rattle.pc_protocol.specs.Histories.{History, cells_now, IsPublished, IsUndecided}

-- the protocol's number of an attempt, by the seat of its pass, below 64, and the attempt's number; and back
abbrev pub code : ℕ → ℕ → ℕ
code seat number = 64 * number + seat

abbrev pub seat_in : ℕ → ℕ
seat_in x = x % 64

abbrev pub number_in : ℕ → ℕ
number_in x = x / 64

-- the last stamp: a status has 34 bits for one
abbrev pub last_stamp : ℕ
last_stamp = 17179869183

-- the exchange whose reference a word of a node holds
abbrev pub reference_in : WordKind → Option ℕ
reference_in (Plain x) = None
reference_in (Install q k) = None
reference_in (Exchange p a) = Some (code p a)

-- a reference to an exchange has a seat below 64
abbrev pub IsSeated : WordKind → Type 0
IsSeated (Plain x) = Unit {0}
IsSeated (Install q k) = Unit {0}
IsSeated (Exchange p a) = p < 64

-- The stage of a pass's present attempt, by what its status says. An idle status says no more than that the attempt
-- isn't undecided, and one that is withdrawn doesn't say by whom.
abbrev pub IsStageOf : StatusStage → Stage → Type 0
IsStageOf Idle st = IsUndecided st → ⊥
IsStageOf Undecided st = st ≡ undecided
IsStageOf (Succeeded s) st = st ≡ committed s
IsStageOf Withdrawn st = (st ≡ aborted withdrawn) ⊎ (st ≡ aborted ended)
IsStageOf (ChangedNode n) st = st ≡ aborted (changed n)
IsStageOf (Locked n p) st = st ≡ aborted (locked n p)

-- what a status says of the stage of its pass's attempt a: an earlier one isn't undecided, and a later one isn't
-- published yet
pub record SaysOf (s : Status) (a : ℕ) (st : Stage) : Type 0 where
  pub before : a < s.number → IsUndecided st → ⊥
  pub present : a ≡ s.number → IsStageOf s.stage st
  pub later : s.number < a → st ≡ absent

-- the exchange that an attempt is to make
abbrev pub exchange_of : Attempt → PathExchange
exchange_of x = record { visits = x.visits; reads = x.reads; changes = x.changes; fresh = x.fresh }

-- what is asked of the cells that the run leaves: that they are sound for a shape. Nothing is asked of the plain values, since
-- the words of spares are filled
abbrev pub CellsAreSound : Form → ℕ → Cells → Cells → Type 0
CellsAreSound form slots c plain = IsSound form slots c

pub record IsTied (b : Board) (t : Past) (h : History) : Type 0 where
  pub clock : h.clock ≡ b.clock
  pub last : h.last ≡ last_stamp
  pub owners : (x : ℕ) → h.owner x ≡ seat_in x
  -- the words of the nodes
  pub references : (n : ℕ) (f : Field) → h.reference n f ≡ reference_in (b.cell n f)
  pub seated : (n : ℕ) (f : Field) → IsSeated (b.cell n f)
  pub plain : (n : ℕ) (f : Field) → h.plain n f ≡ t.plain n f
  -- the cells that the run leaves, which are the plain values but for spares
  pub cells : (n : ℕ) (f : Field) → t.cells n f ≡ cells_now h n f
  -- the attempts: how far each has come; those up to the present one that have a change are published; and what each is
  pub stages : (p a : ℕ) → p < 64 → SaysOf (b.status p) a (h.stage (code p a))
  pub published : (p a : ℕ) (x : Changed) → p < 64 → a ≤ (b.status p).number → Has (t.attempt p a).changes x
      → IsPublished (h.stage (code p a))
  pub exchanges : (p a : ℕ) → p < 64 → IsPublished (h.stage (code p a)) → h.op (code p a) ≡ exchange_of (t.attempt p a)
  -- until slots are used again the clock isn't read after clearing
  pub uncleared : (x : ℕ) → h.cleared_at x ≡ None
