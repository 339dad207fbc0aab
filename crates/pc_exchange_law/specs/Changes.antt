-- What each step changes in a board and in what is remembered of its past; to which history it leads; and what it owes
-- in words of the board.
use Rattle.std.specs.Prelude.{◌≡◌, ◌≢◌, ℕ, suc, ◌≤◌}
use Rattle.pc_model.specs.declared.cell.Field.{Field}
use Rattle.pc_model.specs.declared.cell.Field.TheVariants.{Version}
use Rattle.pc_model.specs.Cells.{Cells}
use Rattle.pc_model.specs.Exchanges.{Changed}
use Rattle.pc_words.specs.declared.word.WordKind.{WordKind}
use Rattle.pc_words.specs.declared.word.WordKind.TheVariants.{Exchange}
use Rattle.pc_words.specs.declared.status.Stage.{Stage as StatusStage}
use Rattle.pc_words.specs.declared.status.Stage.TheVariants.{Withdrawn, Changed as ChangedNode, Locked}
use Rattle.pc_words.specs.declared.status.Status.{Status}
use Rattle.pc_history.specs.Footprints.{IsAmong, RaisesVersionOf}
use Rattle.pc_rule_law.specs.Board.{Size, Board, put, put_cell}
use Rattle.pc_rule_law.specs.Past.{Has, Attempt, Placing, Past}
use Rattle.pc_rule_law.specs.Stages.{IsOpen, IsUndecided as IsUndecidedAttempt}
use Rattle.pc_rule_law.specs.Rule.{Holding}
use Rattle.pc_protocol.specs.Histories.{Cause, withdrawn, ended, changed, locked, History}
use Rattle.pc_protocol.specs.Steps.{Keeps}
use Rattle.pc_exchange_law.specs.Ties.{exchange_of, IsTied}

-- a word of a node, a status and the clock
abbrev pub with_word : Board → ℕ → Field → WordKind → Board
with_word b n f c = record b { cell = put_cell b.cell n f c }

abbrev pub with_status : Board → ℕ → Status → Board
with_status b p s = record b { status = put b.status p s }

abbrev pub with_next_stamp : Board → Board
with_next_stamp b = record b { clock = suc b.clock }

-- the installs; the cells, the plain values, the attempts and their words
abbrev pub with_installs : Past → (ℕ → ℕ → Placing) → (ℕ → ℕ → ℕ) → Past
with_installs t placing' course' = record t { placing = placing'; course = course' }

abbrev pub with_values : Past → Cells → Cells → (ℕ → ℕ → Attempt) → (ℕ → ℕ → ℕ → ℕ) → Past
with_values t cells' plain' attempt' words' = record t { cells = cells'; plain = plain'; attempt = attempt'; words = words' }

-- the status of a pass's present attempt, with another stage
abbrev pub at_stage : Board → ℕ → StatusStage → Status
at_stage b p stage = record { number = (b.status p).number; stage = stage }

-- how a status says why an attempt failed
abbrev pub stage_by : Cause → StatusStage
stage_by withdrawn = Withdrawn
stage_by ended = Withdrawn
stage_by (changed n) = ChangedNode n
stage_by (locked n p) = Locked n p

-- A step from h leads to h': the rule holds, every note that was true is true, and the board and the past of
-- afterwards are tied to it.
pub record Leads (h : History) (b' : Board) (t' : Past) (h' : History) : Type 0 where
  pub keeps : Keeps h h'
  pub tied : IsTied b' t' h'

-- the clock, the statuses, the words of the nodes, the attempts, the cells and the plain values stay
pub record ShowsSame (b : Board) (t : Past) (b' : Board) (t' : Past) : Type 0 where
  pub clock : b'.clock ≡ b.clock
  pub statuses : (p : ℕ) → b'.status p ≡ b.status p
  pub words : (n : ℕ) (f : Field) → b'.cell n f ≡ b.cell n f
  pub attempts : (p a : ℕ) → t'.attempt p a ≡ t.attempt p a
  pub cells : (n : ℕ) (f : Field) → t'.cells n f ≡ t.cells n f
  pub plain : (n : ℕ) (f : Field) → t'.plain n f ≡ t.plain n f

-- a word may become this one: a reference that it then is holds, and the exchange whose reference leaves is decided
pub record MayBecome (z : Size) (b : Board) (t : Past) (n : ℕ) (f : Field) (c : WordKind) : Type 0 where
  pub holds : (p a : ℕ) → c ≡ Exchange p a → Holding z.seats b.status t.attempt (t.plain n f) n f p a
  pub decided : (p a : ℕ) → b.cell n f ≡ Exchange p a → IsUndecidedAttempt b.status p a → ⊥

-- while the attempt is undecided, each of its words holds its reference
abbrev pub HoldsAll : Board → Past → ℕ → ℕ → Type 0
HoldsAll b t p a = (x : Changed) → Has (t.attempt p a).changes x → IsUndecidedAttempt b.status p a
    → b.cell x.node x.field ≡ Exchange p a

-- with each changed word comes the version of its node, which rises; or which stays, as the node's one change
abbrev pub RaisesNodes : Attempt → Type 0
RaisesNodes x = (a : Changed) → IsAmong a x.changes → RaisesVersionOf (exchange_of x) a.node

-- What a success does, in words of the board: each word of the attempt held its reference and is worth its new number,
-- no other word changes its plain value, and versions rise.
pub record Succeeds (b : Board) (t : Past) (p a : ℕ) (plain' : Cells) : Type 0 where
  pub pending : IsOpen (b.status p).stage
  pub held : (x : Changed) → Has (t.attempt p a).changes x → b.cell x.node x.field ≡ Exchange p a
  pub gets : (x : Changed) → Has (t.attempt p a).changes x → plain' x.node x.field ≡ x.new
  pub stays : (n : ℕ) (f : Field) → b.cell n f ≢ Exchange p a → plain' n f ≡ t.plain n f
  pub rises : (n : ℕ) → t.plain n Version ≤ plain' n Version
