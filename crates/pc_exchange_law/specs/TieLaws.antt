-- The laws of the tie: of a board that opens, of each step, of what loads tell, and of the run at the end.
use Rattle.std.specs.Prelude.{◌≡◌, ◌≢◌, ℕ, ◌+◌, ◌<◌, ◌≤◌, ◌⊎◌, List, [], Option, Some, None, false}
use Rattle.pc_model.specs.declared.cell.Field.{Field}
use Rattle.pc_model.specs.declared.cell.Field.TheVariants.{Version}
use Rattle.pc_model.specs.Cells.{Cells, IsOdd}
use Rattle.pc_model.specs.Exchanges.{Visited, Changed, FreshNode, Exchange as PathExchange}
use Rattle.pc_model.specs.Forms.{Form, IsSound, Fits}
use Rattle.pc_words.specs.declared.word.WordKind.{WordKind}
use Rattle.pc_words.specs.declared.word.WordKind.TheVariants.{Plain, Exchange}
use Rattle.pc_words.specs.declared.status.Stage.TheVariants.{Idle, Undecided, Succeeded}
use Rattle.pc_history.specs.Footprints.{IsAmong}
use Rattle.pc_history.specs.WorldRuns.{Stamped, IsWorldRun, cells_after, cells_before, run_of}
use Rattle.pc_rule_law.specs.Board.{Size, Board, put2}
use Rattle.pc_rule_law.specs.Past.{Has, Attempt, Placing, Past, change, IsFormed}
use Rattle.pc_rule_law.specs.Stages.{IsIdle, IsOpen, value_by as value_by_status, IsUndecided as IsUndecidedAttempt}
use Rattle.pc_rule_law.specs.Rule.{Shared}
use Rattle.pc_rule_law.specs.Values.{IsPlainValue}
use Rattle.pc_rule_law.specs.Openings.{opening_board, opening_attempt, opening_words}
use Rattle.pc_rule_law.specs.Seats.{opening_past}
use Rattle.pc_protocol.specs.Histories.{Purpose, for_exchange, for_read, Cause, withdrawn, ended, changed, locked, Stage, committed, aborted, used, History, moments, IsPublished, IsUndecided, value_by, cells_now, IsSpare}
use Rattle.pc_protocol.specs.Rules.{Rule, IsReady}
use Rattle.pc_protocol.specs.Seeing.{Visits, ChangesVersion, Covers, Saw}
use Rattle.pc_protocol.specs.Serving.{HasPassedByNotes}
use Rattle.pc_protocol.specs.Notes.{clock_was, visited, read_word, held, drew, verdict, rival, in_run, outdated, IsTrueNote}
use Rattle.pc_protocol.specs.Bases.{IsBased}
use Rattle.pc_protocol.specs.Steps.{draw, CanDraw, publish, CanPublish, commit, CanCommit, abort, CanAbort, refer, CanRefer}
use Rattle.pc_protocol.specs.Openings.{opened, opening_slots}
use Rattle.pc_exchange_law.specs.Ties.{code, seat_in, number_in, last_stamp, reference_in, IsStageOf, exchange_of, CellsAreSound, IsTied}
use Rattle.pc_exchange_law.specs.Changes.{with_word, with_status, with_next_stamp, with_installs, with_values, at_stage}
use Rattle.pc_exchange_law.specs.Changes.{stage_by, Leads, ShowsSame, MayBecome, HoldsAll, RaisesNodes, Succeeds}

-- each attempt of each of 64 passes has a number of its own, and each number is that of an attempt
pub record CodesAreInverse : Type 0 where
  pub seat : (p a : ℕ) → p < 64 → seat_in (code p a) ≡ p
  pub number : (p a : ℕ) → p < 64 → number_in (code p a) ≡ a
  pub back : (x : ℕ) → (seat_in x < 64) × (code (seat_in x) (number_in x) ≡ x)

-- ---- the opening

-- the history of a board that opens with these cells, at this clock
abbrev pub opening_history : Cells → ℕ → History
opening_history cells start = opened cells start last_stamp seat_in opening_slots

-- each word is the plain number of the cells, every slot is marked, and no pass has published anything
pub record OpensIdle (b : Board) (t : Past) (cells : Cells) : Type 0 where
  pub words : (n : ℕ) (f : Field) → b.cell n f ≡ Plain (cells n f)
  pub idle : (p : ℕ) → IsIdle (b.status p).stage
  pub plain : (n : ℕ) (f : Field) → t.plain n f ≡ cells n f
  pub cells_are : (n : ℕ) (f : Field) → t.cells n f ≡ cells n f
  pub marked : (n : ℕ) → n ≢ 1 → IsOdd (cells n Version)
  -- the attempts up to the present ones have no changes
  pub attempts : (p a : ℕ) (x : Changed) → a ≤ (b.status p).number → Has (t.attempt p a).changes x → ⊥

pub record HasOpened (b : Board) (t : Past) (cells : Cells) : Type 0 where
  pub rule : Rule (opening_history cells b.clock)
  pub tied : IsTied b t (opening_history cells b.clock)

pub record OpeningsAreTied : Type 0 where
  pub any : (b : Board) (t : Past) (cells : Cells) → OpensIdle b t cells → HasOpened b t cells
  -- the board of an opening at which no exchange is given
  pub usual : (z : Size) (cells : Cells) → ((n : ℕ) → n ≢ 1 → IsOdd (cells n Version))
      → HasOpened (opening_board z cells []) (opening_past cells (opening_attempt []) (opening_words []) false) cells

-- ---- the steps

-- Each step on the board is one of the protocol, or none: where the protocol allows it, it leads to the next history.
pub record StepsStayTied (z : Size) (b : Board) (t : Past) (h : History) : Type 0 where
  -- looks, and stores to words of the own
  pub looks : (b' : Board) (t' : Past) → ShowsSame b t b' t' → Leads h b' t' h
  -- one word of a node
  pub words : (n : ℕ) (f : Field) (c : WordKind) (placing' : ℕ → ℕ → Placing) (course' : ℕ → ℕ → ℕ)
      → MayBecome z b t n f c
      → Leads h (with_word b n f c) (with_installs t placing' course') (refer h n f (reference_in c))
  -- a draw for an exchange, and one for a read, or that is refused
  pub draws : (x : ℕ) → CanDraw h x → Leads h (with_next_stamp b) t (draw h (for_exchange x))
  pub other_draws : (p : ℕ) → Leads h (with_next_stamp b) t (draw h (for_read p))
  -- a publication of the next attempt; c is the clock that was read before
  pub publishes : (p c : ℕ) (x : Attempt) → p < 64 → (IsOpen (b.status p).stage → ⊥)
      → CanPublish h (code p ((b.status p).number + 1)) (exchange_of x) c
      → Leads h (with_status b p (record { number = (b.status p).number + 1; stage = Undecided }))
      (with_values t t.cells t.plain (put2 t.attempt p ((b.status p).number + 1) x) (put2 t.words p ((b.status p).number + 1) (b.word p)))
      (publish h (code p ((b.status p).number + 1)) (exchange_of x) c)
  -- a success at a stamp
  pub succeeds : (p s : ℕ) (cells' plain' : Cells) → p < 64 → CanCommit h (code p (b.status p).number) s
      → ((n : ℕ) (f : Field) → plain' n f ≡ (commit h (code p (b.status p).number) s).plain n f)
      → ((n : ℕ) (f : Field) → cells' n f ≡ cells_now (commit h (code p (b.status p).number) s) n f)
      → Leads h (with_status b p (at_stage b p (Succeeded s))) (with_values t cells' plain' t.attempt t.words)
      (commit h (code p (b.status p).number) s)
  -- a failure for a cause
  pub fails : (p : ℕ) (cause : Cause) → p < 64 → CanAbort h (code p (b.status p).number) cause
      → Leads h (with_status b p (at_stage b p (stage_by cause))) t (abort h (code p (b.status p).number) cause)
  -- a decided attempt is cleared
  pub clears : (p : ℕ) → (IsOpen (b.status p).stage → ⊥) → Leads h (with_status b p (at_stage b p Idle)) t h

-- ---- what a step owes, in words of the board

-- the node that an exchange makes is ready, no other exchange makes it, and none of the changes is of it
pub record MayMake (h : History) (e : PathExchange) : Type 0 where
  pub ready : (g : FreshNode) → e.fresh ≡ Some g → IsReady (cells_now h) h.plain h.slot g
  pub apart : (y : ℕ) (g k : FreshNode) → IsUndecided (h.stage y) → e.fresh ≡ Some g → (h.op y).fresh ≡ Some k
      → g.node ≢ k.node
  pub unchanged : (a : Changed) (g : FreshNode) → IsAmong a e.changes → e.fresh ≡ Some g → a.node ≢ g.node

pub record WordsServe (z : Size) (b : Board) (t : Past) (h : History) : Type 0 where
  pub refer : (n : ℕ) (f : Field) (c : WordKind) → MayBecome z b t n f c → CanRefer h n f (reference_in c)
  pub draw : (p a : ℕ) → p < 64 → IsPublished (h.stage (code p a)) → HoldsAll b t p a → CanDraw h (code p a)
  pub publish : (p c : ℕ) (x : Attempt) → p < 64 → c ≤ b.clock → IsFormed z.slots x → RaisesNodes x
      → Saw (moments h) c (exchange_of x) → MayMake h (exchange_of x)
      → CanPublish h (code p ((b.status p).number + 1)) (exchange_of x) c
  -- each visit is of a version that the attempt changes, or passed the check for the stamp
  pub commit : (p a s : ℕ) → p < 64 → IsUndecidedAttempt b.status p a → IsTrueNote h (drew (code p a) s)
      → ((v : Visited) → Has (t.attempt p a).visits v
      → ChangesVersion (exchange_of (t.attempt p a)) v.node v.version ⊎ HasPassedByNotes h s v)
      → CanCommit h (code p a) s
  pub withdraw : (p a : ℕ) → p < 64 → IsUndecidedAttempt b.status p a → CanAbort h (code p a) withdrawn
  pub run_out : (p a : ℕ) → p < 64 → IsUndecidedAttempt b.status p a → last_stamp ≤ b.clock
      → CanAbort h (code p a) ended
  -- the attempt is known to be outdated at a node
  pub fail : (p a n : ℕ) → p < 64 → IsUndecidedAttempt b.status p a → IsTrueNote h (outdated (code p a) n)
      → CanAbort h (code p a) (changed n)
  -- another pass was a rival for a node that it visits, at one of its stamps
  pub lock : (p a n v q s : ℕ) → p < 64 → IsUndecidedAttempt b.status p a → Visits (exchange_of (t.attempt p a)) n v → q ≢ p
      → IsTrueNote h (drew (code p a) s) → IsTrueNote h (rival q n s)
      → CanAbort h (code p a) (locked n q)

-- what a success does to the words and the plain values
abbrev pub SuccessesServe : Board → Past → History → Type 0
SuccessesServe b t h = (p a s : ℕ) → p < 64 → (b.status p).number ≡ a → CanCommit h (code p a) s
    → Succeeds b t p a (commit h (code p a) s).plain

-- ---- what loads tell

pub record BoardTells (b : Board) (t : Past) (h : History) : Type 0 where
  -- the clock; a version, and another word after a visit of its node, which is no spare; a reference
  pub clock : IsTrueNote h (clock_was b.clock)
  pub version : (n : ℕ) → (IsSpare (h.slot n) → ⊥) → IsTrueNote h (visited n (t.plain n Version) b.clock)
  pub word : (n v c : ℕ) (f : Field) → (IsSpare (h.slot n) → ⊥) → IsTrueNote h (visited n v c)
      → IsTrueNote h (read_word n v f (t.plain n f) b.clock)
  pub reference : (n : ℕ) (f : Field) (p a : ℕ) → b.cell n f ≡ Exchange p a → IsTrueNote h (held (code p a) n f)
  -- an attempt is published: by a status that isn't idle, or by a change that it has
  pub busy : (p : ℕ) → p < 64 → (IsIdle (b.status p).stage → ⊥) → IsPublished (h.stage (code p (b.status p).number))
  pub listed : (p a : ℕ) (x : Changed) → p < 64 → a ≤ (b.status p).number → Has (t.attempt p a).changes x
      → IsPublished (h.stage (code p a))
  -- it is undecided by its status where it is so in the history; and else a status tells how it was decided
  pub undecided : (p a : ℕ) → p < 64 → IsUndecidedAttempt b.status p a → IsUndecided (h.stage (code p a))
  pub undecided_alone : (p a : ℕ) → p < 64 → IsUndecided (h.stage (code p a)) → IsUndecidedAttempt b.status p a
  pub decided : (p : ℕ) → p < 64 → (IsIdle (b.status p).stage → ⊥) → (IsOpen (b.status p).stage → ⊥)
      → (st : Stage) × IsStageOf (b.status p).stage st × IsTrueNote h (verdict (code p (b.status p).number) st)
  -- what a word with a reference is worth is the same by the status and by the history, and by what was noted of it
  pub worth : (p old new : ℕ) → p < 64 → (IsIdle (b.status p).stage → ⊥)
      → value_by (h.stage (code p (b.status p).number)) old new ≡ value_by_status (b.status p).stage old new
  pub plain : (n : ℕ) (f : Field) (p a old new : ℕ) (st : Stage) → b.cell n f ≡ Exchange p a
      → Has (t.attempt p a).changes (change n f old new) → IsTrueNote h (verdict (code p a) st)
      → t.plain n f ≡ value_by st old new
  -- while an attempt is undecided and has its reference in a version, a word that was read at the old version is as
  -- it was
  pub unchanged : (n v c : ℕ) (f : Field) (x p a new : ℕ) → b.cell n Version ≡ Exchange p a
      → IsUndecidedAttempt b.status p a
      → Has (t.attempt p a).changes (change n Version v new) → IsTrueNote h (read_word n v f x c) → t.plain n f ≡ x
  -- an attempt that took effect stands in the run
  pub stands : (p a s : ℕ) → p < 64 → IsTrueNote h (verdict (code p a) (committed s))
      → IsTrueNote h (in_run s (exchange_of (t.attempt p a)))
  -- one that failed at the clock's end
  pub ran_out : (x : ℕ) → IsTrueNote h (verdict x (aborted ended)) → last_stamp ≤ b.clock
  -- an attempt that rests on the old numbers of its words is outdated where a word has another plain value; and so is
  -- one that failed since a node changed
  pub outdates : (p a : ℕ) (x : Changed) → p < 64 → a ≤ (b.status p).number → Has (t.attempt p a).changes x
      → IsBased h (code p a) → (IsSpare (h.slot x.node) → ⊥) → t.plain x.node x.field ≢ x.old
      → IsTrueNote h (outdated (code p a) x.node)
  pub was_outdated : (x n : ℕ) → IsTrueNote h (verdict x (aborted (changed n))) → IsTrueNote h (outdated x n)
  -- one that failed since a node was locked, which it visits: the rival is another pass, by the clock before its publication
  pub was_locked : (p a n q : ℕ) → p < 64 → IsTrueNote h (verdict (code p a) (aborted (locked n q)))
      → IsTrueNote h (rival q n (h.published_at (code p a))) × (q ≢ p) × ((v : ℕ) × Visits (h.op (code p a)) n v)

-- ---- the run

-- the exchanges of the run up to the clock, by rising stamp
abbrev pub run_up_to : History → List Stamped
run_up_to h = run_of h.item h.clock

-- an exchange of the run is a read, which changes nothing, or that of an attempt which took effect at its stamp
abbrev pub IsOfRun : Past → History → Stamped → Type 0
IsOfRun t h x = ((x.what.changes ≡ []) × (x.what.fresh ≡ None))
    ⊎ ((p : ℕ) × (a : ℕ) × (p < 64) × (h.stage (code p a) ≡ committed x.stamp) × (x.what ≡ exchange_of (t.attempt p a)))

-- whose exchange stands at a stamp: that for which the stamp was drawn; none, where it was drawn for a read
abbrev pub maker_of : Purpose → Option ℕ
maker_of (for_exchange x) = Some x
maker_of (for_read p) = None

pub record RunTells (b : Board) (t : Past) (h : History) : Type 0 where
  -- stamps rise, and each exchange stands in the cells that the earlier ones leave from those of the opening
  pub world : IsWorldRun h.opening 0 (run_up_to h)
  pub below : (x : Stamped) → IsAmong x (run_up_to h) → x.stamp < b.clock
  -- the cells in which an exchange stands are those at its moment
  pub before : (x : Stamped) → IsAmong x (run_up_to h) → cells_before h.opening (run_up_to h) x.stamp ≡ moments h x.stamp
  pub each : (x : Stamped) → IsAmong x (run_up_to h) → IsOfRun t h x
  -- whose each is: an exchange stands at the one stamp at which it took effect, and what is of none changes nothing
  pub made : (x : Stamped) (y : ℕ) → IsAmong x (run_up_to h) → maker_of (h.drawn_for x.stamp) ≡ Some y
      → h.stage y ≡ committed x.stamp
  pub unmade : (x : Stamped) → IsAmong x (run_up_to h) → maker_of (h.drawn_for x.stamp) ≡ None
      → (x.what.changes ≡ []) × (x.what.fresh ≡ None)
  pub maker : (y s : ℕ) → h.stage y ≡ committed s → maker_of (h.drawn_for s) ≡ Some y
  -- at a stamp that isn't below the clock that was read before its publication
  pub since : (y s : ℕ) → h.stage y ≡ committed s → h.published_at y ≤ s
  -- the cells that they leave, which are the plain values but for spares
  pub leaves : (n : ℕ) (f : Field) → cells_after h.opening (run_up_to h) n f ≡ t.cells n f
  pub shown : (n : ℕ) (f : Field) → (IsSpare (h.slot n) → ⊥) → t.cells n f ≡ t.plain n f
  -- what took effect at a stamp, an attempt or a read, stands in it
  pub item_stands : (s : ℕ) (e : PathExchange) → h.item s ≡ Some e → IsAmong (record { stamp = s; what = e }) (run_up_to h)
  -- an attempt that took effect stands in it at its stamp
  pub committed_stands : (p a s : ℕ) → p < 64 → h.stage (code p a) ≡ committed s
      → IsAmong (record { stamp = s; what = exchange_of (t.attempt p a) }) (run_up_to h)
  pub succeeded_stands : (p s : ℕ) → p < 64 → (b.status p).stage ≡ Succeeded s
      → IsAmong (record { stamp = s; what = exchange_of (t.attempt p (b.status p).number) }) (run_up_to h)

-- the words of the board show the cells that the run leaves, but for spares
abbrev pub RunIsShown : Form → Size → Board → Past → History → Type 0
RunIsShown form z b t h = Shared (CellsAreSound form) z b t
    → (n : ℕ) (f : Field) → (IsSpare (h.slot n) → ⊥) → IsPlainValue b n f (b.cell n f) (cells_after h.opening (run_up_to h) n f)

-- where each published exchange fits, the cells that the run leaves are sound
abbrev pub RunLeavesSound : Form → Type 0
RunLeavesSound form = (slots : ℕ) (b : Board) (t : Past) (h : History) (charged : ℕ → ℕ → List ℕ) → Rule h → IsTied b t h
    → ((p a : ℕ) → p < 64 → IsPublished (h.stage (code p a)) → Fits form slots (exchange_of (t.attempt p a)) (charged p a))
    → IsSound form slots h.opening
    → IsSound form slots t.cells
