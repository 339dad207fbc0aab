-- What the words that a closed board leaves say by themselves.
use Rattle.std.specs.Prelude.{◌≡◌, ◌≢◌, ℕ, ◌+◌, ◌<◌, ◌≤◌, false, List, [], ◌∷◌, ◌++◌, Option, Some, None}
use mathlib.Core.Option.{some}
use lib.ListN.{get_elem?}
use Rattle.std.specs.Mem.Slots.{slots_items}
use Rattle.pc_model.specs.declared.cell.Field.{Field}
use Rattle.pc_model.specs.declared.shape.Shape.{Ghosts}
use Rattle.pc_model.specs.declared.cell.Field.TheVariants.{Version}
use Rattle.pc_model.specs.Cells.{Cells, IsEven, IsNode}
use Rattle.pc_model.specs.Exchanges.{Exchange}
use Rattle.pc_model.specs.Forms.{IsSound}
use Rattle.pc_history.specs.Footprints.{IsAmong}
use Rattle.pc_history.specs.WorldRuns.{Stamped, IsWorldRun, cells_after, cells_before}
use Rattle.pc_words.specs.declared.word.WordKind.TheVariants.{Install}
use Rattle.pc_rule_law.specs.Board.{Size, Board, board_in, start_of}
use Rattle.pc_rule_law.specs.Past.{Has}
use Rattle.pc_rule_law.specs.Values.{HasPlainValue}
use Rattle.pc_protocol.specs.Histories.{Cause, committed, aborted}
use Rattle.pc_protocol.specs.Notes.{Note, read_word, published, verdict, in_run}
use Rattle.pc_exchange_law.specs.SlotCounts.{count_of, nodes_made}
use Rattle.pc_exchange_law.specs.Ties.{code}
use Rattle.pc_exchange_law.specs.Wholes.{SlotsAt, all_slots_at}
use Rattle.pc_rule.specs.declared.board.Pass.{Pass}
use Rattle.pc_rule.specs.declared.closed.Closed.{Closed}
use Rattle.pc_rule.specs.Closed.{closed_size}
use Rattle.pc_rule.specs.Passes.{whole, view, knows}

-- a word of which these notes tell that it was read, at a version of its node, has that number in front of each later exchange or read of this
-- run that finds the node at that version
abbrev pub ReadsStand : List Note → Cells → List Stamped → Type 0
ReadsStand told begin run = (n v k b : ℕ) (f : Field) → Has told (read_word n v f k b) → (x : Stamped) → IsAmong x run → b ≤ x.stamp
    → cells_before begin run x.stamp n Version ≡ v → cells_before begin run x.stamp n f ≡ k

module _ {H : Type 0} {S : Ghosts H} where
  -- the words that are left
  abbrev pub words_left : Closed H S → List ℕ
  words_left c = slots_items c.table.words

  -- the board that these words are
  abbrev pub board_left : Closed H S → Board
  board_left c = board_in (closed_size c) (words_left c)

  -- of each word of a node that is unmarked in these cells the words that are left say the value that they have there, and no
  -- other
  abbrev pub LeavesCells : Closed H S → Cells → Type 0
  LeavesCells c cells = (n : ℕ) (f : Field) → IsNode (closed_size c).slots n → IsEven (cells n Version) → HasPlainValue (board_left c) n f (cells n f)

  -- what these passes have noted of the run, one after another
  abbrev pub told_by : List (Pass H S) → List Note
  told_by [] = []
  told_by (p ∷ passes) = (knows p).told ++ told_by passes

  -- what these passes have of slots, one after another
  abbrev pub slots_by : List (Pass H S) → List SlotsAt
  slots_by [] = []
  slots_by (p ∷ passes) = all_slots_at (whole p) ++ slots_by passes

  -- the next free slot of a pass that has nothing published is the first of its share, and as many on as it has a spare and this run
  -- makes nodes in the share
  abbrev pub SlotsAreCounted : Size → List Stamped → Pass H S → Type 0
  SlotsAreCounted z run p = (view p).attempt.published ≡ false
      → (knows p).slots.next ≡ start_of z (view p).seat + (count_of (knows p).slots.spare + nodes_made z (view p).seat run)

  -- The words that are left say the cells that a run leaves from these, and they are sound: exchanges by rising stamps, each of which stands in
  -- the cells that the earlier ones leave. Each is of one attempt, which stands in it once, or it changes nothing. An attempt of
  -- which the passes have noted its exchange, and that it took effect, stands in it at its stamp, which isn't below the clock
  -- that was read before its publication; one of which they have noted
  -- that it failed doesn't stand in it; and a read stands in it of which they have noted that it took effect. A word that they have read at
  -- a version of its node had that number where an exchange of a later stamp found the node at that version. The slots of each of
  -- them are counted.
  pub record IsLeftByRun (c : Closed H S) (opening : Cells) (passes : List (Pass H S)) : Type 0 where
    pub begin : Cells
    pub begins : (n : ℕ) (f : Field) → begin n f ≡ opening n f
    pub run : List Stamped
    pub stands : IsWorldRun begin 0 run
    pub leaves : LeavesCells c (cells_after begin run)
    -- which are sound for the shape
    pub sound : IsSound S.form (closed_size c).slots (cells_after begin run)
    -- the attempt that stands at a stamp, if it is an attempt
    pub maker : ℕ → Option ℕ
    pub once : (x y : Stamped) (i : ℕ) → IsAmong x run → IsAmong y run → maker x.stamp ≡ Some i → maker y.stamp ≡ Some i
        → x.stamp ≡ y.stamp
    pub unmade : (x : Stamped) → IsAmong x run → maker x.stamp ≡ None → (x.what.changes ≡ []) × (x.what.fresh ≡ None)
    pub won : (p a s b : ℕ) (e : Exchange) → p < 64 → Has (told_by passes) (published (code p a) e b)
        → Has (told_by passes) (verdict (code p a) (committed s))
        → IsAmong (record { stamp = s; what = e }) run × (maker s ≡ Some (code p a)) × (b ≤ s)
    pub lost : (x : Stamped) (p a : ℕ) (cause : Cause) → Has (told_by passes) (verdict (code p a) (aborted cause)) → IsAmong x run
        → maker x.stamp ≢ Some (code p a)
    pub read : (s : ℕ) (e : Exchange) → Has (told_by passes) (in_run s e) → IsAmong (record { stamp = s; what = e }) run
    pub reads_stand : ReadsStand (told_by passes) begin run
    pub counted : (i : ℕ) (p : Pass H S) → get_elem? passes i ≡ some p → SlotsAreCounted (closed_size c) run p

  -- an install stands in no word of a node
  abbrev pub HasNoInstall : Closed H S → Type 0
  HasNoInstall c = (n : ℕ) (f : Field) → IsNode (closed_size c).slots n → (q k : ℕ) → (board_left c).cell n f ≢ Install q k
