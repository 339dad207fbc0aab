-- How passes are made and joined under the whole rule, and what a closed board is.
use Rattle.std.specs.Prelude.{◌≡◌, ℕ, ◌+◌, ◌<◌, false, List, [], ◌++◌}
use Rattle.pc_model.specs.declared.cell.Field.{Field}
use Rattle.pc_model.specs.declared.cell.Field.TheVariants.{Version}
use Rattle.pc_model.specs.Cells.{IsEven}
use Rattle.pc_model.specs.Forms.{Form}
use Rattle.pc_model.specs.Linked.{opening_cells}
use Rattle.pc_history.specs.WorldRuns.{cells_after}
use Rattle.pc_rule_law.specs.Board.{Size}
use Rattle.pc_rule_law.specs.Closings.{IsClosed}
use Rattle.pc_rule_law.specs.Past.{Has, Past}
use Rattle.pc_rule_law.specs.Seats.{new_view, maker, made_by, joined_by, spent_view}
use Rattle.pc_protocol.specs.Histories.{History, IsPublished}
use Rattle.pc_protocol.specs.Notes.{Note, IsTrueNote}
use Rattle.pc_exchange_law.specs.Attempts.{AreScripts, AttemptNote, IsTrueAttemptNote}
use Rattle.pc_exchange_law.specs.OwnSlots.{OwnsSlots}
use Rattle.pc_exchange_law.specs.Paths.{ended_path, new_path}
use Rattle.pc_exchange_law.specs.Ties.{code, exchange_of, CellsAreSound}
use Rattle.pc_exchange_law.specs.TieLaws.{RunTells, run_up_to}
use Rattle.pc_exchange_law.specs.Wholes.{SlotsAt, Whole, all_slots_at, knows_nothing}

-- the first pass of a board
abbrev pub first_whole : Size → Whole
first_whole z = record { view = new_view z 0 false []; knows = knows_nothing z 0; aim = (0, 0); path = new_path; taken = [] }

-- the last pass makes another, which knows what its maker has noted, has visited nothing and took none in
abbrev pub whole_maker : Whole → Whole
whole_maker x = record x { view = maker x.view }

abbrev pub whole_made : Whole → Whole
whole_made x = record x { view = made_by x.view; knows = record (knows_nothing x.view.size (x.view.seat + 1)) { noted = x.knows.noted; told = x.knows.told }; path = new_path; taken = [] }

-- the last pass takes in another, with all that it noted and what it has of slots, but not what that visited, and nothing is left of it
abbrev pub whole_joined : Whole → Whole → Whole
whole_joined x y = record x { view = joined_by x.view y.view; knows = record x.knows { noted = y.knows.noted ++ x.knows.noted; told = y.knows.told ++ x.knows.told }; taken = all_slots_at y ++ x.taken }

abbrev pub whole_spent : Whole
whole_spent = record { view = spent_view; knows = knows_nothing spent_view.size 0; aim = (0, 0); path = ended_path; taken = [] }

-- the words that are left are those of a closed board, whose cells are those that a run leaves from the cells of the
-- opening: exchanges by rising stamps, each of which stands in the cells that the earlier ones leave, and each but for
-- reads that of an attempt which took effect at its stamp. All that the pass knows, which took in all others, is so of it, and what
-- each of them has of slots
pub record IsWholeClosed (form : Form) (z : Size) (x : Whole) (words : List ℕ) : Type 0 where
  pub closed : IsClosed (CellsAreSound form) z words
  pub past : Past
  pub history : History
  pub begins : (n : ℕ) (f : Field) → history.opening n f ≡ opening_cells z.starts.version n f
  pub run : RunTells closed.board past history
  pub leaves : (n : ℕ) (f : Field) → cells_after history.opening (run_up_to history) n f ≡ closed.cells n f
  -- the words say them, of each node that is unmarked
  pub shown : (n : ℕ) (f : Field) → IsEven (closed.cells n Version) → closed.values n f ≡ closed.cells n f
  pub exchanges : (p a : ℕ) → p < 64 → IsPublished (history.stage (code p a)) → history.op (code p a) ≡ exchange_of (past.attempt p a)
  pub scripts : AreScripts z.slots closed.board past past.words
  pub noted : (n : AttemptNote) → Has x.knows.noted n → IsTrueAttemptNote closed.board past past.words n
  pub told : (n : Note) → Has x.knows.told n → IsTrueNote history n
  pub owned : (s : SlotsAt) → Has (all_slots_at x) s → OwnsSlots z history s.seat s.own s.slots
