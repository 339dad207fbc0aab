-- The passes of a board that opens.
use Rattle.std.specs.Prelude.{◌≡◌, ℕ, ◌+◌, ◌<◌, false, List, [], length}
use mathlib.Core.Option.{some}
use lib.ListN.{get_elem?}
use Rattle.pc_model.specs.declared.shape.Shape.{Ghosts}
use Rattle.pc_rule_law.specs.declared.opening.Opening.{Opening}
use Rattle.pc_rule_law.specs.Conditions.{IsFree}
use Rattle.pc_rule_law.specs.Seats.{new_view}
use Rattle.pc_rule_law.specs.Tables.{size_of}
use Rattle.pc_exchange_law.specs.Paths.{new_path}
use Rattle.pc_exchange_law.specs.Wholes.{Whole, knows_nothing}
use Rattle.pc_exchange_law.specs.WholeSeats.{whole_maker}
use Rattle.pc_rule.specs.declared.board.Board.{Board}
use Rattle.pc_rule.specs.declared.board.Pass.{Pass}
use Rattle.pc_rule.specs.Passes.{whole, view, listed, IsBlank, IsPassOf}
use Rattle.pc_rule.specs.Recorded.{HasRoomFor}

-- what the last pass that was made knows, at its seat
abbrev pub last_whole : Opening → ℕ → Whole
last_whole o i = record { view = new_view (size_of o) i false []; knows = knows_nothing (size_of o) i; aim = (0, 0); path = new_path; taken = [] }

module _ {H : Type 0} {S : Ghosts H} where
  -- these passes have the seats from 0 on, none is the last one, and none recorded a call, takes one along or lists a word
  abbrev pub AreMade : Board H → Opening → List (Pass H S) → Type 0
  AreMade b o passes = (i : ℕ) (p : Pass H S) → get_elem? passes i ≡ some p → IsPassOf b p × (whole p ≡ whole_maker (last_whole o i)) × IsBlank p × (listed p ≡ [])

  -- the last pass that was made: it knows that it is, recorded no call, takes none along, lists no word, and has room for all calls where it has the
  -- highest seat
  abbrev pub IsLastMade : Board H → Opening → ℕ → Pass H S → Type 0
  IsLastMade b o i p = IsPassOf b p × (whole p ≡ last_whole o i) × IsBlank p × (i + 1 ≡ o.seats → HasRoomFor b.shares.items p) × (listed p ≡ [])

  -- all passes of the board: one for each seat, in order, and the last one knows that it is
  abbrev pub AreOpened : Board H → Opening → List (Pass H S) → Type 0
  AreOpened b o passes = (length passes ≡ o.seats)
      × ((i : ℕ) (p : Pass H S) → get_elem? passes i ≡ some p → (i + 1 < o.seats → IsPassOf b p × (whole p ≡ whole_maker (last_whole o i)) × IsBlank p × (listed p ≡ [])) × (i + 1 ≡ o.seats → IsLastMade b o i p))

  -- passes with the seats from 0 on, of which no install stands
  abbrev pub AreInOrder : Board H → List (Pass H S) → Type 0
  AreInOrder b passes = (i : ℕ) (p : Pass H S) → get_elem? passes i ≡ some p → IsPassOf b p × ((view p).seat ≡ i) × IsFree (view p)
