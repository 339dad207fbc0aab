-- How passes are made at the opening of a board and joined at its closing. The pass that was made last makes the next
-- one, so it knows how many there are; and at the end it takes in the others, from the highest seat down.
use Rattle.std.specs.Prelude.{ℕ, ◌+◌, Bool, true, false, List, []}
use Rattle.pc_model.specs.declared.cell.Field.TheVariants.{Spare}
use Rattle.pc_model.specs.Cells.{Cells}
use Rattle.pc_rule_law.specs.Board.{Size}
use Rattle.pc_rule_law.specs.Past.{Attempt, Placing, Past}
use Rattle.pc_rule_law.specs.Views.{Note, View}
use Rattle.pc_rule_law.specs.Rule.{opening_install, opening_own}

-- the view of a new pass at a seat, with what its maker has seen; and whether passes were given exchanges
abbrev pub new_view : Size → ℕ → Bool → List Note → View
new_view z seat posted notes = record { size = z; live = true; seat = seat; last = true; rest = seat; install = opening_install z; fresh = true; attempt = opening_own z; posted = posted; notes = notes }

-- the last pass makes another
abbrev pub maker : View → View
maker v = record v { last = false }

abbrev pub made_by : View → View
made_by v = new_view v.size (v.seat + 1) v.posted v.notes

-- the last pass takes in another
abbrev pub joined_by : View → View → View
joined_by v w = record v { rest = w.seat }

-- a pass that was joined has nothing left
abbrev pub spent_view : View
spent_view = record (new_view (record { seats = 0; slots = 0; shares = []; starts = record { attempt = 0; install = 0; stamp = 0; epoch = 0; version = 0 } }) 0 false []) { live = false }

abbrev pub nothing_placed : Placing
nothing_placed = record { seat = 0; number = 0; node = 0; field = Spare; old = 0; early = false }

-- the past of a board that opens with these cells, attempts and words of descriptors
abbrev pub opening_past : Cells → (ℕ → ℕ → Attempt) → (ℕ → ℕ → ℕ → ℕ) → Bool → Past
opening_past cells attempt words posted = record { cells = cells; plain = cells; attempt = attempt; placing = λ q k. nothing_placed; course = λ q k. 0; count = 1; live = λ j. true; words = words; posted = posted }
