-- A book of reservations: the cells of a plain search tree, whose pairs are seats with their guests.
use Rattle.std.specs.Prelude.{ℕ, ◌<◌, length, is_none, if◌then◌else◌}
use Rattle.pc_model.specs.Map.{Pairs, put, value_at}
use Rattle.pc_model.specs.Trees.{plain, IsSearchTree}
use Rattle.pc_plain.specs.PlainCells.{PlainWords, cells_of}

abbrev pub IsBook : PlainWords → Pairs → Type 0
IsBook w ps = IsSearchTree plain w.slots (cells_of w) ps

-- there are fewer reservations than slots
abbrev pub HasSeatLeft : PlainWords → Type 0
HasSeatLeft w = (ps : Pairs) × IsBook w ps × (length ps < w.slots)

-- the reservations after one more, which a seat that is taken refuses
abbrev pub reserved : ℕ → ℕ → Pairs → Pairs
reserved seat guest ps = if is_none (value_at seat ps) then put seat guest ps else ps
