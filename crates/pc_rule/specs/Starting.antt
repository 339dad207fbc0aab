-- What the words of a board are when it opens.
use Rattle.std.specs.Prelude.{ℕ, zero, suc, ◌+◌, ◌*◌, ◌==◌, if◌then◌else◌, []}
use Rattle.pc_model.specs.Exchanges.{Changed}
use Rattle.pc_words.specs.declared.status.Stage.TheVariants.{Idle}
use Rattle.pc_words.specs.Statuses.{packed}
use Rattle.pc_model.specs.Linked.{opening_cells}
use Rattle.pc_rule_law.specs.declared.opening.Opening.{Opening}
use Rattle.pc_rule_law.specs.Board.{Board}
use Rattle.pc_rule_law.specs.Openings.{opening_board}
use Rattle.pc_rule_law.specs.Tables.{size_of}
use Rattle.pc_rule.specs.declared.opening.Place.{Place}

abbrev pub change_of : Place → Changed
change_of p = record { node = p.node; field = p.field; old = p.old; new = p.new }

-- the word of a node at a place: its version, its key, and 0
abbrev pub cell_number : ℕ → ℕ → ℕ → ℕ
cell_number version node zero = if node == 1 then 4 * version else 4 * (version + 1)
cell_number version node (suc zero) = if node == 1 then 18446744073709551612 else 0
cell_number version node (suc (suc place)) = 0

-- the word of a pass at a place among its words: its status, which is idle, its install's number, and 0
abbrev pub own_number : ℕ → ℕ → ℕ → ℕ
own_number attempt install zero = packed (record { number = attempt; stage = Idle })
own_number attempt install (suc zero) = 0
own_number attempt install (suc (suc zero)) = install
own_number attempt install (suc (suc (suc place))) = 0

-- the board that opens
abbrev pub starting_board : Opening → Board
starting_board o = opening_board (size_of o) (opening_cells o.starts.version) []
