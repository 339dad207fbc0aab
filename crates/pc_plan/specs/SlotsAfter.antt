-- Which slots are out of use after an exchange: the marked one is, the taken one isn't, others are as before.
use Rattle.std.specs.Prelude.{ℕ, ◌%◌, ◌==◌, if◌then◌else◌, Bool, false, Option, Some, None}
use Rattle.pc_model.specs.declared.cell.Field.TheVariants.{Version}
use Rattle.pc_model.specs.Cells.{Cells}
use Rattle.pc_plan.specs.declared.change.Fresh.{Fresh}
use Rattle.pc_plan.specs.Planned.{Planned}

-- the node is the one in question
abbrev pub is_node : Option ℕ → ℕ → Bool
is_node None n = false
is_node (Some m) n = m == n

-- the slot that a fresh node takes, if there is one
abbrev pub taken_by : Option Fresh → ℕ → Option ℕ
taken_by None slot = None
taken_by (Some f) slot = Some slot

abbrev pub parity_after : Planned → ℕ → Cells → ℕ → ℕ
parity_after p slot c n =
    if is_node p.mark n then 1 else if is_node (taken_by p.fresh slot) n then 0 else c n Version % 2
