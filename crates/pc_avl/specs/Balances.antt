-- When a node is in balance by what was told of it, as a test.
use Rattle.std.specs.Prelude.{ℕ, Bool, ◌+◌, ◌==◌, nat_le, ◌&&◌, if◌then◌else◌}
use Rattle.pc_model.specs.TreeForms.{height_over}
use Rattle.pc_model.specs.declared.cell.Side.{Side}
use Rattle.pc_model.specs.declared.cell.Side.TheVariants.{Left, Right}

-- two stored heights differ by at most one
abbrev pub are_close : ℕ → ℕ → Bool
are_close a b = nat_le a (b + 1) && nat_le b (a + 1)

-- a node whose children have these stored heights is right to store this one, and they are close
abbrev pub is_in_balance : ℕ → ℕ → ℕ → Bool
is_in_balance left right own = (own == height_over left right) && are_close left right

-- the side with the greater stored height
abbrev pub heavier_side : ℕ → ℕ → Side
heavier_side left right = if nat_le left right then Right else Left
