-- When a count of faults has risen.
use Rattle.std.specs.Prelude.{ℕ, ◌+◌, ◌-◌, ◌^◌, ◌≤◌, min}

-- a fault was counted between the two counts; a count at its last value stands still, and counts as risen
abbrev pub HasRisen : ℕ → ℕ → Type 0
HasRisen old new = min (old + 1) (2 ^ 64 - 1) ≤ new

-- the count of what never fails
abbrev pub no_faults : ℕ
no_faults = 0
