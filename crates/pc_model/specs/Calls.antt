-- The puts among some calls.
use Rattle.std.specs.Prelude.{ℕ, ◌+◌, Bool, true, false, List, [], ◌∷◌}
use Rattle.pc_model.specs.declared.call.Call.{Call}
use Rattle.pc_model.specs.declared.call.Call.TheVariants.{Put, Get, Remove, Ceil, Floor}
use Rattle.pc_model.specs.Counts.{one_if}

abbrev pub is_put : Call → Bool
is_put (Put k v) = true
is_put (Get k) = false
is_put (Remove k) = false
is_put (Ceil k) = false
is_put (Floor k) = false

-- how many puts there are
abbrev pub puts_in : List Call → ℕ
puts_in [] = 0
puts_in (call ∷ calls) = one_if (is_put call) + puts_in calls
