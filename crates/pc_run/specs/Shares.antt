-- How many slots and entries the map of a script has to have room for.
use Rattle.std.specs.Prelude.{ℕ, ◌+◌, List, length, map, Vec}
use Rattle.std.specs.List.{sum_by}
use Rattle.pc_model.specs.declared.call.Call.{Call}
use Rattle.pc_model.specs.Calls.{puts_in}

-- a client's share of slots: one for each of its puts, and one more
abbrev pub share_of : List Call → ℕ
share_of calls = puts_in calls + 1

-- the shares of all clients together
abbrev pub shares_of : List (List Call) → ℕ
shares_of = sum_by share_of

-- all calls of all clients
abbrev pub calls_in : List (List Call) → ℕ
calls_in = sum_by (λ calls. length calls)

module _ {Z : Type 0} where
  -- the lists that vectors hold
  abbrev pub lists_of : List (Vec Call Z) → List (List Call)
  lists_of = map (λ calls. calls.items)
