-- One of several clients on a map that they share: what it was given.
use Rattle.std.specs.Prelude.{ℕ, ◌≤◌, Bool, All, List, length}
use Rattle.std.specs.Int.{IsInRange}
use Rattle.pc_model.specs.declared.call.Call.{Call}
use Rattle.pc_text.specs.declared.limits.TheConstants.{MOST_CLIENTS, MOST_COMMANDS}
use Rattle.pc_text.specs.ScriptFacts.{IsCallInRange}

-- its number, counted from 1, its calls, how many of them it has made, and whether one was refused
pub record SharerView : Type 0 where
  pub client : ℕ
  pub calls : List Call
  pub done : ℕ
  pub stopped : Bool

-- what it was given: its number and its calls
pub record SharerTask : Type 0 where
  pub client : ℕ
  pub calls : List Call

-- a task that can be done: one of 32 clients, and few calls whose numbers are in range
pub record IsDoable (client : ℕ) (calls : List Call) : Type 0 where
  pub one_of_32 : IsInRange 1 MOST_CLIENTS client
  pub few : length calls ≤ MOST_COMMANDS
  pub in_range : All IsCallInRange calls
