-- One client on a map of its own: what it was given, and how far it has come.
use Rattle.std.specs.Prelude.{◌≡◌, ◌≤◌, All, List, length, take}
use Rattle.pc_model.specs.declared.call.Call.{Call}
use Rattle.pc_model.specs.Calls.{puts_in}
use Rattle.pc_model.specs.History.{AllOfPass, calls_of}
use Rattle.pc_model.specs.Replay.{fold_of}
use Rattle.pc_text.specs.declared.limits.TheConstants.{MOST_COMMANDS}
use Rattle.pc_text.specs.ScriptFacts.{IsCallInRange}
use Rattle.pc_avl.specs.declared.tree_kind.TreeKind.{TreeKind}
use Rattle.pc_locked.specs.States.{MapState}
use Rattle.pc_run.specs.Runs.{IsSettled}
use Rattle.pc_run.specs.Shares.{share_of}

-- its map, and its calls
pub record LoneView : Type 0 where
  pub map : MapState
  pub calls : List Call

-- what it was given: the kind of its tree, and its calls
pub record LoneTask : Type 0 where
  pub kind : TreeKind
  pub calls : List Call

-- The first of the calls were run by client 1, as many as there are entries, each once and in order, and paid for.
-- The map has its share of slots, and room for an entry for each call.
pub record HasRunFirst (calls : List Call) (s : MapState) : Type 0 where
  pub own : AllOfPass 1 s.entries
  pub in_order : calls_of s.entries ≡ take (length s.entries) calls
  pub few : length (fold_of s.entries) ≤ puts_in (calls_of s.entries)
  pub settled : IsSettled s
  pub slots : s.cells.slots ≡ share_of calls
  pub room : s.calls ≡ length calls
  pub small : length calls ≤ MOST_COMMANDS
  pub in_range : All IsCallInRange calls
