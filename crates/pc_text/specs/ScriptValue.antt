-- A script as a value: how many clients there are, and the calls of each.
use Rattle.std.specs.Prelude.{ℕ, List}
use Rattle.pc_model.specs.declared.call.Call.{Call}

-- the first list is that of client 1
pub record ScriptValue : Type 0 where
  pub clients : ℕ
  pub calls : List (List Call)
