-- What is true of every script that is read, and of a fault.
use Rattle.std.specs.Prelude.{◌≡◌, ℕ, ◌≤◌, ⊤, All, List, length, Err}
use Rattle.std.specs.Int.{IsInRange}
use Rattle.std.specs.List.{sum_by}
use Rattle.pc_model.specs.declared.call.Call.{Call}
use Rattle.pc_model.specs.declared.call.Call.TheVariants.{Put, Get, Remove, Ceil, Floor}
use Rattle.pc_text.specs.declared.limits.TheConstants.{GREATEST_NUMBER, MOST_CLIENTS, MOST_COMMANDS}
use Rattle.pc_text.specs.declared.line.LineClass.{LineClass}
use Rattle.pc_text.specs.declared.line.LineClass.TheVariants.{Skip, Turn, Command, Bad as BadLine}
use Rattle.pc_text.specs.declared.script.ScriptFault.{ScriptFault}
use Rattle.pc_text.specs.declared.script.ScriptFault.TheVariants.{Bad, Memory}
use Rattle.pc_text.specs.Script.{script_of}

-- the numbers of a call are at most 999999999999999999
abbrev pub IsCallInRange : Call → Type 0
IsCallInRange (Put key value) = (key ≤ GREATEST_NUMBER) × (value ≤ GREATEST_NUMBER)
IsCallInRange (Get key) = key ≤ GREATEST_NUMBER
IsCallInRange (Remove key) = key ≤ GREATEST_NUMBER
IsCallInRange (Ceil key) = key ≤ GREATEST_NUMBER
IsCallInRange (Floor key) = key ≤ GREATEST_NUMBER

-- the lists have at most 60,000 calls together
abbrev pub AreFew : List (List Call) → Type 0
AreFew lists = sum_by (λ calls. length calls) lists ≤ MOST_COMMANDS

-- every call's numbers are in range
abbrev pub AreInRange : List (List Call) → Type 0
AreInRange lists = All (All IsCallInRange) lists

-- a turn is of one of 32 clients, and a command has numbers in range
abbrev pub IsLineInRange : LineClass → Type 0
IsLineInRange Skip = ⊤
IsLineInRange (Turn client) = IsInRange 1 MOST_CLIENTS client
IsLineInRange (Command call) = IsCallInRange call
IsLineInRange (BadLine kind) = ⊤

-- a fault names the first bad line with what is wrong; memory may be wanting whatever the bytes are
abbrev pub IsFaultOf : List ℕ → ScriptFault → Type 0
IsFaultOf bytes (Bad line kind) = script_of bytes ≡ Err (line, kind)
IsFaultOf bytes Memory = ⊤
