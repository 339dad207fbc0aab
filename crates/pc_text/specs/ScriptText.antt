-- How a script writes its commands, and that what is written reads back.
use Rattle.std.specs.Prelude.{codes, ℕ, ◌+◌, ◌≡◌, ◌≤◌, All, List, [], ◌∷◌, ◌++◌, length, Ok}
use Rattle.std.specs.Fmt.{decimal}
use Rattle.std.specs.Int.{IsInRange}
use Rattle.pc_model.specs.declared.call.Call.{Call}
use Rattle.pc_text.specs.declared.limits.TheConstants.{MOST_CLIENTS, MOST_COMMANDS}
use Rattle.pc_text.specs.Printed.{call_text}
use Rattle.pc_text.specs.Script.{script_of}
use Rattle.pc_text.specs.ScriptFacts.{AreFew, AreInRange, IsCallInRange}

-- a line for each command
abbrev pub text_of : List Call → List ℕ
text_of [] = []
text_of (call ∷ calls) = call_text call ++ codes "\n" ++ text_of calls

-- the line that gives a client its turn
unfoldable pub client_line : ℕ → List ℕ
client_line client = codes "client " ++ decimal client ++ codes "\n"

-- the commands of this client and those that follow, each client's behind its line
abbrev pub clients_text : ℕ → List (List Call) → List ℕ
clients_text client [] = []
clients_text client (calls ∷ lists) = client_line client ++ text_of calls ++ clients_text (client + 1) lists

-- the commands of clients 1, 2 and so on
abbrev pub script_text : List (List Call) → List ℕ
script_text lists = clients_text 1 lists

-- at most 60,000 commands that are written with numbers in range are a script of these calls
abbrev pub ReadsBack : List Call → Type 0
ReadsBack calls =
    length calls ≤ MOST_COMMANDS → All IsCallInRange calls →
    script_of (text_of calls) ≡ Ok (record { clients = 1; calls = calls ∷ [] })

-- and so are the commands of 1 to 32 clients, each client's written behind its line
abbrev pub ClientsReadBack : List (List Call) → Type 0
ClientsReadBack lists =
    IsInRange 1 MOST_CLIENTS (length lists) → AreFew lists → AreInRange lists →
    script_of (script_text lists) ≡ Ok (record { clients = length lists; calls = lists })
