-- The script that bytes spell, or the first line that is bad: the lines are classed one by one, and
-- then the fault, the clients and each client's calls are read off the classes.
use Rattle.std.specs.Prelude.{ℕ, ◌+◌, ◌==◌, nat_lt, max, if◌then◌else◌, List, [], ◌∷◌, map, Option, Some, None}
use Rattle.std.specs.Prelude.{Result, Ok, Err}
use Rattle.std.specs.List.{range_with_len}
use Rattle.pc_model.specs.declared.call.Call.{Call}
use Rattle.pc_text.specs.declared.limits.TheConstants.{MOST_COMMANDS}
use Rattle.pc_text.specs.declared.kind.ScriptKind.{ScriptKind}
use Rattle.pc_text.specs.declared.kind.ScriptKind.TheVariants.{TooManyLines}
use Rattle.pc_text.specs.declared.line.LineClass.{LineClass}
use Rattle.pc_text.specs.declared.line.LineClass.TheVariants.{Skip, Turn, Command, Bad}
use Rattle.pc_text.specs.Lines.{lines_of}
use Rattle.pc_text.specs.ScriptLine.{class_of}
use Rattle.pc_text.specs.ScriptValue.{ScriptValue}

-- the lines, each with what it is
abbrev pub classes_of : List ℕ → List LineClass
classes_of bytes = map class_of (lines_of bytes)

-- the first bad line with what is wrong, where the lines are counted on from `line` and `before` commands
-- stood before it: the 60,001st command is bad
abbrev pub first_bad : ℕ → ℕ → List LineClass → Option (ℕ × ScriptKind)
first_bad line before [] = None
first_bad line before (Skip ∷ more) = first_bad (line + 1) before more
first_bad line before (Turn client ∷ more) = first_bad (line + 1) before more
first_bad line before (Command call ∷ more) =
    if nat_lt before MOST_COMMANDS then first_bad (line + 1) (before + 1) more else Some (line, TooManyLines)
first_bad line before (Bad kind ∷ more) = Some (line, kind)

-- how many clients there are: client 1, and those up to the last that has a turn
abbrev pub clients_of : List LineClass → ℕ
clients_of [] = 1
clients_of (Skip ∷ more) = clients_of more
clients_of (Turn client ∷ more) = max client (clients_of more)
clients_of (Command call ∷ more) = clients_of more
clients_of (Bad kind ∷ more) = clients_of more

-- the calls of a client, where the turn is that of `turn`
abbrev pub client_calls : ℕ → ℕ → List LineClass → List Call
client_calls client turn [] = []
client_calls client turn (Skip ∷ more) = client_calls client turn more
client_calls client turn (Turn next ∷ more) = client_calls client next more
client_calls client turn (Command call ∷ more) =
    if client == turn then call ∷ client_calls client turn more else client_calls client turn more
client_calls client turn (Bad kind ∷ more) = client_calls client turn more

-- the script of lines of which none is bad: client 1 has the first turn
abbrev pub script_of_classes : List LineClass → ScriptValue
script_of_classes lines =
    record {
      clients = clients_of lines;
      calls = map (λ client. client_calls client 1 lines) (range_with_len 1 (clients_of lines));
    }

abbrev pub script_unless : Option (ℕ × ScriptKind) → ScriptValue → Result ScriptValue (ℕ × ScriptKind)
script_unless None script = Ok script
script_unless (Some fault) script = Err fault

-- the script that bytes spell, or the first bad line, counted from 1, with what is wrong
abbrev pub script_of : List ℕ → Result ScriptValue (ℕ × ScriptKind)
script_of bytes =
    script_unless (first_bad 1 0 (classes_of bytes)) (script_of_classes (classes_of bytes))
