-- Which script the words of the command line ask for, and what is written of it.
use Rattle.std.specs.Prelude.{◌≡◌, ℕ, Bool, ◌*◌, ◌&&◌, nat_le, if◌then◌else◌, List, [], ◌∷◌, map, Option, Some, None}
use Rattle.std.specs.Prelude.{String, string_bytes}
use Rattle.std.specs.Io.KnownBytes.{Appends}
use Rattle.pc_edge.specs.Sending.{AppendsFront}
use Rattle.pc_text.specs.declared.limits.TheConstants.{MOST_CLIENTS, MOST_COMMANDS}
use Rattle.pc_text.specs.Made.{made_script}
use Rattle.pc_text.specs.ScriptWords.{number_of}
use Rattle.pc_serve.specs.declared.making.Asked.{Asked}

-- 1 to 32 clients with at least one command each, and at most 60,000 commands together
abbrev pub are_few : ℕ → ℕ → Bool
are_few clients commands = nat_le 1 clients && (nat_le clients MOST_CLIENTS
    && (nat_le 1 commands && nat_le (clients * commands) MOST_COMMANDS))

-- what three numbers ask for, where they are numbers and few enough
abbrev pub asked_with : Option ℕ → Option ℕ → Option ℕ → Option Asked
asked_with (Some seed) (Some clients) (Some commands) =
    if are_few clients commands then Some (record { seed = seed; clients = clients; commands = commands }) else None
asked_with _ _ _ = None

-- what words ask for: three numbers as a script writes them, after the program's name
abbrev pub asked_in : List (List ℕ) → Option Asked
asked_in (name ∷ seed ∷ clients ∷ commands ∷ []) = asked_with (number_of seed) (number_of clients) (number_of commands)
asked_in _ = None

module _ {Z : Type 0} where
  -- the same of strings
  abbrev pub asked_by : List (String Z) → Option Asked
  asked_by words = asked_in (map string_bytes words)

-- the script of these numbers
abbrev pub script_for : Asked → List ℕ
script_for asked = made_script asked.seed asked.clients asked.commands

-- the words are taken, and what the sink holds is what it held before and the script that they ask for
pub record WritesScript (asked : Option Asked) (held held' : Option (List ℕ)) : Type 0 where
  pub numbers : Asked
  pub taken : asked ≡ Some numbers
  pub written : Appends held held' (script_for numbers)

-- a front of that was written before the sink failed
pub record WritesFront (asked : Option Asked) (held held' : Option (List ℕ)) : Type 0 where
  pub numbers : Asked
  pub taken : asked ≡ Some numbers
  pub front : AppendsFront held held' (script_for numbers)
