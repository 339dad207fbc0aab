-- Scripts that are made from a seed: each client draws its commands from a generator of its own. They read back.
use Rattle.std.specs.Prelude.{ℕ, zero, suc, ◌+◌, ◌*◌, ◌/◌, ◌%◌, ◌^◌, ◌==◌, nat_lt, if◌then◌else◌, List, [], ◌∷◌}
use Rattle.std.specs.Prelude.{map, Ok, ◌≡◌, ◌≤◌}
use Rattle.std.specs.Int.{IsInRange}
use Rattle.std.specs.List.{range_with_len}
use Rattle.pc_model.specs.declared.call.Call.{Call}
use Rattle.pc_model.specs.declared.call.Call.TheVariants.{Put, Get, Remove, Ceil, Floor}
use Rattle.pc_text.specs.declared.limits.TheConstants.{MOST_CLIENTS, MOST_COMMANDS}
use Rattle.pc_text.specs.Script.{script_of}
use Rattle.pc_text.specs.ScriptText.{script_text}

-- where the generator of a client opens
abbrev pub first_state : ℕ → ℕ → ℕ
first_state seed client = (seed + client) % 2 ^ 31

-- the state after a draw
abbrev pub next_state : ℕ → ℕ
next_state state = (state * 1103515245 + 12345) % 2 ^ 31

-- the state after some draws
abbrev pub state_after : ℕ → ℕ → ℕ
state_after zero state = state
state_after (suc draws) state = state_after draws (next_state state)

-- what a draw gives: the upper half of the state that it leaves, a number below 32768
abbrev pub drawn : ℕ → ℕ
drawn state = state / 65536

-- the number that the draw at this place, from 1, gives
abbrev pub draw : ℕ → ℕ → ℕ
draw place state = drawn (state_after place state)

-- the command of this kind, a number below 8, with these numbers
abbrev pub command_of : ℕ → ℕ → ℕ → Call
command_of kind key value =
    if nat_lt kind 3 then Put key value
    else if nat_lt kind 5 then Get key
    else if kind == 5 then Remove key
    else if kind == 6 then Ceil key
    else Floor key

-- how many draws a command of this kind takes: a put draws its value too
abbrev pub draws_of : ℕ → ℕ
draws_of kind = if nat_lt kind 3 then 3 else 2

-- the kind that the first draw gives
abbrev pub kind_from : ℕ → ℕ
kind_from state = draw 1 state % 8

-- the command that is drawn from a state: its kind, then its key, then the value of a put
abbrev pub command_from : ℕ → Call
command_from state = command_of (kind_from state) (draw 2 state % 1000) (draw 3 state)

-- the state behind it
abbrev pub state_behind : ℕ → ℕ
state_behind state = state_after (draws_of (kind_from state)) state

-- so many commands, drawn one after another
abbrev pub commands_from : ℕ → ℕ → List Call
commands_from zero state = []
commands_from (suc commands) state = command_from state ∷ commands_from commands (state_behind state)

-- the commands of a client
abbrev pub made_commands : ℕ → ℕ → ℕ → List Call
made_commands seed commands client = commands_from commands (first_state seed client)

-- the commands of clients 1, 2 and so on, so many of each
abbrev pub made_lists : ℕ → ℕ → ℕ → List (List Call)
made_lists seed clients commands = map (made_commands seed commands) (range_with_len 1 clients)

-- the script of these
unfoldable pub made_script : ℕ → ℕ → ℕ → List ℕ
made_script seed clients commands = script_text (made_lists seed clients commands)

-- the made script of 1 to 32 clients with at most 60,000 commands together is a script of the drawn commands
abbrev pub MadeReadsBack : ℕ → ℕ → ℕ → Type 0
MadeReadsBack seed clients commands =
    IsInRange 1 MOST_CLIENTS clients → clients * commands ≤ MOST_COMMANDS →
    script_of (made_script seed clients commands)
    ≡ Ok (record { clients = clients; calls = made_lists seed clients commands })
