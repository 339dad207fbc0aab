-- A made script is a script, of no more bytes than an input may have.
use Rattle.std.proofs.Common.{◌≡◌, ℕ, zero, suc, ◌+◌, ◌-◌, ◌*◌, ◌%◌, ◌^◌, ◌<◌, ◌≤◌, Bool, true, false, nat_lt, List, [], ◌∷◌}
use Rattle.std.proofs.Common.{◌++◌, length, map, refl, sym, ap, ap₂, ◌∙◌, arith, All, sum_by, Ok, subst, length-append}
use Rattle.std.specs.Prelude.{codes, ◌==◌, if◌then◌else◌}
use Rattle.std.specs.Fmt.{decimal}
use Rattle.std.specs.Int.{IsInRange}
use Rattle.std.specs.List.{range_with_len}
use Rattle.std.proofs.lemmas.Fmt.{length-decimal-le}
use Rattle.std.proofs.lemmas.List.Elements.{All-nil, All-cons}
use Rattle.std.proofs.lemmas.List.Sums.{sum_by-cons}
use Rattle.std.proofs.lemmas.List.FromFn.{length-map-range_with_len}
use Rattle.pc_model.specs.declared.call.Call.{Call}
use Rattle.pc_model.specs.declared.call.Call.TheVariants.{Put, Get, Remove, Ceil, Floor}
use Rattle.pc_text.specs.declared.limits.TheConstants.{GREATEST_NUMBER, MOST_BYTES, MOST_CLIENTS, MOST_COMMANDS}
use Rattle.pc_text.specs.Made.{state_after, draw, next_state, command_from, kind_from, commands_from}
use Rattle.pc_text.specs.Made.{made_commands, made_lists, made_script, state_behind, MadeReadsBack}
use Rattle.pc_text.specs.Printed.{call_text}
use Rattle.pc_text.specs.ScriptFacts.{AreInRange, IsCallInRange}
use Rattle.pc_text.specs.ScriptText.{client_line, clients_text, text_of}
use Rattle.pc_text.proofs.TextLemmas.{clients_read_back}

-- ---- the numbers of made commands are in range

below_2_31 : (state : ℕ) → next_state state < 2 ^ 31
below_2_31 state = omega arith

draw_small : (state : ℕ) → draw 3 state < 32768
draw_small state = omega (arith, below_2_31 (state_after 2 state))

in_range_if : (p q r s : Bool) (key value : ℕ) → key ≤ GREATEST_NUMBER → value ≤ GREATEST_NUMBER → IsCallInRange
    (if p then Put key value else if q then Get key else if r then Remove key else if s then Ceil key else Floor key)
in_range_if true q r s key value low light = (low, light)
in_range_if false true r s key value low light = low
in_range_if false false true s key value low light = low
in_range_if false false false true key value low light = low
in_range_if false false false false key value low light = low

command_in_range : (state : ℕ) → IsCallInRange (command_from state)
command_in_range state =
    let kind = kind_from state in
    in_range_if (nat_lt kind 3) (nat_lt kind 5) (kind == 5) (kind == 6) (draw 2 state % 1000) (draw 3 state)
    (omega arith) (omega (arith, draw_small state))

commands_in_range : (commands state : ℕ) → All IsCallInRange (commands_from commands state)
commands_in_range zero state = All-nil IsCallInRange
commands_in_range (suc commands) state =
    All-cons IsCallInRange _ _ (command_in_range state) (commands_in_range commands (state_behind state))

length-commands_from : (commands state : ℕ) → length (commands_from commands state) ≡ commands
length-commands_from zero state = refl
length-commands_from (suc commands) state = ap suc (length-commands_from commands (state_behind state))

-- ---- all clients

abbrev pub from_client : ℕ → ℕ → ℕ → ℕ → List (List Call)
from_client seed commands client clients = map (made_commands seed commands) (range_with_len client clients)

lists_in_range : (seed commands client clients : ℕ) → AreInRange (from_client seed commands client clients)
lists_in_range seed commands client zero = All-nil (All IsCallInRange)
lists_in_range seed commands client (suc clients) =
    All-cons (All IsCallInRange) _ _ (commands_in_range commands _) (lists_in_range seed commands (client + 1) clients)

one_more_of : (n m : ℕ) → m + n * m ≡ suc n * m
one_more_of n m = omega arith

count_in : (seed commands client clients : ℕ)
    → sum_by (λ calls. length calls) (from_client seed commands client clients) ≡ clients * commands
count_in seed commands client zero = omega arith
count_in seed commands client (suc clients) =
    sum_by-cons (λ (c : List Call). length c) (made_commands seed commands client) (from_client seed commands (client + 1) clients)
    ∙ ap₂ (λ a b. a + b) (length-commands_from commands _) (count_in seed commands (client + 1) clients)
    ∙ one_more_of clients commands

pub made_reads_back : (seed clients commands : ℕ) → MadeReadsBack seed clients commands
unfolding made_script
made_reads_back seed clients commands some few =
    let many : length (made_lists seed clients commands) ≡ clients =
    length-map-range_with_len (made_commands seed commands) 1 clients in
    clients_read_back (made_lists seed clients commands) (subst (IsInRange 1 MOST_CLIENTS) (sym many) some)
    (omega (arith, count_in seed commands 1 clients, few)) (lists_in_range seed commands 1 clients)
    ∙ ap (λ n. Ok (record { clients = n; calls = made_lists seed clients commands })) many

-- ---- how long it is

short_number : (n : ℕ) → n ≤ GREATEST_NUMBER → length (decimal n) ≤ 18
short_number n small = length-decimal-le 18 n (omega arith) (omega arith) (omega arith)

short_command : (call : Call) → IsCallInRange call → length (call_text call) ≤ 48
unfolding call_text
short_command (Put key value) in_range =
    omega (
      arith,
      length-append (codes "put " ++ decimal key ++ codes " ") (decimal value),
      length-append (codes "put " ++ decimal key) (codes " "),
      length-append (codes "put ") (decimal key),
      short_number key in_range.0,
      short_number value in_range.1,
    )
short_command (Get key) in_range = omega (arith, short_number key in_range)
short_command (Remove key) in_range = omega (arith, short_number key in_range)
short_command (Ceil key) in_range = omega (arith, short_number key in_range)
short_command (Floor key) in_range = omega (arith, short_number key in_range)

short_text : (calls : List Call) → All IsCallInRange calls → length (text_of calls) ≤ 49 * length calls
short_text [] in_range = omega arith
short_text (call ∷ calls) in_range =
    let here : IsCallInRange call = in_range 0 call (omega arith) in
    omega (
      arith,
      short_command call here,
      short_text calls (λ k d below. in_range (suc k) d (omega arith)),
      length-append (call_text call ++ codes "\n") (text_of calls),
      length-append (call_text call) (codes "\n"),
    )

short_turn : (client : ℕ) → client ≤ GREATEST_NUMBER → length (client_line client) ≤ 26
unfolding client_line
short_turn client small =
    omega (
      arith,
      short_number client small,
      length-append (codes "client " ++ decimal client) (codes "\n"),
      length-append (codes "client ") (decimal client),
    )

short_clients : (client : ℕ) (lists : List (List Call)) → client + length lists ≤ GREATEST_NUMBER → AreInRange lists
    → length (clients_text client lists)
    ≤ 26 * length lists + 49 * sum_by (λ calls. length calls) lists
short_clients client [] few in_range = omega arith
short_clients client (calls ∷ lists) few in_range =
    let here : All IsCallInRange calls = in_range 0 calls (omega arith) in
    omega (
      arith,
      short_turn client (omega arith),
      short_text calls here,
      short_clients (client + 1) lists (omega arith) (λ k d below. in_range (suc k) d (omega arith)),
      sum_by-cons (λ (c : List Call). length c) calls lists,
      length-append (client_line client ++ text_of calls) (clients_text (client + 1) lists),
      length-append (client_line client) (text_of calls),
    )

-- a made script is no longer than an input may be
pub made_is_short : (seed clients commands : ℕ) → clients ≤ MOST_CLIENTS → clients * commands ≤ MOST_COMMANDS
    → length (made_script seed clients commands) ≤ MOST_BYTES
unfolding made_script
made_is_short seed clients commands few short =
    let lists = made_lists seed clients commands in
    let many : length lists ≡ clients = length-map-range_with_len (made_commands seed commands) 1 clients in
    omega (
      arith,
      short_clients 1 lists (omega arith) (lists_in_range seed commands 1 clients),
      count_in seed commands 1 clients,
      many,
    )

-- ---- what is to be written next

next_command : (n state : ℕ) → 0 < n
    → commands_from n state ≡ command_from state ∷ commands_from (n - 1) (state_behind state)
next_command zero state some = absurd (omega (arith, some))
next_command (suc n) state some =
    ap (λ m. command_from state ∷ commands_from m (state_behind state)) (omega arith)

pub next_line : (commands counter state : ℕ) → counter < commands
    → text_of (commands_from (commands - counter) state) ≡ call_text (command_from state) ++ codes "\n"
    ++ text_of (commands_from (commands - (counter + 1)) (state_behind state))
next_line commands counter state below =
    ap text_of (next_command (commands - counter) state (omega arith))
    ∙ ap (λ n. call_text (command_from state) ++ codes "\n" ++ text_of (commands_from n (state_behind state)))
    (omega arith)

-- the text of the clients from this one up to the last of so many
abbrev pub text_from : ℕ → ℕ → ℕ → ℕ → List ℕ
text_from seed commands client clients = clients_text client (from_client seed commands client clients)

next_clients : (seed commands client clients : ℕ) → 0 < clients
    → text_from seed commands client clients ≡ client_line client ++ text_of (made_commands seed commands client)
    ++ text_from seed commands (client + 1) (clients - 1)
next_clients seed commands client zero some = absurd (omega (arith, some))
next_clients seed commands client (suc clients) some =
    ap (λ m. client_line client ++ text_of (made_commands seed commands client)
    ++ text_from seed commands (client + 1) m) (omega arith)

pub next_turn : (seed commands clients before : ℕ) → before < clients
    → text_from seed commands (before + 1) (clients - before)
    ≡ client_line (before + 1) ++ text_of (made_commands seed commands (before + 1))
    ++ text_from seed commands (before + 1 + 1) (clients - (before + 1))
next_turn seed commands clients before few =
    next_clients seed commands (before + 1) (clients - before) (omega arith)
    ∙ ap (λ n. client_line (before + 1) ++ text_of (made_commands seed commands (before + 1))
    ++ text_from seed commands (before + 1 + 1) n) (omega arith)

pub no_turn : (seed commands clients before : ℕ) → clients ≤ before
    → text_from seed commands (before + 1) (clients - before) ≡ []
no_turn seed commands clients before all =
    let none : clients - before ≡ 0 = omega arith in
    ap (text_from seed commands (before + 1)) none
