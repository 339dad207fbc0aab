-- One pass over the lines: what is read off all of them is what the lines so far gave, with what is
-- read off those that are left.
use Rattle.std.proofs.Common.{◌≡◌, ◌≢◌, ℕ, ◌+◌, ◌-◌, ◌<◌, ◌≤◌, true, false, nat_lt, max, List, [], ◌∷◌, ◌++◌}
use Rattle.std.proofs.Common.{length, get_or, take, drop, set, map, Some, Ok, Err, refl, ap, sym, ◌∙◌, arith}
use Rattle.std.proofs.Common.{append_assoc, All, append-nil, length-drop, inl, inr}
use Rattle.std.proofs.lemmas.Bool.{lt-ltb, le-ltb, ne_eqb, eq-eqb, cases_lt, cases_eq}
use Rattle.std.proofs.lemmas.List.{drop_all, take_all, get_or-take, get_or-set_same, get_or-set_other, get_or_past}
use Rattle.std.proofs.lemmas.List.{length-set, length-take-le, length_push, ext_get_or}
use Rattle.std.proofs.lemmas.List.Elements.{All-nil, All-push, All-set, All-get_or, All-take}
use Rattle.std.proofs.lemmas.List.FromFn.{get_or-map-range_with_len, length-map-range_with_len}
use Rattle.std.proofs.lemmas.List.Splits.{length-slice_split, slice_split_first, slice_split_none}
use Rattle.std.proofs.lemmas.List.Sums.{fails_before_first, sum_by-set, sum_by-le, sum_by-take-le}
use Rattle.std.specs.Int.{IsInRange}
use Rattle.std.specs.List.{position_or_len, range_with_len, slice_split, sum_by}
use Rattle.std.specs.Prelude.{◌==◌}
use Rattle.std.specs.Str.Lines.{strip_carriage_return}
use Rattle.pc_model.specs.declared.call.Call.{Call}
use Rattle.pc_text.specs.declared.limits.TheConstants.{MOST_CLIENTS, MOST_COMMANDS}
use Rattle.pc_text.specs.declared.kind.ScriptKind.{ScriptKind}
use Rattle.pc_text.specs.declared.kind.ScriptKind.TheVariants.{TooManyLines}
use Rattle.pc_text.specs.declared.line.LineClass.{LineClass}
use Rattle.pc_text.specs.declared.line.LineClass.TheVariants.{Skip, Turn, Command, Bad}
use Rattle.pc_text.specs.Lines.{without_empty_last, lines_of}
use Rattle.pc_text.specs.Script.{classes_of, first_bad, clients_of, client_calls, script_of_classes, script_unless}
use Rattle.pc_text.specs.Script.{script_of}
use Rattle.pc_text.specs.ScriptFacts.{IsCallInRange, AreFew, AreInRange}
use Rattle.pc_text.specs.ScriptLine.{class_of}

-- ---- the first line

-- how many bytes stand before the first line feed
abbrev pub line_end : List ℕ → ℕ
line_end bytes = position_or_len (λ byte. byte == 10) bytes

pub without_empty_last-more : (part : List ℕ) (parts : List (List ℕ)) → 0 < length parts
    → without_empty_last (part ∷ parts) ≡ part ∷ without_empty_last parts
without_empty_last-more part [] some = absurd (omega arith)
without_empty_last-more part (next ∷ parts) some = refl

without_empty_last-lone : (part : List ℕ) → 0 < length part → without_empty_last (part ∷ []) ≡ part ∷ []
without_empty_last-lone [] some = absurd (omega arith)
without_empty_last-lone (byte ∷ part) some =
    let test : (length (byte ∷ part) == 0) ≡ false = ne_eqb (length (byte ∷ part)) 0 (λ none. omega arith) in
    rw test refl

-- the parts of lines, of which the first ends at a line feed
parts_ended : (bytes : List ℕ) → line_end bytes < length bytes
    → without_empty_last (slice_split (λ byte. byte == 10) bytes)
    ≡ take (line_end bytes) bytes ∷ without_empty_last
    (slice_split (λ byte. byte == 10) (drop (line_end bytes + 1) bytes))
parts_ended bytes below =
    let more = slice_split (λ byte. byte == 10) (drop (line_end bytes + 1) bytes) in
    ap without_empty_last (slice_split_first (λ byte. byte == 10) bytes 0 below)
    ∙ without_empty_last-more (take (line_end bytes) bytes) more
    (omega (arith, length-slice_split (λ byte. byte == 10) (drop (line_end bytes + 1) bytes)))

-- or the one part, where there is no line feed
parts_last : (bytes : List ℕ) → 0 < length bytes → length bytes ≤ line_end bytes
    → without_empty_last (slice_split (λ byte. byte == 10) bytes)
    ≡ take (line_end bytes) bytes ∷ without_empty_last
    (slice_split (λ byte. byte == 10) (drop (line_end bytes + 1) bytes))
parts_last bytes some all =
    let whole : slice_split (λ byte. byte == 10) bytes ≡ bytes ∷ [] =
    slice_split_none (λ byte. byte == 10) bytes
    (λ k d below. fails_before_first (λ byte. byte == 10) bytes k d (omega arith)) in
    rw (whole, take_all (line_end bytes) bytes all, drop_all (line_end bytes + 1) bytes (omega arith))
    (without_empty_last-lone bytes some)

lines_of-first : (bytes : List ℕ) → 0 < length bytes
    → lines_of bytes ≡ strip_carriage_return (take (line_end bytes) bytes) ∷ lines_of
    (drop (line_end bytes + 1) bytes)
lines_of-first bytes some =
    ap (map strip_carriage_return)
    (elim (cases_lt (line_end bytes) (length bytes))
    [ inl below ↦ parts_ended bytes below | inr all ↦ parts_last bytes some all ])

-- the first line is of this class, and the other bytes are left
pub record Reads (bytes rest : List ℕ) (class : LineClass) : Type 0 where
  pub classes : classes_of bytes ≡ class ∷ classes_of rest
  pub less : length rest < length bytes

pub reads : (bytes rest line : List ℕ) (len : ℕ) (class : LineClass) → 0 < length bytes → len ≡ line_end bytes
    → line ≡ strip_carriage_return (take len bytes)
    → class ≡ class_of line → rest ≡ drop (len + 1) bytes → Reads bytes rest class
reads bytes rest line len class some end cut is left = record {
  classes = ap (map class_of) (lines_of-first bytes some) ∙ rw (left, is, cut, end) refl;
  less = omega (arith, ap length left, length-drop (len + 1) bytes);
}

-- ---- the lines so far

-- so many lines were read, and these bytes are left; each client has a list, and it is the turn of one
pub record HasRead (bytes rest : List ℕ) (lists : List (List Call)) (line turn clients commands : ℕ) : Type 0 where
  pub faults : first_bad 1 0 (classes_of bytes) ≡ first_bad (line + 1) commands (classes_of rest)
  pub most : clients_of (classes_of bytes) ≡ max clients (clients_of (classes_of rest))
  pub calls : (place : ℕ)
      → client_calls (place + 1) 1 (classes_of bytes) ≡ get_or lists place [] ++ client_calls (place + 1) turn
      (classes_of rest)
  pub lines : line + length rest ≤ length bytes
  pub turn_in : IsInRange 1 MOST_CLIENTS turn
  pub clients_in : IsInRange 1 MOST_CLIENTS clients
  pub many : length lists ≡ MOST_CLIENTS
  pub count : sum_by (λ calls. length calls) lists ≡ commands
  pub few : commands ≤ MOST_COMMANDS
  pub in_range : AreInRange lists

at_least_one : (lines : List LineClass) → 1 ≤ clients_of lines
at_least_one [] = omega arith
at_least_one (Skip ∷ lines) = at_least_one lines
at_least_one (Turn client ∷ lines) = omega (arith, at_least_one lines)
at_least_one (Command call ∷ lines) = at_least_one lines
at_least_one (Bad kind ∷ lines) = at_least_one lines

nothing_at : (lists : List (List Call)) → All (λ calls. calls ≡ []) lists → (place : ℕ) → get_or lists place [] ≡ []
nothing_at lists empty place =
    elim (cases_lt place (length lists))
    [ inl below ↦ empty place [] below | inr past ↦ get_or_past lists place [] past ]

count_none : (lists : List (List Call)) → All (λ calls. calls ≡ []) lists → sum_by (λ calls. length calls) lists ≡ 0
count_none lists empty =
    omega (arith, sum_by-le (λ calls. length calls) 0 lists (λ k d below. rw (empty k d below) (omega arith)))

-- 32 lists without calls
pub has_read_none : (bytes : List ℕ) (lists : List (List Call)) → length lists ≡ MOST_CLIENTS
    → All (λ calls. calls ≡ []) lists → HasRead bytes bytes lists 0 1 1 0
has_read_none bytes lists many empty = record {
  faults = refl;
  most = omega (arith, at_least_one (classes_of bytes));
  calls = λ place. rw (nothing_at lists empty place) refl;
  lines = omega arith;
  turn_in = (omega arith, omega arith);
  clients_in = (omega arith, omega arith);
  many = many;
  count = count_none lists empty;
  few = omega arith;
  in_range = λ k d below. rw (empty k d below) (All-nil IsCallInRange);
}

pub has_read_skip : (bytes rest rest' : List ℕ) (lists : List (List Call)) (line turn clients commands : ℕ)
    → HasRead bytes rest lists line turn clients commands
    → Reads rest rest' Skip → HasRead bytes rest' lists (line + 1) turn clients commands
has_read_skip bytes rest rest' lists line turn clients commands read next = record {
  faults = read.faults ∙ ap (first_bad (line + 1) commands) next.classes;
  most = read.most ∙ ap (λ lines. max clients (clients_of lines)) next.classes;
  calls = λ place. read.calls place
      ∙ ap (λ lines. get_or lists place [] ++ client_calls (place + 1) turn lines) next.classes;
  lines = omega (arith, read.lines, next.less);
  turn_in = read.turn_in;
  clients_in = read.clients_in;
  many = read.many;
  count = read.count;
  few = read.few;
  in_range = read.in_range;
}

pub has_read_turn : (bytes rest rest' : List ℕ) (lists : List (List Call)) (line turn clients commands client : ℕ)
    → HasRead bytes rest lists line turn clients commands
    → Reads rest rest' (Turn client) → IsInRange 1 MOST_CLIENTS client
    → HasRead bytes rest' lists (line + 1) client (max client clients) commands
has_read_turn bytes rest rest' lists line turn clients commands client read next inside = record {
  faults = read.faults ∙ ap (first_bad (line + 1) commands) next.classes;
  most = read.most ∙ ap (λ lines. max clients (clients_of lines)) next.classes ∙ omega arith;
  calls = λ place. read.calls place
      ∙ ap (λ lines. get_or lists place [] ++ client_calls (place + 1) turn lines) next.classes;
  lines = omega (arith, read.lines, next.less);
  turn_in = inside;
  clients_in = (omega (arith, read.clients_in.0), omega (arith, read.clients_in.1, inside.1));
  many = read.many;
  count = read.count;
  few = read.few;
  in_range = read.in_range;
}

-- the lists with one more call of a client
abbrev pub with_call : List (List Call) → ℕ → Call → List (List Call)
with_call lists turn call = set lists (turn - 1) (get_or lists (turn - 1) [] ++ call ∷ [])

-- the client's own list grows
calls_own : (lists : List (List Call)) (turn place : ℕ) (call : Call) (more : List LineClass) → place + 1 ≡ turn
    → turn ≤ length lists
    → get_or lists place [] ++ client_calls (place + 1) turn (Command call ∷ more)
    ≡ get_or (with_call lists turn call) place [] ++ client_calls (place + 1) turn more
calls_own lists turn place call more own inside =
    let test : (place + 1 == turn) ≡ true = eq-eqb (place + 1) turn own in
    let at : turn - 1 ≡ place = omega arith in
    rw (test, at, get_or-set_same lists place (get_or lists place [] ++ call ∷ []) [] (omega arith))
    (sym (append_assoc (get_or lists place []) (call ∷ []) (client_calls (place + 1) turn more)))

-- and no other
calls_other : (lists : List (List Call)) (turn place : ℕ) (call : Call) (more : List LineClass)
    → (place + 1 ≡ turn → ⊥) → 1 ≤ turn
    → get_or lists place [] ++ client_calls (place + 1) turn (Command call ∷ more)
    ≡ get_or (with_call lists turn call) place [] ++ client_calls (place + 1) turn more
calls_other lists turn place call more other some =
    let test : (place + 1 == turn) ≡ false = ne_eqb (place + 1) turn other in
    let apart : place ≢ turn - 1 = λ same. other (omega arith) in
    rw (test, get_or-set_other lists (turn - 1) place (get_or lists (turn - 1) [] ++ call ∷ []) [] apart) refl

pub has_read_command : (bytes rest rest' : List ℕ) (lists : List (List Call)) (line turn clients commands : ℕ)
    (call : Call) → HasRead bytes rest lists line turn clients commands
    → Reads rest rest' (Command call) → commands < MOST_COMMANDS → IsCallInRange call
    → HasRead bytes rest' (with_call lists turn call) (line + 1) turn clients (commands + 1)
has_read_command bytes rest rest' lists line turn clients commands call read next room in_range =
    let test : nat_lt commands MOST_COMMANDS ≡ true = lt-ltb commands MOST_COMMANDS room in
    let own = get_or lists (turn - 1) [] in
    let below : turn - 1 < length lists = omega (arith, read.many, read.turn_in.0, read.turn_in.1) in
    record {
      faults = read.faults ∙ ap (first_bad (line + 1) commands) next.classes ∙ rw test;
      most = read.most ∙ ap (λ lines. max clients (clients_of lines)) next.classes;
      calls = λ place. read.calls place
          ∙ ap (λ lines. get_or lists place [] ++ client_calls (place + 1) turn lines) next.classes
          ∙ elim (cases_eq (place + 1) turn) [
            | inl same ↦ calls_own lists turn place call (classes_of rest') same
                (omega (arith, read.many, read.turn_in.1))
            | inr other ↦ calls_other lists turn place call
                (classes_of rest') other read.turn_in.0
          ];
      lines = omega (arith, read.lines, next.less);
      turn_in = read.turn_in;
      clients_in = read.clients_in;
      many = length-set lists (turn - 1) (own ++ call ∷ []) ∙ read.many;
      count = omega (
        arith,
        sum_by-set (λ calls. length calls) lists (turn - 1)
            (own ++ call ∷ []) [] below,
        length_push own call,
        read.count,
      );
      few = omega arith;
      in_range = All-set (All IsCallInRange) lists (turn - 1) (own ++ call ∷ [])
          (All-push IsCallInRange own call (All-get_or (All IsCallInRange) lists (turn - 1) [] below read.in_range)
          in_range) read.in_range;
    }

-- ---- what was read

pub bad_at : (bytes rest rest' : List ℕ) (lists : List (List Call)) (line turn clients commands : ℕ)
    (kind : ScriptKind) → HasRead bytes rest lists line turn clients commands
    → Reads rest rest' (Bad kind) → script_of bytes ≡ Err (line + 1, kind)
bad_at bytes rest rest' lists line turn clients commands kind read next =
    ap (λ fault. script_unless fault (script_of_classes (classes_of bytes))) (read.faults
    ∙ ap (first_bad (line + 1) commands) next.classes)

pub full_at : (bytes rest rest' : List ℕ) (lists : List (List Call)) (line turn clients commands : ℕ) (call : Call)
    → HasRead bytes rest lists line turn clients commands
    → Reads rest rest' (Command call) → MOST_COMMANDS ≤ commands → script_of bytes ≡ Err (line + 1, TooManyLines)
full_at bytes rest rest' lists line turn clients commands call read next full =
    let test : nat_lt commands MOST_COMMANDS ≡ false = le-ltb commands MOST_COMMANDS full in
    let last : first_bad (line + 1) commands (Command call ∷ classes_of rest') ≡ Some (line + 1, TooManyLines) =
    rw test refl in
    ap (λ fault. script_unless fault (script_of_classes (classes_of bytes))) (read.faults
    ∙ ap (first_bad (line + 1) commands) next.classes ∙ last)

-- no line is left, and the lists of the clients that there are are kept
pub record IsRead (bytes : List ℕ) (clients : ℕ) (calls : List (List Call)) : Type 0 where
  pub script : script_of bytes ≡ Ok (record { clients = clients; calls = calls })
  pub long : length calls ≡ clients
  pub few : AreFew calls
  pub in_range : AreInRange calls

pub is_read : (bytes rest : List ℕ) (lists : List (List Call)) (line turn clients commands : ℕ)
    → HasRead bytes rest lists line turn clients commands
    → length rest ≤ 0 → IsRead bytes clients (take clients lists)
is_read bytes (byte ∷ rest) lists line turn clients commands read none = absurd (omega arith)
is_read bytes [] lists line turn clients commands read none =
    let lines = classes_of bytes in
    let of_client : ℕ → List Call = λ client. client_calls client 1 lines in
    let most : clients_of lines ≡ clients = read.most ∙ omega (arith, read.clients_in.0) in
    let long : length (take clients lists) ≡ clients =
    length-take-le clients lists (omega (arith, read.many, read.clients_in.1)) in
    let own : (place : ℕ) → of_client (place + 1) ≡ get_or lists place [] = λ place. read.calls place
    ∙ append-nil (get_or lists place []) in
    let count : length (map of_client (range_with_len 1 clients)) ≡ clients =
    length-map-range_with_len of_client 1 clients in
    let calls : map of_client (range_with_len 1 clients) ≡ take clients lists =
    ext_get_or [] (map of_client (range_with_len 1 clients)) (take clients lists) (count ∙ sym long)
    (λ place below. get_or-map-range_with_len of_client 1 clients place (place + 1) [] (omega arith) (omega arith)
    ∙ own place ∙ sym (get_or-take clients lists place [] (omega arith))) in
    record {
      script = ap (λ fault. script_unless fault (script_of_classes lines)) read.faults ∙ rw (most, calls) refl;
      long = long;
      few = omega (arith, sum_by-take-le (λ calls. length calls) lists clients, read.count, read.few);
      in_range = All-take (All IsCallInRange) clients lists read.in_range;
    }
