-- Commands that are written read back.
use Rattle.std.proofs.Common.{◌≡◌, ℕ, suc, ◌+◌, ◌-◌, ◌<◌, ◌≤◌, ◌^◌, true, false, not, nat_lt, List, [], ◌∷◌, ◌++◌}
use Rattle.std.proofs.Common.{length, get_or, map, None, Ok, refl, sym, ap, ◌∙◌, arith, All, append-nil, append_assoc, ap₂, zero, lit<, max, sum_by}
use Rattle.std.specs.Prelude.{codes, ◌==◌}
use Rattle.std.proofs.lemmas.Bool.{true≢false, ne_eqb, eq-eqb, lt-ltb, le-ltb, le-leb, or_from, or_right, and_from, not-true}
use Rattle.std.proofs.lemmas.Fmt.{digits_decimal, digits_value-decimal, decimal_nonempty}
use Rattle.std.proofs.lemmas.Grind.{get_or_default_zero}
use Rattle.std.proofs.lemmas.List.Folds.{list_all-append}
use Rattle.std.proofs.lemmas.List.Splits.{length-slice_split, slice_split_at}
use Rattle.std.proofs.lemmas.List.Sums.{AllPass-from_list_all, list_all-from_AllPass, sum_by-cons}
use Rattle.std.proofs.lemmas.Str.Parse.{IsNumeralModel, numerals_by_value, tells_by_index}
use Rattle.std.specs.Char.{is_ascii_digit}
use Rattle.std.specs.Fmt.{decimal}
use Rattle.std.specs.Int.{IsInRange}
use Rattle.std.specs.List.{list_all, range_with_len, slice_split}
use Rattle.std.specs.Str.Lines.{strip_carriage_return}
use Rattle.std.specs.Str.Parse.{digits_value}
use Rattle.pc_model.specs.declared.call.Call.{Call}
use Rattle.pc_model.specs.declared.call.Call.TheVariants.{Put, Get, Remove, Ceil, Floor}
use Rattle.pc_text.proofs.NumberLemmas.{tells_list_all}
use Rattle.pc_text.proofs.PlainLines.{plain_class}
use Rattle.pc_text.proofs.ReadLemmas.{without_empty_last-more}
use Rattle.pc_text.proofs.WordsLemmas.{words_of-blank, words_of-word}
use Rattle.pc_text.specs.declared.limits.TheConstants.{GREATEST_NUMBER, MOST_CLIENTS, MOST_COMMANDS}
use Rattle.pc_text.specs.declared.line.LineClass.{LineClass}
use Rattle.pc_text.specs.declared.line.LineClass.TheVariants.{Turn, Command}
use Rattle.pc_text.specs.Lines.{without_empty_last, lines_of}
use Rattle.pc_text.specs.Script.{classes_of, first_bad, clients_of, client_calls}
use Rattle.pc_text.specs.ScriptFacts.{AreInRange, IsCallInRange}
use Rattle.pc_text.specs.ScriptLine.{is_plain, class_of}
use Rattle.pc_text.specs.Printed.{call_text}
use Rattle.pc_text.specs.ScriptText.{text_of, client_line, clients_text, ReadsBack, ClientsReadBack}
use Rattle.pc_text.specs.ScriptWords.{is_blank, is_number, words_of}

-- ---- numbers

-- numbers in range, among those of 64 bits
fits : (n : ℕ) → n ≤ GREATEST_NUMBER → n < 2 ^ 64
fits n small = omega arith

decimal_digit : (n : ℕ) → n ≤ GREATEST_NUMBER → All (IsInRange 48 57) (decimal n)
decimal_digit n small = λ k d below.
    let digit : IsInRange 48 57 (get_or (decimal n) k 0) =
    digits_decimal (numerals_by_value _ tells_by_index) n (fits n small) k below in
    rw (get_or_default_zero (decimal n) k d below) digit

dark_digit : (byte : ℕ) → IsInRange 48 57 byte → is_blank byte ≡ false
dark_digit byte digit =
    or_from _ _ (ne_eqb byte 32 (λ same. omega (arith, digit.0))) (ne_eqb byte 9 (λ same. omega (arith, digit.0)))

plain_digit : (byte : ℕ) → IsInRange 48 57 byte → is_plain byte ≡ true
plain_digit byte digit =
    or_right _ _ (and_from _ _ (le-leb 32 byte (omega (arith, digit.0))) (le-leb byte 126 (omega (arith, digit.1))))

dark_decimal : (n : ℕ) → n ≤ GREATEST_NUMBER → All (λ byte. is_blank byte ≡ false) (decimal n)
dark_decimal n small = λ k d below. dark_digit _ (decimal_digit n small k d below)

plain_decimal : (n : ℕ) → n ≤ GREATEST_NUMBER → list_all is_plain (decimal n) ≡ true
plain_decimal n small =
    list_all-from_AllPass is_plain (decimal n) (λ k d below. plain_digit _ (decimal_digit n small k d below))

-- what is written of a number is its number
own : IsNumeralModel (λ ds. list_all is_ascii_digit ds ≡ true) (digits_value 10)
own = numerals_by_value _ tells_list_all

value_of : (n : ℕ) → n ≤ GREATEST_NUMBER → digits_value 10 (decimal n) ≡ n
value_of n small = digits_value-decimal own n (fits n small)

number_written : (n : ℕ) → n ≤ GREATEST_NUMBER → is_number (decimal n) ≡ true
number_written n small =
    let value : digits_value 10 (decimal n) ≡ n = value_of n small in
    and_from _ _ (lt-ltb 0 (length (decimal n)) (decimal_nonempty n (fits n small)))
    (and_from _ _ (digits_decimal own n (fits n small)) (le-leb _ _ (omega arith)))

-- ---- what is written

-- a command's word and the numbers behind it
abbrev line_of : Call → List ℕ
line_of (Put key value) = codes "put " ++ (decimal key ++ 32 ∷ decimal value)
line_of (Get key) = codes "get " ++ decimal key
line_of (Remove key) = codes "remove " ++ decimal key
line_of (Ceil key) = codes "ceil " ++ decimal key
line_of (Floor key) = codes "floor " ++ decimal key

is_line : (call : Call) → call_text call ≡ line_of call
unfolding call_text
is_line (Put key value) = append_assoc (codes "put " ++ decimal key) (codes " ") (decimal value)
    ∙ append_assoc (codes "put ") (decimal key) (32 ∷ decimal value)
is_line (Get key) = refl
is_line (Remove key) = refl
is_line (Ceil key) = refl
is_line (Floor key) = refl

-- the first line of a text, with more behind the text
first_line : (call : Call) (calls : List Call) (more : List ℕ)
    → text_of (call ∷ calls) ++ more ≡ line_of call ++ 10 ∷ (text_of calls ++ more)
first_line call calls more =
    ap (λ text. text ++ more) (append_assoc (call_text call) (codes "\n") (text_of calls))
    ∙ append_assoc (call_text call) (10 ∷ text_of calls) more
    ∙ ap (λ line. line ++ 10 ∷ (text_of calls ++ more)) (is_line call)

first_turn : (client : ℕ) (calls : List Call) (more : List ℕ)
    → client_line client ++ text_of calls ++ more ≡ (codes "client " ++ decimal client) ++ 10 ∷ (text_of calls ++ more)
unfolding client_line
first_turn client calls more =
    ap (λ text. text ++ more) (append_assoc (codes "client " ++ decimal client) (codes "\n") (text_of calls))
    ∙ append_assoc (codes "client " ++ decimal client) (10 ∷ text_of calls) more

-- ---- words

dark_word : (word : List ℕ) → list_all (λ byte. not (is_blank byte)) word ≡ true
    → All (λ byte. is_blank byte ≡ false) word
dark_word word dark = λ k d below. not-true _ (AllPass-from_list_all (λ byte. not (is_blank byte)) word dark k d below)

-- one word, and no blank
lone : (word : List ℕ) → 0 < length word → All (λ byte. is_blank byte ≡ false) word → words_of word ≡ word ∷ []
lone word some dark = ap words_of (sym (append-nil word)) ∙ words_of-word word [] some dark tt

-- a word, a space, and more
spaced : (word rest : List ℕ) → 0 < length word → All (λ byte. is_blank byte ≡ false) word
    → words_of (word ++ 32 ∷ rest) ≡ word ∷ words_of rest
spaced word rest some dark = words_of-word word (32 ∷ rest) some dark refl
    ∙ ap (λ words. word ∷ words) (words_of-blank 32 rest refl)

number_word : (n : ℕ) → n ≤ GREATEST_NUMBER → words_of (decimal n) ≡ decimal n ∷ []
number_word n small = lone (decimal n) (decimal_nonempty n (fits n small)) (dark_decimal n small)

-- ---- a line

single : (word : List ℕ) (n : ℕ) → 0 < length word → list_all (λ byte. not (is_blank byte)) word ≡ true
    → n ≤ GREATEST_NUMBER → words_of (word ++ 32 ∷ decimal n) ≡ word ∷ decimal n ∷ []
single word n some dark small = spaced word (decimal n) some (dark_word word dark)
    ∙ ap (λ words. word ∷ words) (number_word n small)

words_of_put : (key value : ℕ) → key ≤ GREATEST_NUMBER → value ≤ GREATEST_NUMBER
    → words_of (line_of (Put key value)) ≡ codes "put" ∷ decimal key ∷ decimal value ∷ []
words_of_put key value small light =
    spaced (codes "put") (decimal key ++ 32 ∷ decimal value) (lit< tt) (dark_word (codes "put") refl)
    ∙ ap (λ words. codes "put" ∷ words)
    (spaced (decimal key) (decimal value) (decimal_nonempty key (fits key small)) (dark_decimal key small)
    ∙ ap (λ words. decimal key ∷ words) (number_word value light))

plain_line : (call : Call) → IsCallInRange call → list_all is_plain (line_of call) ≡ true
plain_line (Put key value) in_range = list_all-append is_plain (decimal key) (32 ∷ decimal value)
    ∙ and_from _ _ (plain_decimal key in_range.0) (plain_decimal value in_range.1)
plain_line (Get key) in_range = plain_decimal key in_range
plain_line (Remove key) in_range = plain_decimal key in_range
plain_line (Ceil key) in_range = plain_decimal key in_range
plain_line (Floor key) in_range = plain_decimal key in_range

class_of-line_of : (call : Call) → IsCallInRange call → class_of (line_of call) ≡ Command call
class_of-line_of (Put key value) in_range =
    plain_class (line_of (Put key value)) (codes "put") (decimal key ∷ decimal value ∷ [])
    (words_of_put key value in_range.0 in_range.1) (plain_line (Put key value) in_range) refl
    ∙ rw (
      number_written key in_range.0,
      number_written value in_range.1,
      value_of key in_range.0,
      value_of value
          in_range.1,
    ) refl
class_of-line_of (Get key) in_range =
    plain_class (line_of (Get key)) (codes "get") (decimal key ∷ [])
    (single (codes "get") key (lit< tt) refl in_range) (plain_line (Get key) in_range) refl
    ∙ rw (number_written key in_range, value_of key in_range) refl
class_of-line_of (Remove key) in_range =
    plain_class (line_of (Remove key)) (codes "remove") (decimal key ∷ [])
    (single (codes "remove") key (lit< tt) refl in_range) (plain_line (Remove key) in_range) refl
    ∙ rw (number_written key in_range, value_of key in_range) refl
class_of-line_of (Ceil key) in_range =
    plain_class (line_of (Ceil key)) (codes "ceil") (decimal key ∷ [])
    (single (codes "ceil") key (lit< tt) refl in_range) (plain_line (Ceil key) in_range) refl
    ∙ rw (number_written key in_range, value_of key in_range) refl
class_of-line_of (Floor key) in_range =
    plain_class (line_of (Floor key)) (codes "floor") (decimal key ∷ [])
    (single (codes "floor") key (lit< tt) refl in_range) (plain_line (Floor key) in_range) refl
    ∙ rw (number_written key in_range, value_of key in_range) refl

-- ---- the lines

-- a plain byte is no line feed and no carriage return
plain_apart : (byte cut : ℕ) → is_plain byte ≡ true → is_plain cut ≡ false → (byte == cut) ≡ false
plain_apart byte cut plain other = ne_eqb byte cut (λ same. true≢false (sym plain ∙ ap is_plain same ∙ other))

no_line_feed : (line : List ℕ) → list_all is_plain line ≡ true → All (λ byte. (byte == 10) ≡ false) line
no_line_feed line plain = λ k d below. plain_apart _ 10 (AllPass-from_list_all is_plain line plain k d below) refl

no_return : (line : List ℕ) → 0 < length line → list_all is_plain line ≡ true → strip_carriage_return line ≡ line
no_return line some plain =
    let last : (get_or line (length line - 1) 0 == 13) ≡ false =
    plain_apart _ 13 (AllPass-from_list_all is_plain line plain (length line - 1) 0 (omega arith)) refl in
    rw last refl

some_bytes : (call : Call) → 0 < length (line_of call)
some_bytes (Put key value) = omega arith
some_bytes (Get key) = omega arith
some_bytes (Remove key) = omega arith
some_bytes (Ceil key) = omega arith
some_bytes (Floor key) = omega arith

-- a plain line is cut off whole
lines_of-line : (line more : List ℕ) → 0 < length line → list_all is_plain line ≡ true
    → lines_of (line ++ 10 ∷ more) ≡ line ∷ lines_of more
lines_of-line line more some plain =
    ap (map strip_carriage_return)
    (ap without_empty_last (slice_split_at (λ byte. byte == 10) line 10 more (no_line_feed line plain) refl)
    ∙ without_empty_last-more line (slice_split (λ byte. byte == 10) more)
    (omega (arith, length-slice_split (λ byte. byte == 10) more)))
    ∙ ap (λ first. first ∷ lines_of more) (no_return line some plain)

abbrev commands_of : List Call → List LineClass
commands_of [] = []
commands_of (call ∷ calls) = Command call ∷ commands_of calls

classes_of-text_of : (calls : List Call) (more : List ℕ) → All IsCallInRange calls
    → classes_of (text_of calls ++ more) ≡ commands_of calls ++ classes_of more
classes_of-text_of [] more in_range = refl
classes_of-text_of (call ∷ calls) more in_range =
    let here : IsCallInRange call = in_range 0 call (omega arith) in
    ap classes_of (first_line call calls more)
    ∙ ap (map class_of) (lines_of-line (line_of call) (text_of calls ++ more) (some_bytes call) (plain_line call here))
    ∙ ap (λ class. class ∷ classes_of (text_of calls ++ more)) (class_of-line_of call here)
    ∙ ap (λ classes. Command call ∷ classes)
    (classes_of-text_of calls more (λ k d below. in_range (suc k) d (omega arith)))

first_bad-commands_of : (calls : List Call) (more : List LineClass) (line before : ℕ)
    → before + length calls ≤ MOST_COMMANDS
    → first_bad line before (commands_of calls ++ more) ≡ first_bad (line + length calls) (before + length calls) more
first_bad-commands_of [] more line before few = ap₂ (λ l b. first_bad l b more) (omega arith) (omega arith)
first_bad-commands_of (call ∷ calls) more line before few =
    let room : nat_lt before MOST_COMMANDS ≡ true = lt-ltb before MOST_COMMANDS (omega arith) in
    rw room (first_bad-commands_of calls more (line + 1) (before + 1) (omega arith)
    ∙ ap₂ (λ l b. first_bad l b more) (omega arith) (omega arith))

clients_of-commands_of : (calls : List Call) (more : List LineClass)
    → clients_of (commands_of calls ++ more) ≡ clients_of more
clients_of-commands_of [] more = refl
clients_of-commands_of (call ∷ calls) more = clients_of-commands_of calls more

-- a client's own turn
own_calls : (client : ℕ) (calls : List Call) (more : List LineClass)
    → client_calls client client (commands_of calls ++ more) ≡ calls ++ client_calls client client more
own_calls client [] more = refl
own_calls client (call ∷ calls) more =
    rw (eq-eqb client client refl) (ap (λ rest. call ∷ rest) (own_calls client calls more))

-- another's
other_calls : (client turn : ℕ) (calls : List Call) (more : List LineClass) → (client == turn) ≡ false
    → client_calls client turn (commands_of calls ++ more) ≡ client_calls client turn more
other_calls client turn [] more other = refl
other_calls client turn (call ∷ calls) more other = rw other (other_calls client turn calls more other)

pub reads_back : (calls : List Call) → ReadsBack calls
reads_back calls few in_range =
    let classes : classes_of (text_of calls) ≡ commands_of calls ++ [] =
    ap classes_of (sym (append-nil (text_of calls))) ∙ classes_of-text_of calls [] in_range in
    rw (classes, first_bad-commands_of calls [] 1 0 (omega arith), clients_of-commands_of calls [])
    (ap (λ read. Ok (record { clients = 1; calls = read ∷ [] })) (own_calls 1 calls [] ∙ append-nil calls))

-- ---- several clients

-- a client is one of 32
line_of_client : (client : ℕ) → IsInRange 1 MOST_CLIENTS client
    → class_of (codes "client " ++ decimal client) ≡ Turn client
line_of_client client in_range =
    let small : client ≤ GREATEST_NUMBER = omega (arith, in_range.1) in
    plain_class (codes "client " ++ decimal client) (codes "client") (decimal client ∷ [])
    (single (codes "client") client (lit< tt) refl small) (plain_decimal client small)
    refl
    ∙ rw (
      number_written client small,
      value_of client small,
      ne_eqb client 0 (λ none. omega (arith, in_range.0, none)),
      le-ltb MOST_CLIENTS client in_range.1,
    ) refl

-- the classes of the lines of clients
abbrev turns_of : ℕ → List (List Call) → List LineClass
turns_of client [] = []
turns_of client (calls ∷ lists) = Turn client ∷ (commands_of calls ++ turns_of (client + 1) lists)

classes_of-clients_text : (client : ℕ) (lists : List (List Call)) → 1 ≤ client
    → client + length lists ≤ MOST_CLIENTS + 1 → AreInRange lists
    → classes_of (clients_text client lists) ≡ turns_of client lists
classes_of-clients_text client [] some few in_range = refl
classes_of-clients_text client (calls ∷ lists) some few in_range =
    let line = codes "client " ++ decimal client in
    let rest = clients_text (client + 1) lists in
    let one : IsInRange 1 MOST_CLIENTS client = (omega arith, omega arith) in
    ap classes_of (first_turn client calls rest)
    ∙ ap (map class_of) (lines_of-line line (text_of calls ++ rest) (omega arith)
    (plain_decimal client (omega arith)))
    ∙ ap (λ class. class ∷ classes_of (text_of calls ++ rest)) (line_of_client client one)
    ∙ ap (λ classes. Turn client ∷ classes) (classes_of-text_of calls rest (in_range 0 calls (omega arith))
    ∙ ap (λ classes. commands_of calls ++ classes) (classes_of-clients_text (client + 1) lists (omega arith) (omega arith)
    (λ k d below. in_range (suc k) d (omega arith))))

first_bad-turns_of : (client : ℕ) (lists : List (List Call)) (line before : ℕ)
    → before + sum_by (λ calls. length calls) lists ≤ MOST_COMMANDS
    → first_bad line before (turns_of client lists) ≡ None
first_bad-turns_of client [] line before few = refl
first_bad-turns_of client (calls ∷ lists) line before few =
    let sum = sum_by-cons (λ (c : List Call). length c) calls lists in
    first_bad-commands_of calls (turns_of (client + 1) lists) (line + 1) before (omega (arith, sum, few))
    ∙ first_bad-turns_of (client + 1) lists _ _ (omega (arith, sum, few))

clients_of-turns_of : (client : ℕ) (calls : List Call) (lists : List (List Call)) → 1 ≤ client
    → clients_of (turns_of client (calls ∷ lists)) ≡ client + length lists
clients_of-turns_of client calls [] some =
    ap (max client) (clients_of-commands_of calls []) ∙ omega arith
clients_of-turns_of client calls (next ∷ lists) some =
    ap (max client) (clients_of-commands_of calls (turns_of (client + 1) (next ∷ lists))
    ∙ clients_of-turns_of (client + 1) next lists (omega arith)) ∙ omega arith

-- before its turn a client has no calls
no_calls : (who client turn : ℕ) (lists : List (List Call)) → who < client
    → client_calls who turn (turns_of client lists) ≡ []
no_calls who client turn [] before = refl
no_calls who client turn (calls ∷ lists) before =
    other_calls who client calls (turns_of (client + 1) lists) (ne_eqb who client (λ same. omega (arith, same)))
    ∙ no_calls who (client + 1) client lists (omega arith)

-- whose turn it was before doesn't matter
any_turn : (who client one other : ℕ) (lists : List (List Call))
    → client_calls who one (turns_of client lists) ≡ client_calls who other (turns_of client lists)
any_turn who client one other [] = refl
any_turn who client one other (calls ∷ lists) = refl

map-same_from : {X : Type 0} (f g : ℕ → X) (from count : ℕ) → ((k : ℕ) → from ≤ k → f k ≡ g k)
    → map f (range_with_len from count) ≡ map g (range_with_len from count)
map-same_from f g from zero same = refl
map-same_from f g from (suc count) same =
    ap₂ (λ x xs. x ∷ xs) (same from (omega arith))
    (map-same_from f g (from + 1) count (λ k above. same k (omega arith)))

-- each client's calls are its list
each_list : (client turn : ℕ) (lists : List (List Call))
    → map (λ who. client_calls who turn (turns_of client lists)) (range_with_len client (length lists)) ≡ lists
each_list client turn [] = refl
each_list client turn (calls ∷ lists) =
    let rest = turns_of (client + 1) lists in
    ap₂ (λ x xs. x ∷ xs)
    (own_calls client calls rest ∙ ap (λ more. calls ++ more) (no_calls client (client + 1) client lists (omega arith))
    ∙ append-nil calls)
    (map-same_from (λ who. client_calls who turn (turns_of client (calls ∷ lists)))
    (λ who. client_calls who client rest) (client + 1) (length lists)
    (λ who above. other_calls who client calls rest (ne_eqb who client (λ same. omega (arith, above, same))))
    ∙ each_list (client + 1) client lists)

pub clients_read_back : (lists : List (List Call)) → ClientsReadBack lists
clients_read_back [] some few in_range = absurd (omega (arith, some.0))
clients_read_back (calls ∷ lists) some few in_range =
    let all = calls ∷ lists in
    let classes : classes_of (clients_text 1 all) ≡ turns_of 1 all =
    classes_of-clients_text 1 all (omega arith) (omega (arith, some.1)) in_range in
    let clients : clients_of (turns_of 1 all) ≡ length all = clients_of-turns_of 1 calls lists (omega arith) ∙ omega arith in
    rw (classes, first_bad-turns_of 1 all 1 0 (omega arith), clients)
    (ap (λ read. Ok (record { clients = length all; calls = read })) (each_list 1 1 all))
