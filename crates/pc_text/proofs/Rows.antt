-- Worked rows of the definition: each one computes.
use Rattle.std.proofs.Common.{◌≡◌, ℕ, List, [], ◌∷◌, ◌++◌, Result, Ok, Err, Some, None as Absent, refl}
use Rattle.std.specs.Prelude.{codes}
use Rattle.std.specs.Fmt.{digits}
use Rattle.pc_model.specs.declared.call.Call.{Call}
use Rattle.pc_model.specs.declared.call.Call.TheVariants.{Put, Get, Remove, Ceil, Floor}
use Rattle.pc_model.specs.declared.call.Reply.{Reply}
use Rattle.pc_model.specs.declared.call.Reply.TheVariants.{New, Value}
use Rattle.pc_model.specs.declared.call.Entry.{Entry}
use Rattle.pc_text.specs.declared.fault.Fault.TheVariants.{Usage, Script}
use Rattle.pc_text.specs.declared.kind.ScriptKind.{ScriptKind}
use Rattle.pc_text.specs.declared.kind.ScriptKind.TheVariants.{BadByte, UnknownWord, WordCount, BadNumber}
use Rattle.pc_text.specs.declared.kind.ScriptKind.TheVariants.{TooManyClients}
use Rattle.pc_text.specs.FaultLine.{kind_text, fault_text, fault_line}
use Rattle.pc_text.specs.Printed.{call_text, reply_text, turn_text, entry_line, left_line, pair_line, end_line}
use Rattle.pc_model.specs.declared.cell.Field.TheVariants.{Key}
use Rattle.pc_model.specs.Cells.{Cells}
use Rattle.pc_model.specs.Trees.{Tree, Empty, Fork}
use Rattle.pc_text.specs.Printed.{printed_run, shape_lines, height_line, node_line}
use Rattle.pc_text.specs.Shapes.{shape_of}
use Rattle.pc_text.specs.Script.{script_of}
use Rattle.pc_text.specs.ScriptValue.{ScriptValue}

abbrev of_clients : List (List Call) → ℕ → Result ScriptValue (ℕ × ScriptKind)
of_clients calls clients = Ok (record { clients = clients; calls = calls })

abbrev of_one : List Call → Result ScriptValue (ℕ × ScriptKind)
of_one calls = of_clients (calls ∷ []) 1

abbrev entry : ℕ → Call → Reply → Entry
entry number call reply = record { pass = 1; number = number; call = call; reply = reply; stamp = number }

empty : script_of [] ≡ of_one []
empty = refl

-- ---- lines and words

-- a comment with bytes past 126, a blank line, spaces and a tab, and no line feed at the end
comment_and_blanks : script_of (codes "# Z" ++ 195 ∷ 188 ∷ codes "rich\r\n\r\n  put\t007 1\r\nget 7")
    ≡ of_one (Put 7 1 ∷ Get 7 ∷ [])
comment_and_blanks = refl

five_commands : script_of (codes "put 5 50\nget 5\nremove 5\nceil 5\nfloor 5\n")
    ≡ of_one (Put 5 50 ∷ Get 5 ∷ Remove 5 ∷ Ceil 5 ∷ Floor 5 ∷ [])
five_commands = refl

blanks_around : script_of (codes " \t get \t 7 \t \n") ≡ of_one (Get 7 ∷ [])
blanks_around = refl

blank_lines : script_of (codes "\n \n\t\n\n") ≡ of_one []
blank_lines = refl

comment_behind_blanks : script_of (codes " \t#" ++ 0 ∷ 255 ∷ codes "\r\r\nget 7\n") ≡ of_one (Get 7 ∷ [])
comment_behind_blanks = refl

no_comment_behind_a_command : script_of (codes "get 7 # seven\n") ≡ Err (1, WordCount)
no_comment_behind_a_command = refl

return_at_the_end : script_of (codes "get 7\r") ≡ of_one (Get 7 ∷ [])
return_at_the_end = refl

lone_return : script_of (codes "\r") ≡ of_one []
lone_return = refl

two_returns : script_of (codes "\r\r\n") ≡ Err (1, BadByte)
two_returns = refl

return_in_the_middle : script_of (codes "get\r 7\n") ≡ Err (1, BadByte)
return_in_the_middle = refl

-- ---- clients

clients_in_turn : script_of (codes "get 1\nclient 3\nget 2\nclient 1\nget 3\nclient 3\nget 4\n")
    ≡ of_clients ((Get 1 ∷ Get 3 ∷ []) ∷ [] ∷ (Get 2 ∷ Get 4 ∷ []) ∷ []) 3
clients_in_turn = refl

-- the greatest client counts, not the last one that was named
greatest_client : script_of (codes "client 3\nget 1\nclient 2\nget 2\n")
    ≡ of_clients ([] ∷ (Get 2 ∷ []) ∷ (Get 1 ∷ []) ∷ []) 3
greatest_client = refl

fifth_client_alone : script_of (codes "client 5") ≡ of_clients ([] ∷ [] ∷ [] ∷ [] ∷ [] ∷ []) 5
fifth_client_alone = refl

client_named_at_length : script_of (codes "client 0000000000000000000000000000002\nget 1")
    ≡ of_clients ([] ∷ (Get 1 ∷ []) ∷ []) 2
client_named_at_length = refl

-- ---- numbers

last_numbers : script_of (codes "put 0 0\nput 999999999999999999 999999999999999999\n")
    ≡ of_one (Put 0 0 ∷ Put 999999999999999999 999999999999999999 ∷ [])
last_numbers = refl

thirty_digits : script_of (codes "get 000000000000999999999999999999\n") ≡ of_one (Get 999999999999999999 ∷ [])
thirty_digits = refl

one_too_large : script_of (codes "put 1000000000000000000 1\n") ≡ Err (1, BadNumber)
one_too_large = refl

a_bad_value : script_of (codes "put 1 x\n") ≡ Err (1, BadNumber)
a_bad_value = refl

a_sign : script_of (codes "get +1\n") ≡ Err (1, BadNumber)
a_sign = refl

-- ---- faults

upper_case : script_of (codes "get 1\nGet 1\n") ≡ Err (2, UnknownWord)
upper_case = refl

short_word : script_of (codes "rem 1\n") ≡ Err (1, UnknownWord)
short_word = refl

no_value : script_of (codes "put 1") ≡ Err (1, WordCount)
no_value = refl

bad_byte_first : script_of (codes "foo" ++ 0 ∷ []) ≡ Err (1, BadByte)
bad_byte_first = refl

client_nought : script_of (codes "client 0") ≡ Err (1, BadNumber)
client_nought = refl

client_nought_and_more : script_of (codes "client 0 0") ≡ Err (1, WordCount)
client_nought_and_more = refl

client_past_the_last : script_of (codes "client 33") ≡ Err (1, TooManyClients)
client_past_the_last = refl

client_past_all_numbers : script_of (codes "client 1000000000000000000") ≡ Err (1, BadNumber)
client_past_all_numbers = refl

the_second_line : script_of (codes "get 1\nput 1\nget\n") ≡ Err (2, WordCount)
the_second_line = refl

-- ---- what is written

usage_line : fault_line Usage ≡ codes "fault usage\n"
unfolding fault_line fault_text
usage_line = refl

script_line : fault_line (Script 2 UnknownWord) ≡ codes "fault line 2 unknown word\n"
unfolding fault_line fault_text kind_text digits
script_line = refl

put_and_get : printed_run (entry 1 (Put 5 50) New ∷ entry 2 (Get 5) (Value 50) ∷ []) ((5, 50) ∷ []) Absent
    ≡ codes "1 1.1 put 5 50 = new\n2 1.2 get 5 = 50\nleft 1\n5 50\nend\n"
unfolding entry_line turn_text call_text reply_text left_line pair_line end_line digits
put_and_get = refl

-- the tree that is left of 10, 5, 20, 15, 25 and 17 after 10 was removed, nodes by their keys
abbrev left_tree : Tree
left_tree = Fork 15 (Fork 5 Empty Empty) (Fork 20 (Fork 17 Empty Empty) (Fork 25 Empty Empty))

abbrev keyed : Cells
keyed n Key = n
keyed n f = 0

shape_text : shape_lines (Some (shape_of keyed 1 left_tree))
    ≡ codes "shape 3\n1 15 3 -1\n2 5 1 0\n2 20 2 0\n3 17 1 0\n3 25 1 0\n"
unfolding height_line node_line digits
shape_text = refl

empty_shape_text : shape_lines (Some []) ≡ codes "shape 0\n"
unfolding height_line digits
empty_shape_text = refl
