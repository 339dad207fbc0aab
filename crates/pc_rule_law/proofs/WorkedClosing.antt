-- What the words of a closed board say, on worked cases: a board of one pass without slots, whose 112 words are zeros but
-- for these. The sentinel has its key; its value is a reference to the pass's attempt 1; and the descriptor has two changes,
-- the second of the sentinel's value, from 20 to 50.
use Rattle.std.proofs.Common.{◌≡◌, ℕ, List, [], replicate, slice_set, refl, arith}
use Rattle.pc_model.specs.declared.cell.Field.TheVariants.{Key, Value, Left}
use Rattle.pc_words.specs.declared.word.WordKind.TheVariants.{Exchange}
use Rattle.pc_words.specs.declared.status.Stage.TheVariants.{Succeeded, Withdrawn}
use Rattle.pc_rule_law.specs.Board.{Size, words_of, board_in}
use Rattle.pc_rule_law.specs.Values.{IsPlainValue}

abbrev one : Size
one = record { seats = 1; slots = 0; shares = []; starts = record { attempt = 0; install = 0; stamp = 1; epoch = 1; version = 0 } }

words_of_one : words_of one ≡ 112
words_of_one = refl

abbrev blank : List ℕ
blank = slice_set (slice_set (slice_set (replicate 112 0) 0 1) 16 1) 9 18446744073709551612

-- its reference, the status, and the descriptor's count and changes
abbrev words : ℕ → List ℕ
words status = let held = slice_set (slice_set (slice_set blank 10 1026) 24 status) 31 2 in
    let first = slice_set (slice_set (slice_set held 33 11) 34 7) 35 8 in
    slice_set (slice_set (slice_set first 36 10) 37 20) 38 50

-- attempt 1 succeeded at stamp 9, or was withdrawn
abbrev won : List ℕ
won = words 9663676422

abbrev lost : List ℕ
lost = words 7

status_of_won : (board_in one won).status 0 ≡ record { number = 1; stage = Succeeded 9 }
status_of_won = refl

status_of_lost : (board_in one lost).status 0 ≡ record { number = 1; stage = Withdrawn }
status_of_lost = refl

reference : (board_in one won).cell 1 Value ≡ Exchange 0 1
reference = refl

key_says : IsPlainValue (board_in one won) 1 Key ((board_in one won).cell 1 Key) 4611686018427387903
key_says = refl

-- a word that no reference stands in says its payload, though a change of it is in the descriptor
left_says : IsPlainValue (board_in one won) 1 Left ((board_in one won).cell 1 Left) 0
left_says = refl

new_value : IsPlainValue (board_in one won) 1 Value ((board_in one won).cell 1 Value) 50
new_value = (refl, 1, omega arith, refl, refl)

old_value : IsPlainValue (board_in one lost) 1 Value ((board_in one lost).cell 1 Value) 20
old_value = (refl, 1, omega arith, refl, refl)
