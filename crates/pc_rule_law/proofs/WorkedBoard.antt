-- The definitions on worked cases: where words lie in a table of four passes with a slot each, how many words a table
-- has at the limits, and that a board opens on which three passes were given exchanges that are undecided, and a
-- fourth one that was withdrawn.
use Rattle.std.proofs.Common.{◌≡◌, ℕ, zero, suc, ◌^◌, ◌<◌, true, false, List, [], ◌∷◌, refl, sym, ◌∙◌, arith}
use Rattle.std.proofs.lemmas.Bool.Decides.{nat_tests}
use mathlib.Core.Option.{some, some-ne-none}
use lib.ListN.{get_elem?}
use Rattle.pc_model.specs.declared.cell.Field.{Field}
use Rattle.pc_model.specs.declared.cell.Field.TheVariants.{Version, Key, Value, Left, Right, Parent, Height, Spare}
use Rattle.pc_model.specs.Cells.{IsNode, opening_fields}
use Rattle.pc_model.specs.Exchanges.{Changed}
use Rattle.pc_words.specs.declared.status.Stage.TheVariants.{Undecided, Succeeded, Withdrawn}
use Rattle.pc_rule_law.specs.Board.{Size, own_status, own_install, own_word, at_epoch, at_own, at_cell, address, words_of, shows}
use Rattle.pc_rule_law.specs.Past.{IsFormed, change}
use Rattle.pc_rule_law.specs.Stages.{value_by, decided_by}
use Rattle.pc_rule_law.specs.Openings.{Posted, attempt_of, opening_changes, opening_board, opening_notes, MayOpen}
use Rattle.pc_rule_law.specs.Views.{entry}
use Rattle.pc_rule_law.proofs.Lists.{all_one, none_has}

abbrev four : Size
four = record { seats = 4; slots = 4; shares = []; starts = record { attempt = 0; install = 0; stamp = 1; epoch = 1; version = 0 } }

abbrev largest : Size
largest = record { seats = 32; slots = 61000; shares = []; starts = record { attempt = 0; install = 0; stamp = 1; epoch = 1; version = 0 } }

-- the version of the sentinel is the first word of its node, and a key the second of its own
sentinel_at : address four (at_cell 1 Version) ≡ 8
sentinel_at = refl

last_key_at : address four (at_cell 5 Key) ≡ 41
last_key_at = refl

epoch_at : address four at_epoch ≡ 48
epoch_at = refl

first_status_at : address four (at_own 0 own_status) ≡ 56
first_status_at = refl

second_status_at : address four (at_own 1 own_status) ≡ 168
second_status_at = refl

install_number_at : address four (at_own 3 (own_install 0)) ≡ 394
install_number_at = refl

words_of_four : words_of four ≡ 504
words_of_four = refl

-- at the limits a table has some ten million words
words_of_largest : words_of largest ≡ 10250840
words_of_largest = refl

-- the exchanges that are given
abbrev one_place : Field → ℕ → ℕ → List Changed
one_place f old new = change 1 f old new ∷ []

abbrev given : List Posted
given = record { places = one_place Value 0 50; undecided = true }
    ∷ record { places = one_place Value 0 60; undecided = true }
    ∷ record { places = one_place Height 5 6; undecided = true }
    ∷ record { places = one_place Spare 0 1; undecided = false } ∷ []

-- what the words show: a status that is undecided at number 1, the descriptor's entry, and a plain word
first_status : shows (opening_board four opening_fields given) (at_own 0 own_status) ≡ 5
first_status = refl

last_status : shows (opening_board four opening_fields given) (at_own 3 own_status) ≡ 7
last_status = refl

entry_count : shows (opening_board four opening_fields given) (at_own 1 (own_word 1)) ≡ 1
entry_count = refl

entry_place : shows (opening_board four opening_fields given) (at_own 1 (own_word 3)) ≡ 10
entry_place = refl

entry_new : shows (opening_board four opening_fields given) (at_own 1 (own_word 5)) ≡ 60
entry_new = refl

slot_version : shows (opening_board four opening_fields given) (at_cell 2 Version) ≡ 4
slot_version = refl

known_to_all : opening_notes 0 given ≡ entry 0 1 (change 1 Value 0 50) ∷ entry 1 1 (change 1 Value 0 60)
    ∷ entry 2 1 (change 1 Height 5 6) ∷ entry 3 1 (change 1 Spare 0 1) ∷ []
known_to_all = refl

-- below which number the attempts are decided
decided_when_undecided : decided_by (record { number = 1; stage = Undecided }) ≡ 1
decided_when_undecided = refl

decided_when_withdrawn : decided_by (record { number = 1; stage = Withdrawn }) ≡ 2
decided_when_withdrawn = refl

new_when_succeeded : value_by (Succeeded 9) 0 50 ≡ 50
new_when_succeeded = refl

old_when_withdrawn : value_by Withdrawn 0 50 ≡ 0
old_when_withdrawn = refl

small_fields : (n : ℕ) (f : Field) → opening_fields n f < 2 ^ 62
small_fields n Version = grind (arith, nat_tests)
small_fields n Key = grind (arith, nat_tests)
small_fields n Value = omega arith
small_fields n Left = omega arith
small_fields n Right = omega arith
small_fields n Parent = omega arith
small_fields n Height = omega arith
small_fields n Spare = omega arith

one_formed : (slots : ℕ) (x : Changed) → IsNode slots x.node → x.old < 2 ^ 62 → x.new < 2 ^ 62
    → IsFormed slots (attempt_of (x ∷ []))
one_formed slots x in_n old new = record {
  few = omega arith;
  few_visits = omega arith;
  inside = all_one (λ y. IsNode slots y.node × (y.old < 2 ^ 62) × (y.new < 2 ^ 62)) x (in_n, old, new);
  visited = λ y has. absurd (none_has y has);
  apart = λ i j y w at_i at_j _ _. first i y at_i ∙ sym (first j w at_j);
}
  where
    first : (i : ℕ) (y : Changed) → get_elem? (x ∷ []) i ≡ some y → i ≡ 0
    first zero y at = refl
    first (suc i) y at = absurd (some-ne-none y (sym at))

given_formed : (p : ℕ) → IsFormed 4 (attempt_of (opening_changes given p))
given_formed zero = one_formed 4 (change 1 Value 0 50) (omega arith, omega arith) (omega arith) (omega arith)
given_formed (suc zero) = one_formed 4 (change 1 Value 0 60) (omega arith, omega arith) (omega arith) (omega arith)
given_formed (suc (suc zero)) = one_formed 4 (change 1 Height 5 6) (omega arith, omega arith) (omega arith)
    (omega arith)
given_formed (suc (suc (suc zero))) = one_formed 4 (change 1 Spare 0 1) (omega arith, omega arith) (omega arith)
    (omega arith)
given_formed (suc (suc (suc (suc p)))) = record {
  few = omega arith;
  few_visits = omega arith;
  inside = λ x has. absurd (none_has x has);
  visited = λ x has. absurd (none_has x has);
  apart = λ i j x y at. absurd (some-ne-none x (sym at));
}

-- such a board may open
opens_with_four : MayOpen (λ slots c. Unit {0}) four opening_fields true given
opens_with_four = record {
  seats = (omega arith, omega arith);
  sound_cells = tt;
  small = small_fields;
  attempt = omega arith;
  few = omega arith;
  none = λ no. absurd (cc);
  formed = given_formed;
}
