-- The number of the digits so far.
use Rattle.std.proofs.Common.{◌≡◌, ℕ, ◌+◌, ◌-◌, ◌*◌, ◌<◌, true, false, nat_le, List, [], ◌∷◌, length, get_or, take}
use Rattle.std.proofs.Common.{None, refl, rules, arith, lit≤}
use Rattle.std.proofs.lemmas.Bool.{and_right, lt-leb}
use Rattle.std.proofs.lemmas.Bool.Decides.{nat_tests}
use Rattle.std.proofs.lemmas.Int.Digits.{digits_value_more}
use Rattle.std.proofs.lemmas.List.{take_more}
use Rattle.std.proofs.lemmas.List.Folds.{list_all-append}
use Rattle.std.proofs.lemmas.Str.Parse.{IsDigitsTest, digits_value-take-le}
use Rattle.std.specs.Char.{digit_value, is_ascii_digit}
use Rattle.std.specs.List.{list_all}
use Rattle.std.specs.Str.Parse.{digits_value}
use Rattle.pc_text.specs.declared.limits.TheConstants.{GREATEST_NUMBER}
use Rattle.pc_text.specs.ScriptWords.{is_number, number_of}

pub tells_list_all : IsDigitsTest (λ ds. list_all is_ascii_digit ds ≡ true)
tells_list_all = search rules

digit_value_is : (d : ℕ) → is_ascii_digit d ≡ true → digit_value d ≡ d - 48
digit_value_is d digit = grind (arith, nat_tests)

-- one more digit
pub digits_more : (ds : List ℕ) (i : ℕ) → list_all is_ascii_digit (take i ds) ≡ true → i < length ds
    → is_ascii_digit (get_or ds i 0) ≡ true → list_all is_ascii_digit (take (i + 1) ds) ≡ true
digits_more ds i digits below digit =
    rw (take_more ds i 0 below, list_all-append is_ascii_digit (take i ds) (get_or ds i 0 ∷ []), digits, digit) refl

pub value_more : (ds : List ℕ) (i value : ℕ) → i < length ds → is_ascii_digit (get_or ds i 0) ≡ true
    → value ≡ digits_value 10 (take i ds) → value * 10 + (get_or ds i 0 - 48) ≡ digits_value 10 (take (i + 1) ds)
value_more ds i value below digit is =
    let last : digit_value (get_or ds i 0) ≡ get_or ds i 0 - 48 = digit_value_is _ digit in
    omega (arith, digits_value_more 10 ds i below, last)

-- a word whose first bytes are too large a number is too large a number itself, or none
pub number_of-too_large : (word : List ℕ) (i : ℕ) → GREATEST_NUMBER < digits_value 10 (take i word)
    → number_of word ≡ None
number_of-too_large word i large =
    let test : nat_le (digits_value 10 word) GREATEST_NUMBER ≡ false =
    lt-leb _ _ (omega (arith, digits_value-take-le 10 word i (lit≤ tt))) in
    let none : is_number word ≡ false = and_right _ _ (and_right _ _ test) in
    rw none refl
