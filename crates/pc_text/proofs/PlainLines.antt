-- A line that spells a turn or a command has plain bytes alone.
use Rattle.std.proofs.Common.{◌≡◌, ℕ, ◌≤◌, ⊎_elim, Bool, true, false, cond, nat_lt, List, [], ◌∷◌, length}
use Rattle.std.proofs.Common.{Option, Some, None, get_or, refl, sym, ap, ◌∙◌, arith}
use Rattle.std.specs.Prelude.{codes, ◌==◌}
use Rattle.std.specs.Char.{is_ascii_digit}
use Rattle.std.specs.List.{filter, list_all, onto_first, slice_split}
use Rattle.std.specs.Str.{bytes_eq}
use Rattle.std.proofs.lemmas.Bool.{and_parts, and_from, or_cases, or_right, eqb-true, le-leb, leb-true, lt-ltb}
use Rattle.std.proofs.lemmas.Bool.{cases_Bool, both_ways, false_from_ne_true}
use Rattle.std.proofs.lemmas.Slice.Eq.{bytes_eq-Decides}
use Rattle.pc_text.specs.declared.kind.ScriptKind.{ScriptKind}
use Rattle.pc_text.specs.declared.kind.ScriptKind.TheVariants.{BadByte, UnknownWord, WordCount, BadNumber}
use Rattle.pc_text.specs.declared.line.Keyword.{Keyword}
use Rattle.pc_text.specs.declared.line.LineClass.{LineClass}
use Rattle.pc_text.specs.declared.line.LineClass.TheVariants.{Bad}
use Rattle.pc_text.specs.ScriptLine.{is_plain, class_after, class_of, count_after}
use Rattle.pc_text.specs.ScriptWords.{is_blank, is_number, keyword_of, words_of}

plain_blank : (byte : ℕ) → is_blank byte ≡ true → is_plain byte ≡ true
plain_blank byte blank =
    ⊎_elim (λ space. ap is_plain (eqb-true byte 32 space)) (λ tab. ap is_plain (eqb-true byte 9 tab))
    (or_cases _ _ blank)

plain_digit : (byte : ℕ) → is_ascii_digit byte ≡ true → is_plain byte ≡ true
plain_digit byte digit =
    let parts = and_parts _ _ digit in
    let low : 48 ≤ byte = leb-true 48 byte parts.0 in
    let high : byte ≤ 57 = leb-true byte 57 parts.1 in
    or_right _ _ (and_from _ _ (le-leb 32 byte (omega arith)) (le-leb byte 126 (omega arith)))

plain_digits : (word : List ℕ) → list_all is_ascii_digit word ≡ true → list_all is_plain word ≡ true
plain_digits [] digits = refl
plain_digits (byte ∷ word) digits =
    let parts = and_parts _ _ digits in
    and_from _ _ (plain_digit byte parts.0) (plain_digits word parts.1)

plain_numbers : (words : List (List ℕ)) → list_all is_number words ≡ true → list_all (list_all is_plain) words ≡ true
plain_numbers [] numbers = refl
plain_numbers (word ∷ words) numbers =
    let parts = and_parts _ _ numbers in
    let digits = and_parts _ _ (and_parts _ _ parts.0).1 in
    and_from _ _ (plain_digits word digits.0) (plain_numbers words parts.1)

-- ---- a line is plain where its words are

plain_more : (byte : ℕ) (bytes : List ℕ) (parts : List (List ℕ)) (blank : Bool) → is_blank byte ≡ blank
    → (list_all (list_all is_plain) parts ≡ true → list_all is_plain bytes ≡ true)
    → list_all (list_all is_plain) (cond blank ([] ∷ parts) (onto_first byte parts)) ≡ true
    → list_all is_plain (byte ∷ bytes) ≡ true
plain_more byte bytes parts true blank more all = and_from _ _ (plain_blank byte blank) (more all)
plain_more byte bytes [] false dark more all =
    and_from _ _ (and_parts _ _ (and_parts _ _ all).0).0 (more refl)
plain_more byte bytes (part ∷ parts) false dark more all =
    let both = and_parts _ _ all in
    let first = and_parts _ _ both.0 in
    and_from _ _ first.0 (more (and_from _ _ first.1 both.1))

plain_parts : (bytes : List ℕ) → list_all (list_all is_plain) (slice_split is_blank bytes) ≡ true
    → list_all is_plain bytes ≡ true
plain_parts [] all = refl
plain_parts (byte ∷ bytes) all =
    plain_more byte bytes (slice_split is_blank bytes) (is_blank byte) refl (plain_parts bytes) all

-- parts without bytes are no words
plain_words : (parts : List (List ℕ))
    → list_all (list_all is_plain) (filter (λ word. nat_lt 0 (length word)) parts) ≡ true
    → list_all (list_all is_plain) parts ≡ true
plain_words [] all = refl
plain_words ([] ∷ parts) all = plain_words parts all
plain_words ((byte ∷ part) ∷ parts) all =
    let some : nat_lt 0 (length (byte ∷ part)) ≡ true = lt-ltb 0 (length (byte ∷ part)) (omega arith) in
    let both = and_parts _ _ (rw some at all) in
    and_from _ _ both.0 (plain_words parts both.1)

-- ---- a line that is not bad has a keyword and numbers

-- a word that isn't plain is not this text
other_text : (word text : List ℕ) → list_all is_plain text ≡ true → list_all is_plain word ≡ false
    → bytes_eq word text ≡ false
other_text word text plain odd = false_from_ne_true _
    (λ same. both_ways (list_all is_plain word) odd (ap (list_all is_plain) ((bytes_eq-Decides word text).0 same)
    ∙ plain))

no_keyword : (word : List ℕ) → list_all is_plain word ≡ false → keyword_of word ≡ None
no_keyword word odd =
    rw (
      other_text word (codes "client") refl odd,
      other_text word (codes "put") refl odd,
      other_text word (codes "get") refl odd,
      other_text word (codes "remove") refl odd,
      other_text word (codes "ceil") refl odd,
      other_text word (codes "floor") refl odd,
    ) refl

abbrev pub IsGood : LineClass → Type 0
IsGood class = (kind : ScriptKind) → class ≡ Bad kind → ⊥

good_numbers : (first : Option Keyword) (words : List (List ℕ)) → IsGood (class_after first words)
    → list_all is_number words ≡ true
good_numbers None words good = absurd (good UnknownWord refl)
good_numbers (Some keyword) words good = ⊎_elim (λ numbers. numbers)
    (λ (odd : list_all is_number words ≡ false). absurd (⊎_elim
    (λ (count : (length words == count_after (Some keyword)) ≡ true). good BadNumber (rw (count, odd) refl))
    (λ (other : (length words == count_after (Some keyword)) ≡ false). good WordCount (rw other refl))
    (cases_Bool (length words == count_after (Some keyword)))))
    (cases_Bool (list_all is_number words))

good_keyword : (word : List ℕ) (words : List (List ℕ)) → IsGood (class_after (keyword_of word) words)
    → list_all is_plain word ≡ true
good_keyword word words good = ⊎_elim (λ plain. plain)
    (λ odd. absurd (good UnknownWord (ap (λ first. class_after first words) (no_keyword word odd))))
    (cases_Bool (list_all is_plain word))

pub good_is_plain : (line word : List ℕ) (words : List (List ℕ)) → words_of line ≡ word ∷ words
    → IsGood (class_after (keyword_of word) words) → list_all is_plain line ≡ true
good_is_plain line word words are good =
    let all : list_all (list_all is_plain) (words_of line) ≡ true =
    rw are (and_from _ _ (good_keyword word words good)
    (plain_numbers words (good_numbers (keyword_of word) words good))) in
    plain_parts line (plain_words (slice_split is_blank line) all)

-- ---- what a line is, by its words

pub plain_class : (line word : List ℕ) (words : List (List ℕ)) → words_of line ≡ word ∷ words
    → list_all is_plain line ≡ true
    → (get_or word 0 0 == 35) ≡ false → class_of line ≡ class_after (keyword_of word) words
plain_class line word words are plain command = rw (are, plain, command) refl

odd_class : (line word : List ℕ) (words : List (List ℕ)) → words_of line ≡ word ∷ words
    → list_all is_plain line ≡ false
    → (get_or word 0 0 == 35) ≡ false → class_of line ≡ Bad BadByte
odd_class line word words are odd command = rw (are, odd, command) refl

pub good_class : (line word : List ℕ) (words : List (List ℕ)) (class : LineClass) → words_of line ≡ word ∷ words
    → (get_or word 0 0 == 35) ≡ false → class ≡ class_after (keyword_of word) words → IsGood class
    → class ≡ class_of line
good_class line word words class are command is good =
    is ∙ sym (plain_class line word words are
    (good_is_plain line word words are (λ kind bad. good kind (is ∙ bad))) command)

pub bad_class : (line word : List ℕ) (words : List (List ℕ)) (kind : ScriptKind) → words_of line ≡ word ∷ words
    → (get_or word 0 0 == 35) ≡ false → Bad kind ≡ class_after (keyword_of word) words
    → Bad (cond (list_all is_plain line) kind BadByte) ≡ class_of line
bad_class line word words kind are command is = ⊎_elim
    (λ (plain : list_all is_plain line ≡ true).
    ap (λ b. Bad (cond b kind BadByte)) plain ∙ is ∙ sym (plain_class line word words are plain command))
    (λ (odd : list_all is_plain line ≡ false).
    ap (λ b. Bad (cond b kind BadByte)) odd ∙ sym (odd_class line word words are odd command))
    (cases_Bool (list_all is_plain line))
