-- The first word of a line.
use Rattle.std.proofs.Common.{◌≡◌, ℕ, ◌+◌, ◌<◌, ◌≤◌, Bool, true, false, not, nat_lt, cond, List, [], ◌∷◌, ◌++◌}
use Rattle.std.proofs.Common.{length, get_or, take, drop, refl, sym, ap, ◌∙◌, arith, All, append-nil, length-take}
use Rattle.std.proofs.Common.{length-drop, add-zero, take-append-drop}
use Rattle.std.proofs.lemmas.Bool.{lt-ltb, not_from_false}
use Rattle.std.proofs.lemmas.List.{drop-drop, drop_all, get_or-take, get_or-drop}
use Rattle.std.proofs.lemmas.List.Splits.{slice_split-cons_yes, slice_split_none, slice_split_at}
use Rattle.std.proofs.lemmas.List.Sums.{prefix_len-le-length, prefix_len_stops, fails_before_first, passes_at_first}
use Rattle.std.specs.List.{filter, position_or_len, prefix_len}
use Rattle.pc_text.specs.ScriptWords.{is_blank, words_of}

pub words_of-blank : (byte : ℕ) (bytes : List ℕ) → is_blank byte ≡ true → words_of (byte ∷ bytes) ≡ words_of bytes
words_of-blank byte bytes blank =
    ap (λ parts. filter (λ word. nat_lt 0 (length word)) parts) (slice_split-cons_yes is_blank byte bytes blank)

-- what stands after a word is nothing, or begins with a blank
abbrev pub EndsWord : List ℕ → Type 0
EndsWord [] = Unit {0}
EndsWord (byte ∷ bytes) = is_blank byte ≡ true

pub words_of-word : (word rest : List ℕ) → 0 < length word → All (λ byte. is_blank byte ≡ false) word
    → EndsWord rest → words_of (word ++ rest) ≡ word ∷ words_of rest
words_of-word word [] some dark ends =
    let test : nat_lt 0 (length word) ≡ true = lt-ltb 0 (length word) some in
    rw (append-nil word, slice_split_none is_blank word dark, test) refl
words_of-word word (byte ∷ rest) some dark ends =
    let test : nat_lt 0 (length word) ≡ true = lt-ltb 0 (length word) some in
    rw (slice_split_at is_blank word byte rest dark ends, test)
    (ap (λ words. word ∷ words) (sym (words_of-blank byte rest ends)))

-- blanks at the front part nothing
words_of-front : (byte : ℕ) (bytes : List ℕ) (n : ℕ) (b : Bool) → is_blank byte ≡ b
    → words_of (drop n bytes) ≡ words_of bytes
    → words_of (drop (cond b (1 + n) 0) (byte ∷ bytes)) ≡ words_of (byte ∷ bytes)
words_of-front byte bytes n true blank more =
    rw (← drop-drop n 1 (byte ∷ bytes)) (more ∙ sym (words_of-blank byte bytes blank))
words_of-front byte bytes n false dark more = refl

pub words_of-blanks : (bytes : List ℕ) → words_of (drop (prefix_len is_blank bytes) bytes) ≡ words_of bytes
words_of-blanks [] = refl
words_of-blanks (byte ∷ bytes) =
    words_of-front byte bytes (prefix_len is_blank bytes) (is_blank byte) refl (words_of-blanks bytes)

-- blanks alone have no words
pub words_of-only_blanks : (bytes : List ℕ) → length bytes ≤ prefix_len is_blank bytes → words_of bytes ≡ []
words_of-only_blanks bytes all = sym (words_of-blanks bytes)
    ∙ ap words_of (drop_all (prefix_len is_blank bytes) bytes all)

-- a text that begins with no blank begins with a word
starts_word : (text : List ℕ) → 0 < length text → is_blank (get_or text 0 0) ≡ false
    → 0 < position_or_len is_blank text
starts_word [] some dark = absurd (omega arith)
starts_word (byte ∷ text) some dark =
    let test : not (is_blank byte) ≡ true = not_from_false (is_blank byte) dark in
    rw test (omega arith)

ends_word : (rest : List ℕ) → (0 < length rest → is_blank (get_or rest 0 0) ≡ true) → EndsWord rest
ends_word [] blank = tt
ends_word (byte ∷ rest) blank = blank (omega arith)

first_word_of : (text : List ℕ) → 0 < position_or_len is_blank text
    → words_of text ≡ take (position_or_len is_blank text) text ∷ words_of
    (drop (position_or_len is_blank text) text)
first_word_of text some =
    let end = position_or_len is_blank text in
    let within : end ≤ length text = prefix_len-le-length (λ byte. not (is_blank byte)) text in
    let dark : All (λ byte. is_blank byte ≡ false) (take end text) =
    λ k d below. let early : k < end = omega (arith, length-take end text) in
    rw (get_or-take end text k d early) (fails_before_first is_blank text k d early) in
    let ends : EndsWord (drop end text) =
    ends_word (drop end text)
    (λ more. rw (get_or-drop end text 0 0, add-zero end)
    (passes_at_first is_blank text 0 (omega (arith, simp length-drop at more)))) in
    ap words_of (sym (take-append-drop end text))
    ∙ words_of-word (take end text) (drop end text) (omega (arith, length-take end text)) dark ends

-- the line begins with this word, behind blanks or none, and this stands after it
pub record BeginsWord (line word rest : List ℕ) : Type 0 where
  pub words : words_of line ≡ word ∷ words_of rest
  pub some : 0 < length word

begins_word : (line : List ℕ) (start : ℕ) → start ≡ prefix_len is_blank line → start < length line
    → BeginsWord line (take (position_or_len is_blank (drop start line)) (drop start line))
    (drop (position_or_len is_blank (drop start line)) (drop start line))
begins_word line start first below =
    let text = drop start line in
    let end = position_or_len is_blank text in
    let long : 0 < length text = omega (arith, length-drop start line) in
    let stops : is_blank (get_or line (prefix_len is_blank line) 0) ≡ false =
    prefix_len_stops is_blank line 0 (omega arith) in
    let dark : is_blank (get_or text 0 0) ≡ false = rw (get_or-drop start line 0 0, add-zero start, first) stops in
    let some : 0 < end = starts_word text long dark in
    let within : end ≤ length text = prefix_len-le-length (λ byte. not (is_blank byte)) text in
    let same : words_of text ≡ words_of line = rw first (words_of-blanks line) in
    record { words = sym same ∙ first_word_of text some; some = omega (arith, length-take end text) }

-- the same, of what the code cut
pub begins_word_at : (line text rest : List ℕ) (start end : ℕ) → start ≡ prefix_len is_blank line → start < length line
    → text ≡ drop start line → end ≡ position_or_len is_blank text → rest ≡ drop end text
    → BeginsWord line (take end text) rest
begins_word_at line text rest start end first below cut last left =
    rw (left, last, cut) (begins_word line start first below)
