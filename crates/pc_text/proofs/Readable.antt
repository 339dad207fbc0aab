-- Printed text can be read back: where two texts with something after them are equal, the texts are of the same
-- thing, and the rests are equal.
use Rattle.std.proofs.Common.{◌≡◌, ℕ, ◌+◌, ◌≤◌, ◌<◌, ◌^◌, List, [], ◌∷◌, ◌++◌, length, map, drop, refl, sym, ap}
use Rattle.std.proofs.Common.{Option, pred, subst, ◌∙◌, append_assoc, arith}
use Rattle.std.specs.Char.{digit_value}
use Rattle.std.specs.Str.Parse.{AllDigits}
use Rattle.std.specs.Fmt.{decimal}
use Rattle.std.proofs.lemmas.Fmt.{decimal_is_IsNumeral, decimal_injective}
use Rattle.pc_model.specs.declared.call.Call.{Call}
use Rattle.pc_model.specs.declared.call.Call.TheVariants.{Put, Get, Remove, Ceil, Floor}
use Rattle.pc_model.specs.declared.call.Reply.{Reply}
use Rattle.pc_model.specs.declared.call.Reply.TheVariants.{New, Was, Value, None as Nothing, Pair}
use Rattle.pc_model.specs.declared.call.Entry.{Entry}
use Rattle.pc_text.specs.Printed.{call_text, reply_text, turn_text, entry_line, entry_lines, left_line, pair_line}
use Rattle.pc_text.specs.declared.shape.ShapeLine.{ShapeLine}
use Rattle.pc_text.specs.Printed.{pair_lines, shape_lines, end_line, printed_run}
use Rattle.pc_text.specs.FixesHistory.{IsWord, CallFits, ReplyFits, EntryFits, EntriesFit, PairsFit, shown}
use Rattle.pc_text.specs.FixesHistory.{FixesHistory}

-- ---- bytes and digits

abbrev NoDigit : ℕ → Type 0
NoDigit x = digit_value x < 10 → ⊥

abbrev first : List ℕ → ℕ
first [] = 0
first (x ∷ xs) = x

-- digits before a byte that is no digit are determined
digits_apart : (ds es : List ℕ) (x y : ℕ) (r s : List ℕ) → AllDigits 10 ds → AllDigits 10 es → NoDigit x → NoDigit y
    → ds ++ x ∷ r ≡ es ++ y ∷ s → (ds ≡ es) × (x ∷ r ≡ y ∷ s)
digits_apart [] [] x y r s p q no_x no_y e = (refl, e)
digits_apart [] (c ∷ es) x y r s p q no_x no_y e =
    absurd (no_x (subst (λ b. digit_value b < 10) (sym (ap first e)) q.0))
digits_apart (d ∷ ds) [] x y r s p q no_x no_y e = absurd (no_y (subst (λ b. digit_value b < 10) (ap first e) p.0))
digits_apart (d ∷ ds) (c ∷ es) x y r s p q no_x no_y e =
    let same : d ≡ c = ap first e in
    let rest = digits_apart ds es x y r s p.1 q.1 no_x no_y (ap (drop 1) e) in
    let more : ds ≡ es = rest.0 in
    (cc, rest.1)

number_apart : (m n x y : ℕ) (r s : List ℕ) → IsWord m → IsWord n → NoDigit x → NoDigit y
    → decimal m ++ x ∷ r ≡ decimal n ++ y ∷ s → (m ≡ n) × (x ∷ r ≡ y ∷ s)
number_apart m n x y r s p q no_x no_y e =
    let both = digits_apart (decimal m) (decimal n) x y r s (decimal_is_IsNumeral m p).0.1
    (decimal_is_IsNumeral n q).0.1 no_x no_y e in
    (decimal_injective m n p q both.0, both.1)

digits_first : (ds : List ℕ) (x : ℕ) (r s : List ℕ) → 0 < length ds → AllDigits 10 ds → NoDigit x → ds ++ r ≡ x ∷ s → ⊥
digits_first [] x r s some p ends e = omega arith
digits_first (d ∷ ds) x r s some p ends e = ends (subst (λ b. digit_value b < 10) (ap first e) p.0)

-- a number begins with a digit
number_first : (n x : ℕ) (r s : List ℕ) → IsWord n → NoDigit x → decimal n ++ r ≡ x ∷ s → ⊥
number_first n x r s p ends e =
    digits_first (decimal n) x r s (decimal_is_IsNumeral n p).0.0 (decimal_is_IsNumeral n p).0.1 ends e

no_line_end : NoDigit 10
no_line_end h = omega arith

no_space : NoDigit 32
no_space h = omega arith

no_dot : NoDigit 46
no_dot h = omega arith

no_a : NoDigit 97
no_a h = omega arith

no_e : NoDigit 101
no_e h = omega arith

no_l : NoDigit 108
no_l h = omega arith

no_n : NoDigit 110
no_n h = omega arith

no_w : NoDigit 119
no_w h = omega arith

-- a number, a space, a number, and more after a byte that is no digit
two_apart : (m n j k x : ℕ) (r s : List ℕ) → IsWord m → IsWord n → IsWord j → IsWord k → NoDigit x
    → decimal m ++ 32 ∷ (decimal n ++ x ∷ r) ≡ decimal j ++ 32 ∷ (decimal k ++ x ∷ s) → (m ≡ j) × (n ≡ k) × (r ≡ s)
two_apart m n j k x r s pm pn pj pk ends e =
    let front = number_apart m j 32 32 (decimal n ++ x ∷ r) (decimal k ++ x ∷ s) pm pj no_space no_space e in
    let back = number_apart n k x x r s pn pk ends ends (ap (drop 1) front.1) in
    (front.0, back.0, ap (drop 1) back.1)

-- ---- commands

-- the first byte of the command's word
abbrev word_of : Call → ℕ
word_of (Put k v) = 112
word_of (Get k) = 103
word_of (Remove k) = 114
word_of (Ceil k) = 99
word_of (Floor k) = 102

first-call_text : (c : Call) (r : List ℕ) → first (call_text c ++ r) ≡ word_of c
unfolding call_text
first-call_text (Put k v) r = refl
first-call_text (Get k) r = refl
first-call_text (Remove k) r = refl
first-call_text (Ceil k) r = refl
first-call_text (Floor k) r = refl

same_word : (c d : Call) (r s : List ℕ) → call_text c ++ r ≡ call_text d ++ s → word_of c ≡ word_of d
same_word c d r s e = sym (first-call_text c r) ∙ ap first e ∙ first-call_text d s

after_put : (k v : ℕ) (r : List ℕ) → drop 4 (call_text (Put k v) ++ r) ≡ decimal k ++ 32 ∷ (decimal v ++ r)
unfolding call_text
after_put k v r = append_assoc (decimal k ++ 32 ∷ []) (decimal v) r
    ∙ append_assoc (decimal k) (32 ∷ []) (decimal v ++ r)

call_apart : (c d : Call) (r s : List ℕ) → CallFits c → CallFits d → call_text c ++ 32 ∷ r ≡ call_text d ++ 32 ∷ s
    → (c ≡ d) × (r ≡ s)
unfolding call_text
call_apart (Put k v) (Put j w) r s p q e =
    let f = two_apart k v j w 32 r s p.0 p.1 q.0 q.1 no_space (sym (after_put k v (32 ∷ r)) ∙ ap (drop 4) e
    ∙ after_put j w (32 ∷ s)) in
    let key : k ≡ j = f.0 in
    let value : v ≡ w = f.1 in
    (cc, f.2)
call_apart (Get k) (Get j) r s p q e = let f = number_apart k j 32 32 r s p q no_space no_space (ap (drop 4) e) in
    (ap Get f.0, ap (drop 1) f.1)
call_apart (Remove k) (Remove j) r s p q e = let f =
    number_apart k j 32 32 r s p q no_space no_space (ap (drop 7) e) in (ap Remove f.0, ap (drop 1) f.1)
call_apart (Ceil k) (Ceil j) r s p q e = let f =
    number_apart k j 32 32 r s p q no_space no_space (ap (drop 5) e) in (ap Ceil f.0, ap (drop 1) f.1)
call_apart (Floor k) (Floor j) r s p q e = let f =
    number_apart k j 32 32 r s p q no_space no_space (ap (drop 6) e) in (ap Floor f.0, ap (drop 1) f.1)
call_apart c d r s p q e = absurd (omega (arith, same_word c d (32 ∷ r) (32 ∷ s) e))

-- ---- replies

abbrev second : List ℕ → ℕ
second xs = first (drop 1 xs)

pair_text : (k x : ℕ) (r : List ℕ) → reply_text (Pair k x) ++ r ≡ decimal k ++ 32 ∷ (decimal x ++ r)
unfolding reply_text
pair_text k x r = append_assoc (decimal k ++ 32 ∷ []) (decimal x) r
    ∙ append_assoc (decimal k) (32 ∷ []) (decimal x ++ r)

-- a reply that is a number, against one that begins with a word or is a pair
value_alone : (x : ℕ) (d : Reply) (r s : List ℕ) → IsWord x → ReplyFits d
    → decimal x ++ 10 ∷ r ≡ reply_text d ++ 10 ∷ s → (y : ℕ) × (d ≡ Value y) × (x ≡ y) × (r ≡ s)
unfolding reply_text
value_alone x New r s p q e = absurd (number_first x 110 (10 ∷ r) _ p no_n e)
value_alone x (Was y) r s p q e = absurd (number_first x 119 (10 ∷ r) _ p no_w e)
value_alone x (Value y) r s p q e = let f = number_apart x y 10 10 r s p q no_line_end no_line_end e in
    (y, refl, f.0, ap (drop 1) f.1)
value_alone x Nothing r s p q e = absurd (number_first x 110 (10 ∷ r) _ p no_n e)
value_alone x (Pair k y) r s p q e =
    let f = number_apart x k 10 32 r (decimal y ++ 10 ∷ s) p q.0 no_line_end no_space (e ∙ pair_text k y (10 ∷ s)) in
    absurd (omega (arith, ap first f.1))

pair_alone : (k x : ℕ) (d : Reply) (r s : List ℕ) → IsWord k → IsWord x → ReplyFits d
    → decimal k ++ 32 ∷ (decimal x ++ 10 ∷ r) ≡ reply_text d ++ 10 ∷ s
    → (j : ℕ) × (y : ℕ) × (d ≡ Pair j y) × (k ≡ j) × (x ≡ y) × (r ≡ s)
unfolding reply_text
pair_alone k x New r s pk px q e = absurd (number_first k 110 _ _ pk no_n e)
pair_alone k x (Was y) r s pk px q e = absurd (number_first k 119 _ _ pk no_w e)
pair_alone k x (Value y) r s pk px q e =
    let f = number_apart k y 32 10 (decimal x ++ 10 ∷ r) s pk q no_space no_line_end e in
    absurd (omega (arith, ap first f.1))
pair_alone k x Nothing r s pk px q e = absurd (number_first k 110 _ _ pk no_n e)
pair_alone k x (Pair j y) r s pk px q e =
    let f = two_apart k x j y 10 r s pk px q.0 q.1 no_line_end (e ∙ pair_text j y (10 ∷ s)) in
    (j, y, refl, f.0, f.1, f.2)

reply_apart : (c d : Reply) (r s : List ℕ) → ReplyFits c → ReplyFits d
    → reply_text c ++ 10 ∷ r ≡ reply_text d ++ 10 ∷ s → (c ≡ d) × (r ≡ s)
unfolding reply_text
reply_apart (Value x) d r s p q e = let f = value_alone x d r s p q e in (ap Value f.2 ∙ sym f.1, f.3)
reply_apart (Pair k x) d r s p q e =
    let f = pair_alone k x d r s p.0 p.1 q (sym (pair_text k x (10 ∷ r)) ∙ e) in
    (ap (λ j. Pair j x) f.3 ∙ ap (Pair f.0) f.4 ∙ sym f.2, f.5)
reply_apart New New r s p q e = (refl, ap (drop 4) e)
reply_apart (Was x) (Was y) r s p q e = let f =
    number_apart x y 10 10 r s p q no_line_end no_line_end (ap (drop 4) e) in (ap Was f.0, ap (drop 1) f.1)
reply_apart Nothing Nothing r s p q e = (refl, ap (drop 5) e)
reply_apart New (Value y) r s p q e = absurd (number_first y 110 (10 ∷ s) _ q no_n (sym e))
reply_apart (Was x) (Value y) r s p q e = absurd (number_first y 119 (10 ∷ s) _ q no_w (sym e))
reply_apart Nothing (Value y) r s p q e = absurd (number_first y 110 (10 ∷ s) _ q no_n (sym e))
reply_apart New (Pair j y) r s p q e = absurd (number_first j 110 _ _ q.0 no_n (sym (pair_text j y (10 ∷ s)) ∙ sym e))
reply_apart (Was x) (Pair j y) r s p q e =
    absurd (number_first j 119 _ _ q.0 no_w (sym (pair_text j y (10 ∷ s)) ∙ sym e))
reply_apart Nothing (Pair j y) r s p q e =
    absurd (number_first j 110 _ _ q.0 no_n (sym (pair_text j y (10 ∷ s)) ∙ sym e))
reply_apart c d r s p q e = absurd (omega (arith, ap second e))

-- ---- lines

entry_text : (place : ℕ) (e : Entry) (r : List ℕ) → entry_line place e ++ r
    ≡ decimal place ++ 32 ∷
    (decimal e.pass ++ 46 ∷
    (decimal e.number ++ 32 ∷ (call_text e.call ++ 32 ∷ (61 ∷ 32 ∷ (reply_text e.reply ++ 10 ∷ r)))))
unfolding entry_line turn_text
entry_text place e r = simp append_assoc

entry_apart : (place : ℕ) (e f : Entry) (r s : List ℕ) → IsWord place → EntryFits e → EntryFits f
    → entry_line place e ++ r ≡ entry_line place f ++ s → (shown e ≡ shown f) × (r ≡ s)
entry_apart place e f r s here p q same =
    let h0 = sym (entry_text place e r) ∙ same ∙ entry_text place f s in
    let h1 = number_apart place place 32 32 _ _ here here no_space no_space h0 in
    let h2 = number_apart e.pass f.pass 46 46 _ _ p.pass q.pass no_dot no_dot (ap (drop 1) h1.1) in
    let h3 = number_apart e.number f.number 32 32 _ _ p.number q.number no_space no_space (ap (drop 1) h2.1) in
    let h4 = call_apart e.call f.call _ _ p.call q.call (ap (drop 1) h3.1) in
    let h5 = reply_apart e.reply f.reply r s p.reply q.reply (ap (drop 2) h4.1) in
    (λ i. (h2.0 i, h3.0 i, h4.0 i, h5.0 i), h5.1)

-- `left` begins with no digit
entries_apart : (place : ℕ) (es fs : List Entry) (r s : List ℕ) → place + length es ≤ 2 ^ 64
    → place + length fs ≤ 2 ^ 64 → EntriesFit es → EntriesFit fs
    → entry_lines place es ++ 108 ∷ r ≡ entry_lines place fs ++ 108 ∷ s → (map shown es ≡ map shown fs) × (r ≡ s)
entries_apart place [] [] r s l m p q e = (refl, ap (drop 1) e)
entries_apart place [] (f ∷ fs) r s l m p q e =
    absurd (number_first place 108 _ r (omega arith) no_l
    (sym (e ∙ append_assoc (entry_line place f) (entry_lines (place + 1) fs) (108 ∷ s)
    ∙ entry_text place f (entry_lines (place + 1) fs ++ 108 ∷ s))))
entries_apart place (e ∷ es) [] r s l m p q h =
    absurd (number_first place 108 _ s (omega arith) no_l
    (sym (sym h ∙ append_assoc (entry_line place e) (entry_lines (place + 1) es) (108 ∷ r)
    ∙ entry_text place e (entry_lines (place + 1) es ++ 108 ∷ r))))
entries_apart place (e ∷ es) (f ∷ fs) r s l m p q h =
    let one = entry_apart place e f (entry_lines (place + 1) es ++ 108 ∷ r) (entry_lines (place + 1) fs ++ 108 ∷ s)
    (omega arith) p.0 q.0
    (sym (append_assoc (entry_line place e) (entry_lines (place + 1) es) (108 ∷ r)) ∙ h
    ∙ append_assoc (entry_line place f) (entry_lines (place + 1) fs) (108 ∷ s)) in
    let others = entries_apart (place + 1) es fs r s (omega arith) (omega arith) p.1 q.1 one.1 in
    (λ i. one.0 i ∷ others.0 i, others.1)

pair_line_text : (p : ℕ × ℕ) (r : List ℕ) → pair_line p ++ r ≡ decimal p.0 ++ 32 ∷ (decimal p.1 ++ 10 ∷ r)
unfolding pair_line
pair_line_text p r = simp append_assoc

pairs_apart : (ps qs : List (ℕ × ℕ)) (r s : List ℕ) → length ps ≡ length qs → PairsFit ps → PairsFit qs
    → pair_lines ps ++ r ≡ pair_lines qs ++ s → ps ≡ qs
pairs_apart [] [] r s l p q e = refl
pairs_apart [] (y ∷ ys) r s l p q e = absurd (omega (arith, l))
pairs_apart (x ∷ xs) [] r s l p q e = absurd (omega (arith, l))
pairs_apart (x ∷ xs) (y ∷ ys) r s l p q e =
    let one = two_apart x.0 x.1 y.0 y.1 10 _ _ p.0 p.1 q.0 q.1 no_line_end
    (sym (append_assoc (pair_line x) (pair_lines xs) r ∙ pair_line_text x (pair_lines xs ++ r)) ∙ e
    ∙ append_assoc (pair_line y) (pair_lines ys) s ∙ pair_line_text y (pair_lines ys ++ s)) in
    let others = pairs_apart xs ys r s (ap pred l) p.2 q.2 one.2 in
    λ i. (one.0 i, one.1 i) ∷ others i

-- ---- a run

run_text : (es : List Entry) (ps : List (ℕ × ℕ)) (shape : Option (List ShapeLine)) → printed_run es ps shape
    ≡ entry_lines 1 es ++ 108 ∷
    (101 ∷ 102 ∷ 116 ∷ 32 ∷ (decimal (length ps) ++ 10 ∷ (pair_lines ps ++ (shape_lines shape ++ end_line))))
unfolding left_line
run_text es ps shape = simp append_assoc

pub fixes_history : FixesHistory
fixes_history es fs ps qs shape shape' p q e =
    let lines = entries_apart 1 es fs _ _ (omega (arith, p.lines)) (omega (arith, q.lines)) p.entries q.entries
    (sym (run_text es ps shape) ∙ e ∙ run_text fs qs shape') in
    let count = number_apart (length ps) (length qs) 10 10 _ _ p.count q.count no_line_end no_line_end
    (ap (drop 4) lines.1) in
    (lines.0, pairs_apart ps qs _ _ count.0 p.pairs q.pairs (ap (drop 1) count.1))
