-- The lines of a longer list are those of its front, and then the others.
use Rattle.std.proofs.Common.{◌≡◌, ℕ, ◌+◌, ◌<◌, List, [], ◌∷◌, ◌++◌, length, take, drop, refl, sym, ap, ◌∙◌}
use Rattle.std.proofs.Common.{append_assoc, append-nil, arith}
use Rattle.std.proofs.Common.{Option, subst, get_or}
use Rattle.std.proofs.lemmas.List.{take_more, take-append-drop, length-take-le}
use Rattle.std.specs.Prelude.{Result, Ok, Err}
use Rattle.pc_edge.specs.Sending.{Writes}
use Rattle.pc_edge.proofs.Sends.{Writes-more, Writes-failed}
use Rattle.pc_model.specs.declared.call.Entry.{Entry}
use Rattle.pc_text.specs.declared.shape.ShapeLine.{ShapeLine}
use Rattle.pc_text.specs.Printed.{entry_line, entry_lines, pair_line, pair_lines, node_line, node_lines}

pub entry_lines-append : (place : ℕ) (xs ys : List Entry)
    → entry_lines place (xs ++ ys) ≡ entry_lines place xs ++ entry_lines (place + length xs) ys
entry_lines-append place [] ys = ap (λ p. entry_lines p ys) (omega arith)
entry_lines-append place (x ∷ xs) ys =
    ap (λ l. entry_line place x ++ l) (entry_lines-append (place + 1) xs ys
    ∙ ap (λ p. entry_lines (place + 1) xs ++ entry_lines p ys) (omega arith))
    ∙ sym (append_assoc (entry_line place x) (entry_lines (place + 1) xs) (entry_lines (place + length (x ∷ xs)) ys))

-- one line more
pub entry_lines-push : (place : ℕ) (xs : List Entry) (x : Entry)
    → entry_lines place (xs ++ x ∷ []) ≡ entry_lines place xs ++ entry_line (place + length xs) x
entry_lines-push place xs x = entry_lines-append place xs (x ∷ [])
    ∙ ap (λ l. entry_lines place xs ++ l) (append-nil (entry_line (place + length xs) x))

pub pair_lines-append : (xs ys : List (ℕ × ℕ)) → pair_lines (xs ++ ys) ≡ pair_lines xs ++ pair_lines ys
pair_lines-append [] ys = refl
pair_lines-append (x ∷ xs) ys = ap (λ l. pair_line x ++ l) (pair_lines-append xs ys)
    ∙ sym (append_assoc (pair_line x) (pair_lines xs) (pair_lines ys))

pub pair_lines-push : (xs : List (ℕ × ℕ)) (x : ℕ × ℕ) → pair_lines (xs ++ x ∷ []) ≡ pair_lines xs ++ pair_line x
pair_lines-push xs x = pair_lines-append xs (x ∷ []) ∙ ap (λ l. pair_lines xs ++ l) (append-nil (pair_line x))

pub node_lines-append : (xs ys : List ShapeLine) → node_lines (xs ++ ys) ≡ node_lines xs ++ node_lines ys
node_lines-append [] ys = refl
node_lines-append (x ∷ xs) ys = ap (λ l. node_line x ++ l) (node_lines-append xs ys)
    ∙ sym (append_assoc (node_line x) (node_lines xs) (node_lines ys))

pub node_lines-push : (xs : List ShapeLine) (x : ShapeLine) → node_lines (xs ++ x ∷ []) ≡ node_lines xs ++ node_line x
node_lines-push xs x = node_lines-append xs (x ∷ []) ∙ ap (λ l. node_lines xs ++ l) (append-nil (node_line x))

-- the first lines, with one line more
pub entry_lines-next : (es : List Entry) (i : ℕ) (d : Entry) → i < length es
    → entry_lines 1 (take (i + 1) es) ≡ entry_lines 1 (take i es) ++ entry_line (i + 1) (get_or es i d)
entry_lines-next es i d inside =
    let long : length (take i es) ≡ i = length-take-le i es (omega arith) in
    ap (entry_lines 1) (take_more es i d inside) ∙ entry_lines-push 1 (take i es) (get_or es i d)
    ∙ ap (λ p. entry_lines 1 (take i es) ++ entry_line p (get_or es i d)) (omega arith)

pub pair_lines-next : (ps : List (ℕ × ℕ)) (i : ℕ) (d : ℕ × ℕ) → i < length ps
    → pair_lines (take (i + 1) ps) ≡ pair_lines (take i ps) ++ pair_line (get_or ps i d)
pair_lines-next ps i d inside = ap pair_lines (take_more ps i d inside) ∙ pair_lines-push (take i ps) (get_or ps i d)

pub node_lines-next : (ns : List ShapeLine) (i : ℕ) (d : ShapeLine) → i < length ns
    → node_lines (take (i + 1) ns) ≡ node_lines (take i ns) ++ node_line (get_or ns i d)
node_lines-next ns i d inside = ap node_lines (take_more ns i d inside) ∙ node_lines-push (take i ns) (get_or ns i d)

-- the first lines, and then the others
pub entry_lines-split : (es : List Entry) (i : ℕ)
    → entry_lines 1 es ≡ entry_lines 1 (take i es) ++ entry_lines (1 + length (take i es)) (drop i es)
entry_lines-split es i = ap (entry_lines 1) (sym (take-append-drop i es))
    ∙ entry_lines-append 1 (take i es) (drop i es)

pub pair_lines-split : (ps : List (ℕ × ℕ)) (i : ℕ) → pair_lines ps ≡ pair_lines (take i ps) ++ pair_lines (drop i ps)
pair_lines-split ps i = ap pair_lines (sym (take-append-drop i ps)) ∙ pair_lines-append (take i ps) (drop i ps)

pub node_lines-split : (ns : List ShapeLine) (i : ℕ) → node_lines ns ≡ node_lines (take i ns) ++ node_lines (drop i ns)
node_lines-split ns i = ap node_lines (sym (take-append-drop i ns)) ∙ node_lines-append (take i ns) (drop i ns)

-- what was written so far with one part more
pub Writes-next : {K T U E : Type 0} (held : K → Option (List ℕ)) (faults : K → ℕ) (a b c : K)
    (before so_far part with_part chunk later : List ℕ) (x : T) (r : Result U E) → with_part ≡ so_far ++ part
    → Writes {E = E} held faults a b (before ++ so_far) chunk (Ok x) → Writes held faults b c (chunk ++ part) later r
    → Writes held faults a c (before ++ with_part) later r
Writes-next held faults a b c before so_far part with_part chunk later x r e s t =
    subst (λ (l : List ℕ). Writes held faults a c l later r)
    (append_assoc before so_far part ∙ ap (λ l. before ++ l) (sym e))
    (Writes-more held faults a b c (before ++ so_far) chunk part later x r s t)

-- the sink failed with more to come
pub Writes-cut : {K T U E F : Type 0} (held : K → Option (List ℕ)) (faults : K → ℕ) (a b : K)
    (before front more all rest later : List ℕ) (e : E) (f : F) → all ≡ front ++ more
    → Writes {T = T} held faults a b (before ++ front) rest (Err e)
    → Writes {T = U} held faults a b (before ++ all) later (Err f)
Writes-cut {U = U} held faults a b before front more all rest later e f whole s =
    subst (λ (l : List ℕ). Writes {T = U} held faults a b l later (Err f))
    (append_assoc before front more ∙ ap (λ l. before ++ l) (sym whole))
    (Writes-failed held faults a b (before ++ front) more rest later e f s)

-- a chunk that is empty at first adds nothing
pub Writes-from_empty : {K T E : Type 0} (held : K → Option (List ℕ)) (faults : K → ℕ) (a b : K)
    (chunk text rest : List ℕ) (r : Result T E) → chunk ≡ [] → Writes held faults a b (chunk ++ text) rest r
    → Writes held faults a b text rest r
Writes-from_empty held faults a b chunk text rest r empty w =
    subst (λ (l : List ℕ). Writes held faults a b (l ++ text) rest r) empty w
