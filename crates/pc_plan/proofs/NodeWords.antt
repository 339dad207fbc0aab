-- Exchanges by their nodes: each changed node with the version that it was visited at and the fields that
-- change, and the node that is marked. That nodes are different is said once, that the fields of a node are
-- is seen by computing, and what the exchange leaves is looked up.
use Rattle.std.proofs.Common.{◌≡◌, ◌≢◌, ℕ, ◌+◌, ◌%◌, ◌^◌, ◌==◌, ◌⊎◌, ⊎_elim, if◌then◌else◌, Bool, ◌||◌, true, false}
use Rattle.std.proofs.Common.{List, [], ◌∷◌, Option, Some, None, refl, sym, ap, ◌∙◌, subst}
use Rattle.std.proofs.Math.Bool.{or-true}
use Rattle.std.proofs.lemmas.Bool.{cases_Bool, eq-eqb, eqb-true, eqb-false, ne_eqb, or_from, or_parts, cond-true}
use Rattle.std.proofs.lemmas.Bool.{cond-false}
use Rattle.pc_model.specs.declared.cell.Field.{Field}
use Rattle.pc_model.specs.declared.cell.Field.TheVariants.{Version}
use Rattle.pc_model.specs.Cells.{Cells, field_number, written}
use Rattle.pc_model.specs.Debts.{has, AreDifferent}
use Rattle.pc_model.specs.Exchanges.{Visited}
use Rattle.pc_model.proofs.Writes.{written-here, written-else, written-other_node, same_field}
use Rattle.pc_plan.specs.NodeChanges.{FieldChange, NodeChange, adds_at, marked_adds, adds_of}
use Rattle.pc_plan.specs.Runs.{number_at}
use Rattle.pc_plan.specs.Lawful.{Adds}
use Rattle.pc_plan.proofs.WrittenWords.{with_words, words_else, words_append, adds_append}

-- the nodes of the words
abbrev pub marked_nodes : Option Visited → List ℕ
marked_nodes None = []
marked_nodes (Some v) = v.node ∷ []

abbrev pub nodes_in : List NodeChange → Option Visited → List ℕ
nodes_in [] mark = marked_nodes mark
nodes_in (w ∷ ws) mark = w.node ∷ nodes_in ws mark

-- the numbers of the fields that change
abbrev pub numbers_of : List FieldChange → List ℕ
numbers_of [] = []
numbers_of (x ∷ xs) = field_number x.field ∷ numbers_of xs

-- no field stands twice, and none is the version
abbrev pub AreFields : List FieldChange → Type 0
AreFields [] = Unit {0}
AreFields (x ∷ xs) = (has (field_number x.field) (0 ∷ numbers_of xs) ≡ false) × AreFields xs

-- Lists of numbers

pub has_here : (n : ℕ) (xs : List ℕ) → has n (n ∷ xs) ≡ true
has_here n xs = let e : (n == n) ≡ true = eq-eqb n n refl in rw e refl

pub has_later : (n m : ℕ) (xs : List ℕ) → has n xs ≡ true → has n (m ∷ xs) ≡ true
has_later n m xs h = ap (λ (b : Bool). (m == n) || b) h ∙ or-true (m == n)

-- a number that isn't among some, by inequalities
pub not_among : (n m : ℕ) (xs : List ℕ) → n ≢ m → has n xs ≡ false → has n (m ∷ xs) ≡ false
not_among n m xs ne rest = or_from (m == n) (has n xs) (ne_eqb m n (λ e. ne (sym e))) rest

pub among_not : (n m : ℕ) (xs : List ℕ) → has n (m ∷ xs) ≡ false → (n ≢ m) × (has n xs ≡ false)
among_not n m xs e = let parts : ((m == n) ≡ false) × (has n xs ≡ false) = or_parts (m == n) (has n xs) e in
    (λ same. eqb-false m n parts.0 (sym same), parts.1)

pub true_and_false : (n : ℕ) (xs : List ℕ) → has n xs ≡ true → has n xs ≡ false → ⊥
true_and_false n xs t f = let e : true ≡ false = sym t ∙ f in absurd (cc)

-- Where the words of an exchange lie

pub adds_at-in : (n : ℕ) (xs : List FieldChange) (m : ℕ) (f : Field) → Adds m f (adds_at n xs)
    → (m ≡ n) × (has (field_number f) (numbers_of xs) ≡ true)
adds_at-in n [] m f h = absurd h
adds_at-in n (x ∷ xs) m f h = ⊎_elim
    (λ e. (
      sym e.0,
      subst (λ (g : Field). has (field_number g) (field_number x.field ∷ numbers_of xs) ≡ true) e.1
          (has_here (field_number x.field) (numbers_of xs)),
    ))
    (λ later. let ih : (m ≡ n) × (has (field_number f) (numbers_of xs) ≡ true) = adds_at-in n xs m f later in
    (ih.0, has_later (field_number f) (field_number x.field) (numbers_of xs) ih.1)) h

pub marked_adds-in : (mark : Option Visited) (m : ℕ) (f : Field) → Adds m f (marked_adds mark)
    → (has m (marked_nodes mark) ≡ true) × (f ≡ Version)
marked_adds-in None m f h = absurd h
marked_adds-in (Some v) m f h = ⊎_elim (λ e. (
  subst (λ (x : ℕ). has x (v.node ∷ []) ≡ true) e.0 (has_here v.node []),
  sym e.1,
)) (λ no_more. absurd no_more) h

adds_of-in : (ws : List NodeChange) (mark : Option Visited) (m : ℕ) (f : Field) → Adds m f (adds_of ws mark)
    → has m (nodes_in ws mark) ≡ true
adds_of-in [] mark m f h = (marked_adds-in mark m f h).0
adds_of-in (w ∷ ws) mark m f h = ⊎_elim
    (λ e. subst (λ (x : ℕ). has x (w.node ∷ nodes_in ws mark) ≡ true) e.0 (has_here w.node (nodes_in ws mark)))
    (λ k. ⊎_elim
    (λ a. subst (λ (x : ℕ). has x (w.node ∷ nodes_in ws mark) ≡ true) (sym (adds_at-in w.node w.fields m f a).0)
    (has_here w.node (nodes_in ws mark)))
    (λ b. has_later m w.node (nodes_in ws mark) (adds_of-in ws mark m f b))
    (adds_append m f (adds_at w.node w.fields) (adds_of ws mark) k)) h

-- a node that isn't among the others has no word among theirs
pub not_added : (ws : List NodeChange) (mark : Option Visited) (m : ℕ) (f : Field) → has m (nodes_in ws mark) ≡ false
    → Adds m f (adds_of ws mark) → ⊥
not_added ws mark m f out h = true_and_false m (nodes_in ws mark) (adds_of-in ws mark m f h) out

pub fields_not_version : (xs : List FieldChange) → AreFields xs → has 0 (numbers_of xs) ≡ false
fields_not_version [] apart = refl
fields_not_version (x ∷ xs) apart =
    let ne : field_number x.field ≢ 0 = (among_not (field_number x.field) 0 (numbers_of xs) apart.0).0 in
    not_among 0 (field_number x.field) (numbers_of xs) (λ e. ne (sym e)) (fields_not_version xs apart.1)

-- What the exchange leaves

-- what a field of a node gets, or what it had
abbrev pub looked_up : ℕ → Field → List FieldChange → ℕ → ℕ
looked_up slot f [] old = old
looked_up slot f (x ∷ xs) old = if field_number x.field == field_number f then number_at slot x.new else looked_up slot
    f xs old

abbrev pub field_after : ℕ → NodeChange → Cells → Field → ℕ
field_after slot w c f = looked_up slot f w.fields (if field_number f == 0 then (w.version + 2) % 2 ^ 64 else c w.node
    f)

pub looked_up-none : (slot : ℕ) (f : Field) (xs : List FieldChange) (old : ℕ)
    → has (field_number f) (numbers_of xs) ≡ false → looked_up slot f xs old ≡ old
looked_up-none slot f [] old out = refl
looked_up-none slot f (x ∷ xs) old out =
    let parts : (field_number f ≢ field_number x.field) × (has (field_number f) (numbers_of xs) ≡ false) = among_not
    (field_number f) (field_number x.field) (numbers_of xs) out in
    cond-false (field_number x.field == field_number f) (number_at slot x.new) (looked_up slot f xs old)
    (ne_eqb (field_number x.field) (field_number f) (λ e. parts.0 (sym e)))
    ∙ looked_up-none slot f xs old parts.1

fields_written : (slot n : ℕ) (xs : List FieldChange) (c : Cells) (f : Field) → AreFields xs
    → with_words slot (adds_at n xs) c n f ≡ looked_up slot f xs (c n f)
fields_written slot n [] c f apart = refl
fields_written slot n (x ∷ xs) c f apart =
    let d : Cells = written n x.field (number_at slot x.new) c in
    let ih : with_words slot (adds_at n xs) d n f ≡ looked_up slot f xs (d n f) = fields_written slot n xs d f
    apart.1 in
    ⊎_elim
    (λ same. let e : x.field ≡ f = same_field x.field f (eqb-true (field_number x.field) (field_number f) same) in
    let here : d n f ≡ number_at slot x.new = (λ i. d n (sym e i)) ∙ written-here n x.field (number_at slot x.new) c in
    let out : has (field_number f) (numbers_of xs) ≡ false
    = subst (λ (g : Field). has (field_number g) (numbers_of xs) ≡ false) e (among_not (field_number x.field) 0
    (numbers_of xs) apart.0).1 in
    ih ∙ looked_up-none slot f xs (d n f) out ∙ here ∙ sym (cond-true (field_number x.field == field_number f)
    (number_at slot x.new) (looked_up slot f xs (c n f)) same))
    (λ differs. let other : d n f ≡ c n f = written-else n x.field (number_at slot x.new) c n f (λ _ e. eqb-false
    (field_number x.field) (field_number f) differs (ap field_number (sym e))) in
    ih ∙ ap (looked_up slot f xs) other ∙ sym (cond-false (field_number x.field == field_number f)
    (number_at slot x.new) (looked_up slot f xs (c n f)) differs))
    (cases_Bool (field_number x.field == field_number f))

-- the node is among the changed ones
abbrev pub IsAmong : NodeChange → List NodeChange → Type 0
IsAmong w [] = ⊥
IsAmong w (x ∷ xs) = (w ≡ x) ⊎ IsAmong w xs

-- each node's fields are fields
abbrev pub HaveFields : List NodeChange → Type 0
HaveFields [] = Unit {0}
HaveFields (w ∷ ws) = AreFields w.fields × HaveFields ws

among-has : (w : NodeChange) (ws : List NodeChange) (mark : Option Visited) → IsAmong w ws
    → has w.node (nodes_in ws mark) ≡ true
among-has w [] mark i = absurd i
among-has w (x ∷ xs) mark i = ⊎_elim
    (λ e. subst (λ (y : NodeChange). has y.node (x.node ∷ nodes_in xs mark) ≡ true) (sym e) (has_here x.node
    (nodes_in xs mark)))
    (λ j. has_later w.node x.node (nodes_in xs mark) (among-has w xs mark j)) i

head_written : (slot : ℕ) (w : NodeChange) (ws : List NodeChange) (mark : Option Visited) (c : Cells) (f : Field)
    → has w.node (nodes_in ws mark) ≡ false → AreFields w.fields
    → with_words slot (adds_of (w ∷ ws) mark) c w.node f ≡ field_after slot w c f
head_written slot w ws mark c f out fields =
    let v : ℕ = (w.version + 2) % 2 ^ 64 in
    let n : ℕ = w.node in
    let d : Cells = written n Version v c in
    let at_first : d n f ≡ (if field_number f == 0 then v else c n f) = ⊎_elim
    (λ same. let e : f ≡ Version = same_field f Version (eqb-true (field_number f) 0 same) in
    (λ i. d n (e i)) ∙ written-here n Version v c ∙ sym (cond-true (field_number f == 0) v (c n f) same))
    (λ differs. written-else n Version v c n f (λ _ e. eqb-false (field_number f) 0 differs (ap field_number e))
    ∙ sym (cond-false (field_number f == 0) v (c n f) differs))
    (cases_Bool (field_number f == 0)) in
    (λ i. words_append slot (adds_at n w.fields) (adds_of ws mark) d i n f)
    ∙ words_else slot (adds_of ws mark) (with_words slot (adds_at n w.fields) d) n f (not_added ws mark n f out)
    ∙ fields_written slot n w.fields d f fields
    ∙ ap (looked_up slot f w.fields) at_first

-- a node that is none of w's words keeps what it has, where w's are written
head_other : (slot : ℕ) (w : NodeChange) (ws : List NodeChange) (mark : Option Visited) (c : Cells) → (m : ℕ)
    → m ≢ w.node → (f : Field)
    → with_words slot (adds_at w.node w.fields) (written w.node Version ((w.version + 2) % 2 ^ 64) c) m f ≡ c m f
head_other slot w ws mark c m ne f =
    words_else slot (adds_at w.node w.fields) (written w.node Version ((w.version + 2) % 2 ^ 64) c) m f
    (λ h. ne (adds_at-in w.node w.fields m f h).0)
    ∙ written-other_node w.node Version ((w.version + 2) % 2 ^ 64) c m f ne

pub words_of_node : (slot : ℕ) (ws : List NodeChange) (mark : Option Visited) (c : Cells) (w : NodeChange) (f : Field)
    → AreDifferent (nodes_in ws mark) → HaveFields ws → IsAmong w ws
    → with_words slot (adds_of ws mark) c w.node f ≡ field_after slot w c f
words_of_node slot [] mark c w f different fields i = absurd i
words_of_node slot (x ∷ xs) mark c w f different fields i = ⊎_elim
    (λ e. subst (λ (y : NodeChange). with_words slot (adds_of (x ∷ xs) mark) c y.node f ≡ field_after slot y c f)
    (sym e) (head_written slot x xs mark c f different.0 fields.0))
    (λ j. let d : Cells = with_words slot (adds_at x.node x.fields) (written x.node Version ((x.version + 2) % 2 ^ 64)
    c) in
    let ne : w.node ≢ x.node = λ e. true_and_false x.node (nodes_in xs mark)
    (subst (λ (y : ℕ). has y (nodes_in xs mark) ≡ true) e (among-has w xs mark j)) different.0 in
    (λ k. words_append slot (adds_at x.node x.fields) (adds_of xs mark) (written x.node Version
    ((x.version + 2) % 2 ^ 64) c) k w.node f)
    ∙ words_of_node slot xs mark d w f different.1 fields.1 j
    ∙ ap (λ (y : ℕ). looked_up slot f w.fields (if field_number f == 0 then (w.version + 2) % 2 ^ 64 else y))
    (head_other slot x xs mark c w.node ne f))
    i

pub words_of_mark : (slot : ℕ) (ws : List NodeChange) (v : Visited) (c : Cells) → AreDifferent (nodes_in ws (Some v))
    → with_words slot (adds_of ws (Some v)) c v.node Version ≡ (v.version + 1) % 2 ^ 64
words_of_mark slot [] v c different = written-here v.node Version ((v.version + 1) % 2 ^ 64) c
words_of_mark slot (x ∷ xs) v c different =
    (λ k. words_append slot (adds_at x.node x.fields) (adds_of xs (Some v)) (written x.node Version
    ((x.version + 2) % 2 ^ 64) c) k v.node Version)
    ∙ words_of_mark slot xs v (with_words slot (adds_at x.node x.fields) (written x.node Version
    ((x.version + 2) % 2 ^ 64) c)) different.1

pub has_mark : (ws : List NodeChange) (v : Visited) → has v.node (nodes_in ws (Some v)) ≡ true
has_mark [] v = has_here v.node []
has_mark (w ∷ ws) v = has_later v.node w.node (nodes_in ws (Some v)) (has_mark ws v)

pub mark_fields-in : (ws : List NodeChange) (v : Visited) (f : Field) → AreDifferent (nodes_in ws (Some v))
    → Adds v.node f (adds_of ws (Some v)) → f ≡ Version
mark_fields-in [] v f different h = (marked_adds-in (Some v) v.node f h).1
mark_fields-in (w ∷ ws) v f different h =
    let ne : v.node ≢ w.node = λ e. true_and_false w.node (nodes_in ws (Some v))
    (subst (λ (y : ℕ). has y (nodes_in ws (Some v)) ≡ true) e (has_mark ws v)) different.0 in
    ⊎_elim (λ e. absurd (ne (sym e.0)))
    (λ k. ⊎_elim (λ a. absurd (ne (adds_at-in w.node w.fields v.node f a).0)) (λ b. mark_fields-in ws v f different.1
    b)
    (adds_append v.node f (adds_at w.node w.fields) (adds_of ws (Some v)) k)) h
