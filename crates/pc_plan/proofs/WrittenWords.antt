-- What cells hold after the words of an exchange are written: a look-up, proved once.
use Rattle.std.proofs.Common.{◌≡◌, ◌≢◌, ℕ, ◌==◌, ◌⊎◌, inl, inr, ⊎_elim, List, [], ◌∷◌, ◌++◌, refl, sym, ap, ◌∙◌, subst}
use Rattle.std.specs.Prelude.{map, Option, Some, None, IsSome}
use Rattle.std.proofs.lemmas.Bool.{cases_eq, cases_Bool, eqb-true, eqb-false}
use Rattle.pc_model.specs.declared.cell.Field.{Field}
use Rattle.pc_model.specs.Cells.{Cells, field_number, written}
use Rattle.pc_model.specs.Exchanges.{with_changes, with_fresh, applied}
use Rattle.pc_model.proofs.Writes.{same_field, written-here, written-else, with_node-other}
use Rattle.pc_plan.specs.declared.change.To.{To}
use Rattle.pc_plan.specs.declared.change.Add.{Add}
use Rattle.pc_plan.specs.declared.change.Fresh.{Fresh}
use Rattle.pc_plan.specs.Planned.{Planned}
use Rattle.pc_plan.specs.Traces.{Event}
use Rattle.pc_plan.specs.Runs.{number_at, change_at, fresh_fields, fresh_at, exchange_of}
use Rattle.pc_plan.specs.Lawful.{Adds, AreOnce}

-- the cells with the words of some adds, where a fresh node takes a slot
abbrev pub with_words : ℕ → List Add → Cells → Cells
with_words slot adds c = with_changes (map (change_at slot) adds) c

-- the word gets this
abbrev pub AddsTo : ℕ → Field → To → List Add → Type 0
AddsTo n f to [] = ⊥
AddsTo n f to (a ∷ adds) = ((a.node ≡ n) × (a.field ≡ f) × (a.new ≡ to)) ⊎ AddsTo n f to adds

pub adds_to-adds : (n : ℕ) (f : Field) (to : To) (adds : List Add) → AddsTo n f to adds → Adds n f adds
adds_to-adds n f to [] h = h
adds_to-adds n f to (a ∷ adds) h = ⊎_elim (λ e. inl (e.0, e.1)) (λ k. inr (adds_to-adds n f to adds k)) h

-- what a word gets, if it gets anything
pub added_or_not : (n : ℕ) (f : Field) (adds : List Add) → ((to : To) × AddsTo n f to adds) ⊎ (Adds n f adds → ⊥)
added_or_not n f [] = inr (λ h. h)
added_or_not n f (a ∷ adds) = ⊎_elim
    (λ later. inl (later.0, inr later.1))
    (λ not_later. ⊎_elim
    (λ same_node. ⊎_elim
    (λ field. let e : a.field ≡ f = same_field a.field f (eqb-true (field_number a.field) (field_number f) field) in
    inl (a.new, inl (same_node, e, refl)))
    (λ other. inr (λ h. ⊎_elim (λ e. eqb-false (field_number a.field) (field_number f) other (ap field_number e.1))
    not_later h))
    (cases_Bool (field_number a.field == field_number f)))
    (λ other_node. inr (λ h. ⊎_elim (λ e. other_node e.0) not_later h))
    (cases_eq a.node n))
    (added_or_not n f adds)

-- a node other than the fresh one is as before
pub fresh_other : (fresh : Option Fresh) (slot version : ℕ) (c : Cells) (m : ℕ) (f : Field) → (IsSome fresh → m ≢ slot)
    → with_fresh (fresh_at slot version fresh) c m f ≡ c m f
fresh_other None slot version c m f other = refl
fresh_other (Some x) slot version c m f other = with_node-other slot (fresh_fields version x) c m f (other refl)

-- a word that gets nothing is as before
pub words_else : (slot : ℕ) (adds : List Add) (c : Cells) (n : ℕ) (f : Field) → (Adds n f adds → ⊥)
    → with_words slot adds c n f ≡ c n f
words_else slot [] c n f out = refl
words_else slot (a ∷ adds) c n f out =
    words_else slot adds (written a.node a.field (number_at slot a.new) c) n f (λ h. out (inr h))
    ∙ written-else a.node a.field (number_at slot a.new) c n f (λ e g. out (inl (sym e, sym g)))

-- a word that gets something once has it
pub words_at : (slot : ℕ) (adds : List Add) (c : Cells) (n : ℕ) (f : Field) (to : To) → AreOnce adds
    → AddsTo n f to adds
    → with_words slot adds c n f ≡ number_at slot to
words_at slot [] c n f to once h = absurd h
words_at slot (a ∷ adds) c n f to once h = ⊎_elim
    (λ e. words_else slot adds (written a.node a.field (number_at slot a.new) c) n f
    (λ later. once.0 (subst (λ (m : ℕ). Adds m a.field adds) (sym e.0) (subst (λ (g : Field). Adds n g adds) (sym e.1)
    later)))
    ∙ (λ i. written a.node a.field (number_at slot a.new) c (sym e.0 i) (sym e.1 i))
    ∙ written-here a.node a.field (number_at slot a.new) c ∙ ap (number_at slot) e.2)
    (λ later. words_at slot adds (written a.node a.field (number_at slot a.new) c) n f to once.1 later) h

-- words written one list after the other
pub words_append : (slot : ℕ) (xs ys : List Add) (c : Cells) → with_words slot (xs ++ ys) c ≡ with_words slot ys
    (with_words slot xs c)
words_append slot [] ys c = refl
words_append slot (x ∷ xs) ys c = words_append slot xs ys (written x.node x.field (number_at slot x.new) c)

pub adds_append : (n : ℕ) (f : Field) (xs ys : List Add) → Adds n f (xs ++ ys) → Adds n f xs ⊎ Adds n f ys
adds_append n f [] ys h = inr h
adds_append n f (x ∷ xs) ys h = ⊎_elim (λ e. inl (inl e)) (λ k. ⊎_elim (λ a. inl (inr a)) (λ b. inr b)
    (adds_append n f xs ys k)) h

pub adds_behind : (n : ℕ) (f : Field) (xs ys : List Add) → Adds n f ys → Adds n f (xs ++ ys)
adds_behind n f [] ys h = h
adds_behind n f (x ∷ xs) ys h = inr (adds_behind n f xs ys h)

-- after an exchange, a word that gets nothing is as before
pub applied_else_word : (past : List Event) (p : Planned) (slot version : ℕ) (c : Cells) (n : ℕ) (f : Field)
    → (Adds n f p.adds → ⊥)
    → (IsSome p.fresh → n ≢ slot) → applied (exchange_of past p slot version) c n f ≡ c n f
applied_else_word past p slot version c n f out other =
    words_else slot p.adds (with_fresh (fresh_at slot version p.fresh) c) n f out ∙ fresh_other p.fresh slot version c
    n f other
