-- What a plan has learned after one thing more, and how its law whatever it is told is proved: a fact
-- about its state, its ask and what it learned that each step keeps holds along every trace.
use Rattle.std.proofs.Common.{◌≡◌, ◌≢◌, ℕ, ◌==◌, ⊎_elim, inl, inr, if◌then◌else◌, List, [], ◌∷◌, Option, Some, None}
use Rattle.std.proofs.Common.{refl, sym, ap, ◌∙◌, subst}
use Rattle.std.specs.Prelude.{IsSome, is_some}
use Rattle.std.proofs.lemmas.Bool.{cases_Bool, eq-eqb, eqb-true, ne_eqb, cond-true, cond-false}
use Rattle.pc_model.specs.declared.cell.Field.{Field}
use Rattle.pc_model.specs.Cells.{field_number}
use Rattle.pc_model.proofs.Writes.{same_field}
use Rattle.pc_plan.specs.declared.plan.Ask.{Ask}
use Rattle.pc_plan.specs.declared.plan.Told.{Told}
use Rattle.pc_plan.specs.Traces.{Event, visited, found, learned, after, learned_along, version_seen, number_seen}
use Rattle.pc_model.specs.declared.cell.Side.{Side}
use Rattle.pc_model.specs.declared.cell.Side.TheVariants.{Left, Right}
use Rattle.pc_model.specs.Sides.{link_of}
use Rattle.pc_plan.specs.Lawful.{IsWord, AreWords, IsLink, WasToldOf}

-- what each step keeps holds at the end of each trace
module _ {P : Type 0} (moves : P → Told → P × Ask) (Keeps : List Event → P × Ask → Type 0)
    (step : (past : List Event) (s : P × Ask) (t : Told) → IsWord t → Keeps past s → Keeps (learned s.1 t past)
    (moves s.0 t)) where
  pub kept_along : (ts : List Told) (past : List Event) (s : P × Ask) → AreWords ts → Keeps past s
      → Keeps (learned_along moves past s ts) (after moves s ts)
  kept_along [] past s words k = k
  kept_along (t ∷ ts) past s words k = kept_along ts (learned s.1 t past) (moves s.0 t) words.1
      (step past s t words.0 k)

pub version_seen-here : (n v : ℕ) (past : List Event) → version_seen n (visited n v ∷ past) ≡ Some v
version_seen-here n v past = cond-true (n == n) (Some v) (version_seen n past) (eq-eqb n n refl)

pub version_seen-else : (n m v : ℕ) (past : List Event) → m ≢ n → version_seen n (visited m v ∷ past) ≡ version_seen n
    past
version_seen-else n m v past ne = cond-false (m == n) (Some v) (version_seen n past) (ne_eqb m n ne)

pub number_seen-here : (n : ℕ) (f : Field) (x : ℕ) (past : List Event) → number_seen n f (found n f x ∷ past) ≡ Some x
number_seen-here n f x past = cond-true (n == n) (if field_number f == field_number f then Some x else number_seen n f
    past) (number_seen n f past) (eq-eqb n n refl)
    ∙ cond-true (field_number f == field_number f) (Some x) (number_seen n f past) (eq-eqb (field_number f)
    (field_number f) refl)

pub number_seen-visit : (n : ℕ) (f : Field) (m v : ℕ) (past : List Event) → m ≢ n
    → number_seen n f (visited m v ∷ past) ≡ number_seen n f past
number_seen-visit n f m v past ne = cond-false (m == n) None (number_seen n f past) (ne_eqb m n ne)

pub number_seen-else : (n : ℕ) (f : Field) (m : ℕ) (g : Field) (x : ℕ) (past : List Event) → m ≢ n
    → number_seen n f (found m g x ∷ past) ≡ number_seen n f past
number_seen-else n f m g x past ne = cond-false (m == n) (if field_number g == field_number f then Some x else
    number_seen n f past) (number_seen n f past) (ne_eqb m n ne)

pub number_seen-other : (n : ℕ) (f g : Field) (x : ℕ) (past : List Event) → field_number g ≢ field_number f
    → number_seen n f (found n g x ∷ past) ≡ number_seen n f past
number_seen-other n f g x past ne = cond-true (n == n) (if field_number g == field_number f then Some x else
    number_seen n f past) (number_seen n f past) (eq-eqb n n refl)
    ∙ cond-false (field_number g == field_number f) (Some x) (number_seen n f past) (ne_eqb (field_number g)
    (field_number f) ne)

pub is_some-seen : (n v : ℕ) (past : List Event) → version_seen n past ≡ Some v → IsSome (version_seen n past)
is_some-seen n v past e = ap is_some e

-- a link to the left or to the right is a link
pub side_is_link : (s : Side) → IsLink (link_of s)
side_is_link Left = inl refl
side_is_link Right = inr (inl refl)

-- a node that a link was found to name was told of
pub was_told-seen : (n : ℕ) (f : Field) (x : ℕ) (past : List Event) → IsLink f → number_seen n f past ≡ Some x
    → WasToldOf x past
was_told-seen n f x [] link e = absurd (cc)
was_told-seen n f x (visited m v ∷ past) link e = ⊎_elim
    (λ same. let none : number_seen n f (visited m v ∷ past) ≡ None = cond-true (m == n) None (number_seen n f past)
    same in absurd (cc))
    (λ other. was_told-seen n f x past link (sym (cond-false (m == n) None (number_seen n f past) other) ∙ e))
    (cases_Bool (m == n))
was_told-seen n f x (found m g y ∷ past) link e =
    let here : Option ℕ = if field_number g == field_number f then Some y else number_seen n f past in
    let earlier : Option ℕ = number_seen n f past in
    ⊎_elim
    (λ same. let at_node : number_seen n f (found m g y ∷ past) ≡ (if field_number g == field_number f then Some y else
    earlier) = cond-true (m == n) (if field_number g == field_number f then Some y else earlier) earlier same in
    ⊎_elim
    (λ field. let is : Some y ≡ Some x = sym (cond-true (field_number g == field_number f) (Some y) earlier field)
    ∙ sym at_node ∙ e in
    let same_number : y ≡ x = cc in
    inl (subst IsLink (sym (same_field g f (eqb-true (field_number g) (field_number f) field))) link, same_number))
    (λ other. inr (was_told-seen n f x past link (sym (cond-false (field_number g == field_number f) (Some y) earlier
    other) ∙ sym at_node ∙ e)))
    (cases_Bool (field_number g == field_number f)))
    (λ other. inr (was_told-seen n f x past link (sym (cond-false (m == n) (if field_number g == field_number f then
    Some y else earlier) earlier other) ∙ e)))
    (cases_Bool (m == n))
