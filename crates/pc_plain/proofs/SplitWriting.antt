-- A number is written at its place in one of the two lists of words, and all other words stay.
use Rattle.std.proofs.Common.{◌≡◌, ℕ, zero, suc, ◌+◌, ◌*◌, ◌<◌, ◌≤◌, ◌==◌, ⊎_elim, if◌then◌else◌, Bool, true, false}
use Rattle.std.proofs.Common.{List, length, refl, sym, ap, ◌∙◌, arith}
use Rattle.std.specs.Prelude.{slice_index, slice_set}
use Rattle.std.proofs.lemmas.Bool.{cases_Bool, cases_eq, eq-eqb, cond-true}
use Rattle.std.proofs.lemmas.List.{get_or-set_other}
use Rattle.std.proofs.lemmas.Grind.{get_or-set_at}
use Rattle.pc_model.specs.declared.cell.Field.{Field}
use Rattle.pc_model.specs.declared.cell.Field.TheVariants.{Version, Key, Value, Left, Right, Parent, Height, Spare}
use Rattle.pc_model.specs.Cells.{Cells, field_number, written}
use Rattle.pc_model.proofs.Writes.{same_field, written-else}
use Rattle.pc_plain.specs.PlainCells.{SplitWords, is_near, place_of, cells_in}

-- the number of the field that has this place in the near list, or in the far one
abbrev number_at : Bool → ℕ → ℕ
number_at true zero = 0
number_at true (suc zero) = 1
number_at true (suc (suc zero)) = 3
number_at true (suc (suc (suc _))) = 4
number_at false zero = 2
number_at false (suc zero) = 5
number_at false (suc (suc zero)) = 6
number_at false (suc (suc (suc _))) = 7

number_at-field : (f : Field) → number_at (is_near f) (place_of f) ≡ field_number f
number_at-field Version = refl
number_at-field Key = refl
number_at-field Value = refl
number_at-field Left = refl
number_at-field Right = refl
number_at-field Parent = refl
number_at-field Height = refl
number_at-field Spare = refl

place_small : (f : Field) → place_of f < 4
place_small Version = omega arith
place_small Key = omega arith
place_small Value = omega arith
place_small Left = omega arith
place_small Right = omega arith
place_small Parent = omega arith
place_small Height = omega arith
place_small Spare = omega arith

-- fields with one place in one list are one field
same_place : (f g : Field) → is_near g ≡ is_near f → place_of g ≡ place_of f → g ≡ f
same_place f g near place = same_field g f
    (sym (number_at-field g) ∙ (λ i. number_at (near i) (place i)) ∙ number_at-field f)

-- the index of a word in its list
abbrev index : ℕ → Field → ℕ
index n f = 4 * n + place_of f

same_index : (n m : ℕ) (f g : Field) → index m g ≡ index n f → (m ≡ n) × (place_of g ≡ place_of f)
same_index n m f g e =
    let a : place_of f < 4 = place_small f in let b : place_of g < 4 = place_small g in (omega arith, omega arith)

written_there : (n : ℕ) (f : Field) (v : ℕ) (c : Cells) (m : ℕ) (g : Field) → m ≡ n → g ≡ f → v ≡ written n f v c m g
written_there n f v c m g node field =
    sym (cond-true (field_number g == field_number f) (if m == n then v else c m g) (c m g)
    (eq-eqb (field_number g) (field_number f) (ap field_number field))
    ∙ cond-true (m == n) v (c m g) (eq-eqb m n node))

-- a word of the list that is written, where the other words of that list are what the cells hold
in_list : (xs : List ℕ) (n : ℕ) (f : Field) (v : ℕ) (c : Cells) → 4 * n + 4 ≤ length xs → (m : ℕ) (g : Field)
    → is_near g ≡ is_near f → slice_index xs (index m g) ≡ c m g
    → slice_index (slice_set xs (index n f) v) (index m g) ≡ written n f v c m g
in_list xs n f v c reach m g near was = ⊎_elim
    (λ e. let same : (m ≡ n) × (place_of g ≡ place_of f) = same_index n m f g e in
    let small : place_of f < 4 = place_small f in
    get_or-set_at xs (index n f) (index m g) v 0 e (omega arith)
    ∙ written_there n f v c m g same.0 (same_place f g near same.1))
    (λ ne. get_or-set_other xs (index n f) (index m g) v 0 ne ∙ was
    ∙ sym (written-else n f v c m g (λ node field. ne (λ i. index (node i) (field i)))))
    (cases_eq (index m g) (index n f))

-- a word of the other list
not_in_list : (n : ℕ) (f : Field) (v : ℕ) (c : Cells) (m : ℕ) (g : Field) → (is_near g ≡ is_near f → ⊥)
    → c m g ≡ written n f v c m g
not_in_list n f v c m g other = sym (written-else n f v c m g (λ node field. other (ap is_near field)))

module _ (w : SplitWords) (n : ℕ) (f : Field) (v : ℕ) where
  abbrev near_list : SplitWords
  near_list = record { near = slice_set w.near (index n f) v; far = w.far }

  abbrev far_list : SplitWords
  far_list = record { near = w.near; far = slice_set w.far (index n f) v }

  near_at : is_near f ≡ true → 4 * n + 4 ≤ length w.near → (m : ℕ) (g : Field)
      → cells_in near_list m g ≡ written n f v (cells_in w) m g
  near_at near reach m g = ⊎_elim
      (λ e. ap (λ (b : Bool). slice_index (if b then near_list.near else w.far) (index m g)) e
      ∙ in_list w.near n f v (cells_in w) reach m g (e ∙ sym near)
      (sym (ap (λ (b : Bool). slice_index (if b then w.near else w.far) (index m g)) e)))
      (λ e. ap (λ (b : Bool). slice_index (if b then near_list.near else w.far) (index m g)) e
      ∙ sym (ap (λ (b : Bool). slice_index (if b then w.near else w.far) (index m g)) e)
      ∙ not_in_list n f v (cells_in w) m g (λ same. let q : false ≡ true = sym e ∙ same ∙ near in absurd (cc)))
      (cases_Bool (is_near g))

  far_at : is_near f ≡ false → 4 * n + 4 ≤ length w.far → (m : ℕ) (g : Field)
      → cells_in far_list m g ≡ written n f v (cells_in w) m g
  far_at far reach m g = ⊎_elim
      (λ e. ap (λ (b : Bool). slice_index (if b then w.near else far_list.far) (index m g)) e
      ∙ sym (ap (λ (b : Bool). slice_index (if b then w.near else w.far) (index m g)) e)
      ∙ not_in_list n f v (cells_in w) m g (λ same. let q : true ≡ false = sym e ∙ same ∙ far in absurd (cc)))
      (λ e. ap (λ (b : Bool). slice_index (if b then w.near else far_list.far) (index m g)) e
      ∙ in_list w.far n f v (cells_in w) reach m g (e ∙ sym far)
      (sym (ap (λ (b : Bool). slice_index (if b then w.near else w.far) (index m g)) e)))
      (cases_Bool (is_near g))

  pub near_written : is_near f ≡ true → 4 * n + 4 ≤ length w.near
      → cells_in near_list ≡ written n f v (cells_in w)
  near_written near reach = λ i m g. near_at near reach m g i

  pub far_written : is_near f ≡ false → 4 * n + 4 ≤ length w.far → cells_in far_list ≡ written n f v (cells_in w)
  far_written far reach = λ i m g. far_at far reach m g i
