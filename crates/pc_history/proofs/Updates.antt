-- What a function is after it was changed at one place.
use Rattle.std.proofs.Common.{◌≡◌, ◌≢◌, ℕ, ◌==◌, ◌⊎◌, inl, inr, ⊎_elim, if◌then◌else◌, sym, ap, ◌∙◌, subst}
use Rattle.std.proofs.lemmas.Bool.{cases_eq, eq-eqb, ne_eqb, cond-true, cond-false}
use Rattle.pc_model.specs.declared.cell.Field.{Field}
use Rattle.pc_model.specs.Cells.{field_number}
use Rattle.pc_model.proofs.Writes.{same_field}
use Rattle.pc_history.specs.Updates.{updated, word_updated}

module _ {A : Type 0} (h : ℕ → A) (n : ℕ) (v : A) where
  pub updated_here : (m : ℕ) → m ≡ n → updated h n v m ≡ v
  updated_here m e = cond-true (m == n) v (h m) (eq-eqb m n e)

  pub updated_other : (m : ℕ) → m ≢ n → updated h n v m ≡ h m
  updated_other m ne = cond-false (m == n) v (h m) (ne_eqb m n ne)

  -- it holds of what the changed function has, if it does of the new value, and elsewhere of the old one
  pub on_updated : (P : A → Type 0) (m : ℕ) → (m ≡ n → P v) → (m ≢ n → P (h m)) → P (updated h n v m)
  on_updated P m here other = ⊎_elim
      (λ e. subst P (sym (updated_here m e)) (here e))
      (λ ne. subst P (sym (updated_other m ne)) (other ne))
      (cases_eq m n)

  -- and the other way round
  pub from_updated : (P : A → Type 0) (m : ℕ) → P (updated h n v m) → ((m ≡ n) × P v) ⊎ ((m ≢ n) × P (h m))
  from_updated P m holds = ⊎_elim
      (λ e. inl (e, subst P (updated_here m e) holds))
      (λ ne. inr (ne, subst P (updated_other m ne) holds))
      (cases_eq m n)

module _ {A : Type 0} (h : ℕ → Field → A) (n : ℕ) (f : Field) (v : A) where
  pub word_updated_here : (m : ℕ) (g : Field) → m ≡ n → g ≡ f → word_updated h n f v m g ≡ v
  word_updated_here m g node field =
      cond-true (field_number g == field_number f) (if m == n then v else h m g) (h m g)
      (eq-eqb (field_number g) (field_number f) (ap field_number field)) ∙ cond-true (m == n) v (h m g)
      (eq-eqb m n node)

  pub word_updated_other : (m : ℕ) (g : Field) → (m ≡ n → g ≢ f) → word_updated h n f v m g ≡ h m g
  word_updated_other m g other = ⊎_elim
      (λ number.
      cond-true (field_number g == field_number f) (if m == n then v else h m g) (h m g)
      (eq-eqb (field_number g) (field_number f) number) ∙ cond-false (m == n) v (h m g)
      (ne_eqb m n (λ node. other node (same_field g f number))))
      (λ number. cond-false (field_number g == field_number f) (if m == n then v else h m g) (h m g)
      (ne_eqb (field_number g) (field_number f) number))
      (cases_eq (field_number g) (field_number f))

  same_word_or_not : (m : ℕ) (g : Field) → ((m ≡ n) × (g ≡ f)) ⊎ (m ≡ n → g ≢ f)
  same_word_or_not m g = ⊎_elim
      (λ node. ⊎_elim
      (λ number. inl (node, same_field g f number))
      (λ number. inr (λ _ field. number (ap field_number field)))
      (cases_eq (field_number g) (field_number f)))
      (λ node. inr (λ e _. node e))
      (cases_eq m n)

  pub on_word_updated : (P : A → Type 0) (m : ℕ) (g : Field) → (m ≡ n → g ≡ f → P v)
      → ((m ≡ n → g ≢ f) → P (h m g))
      → P (word_updated h n f v m g)
  on_word_updated P m g here other = ⊎_elim
      (λ e. subst P (sym (word_updated_here m g e.0 e.1)) (here e.0 e.1))
      (λ ne. subst P (sym (word_updated_other m g ne)) (other ne))
      (same_word_or_not m g)

  pub from_word_updated : (P : A → Type 0) (m : ℕ) (g : Field) → P (word_updated h n f v m g)
      → ((m ≡ n) × (g ≡ f) × P v) ⊎ ((m ≡ n → g ≢ f) × P (h m g))
  from_word_updated P m g holds = ⊎_elim
      (λ e. inl (e.0, e.1, subst P (word_updated_here m g e.0 e.1) holds))
      (λ ne. inr (ne, subst P (word_updated_other m g ne) holds))
      (same_word_or_not m g)
