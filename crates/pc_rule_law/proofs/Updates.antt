-- Functions that are changed at one place: what they are there, what they are elsewhere, and what holds at every
-- place.
use Rattle.std.proofs.Common.{◌≡◌, ◌≢◌, ℕ, sym, ap, subst, arith}
use mathlib.Core.Logic.{dite}
use Rattle.std.proofs.lemmas.Bool.Decides.{nat_tests}
use native.Mathlib.Decide.{ℕ_discrete}
use Rattle.pc_model.specs.declared.cell.Field.{Field}
use Rattle.pc_model.specs.Cells.{field_number}
use Rattle.pc_model.proofs.Writes.{same_field}
use Rattle.pc_rule_law.specs.Board.{put, put2, put_cell}

module _ {X : Type 0} where
  pub put-here : (f : ℕ → X) (i : ℕ) (x : X) → put f i x i ≡ x
  put-here f i x = grind (arith, nat_tests)

  pub put-else : (f : ℕ → X) (i j : ℕ) (x : X) → j ≢ i → put f i x j ≡ f j
  put-else f i j x n = grind (arith, nat_tests)

  pub put2-here : (f : ℕ → ℕ → X) (i k : ℕ) (x : X) → put2 f i k x i k ≡ x
  put2-here f i k x = grind (arith, nat_tests)

  pub put2-else : (f : ℕ → ℕ → X) (i k j l : ℕ) (x : X) → (j ≡ i → l ≢ k) → put2 f i k x j l ≡ f j l
  put2-else f i k j l x n = grind (arith, nat_tests)

  pub put_cell-here : (c : ℕ → Field → X) (n : ℕ) (f : Field) (x : X) → put_cell c n f x n f ≡ x
  put_cell-here c n f x = grind (arith, nat_tests)

  numbers_else : (c : ℕ → Field → X) (n : ℕ) (f : Field) (m : ℕ) (g : Field) (x : X)
      → (m ≡ n → field_number g ≢ field_number f) → put_cell c n f x m g ≡ c m g
  numbers_else c n f m g x ne = grind (arith, nat_tests)

  pub put_cell-else : (c : ℕ → Field → X) (n : ℕ) (f : Field) (m : ℕ) (g : Field) (x : X) → (m ≡ n → g ≢ f)
      → put_cell c n f x m g ≡ c m g
  put_cell-else c n f m g x ne = numbers_else c n f m g x (λ d e. ne d (same_field g f e))

  -- what holds of the new value at the place, and of the old ones elsewhere, holds of the changed function at any
  -- place
  pub at_put : (f : ℕ → X) (i : ℕ) (x : X) (P : ℕ → X → Type 0) (j : ℕ) → P i x → (j ≢ i → P j (f j))
      → P j (put f i x j)
  at_put f i x P j here there = dite (ℕ_discrete j i)
      (λ e. subst (λ (u : ℕ). P u (put f i x u)) (sym e) (subst (P i) (sym (put-here f i x)) here))
      (λ e. subst (P j) (sym (put-else f i j x e)) (there e))

  pub at_put2 : (f : ℕ → ℕ → X) (i k : ℕ) (x : X) (P : ℕ → ℕ → X → Type 0) (j l : ℕ) → P i k x
      → ((j ≡ i → l ≢ k) → P j l (f j l)) → P j l (put2 f i k x j l)
  at_put2 f i k x P j l here there = dite (ℕ_discrete j i)
      (λ e. dite (ℕ_discrete l k) (λ d. subst (λ (u : ℕ). P u l (put2 f i k x u l)) (sym e)
      (subst (λ (u : ℕ). P i u (put2 f i k x i u)) (sym d) (subst (P i k) (sym (put2-here f i k x)) here)))
      (λ d. subst (P j l) (sym (put2-else f i k j l x (λ _ q. d q))) (there (λ _ q. d q))))
      (λ e. subst (P j l) (sym (put2-else f i k j l x (λ q _. e q))) (there (λ q _. e q)))

  pub at_put_cell : (c : ℕ → Field → X) (n : ℕ) (f : Field) (x : X) (P : ℕ → Field → X → Type 0) (m : ℕ) (g : Field)
      → P n f x → ((m ≡ n → g ≢ f) → P m g (c m g)) → P m g (put_cell c n f x m g)
  at_put_cell c n f x P m g here there = dite (ℕ_discrete m n)
      (λ e. dite (ℕ_discrete (field_number g) (field_number f))
      (λ d. let s : g ≡ f = same_field g f d in subst (λ (u : ℕ). P u g (put_cell c n f x u g)) (sym e)
      (subst (λ (u : Field). P n u (put_cell c n f x n u)) (sym s)
      (subst (P n f) (sym (put_cell-here c n f x)) here)))
      (λ d. let ne = λ (_ : m ≡ n) (q : g ≡ f). d (ap field_number q) in subst (P m g)
      (sym (put_cell-else c n f m g x ne)) (there ne)))
      (λ e. let ne = λ (q : m ≡ n) (_ : g ≡ f). e q in subst (P m g) (sym (put_cell-else c n f m g x ne)) (there ne))
