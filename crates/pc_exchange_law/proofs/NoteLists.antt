-- Lists of notes that are made of other notes: of each note some.
use Rattle.std.proofs.Common.{◌≡◌, ℕ, zero, suc, Bool, true, false, ◌==◌, List, [], ◌∷◌, ◌++◌, refl, sym, subst, eqb-true, eq-eqb}
use mathlib.Core.Option.{some-injective}
use Rattle.pc_rule_law.specs.Past.{Has}
use Rattle.pc_rule_law.proofs.Lists.{has_left, has_right, has_first, all_both, all_none, all_one, none_has}

module _ {X Y : Type 0} where
  -- of each element what g says
  pub learnt : (X → List Y) → List X → List Y
  learnt g [] = []
  learnt g (x ∷ xs) = g x ++ learnt g xs

  pub has_learnt : (g : X → List Y) (xs : List X) (x : X) (y : Y) → Has xs x → Has (g x) y → Has (learnt g xs) y
  unfolding learnt
  has_learnt g [] x y h here = absurd (none_has x h)
  has_learnt g (w ∷ xs) x y (zero, at) here = has_left (g w) (learnt g xs) y
      (subst (λ (u : X). Has (g u) y) (sym (some-injective w x at)) here)
  has_learnt g (w ∷ xs) x y (suc k, at) here = has_right (g w) (learnt g xs) y (has_learnt g xs x y (k, at) here)

  pub all_learnt : (P : Y → Type 0) (g : X → List Y) (xs : List X)
      → ((x : X) → Has xs x → (y : Y) → Has (g x) y → P y) → (y : Y) → Has (learnt g xs) y → P y
  unfolding learnt
  all_learnt P g [] each = all_none P
  all_learnt P g (x ∷ xs) each = all_both P (g x) (learnt g xs) (each x (has_first x xs))
      (all_learnt P g xs (λ y h. each y (suc h.0, h.1)))

module _ {Y : Type 0} where
  -- one where a test says so
  pub only_if : Bool → Y → List Y
  only_if true x = x ∷ []
  only_if false x = []

  pub has_only_if : (c : Bool) (x : Y) → c ≡ true → Has (only_if c x) x
  unfolding only_if
  has_only_if true x e = has_first x []
  has_only_if false x e = absurd (cc)

  pub all_only_if : (P : Y → Type 0) (c : Bool) (x : Y) → (c ≡ true → P x) → (y : Y) → Has (only_if c x) y → P y
  unfolding only_if
  all_only_if P true x here = all_one P x (here refl)
  all_only_if P false x here = all_none P

  pub has_if_same : (a b : ℕ) (x : Y) → a ≡ b → Has (only_if (a == b) x) x
  has_if_same a b x e = has_only_if (a == b) x (eq-eqb a b e)

  pub all_if_same : (P : Y → Type 0) (a b : ℕ) (x : Y) → (a ≡ b → P x) → (y : Y) → Has (only_if (a == b) x) y → P y
  all_if_same P a b x here = all_only_if P (a == b) x (λ e. here (eqb-true a b e))

  -- one where two tests say so
  pub only_both : Bool → Bool → Y → List Y
  only_both true d x = only_if d x
  only_both false d x = []

  pub has_both_same : (a b c d : ℕ) (x : Y) → a ≡ b → c ≡ d → Has (only_both (a == b) (c == d) x) x
  unfolding only_both
  has_both_same a b c d x e f = within (a == b) (eq-eqb a b e)
    where
      within : (u : Bool) → u ≡ true → Has (only_both u (c == d) x) x
      within true is = has_if_same c d x f
      within false is = absurd (cc)

  pub all_both_same : (P : Y → Type 0) (a b c d : ℕ) (x : Y) → (a ≡ b → c ≡ d → P x) → (y : Y)
      → Has (only_both (a == b) (c == d) x) y
      → P y
  unfolding only_both
  all_both_same P a b c d x here = within (a == b) (λ is. eqb-true a b is)
    where
      within : (u : Bool) → (u ≡ true → a ≡ b) → (y : Y) → Has (only_both u (c == d) x) y → P y
      within true same = all_if_same P c d x (here (same refl))
      within false same = all_none P
