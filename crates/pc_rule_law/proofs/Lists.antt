-- What holds of each element of a list, and of each view after one was changed.
use Rattle.std.proofs.Common.{◌≡◌, ◌≢◌, ℕ, zero, suc, ◌<◌, List, [], ◌∷◌, ◌++◌, length, set, refl, sym, subst, ⊎_elim, arith}
use mathlib.Core.Option.{some, some-injective, some-ne-none}
use lib.ListN.{get_elem?}
use Rattle.atomic_table.proofs.Lists.{at_set, at_longer}
use Rattle.pc_rule_law.specs.Past.{Has}
use Rattle.pc_rule_law.specs.Rule.{Each}

module _ {V : Type 0} where
  -- the changed view has Q, and the others go from P to Q
  pub each_moved : (views : List V) (id : ℕ) (w : V) (P Q : ℕ → V → Type 0) → Each views P → Q id w
      → ((j : ℕ) (v : V) → j ≢ id → get_elem? views j ≡ some v → P j v → Q j v) → Each (set views id w) Q
  each_moved views id w P Q all here there j v at = ⊎_elim
      (λ t. subst (λ (k : ℕ). Q k v) (sym t.0) (subst (Q id) t.1 here))
      (λ t. there j v t.0 t.1 (all j v t.1)) (at_set views id j w v at)

  pub below_length : (l : List V) (i : ℕ) (a : V) → get_elem? l i ≡ some a → i < length l
  below_length [] i a e = absurd (some-ne-none a (sym e))
  below_length (x ∷ xs) zero a e = omega arith
  below_length (x ∷ xs) (suc i) a e = let r = below_length xs i a e in omega arith

  pub each_one : (v : V) (P : ℕ → V → Type 0) → P 0 v → Each (v ∷ []) P
  each_one v P here zero u at = subst (P 0) (some-injective v u at) here
  each_one v P here (suc j) u at = absurd (some-ne-none u (sym at))

  pub each_snoc : (views : List V) (w : V) (P : ℕ → V → Type 0) → Each views P → P (length views) w
      → Each (views ++ w ∷ []) P
  each_snoc [] w P all here zero v at = subst (P 0) (some-injective w v at) here
  each_snoc [] w P all here (suc j) v at = absurd (some-ne-none v (sym at))
  each_snoc (x ∷ xs) w P all here zero v at = all zero v at
  each_snoc (x ∷ xs) w P all here (suc j) v at = each_snoc xs w (λ i u. P (suc i) u)
      (λ i u t. all (suc i) u t) here j v at

module _ {X : Type 0} where
  pub none_has : (x : X) → Has [] x → ⊥
  none_has x h = some-ne-none x (sym h.1)

  pub has_first : (x : X) (xs : List X) → Has (x ∷ xs) x
  has_first x xs = (zero, refl)

  pub has_later : (y : X) (xs : List X) (x : X) → Has xs x → Has (y ∷ xs) x
  has_later y xs x h = (suc h.0, h.1)

  pub has_left : (xs ys : List X) (x : X) → Has xs x → Has (xs ++ ys) x
  has_left xs ys x h = (h.0, at_longer xs ys h.0 x h.1)

  pub has_right : (xs ys : List X) (x : X) → Has ys x → Has (xs ++ ys) x
  has_right [] ys x h = h
  has_right (z ∷ xs) ys x h = let r = has_right xs ys x h in (suc r.0, r.1)

  -- what holds of the elements of two lists holds of those of both put together
  pub all_both : (P : X → Type 0) (xs ys : List X) → ((x : X) → Has xs x → P x) → ((x : X) → Has ys x → P x)
      → (x : X) → Has (xs ++ ys) x → P x
  all_both P [] ys left right x h = right x h
  all_both P (z ∷ xs) ys left right x (zero, at) = left x (zero, at)
  all_both P (z ∷ xs) ys left right x (suc k, at) = all_both P xs ys (λ y g. left y (suc g.0, g.1)) right x (k, at)

  pub all_none : (P : X → Type 0) (x : X) → Has [] x → P x
  all_none P x h = absurd (none_has x h)

  -- what holds of the first element and of the others
  pub all_more : (P : X → Type 0) (y : X) (xs : List X) → P y → ((x : X) → Has xs x → P x) → (x : X)
      → Has (y ∷ xs) x → P x
  all_more P y xs here there x (zero, at) = subst P (some-injective y x at) here
  all_more P y xs here there x (suc k, at) = there x (k, at)

  pub all_one : (P : X → Type 0) (y : X) → P y → (x : X) → Has (y ∷ []) x → P x
  all_one P y here = all_more P y [] here (all_none P)

  pub element_at : (l : List X) (i : ℕ) → i < length l → (x : X) × (get_elem? l i ≡ some x)
  element_at [] i lt = absurd (omega arith)
  element_at (x ∷ xs) zero lt = (x, refl)
  element_at (x ∷ xs) (suc i) lt = element_at xs i (omega arith)
