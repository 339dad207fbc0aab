-- All but the last of a list, and the last.
use Rattle.std.proofs.Common.{◌≡◌, ℕ, List, [], ◌∷◌, ◌++◌, length, refl, sym, subst}
use mathlib.Core.Option.{some}
use lib.ListN.{get_elem?}
use Rattle.atomic_table.proofs.Lists.{at_longer, at_last}

module _ {V : Type 0} (old front : List V) (w : V) (P : ℕ → V → Type 0) (e : old ≡ front ++ w ∷ []) (all : (j : ℕ) (v : V) → get_elem? old j ≡ some v → P j v) where
  pub each_front : (j : ℕ) (v : V) → get_elem? front j ≡ some v → P j v
  each_front j v at = all j v (subst (λ (l : List V). get_elem? l j ≡ some v) (sym e) (at_longer front (w ∷ []) j v at))

  pub each_last : P (length front) w
  each_last = all (length front) w (subst (λ (l : List V). get_elem? l (length front) ≡ some w) (sym e) (at_last front w (length front) refl))
