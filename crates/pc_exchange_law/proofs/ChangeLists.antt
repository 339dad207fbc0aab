-- Elements of lists, by index and by recursion; and changes that have each word once.
use Rattle.std.proofs.Common.{◌≡◌, ℕ, zero, suc, inl, inr, ⊎_elim, List, [], ◌∷◌, refl, sym, subst, arith}
use mathlib.Core.Option.{some, some-injective, some-ne-none}
use lib.ListN.{get_elem?}
use Rattle.pc_model.specs.Exchanges.{Changed}
use Rattle.pc_history.specs.Footprints.{IsAmong, AreOnce}
use Rattle.pc_rule_law.specs.Past.{Has}

module _ {X : Type 0} where
  pub among_has : (xs : List X) (x : X) → IsAmong x xs → Has xs x
  among_has [] x among = absurd among
  among_has (y ∷ ys) x among = ⊎_elim
      (λ e. (zero, subst (λ (u : X). some u ≡ some x) e refl))
      (λ later. let r = among_has ys x later in (suc r.0, r.1))
      among

  pub has_among : (xs : List X) (x : X) → Has xs x → IsAmong x xs
  has_among [] x h = absurd (some-ne-none x (sym h.1))
  has_among (y ∷ ys) x (zero, at) = inl (sym (some-injective y x at))
  has_among (y ∷ ys) x (suc k, at) = inr (has_among ys x (k, at))

-- each word at one index
abbrev pub AreApart : List Changed → Type 0
AreApart xs = (i j : ℕ) (x y : Changed) → get_elem? xs i ≡ some x → get_elem? xs j ≡ some y → x.node ≡ y.node
    → x.field ≡ y.field
    → i ≡ j

pub apart_is_once : (xs : List Changed) → AreApart xs → AreOnce xs
apart_is_once [] apart = tt
apart_is_once (x ∷ xs) apart = (
  (λ y among same. let has = among_has xs y among in
      zero_not_later has.0 (apart 0 (suc has.0) x y refl has.1 (sym same.0) (sym same.1))),
  apart_is_once xs (λ i j y w at_i at_j node field. later (apart (suc i) (suc j) y w at_i at_j node field)),
)
  where
    zero_not_later : (k : ℕ) → 0 ≡ suc k → ⊥
    zero_not_later k e = absurd (omega arith)

    later : {i j : ℕ} → suc i ≡ suc j → i ≡ j
    later e = omega arith
