-- The numbers from 1 to n are n, and the next number comes behind them.
use Rattle.std.proofs.Common.{◌≡◌, ℕ, zero, suc, refl, sym, subst, length, ◌+◌, ◌++◌, ◌∷◌, [], length-append, arith}
use Rattle.pc_pool.specs.Working.{up_to}

pub length_up_to : (n : ℕ) → length (up_to n) ≡ n
length_up_to zero = refl
length_up_to (suc n) = let shorter = length_up_to n in omega (arith, length-append (up_to n) (suc n ∷ []))

pub up_to_next : (n number : ℕ) → number ≡ length (up_to n) + 1 → up_to number ≡ up_to n ++ number ∷ []
up_to_next n number next = let long = length_up_to n in
    let is : number ≡ suc n = omega arith in
    subst (λ (k : ℕ). up_to k ≡ up_to n ++ k ∷ []) (sym is) refl
