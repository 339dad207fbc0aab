-- The words of a pass at the opening, by their places; and what stands at an index.
use Rattle.std.proofs.Common.{◌≡◌, ℕ, zero, suc, ◌≤◌, ◌<◌, List, [], ◌∷◌, length, get_or, refl, arith}
use mathlib.Core.Option.{some}
use lib.ListN.{get_elem?}
use Rattle.pc_rule_law.specs.Openings.{descriptor_word}
use Rattle.pc_rule.specs.Starting.{own_number}

pub nothing_described : (place : ℕ) → descriptor_word [] place ≡ 0
nothing_described zero = refl
nothing_described (suc zero) = refl
nothing_described (suc (suc zero)) = refl
nothing_described (suc (suc (suc place))) = refl

pub own_more : (attempt install offset : ℕ) → 3 ≤ offset → own_number attempt install offset ≡ 0
own_more attempt install zero le = absurd (omega arith)
own_more attempt install (suc zero) le = absurd (omega arith)
own_more attempt install (suc (suc zero)) le = absurd (omega arith)
own_more attempt install (suc (suc (suc place))) le = refl

-- what stands at an index
pub element : {X : Type 0} (l : List X) (i : ℕ) (d : X) → i < length l → get_elem? l i ≡ some (get_or l i d)
element [] i d lt = absurd (omega arith)
element (x ∷ xs) zero d lt = refl
element (x ∷ xs) (suc i) d lt = element xs i d (omega arith)
