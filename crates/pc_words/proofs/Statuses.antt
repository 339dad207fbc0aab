-- Packing and unpacking statuses.
use Rattle.std.proofs.Common.{◌≡◌, ℕ, ◌^◌, ◌<◌, sym, ap, ◌∙◌, subst, arith}
use Rattle.std.proofs.lemmas.Bool.Decides.{nat_tests}
use Rattle.pc_words.specs.declared.status.Stage.{Stage}
use Rattle.pc_words.specs.declared.status.Stage.TheVariants.{Idle, Undecided, Succeeded, Withdrawn, Changed, Locked}
use Rattle.pc_words.specs.declared.status.Status.{Status}
use Rattle.pc_words.specs.Statuses.{packed, unpacked, StageInRange, StatusInRange, IsStatus}

abbrev of_stage : ℕ → Stage → Status
of_stage k s = record { number = k; stage = s }

told_again : (k : ℕ) (s : Stage) → k < 2 ^ 28 → StageInRange s → unpacked (packed (of_stage k s)) ≡ of_stage k s
told_again k Idle small ok = grind (arith, nat_tests)
told_again k Undecided small ok = grind (arith, nat_tests)
told_again k (Succeeded t) small ok = grind (arith, nat_tests)
told_again k Withdrawn small ok = grind (arith, nat_tests)
told_again k (Changed n) small ok = grind (arith, nat_tests)
told_again k (Locked n s) small ok = grind (arith, nat_tests)

fits : (k : ℕ) (s : Stage) → k < 2 ^ 28 → StageInRange s → packed (of_stage k s) < 2 ^ 64
fits k Idle small ok = omega arith
fits k Undecided small ok = omega arith
fits k (Succeeded t) small ok = omega arith
fits k Withdrawn small ok = omega arith
fits k (Changed n) small ok = let a = ok.1 in omega arith
fits k (Locked n s) small ok = let a = ok.0 in let b = ok.1 in omega arith

-- a status in range is told again from its number
pub unpacked_packed : (s : Status) → StatusInRange s → unpacked (packed s) ≡ s
unpacked_packed s ok = told_again s.number s.stage ok.0 ok.1

pub packed_fits : (s : Status) → StatusInRange s → packed s < 2 ^ 64
packed_fits s ok = fits s.number s.stage ok.0 ok.1

-- two statuses in range with one number are one status
pub packed_injective : (s t : Status) → StatusInRange s → StatusInRange t → packed s ≡ packed t → s ≡ t
packed_injective s t a b e = sym (unpacked_packed s a) ∙ (ap unpacked e ∙ unpacked_packed t b)

pub packed_unpacked : (r : ℕ) → IsStatus r → packed (unpacked r) ≡ r
packed_unpacked r is = let back : unpacked r ≡ is.0 = ap unpacked (sym is.2) ∙ unpacked_packed is.0 is.1 in ap packed back ∙ is.2

pub unpacked_in_range : (r : ℕ) → IsStatus r → StatusInRange (unpacked r)
unpacked_in_range r is = let back : unpacked r ≡ is.0 = ap unpacked (sym is.2) ∙ unpacked_packed is.0 is.1 in subst StatusInRange (sym back) is.1
