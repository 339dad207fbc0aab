-- The clock never wraps.
use Rattle.std.proofs.Common.{◌≡◌, ℕ, zero, suc, ◌+◌, ◌<◌, ◌≤◌, ⊎_elim, Bool, true, false, refl, ap, ap₂, ◌∙◌, arith}
use Rattle.std.proofs.lemmas.Bool.{cases_eq}
use Rattle.pc_rule_law.specs.Board.{put}
use Rattle.pc_rule_law.proofs.Updates.{put-here, put-else}
use Rattle.pc_exchange_law.specs.ClockEnds.{one_if, count_late, ClockEnds}

one_at_most : (c : Bool) → one_if c ≤ 1
one_at_most true = omega arith
one_at_most false = omega arith

count_at_most : (n : ℕ) (late : ℕ → Bool) → count_late n late ≤ n
count_at_most zero late = omega arith
count_at_most (suc n) late = let one = one_at_most (late n) in let rest = count_at_most n late in omega arith

-- a seat from the first ones on doesn't count among these
count_above : (n j : ℕ) (late : ℕ → Bool) → n ≤ j → count_late n (put late j true) ≡ count_late n late
count_above zero j late le = refl
count_above (suc n) j late le = ap₂ (λ (x y : ℕ). x + y) (ap one_if (put-else late j n true (λ e. absurd (omega arith))))
    (count_above n j late (omega arith))

count_one_more : (n j : ℕ) (late : ℕ → Bool) → j < n → late j ≡ false
    → count_late n (put late j true) ≡ suc (count_late n late)
count_one_more zero j late lt not_late = absurd (omega arith)
count_one_more (suc n) j late lt not_late = ⊎_elim
    (λ e. let here : one_if (put late j true n) ≡ 1 = ap one_if (ap (put late j true) e ∙ put-here late j true) in
    let was : one_if (late n) ≡ 0 = ap one_if (ap late e ∙ not_late) in
    let rest : count_late n (put late j true) ≡ count_late n late = count_above n j late (omega arith) in omega arith)
    (λ ne. let here : one_if (put late j true n) ≡ one_if (late n) = ap one_if (put-else late j n true ne) in
    let rest : count_late n (put late j true) ≡ suc (count_late n late) = count_one_more n j late (omega arith) not_late in
    omega arith)
    (cases_eq n j)

is_false : (c : Bool) → (c ≡ true → ⊥) → c ≡ false
is_false true never = absurd (never refl)
is_false false never = refl

pub clock_ends : ClockEnds
clock_ends = record {
  opening = λ seats start le. record { bounded = omega arith; overdue = λ j no. absurd (let clash : false ≡ true = no in cc) };
  ready = λ seats clock late bound lt j. is_false (late j) (λ is. let le = bound.overdue j is in absurd (omega arith));
  early = λ seats clock late bound lt. record {
    bounded = omega arith;
    overdue = λ j is. let le = bound.overdue j is in omega arith;
  };
  last = λ seats clock late j bound le small not_late. record {
    bounded = let more = count_one_more seats j late small not_late in let was = bound.bounded in omega arith;
    overdue = λ i is. omega arith;
  };
  fits = λ seats clock late few bound. let most = count_at_most seats late in let was = bound.bounded in omega arith;
}
