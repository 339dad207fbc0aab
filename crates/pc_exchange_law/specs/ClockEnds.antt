-- The clock's end. A pass draws only where its last load of the clock was below the last stamp, and once for each such
-- load; so each seat draws once at most from the last stamp on, and the clock never wraps.
use Rattle.std.specs.Prelude.{◌≡◌, ℕ, zero, suc, ◌+◌, ◌<◌, ◌≤◌, ◌^◌, Bool, true, false}
use Rattle.pc_rule_law.specs.Board.{put}
use Rattle.pc_exchange_law.specs.Ties.{last_stamp}

abbrev pub one_if : Bool → ℕ
one_if true = 1
one_if false = 0

-- how many of the first seats drew from the last stamp on
abbrev pub count_late : ℕ → (ℕ → Bool) → ℕ
count_late zero late = 0
count_late (suc n) late = one_if (late n) + count_late n late

pub record ClockIsBounded (seats clock : ℕ) (late : ℕ → Bool) : Type 0 where
  pub bounded : clock ≤ last_stamp + count_late seats late
  pub overdue : (j : ℕ) → late j ≡ true → last_stamp ≤ clock

pub record ClockEnds : Type 0 where
  pub opening : (seats start : ℕ) → start ≤ last_stamp → ClockIsBounded seats start (λ j. false)
  -- a load that finds the clock below the last stamp shows that no seat is late
  pub ready : (seats clock : ℕ) (late : ℕ → Bool) → ClockIsBounded seats clock late → clock < last_stamp → (j : ℕ)
      → late j ≡ false
  -- a draw of a seat that isn't late; from the last stamp on it is late then
  pub early : (seats clock : ℕ) (late : ℕ → Bool) → ClockIsBounded seats clock late → clock < last_stamp
      → ClockIsBounded seats (suc clock) late
  pub last : (seats clock : ℕ) (late : ℕ → Bool) (j : ℕ) → ClockIsBounded seats clock late → last_stamp ≤ clock
      → j < seats → late j ≡ false
      → ClockIsBounded seats (suc clock) (put late j true)
  -- so the clock fits a word, and one more too
  pub fits : (seats clock : ℕ) (late : ℕ → Bool) → seats ≤ 32 → ClockIsBounded seats clock late → clock + 1 < 2 ^ 64
