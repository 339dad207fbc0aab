-- The numbers of attempts among the exchanges of the protocol.
use Rattle.std.proofs.Common.{◌≡◌, ℕ, ◌+◌, ◌*◌, ◌<◌, subst, arith}
use Rattle.pc_exchange_law.specs.Ties.{code, seat_in, number_in}
use Rattle.pc_exchange_law.specs.TieLaws.{CodesAreInverse}

-- one number is that of one attempt
pub same_seat : (p a q c : ℕ) → p < 64 → q < 64 → code p a ≡ code q c → p ≡ q
same_seat p a q c small_p small_q e = let is : 64 * a + p ≡ 64 * c + q = e in omega arith

pub same_number : (p a q c : ℕ) → p < 64 → q < 64 → code p a ≡ code q c → a ≡ c
same_number p a q c small_p small_q e = let is : 64 * a + p ≡ 64 * c + q = e in omega arith

pub of_code : (p a : ℕ) → p < 64 → seat_in (code p a) ≡ p
of_code p a small = omega arith

pub number_of_code : (p a : ℕ) → p < 64 → number_in (code p a) ≡ a
number_of_code p a small = omega arith

pub seat_is_small : (x : ℕ) → seat_in x < 64
seat_is_small x = omega arith

pub code_of : (x : ℕ) → code (seat_in x) (number_in x) ≡ x
code_of x = omega arith

pub codes_are_inverse : CodesAreInverse
codes_are_inverse = record {
  seat = of_code;
  number = number_of_code;
  back = λ x. (seat_is_small x, code_of x);
}

-- what holds of each attempt's number holds of every number
pub on_codes : (P : ℕ → Type 0) → ((p a : ℕ) → p < 64 → P (code p a)) → (x : ℕ) → P x
on_codes P each x = subst P (code_of x) (each (seat_in x) (number_in x) (seat_is_small x))
