-- The definitions on worked values: each equation is computed.
use Rattle.std.proofs.Common.{◌≡◌, ℕ, refl}
use Rattle.pc_words.specs.declared.word.WordKind.TheVariants.{Plain, Install, Exchange}
use Rattle.pc_words.specs.declared.status.Stage.{Stage}
use Rattle.pc_words.specs.declared.status.Stage.TheVariants.{Idle, Undecided, Succeeded, Withdrawn, Changed, Locked}
use Rattle.pc_words.specs.declared.status.Status.{Status}
use Rattle.pc_words.specs.Words.{raw, kind}
use Rattle.pc_words.specs.Statuses.{packed, unpacked}

abbrev at : ℕ → Stage → Status
at number stage = record { number = number; stage = stage }

plain_value : raw (Plain 50) ≡ 200
plain_value = refl

sentinel_key : raw (Plain 4611686018427387903) ≡ 18446744073709551612
sentinel_key = refl

exchange_word : raw (Exchange 3 7) ≡ 7182
exchange_word = refl

install_word : raw (Install 1 5) ≡ 5125
install_word = refl

plain_is_told : kind 200 ≡ Plain 50
plain_is_told = refl

sentinel_is_told : kind 18446744073709551612 ≡ Plain 4611686018427387903
sentinel_is_told = refl

exchange_is_told : kind 7182 ≡ Exchange 3 7
exchange_is_told = refl

install_is_told : kind 5125 ≡ Install 1 5
install_is_told = refl

success : packed (at 7 (Succeeded 9)) ≡ 9663676446
success = refl

change : packed (at 1 (Changed 5)) ≡ 10737418247
change = refl

lock : packed (at 1 (Locked 5 2)) ≡ 281486787870727
lock = refl

success_is_told : unpacked 9663676446 ≡ at 7 (Succeeded 9)
success_is_told = refl

change_is_told : unpacked 10737418247 ≡ at 1 (Changed 5)
change_is_told = refl

lock_is_told : unpacked 281486787870727 ≡ at 1 (Locked 5 2)
lock_is_told = refl

-- with the field 0 the states are told apart by the low bits alone
idle_is_told : unpacked 28 ≡ at 7 Idle
idle_is_told = refl

undecided_is_told : unpacked 29 ≡ at 7 Undecided
undecided_is_told = refl

withdrawal_is_told : unpacked 31 ≡ at 7 Withdrawn
withdrawal_is_told = refl
