-- Words of two kinds, or of two references, are two words.
use Rattle.std.proofs.Common.{◌≡◌, ℕ, zero, ap, subst}
use Rattle.pc_words.specs.declared.word.WordKind.{WordKind}
use Rattle.pc_words.specs.declared.word.WordKind.TheVariants.{Plain, Install, Exchange}

IsPlain : WordKind → Type 0
IsPlain (Plain x) = Unit {0}
IsPlain (Install q k) = ⊥
IsPlain (Exchange p a) = ⊥

IsInstall : WordKind → Type 0
IsInstall (Plain x) = ⊥
IsInstall (Install q k) = Unit {0}
IsInstall (Exchange p a) = ⊥

pub plain_not_exchange : (x p a : ℕ) → Plain x ≡ Exchange p a → ⊥
unfolding IsPlain
plain_not_exchange x p a e = subst IsPlain e tt

pub plain_not_install : (x q k : ℕ) → Plain x ≡ Install q k → ⊥
unfolding IsPlain
plain_not_install x q k e = subst IsPlain e tt

pub install_not_exchange : (q k p a : ℕ) → Install q k ≡ Exchange p a → ⊥
unfolding IsInstall
install_not_exchange q k p a e = subst IsInstall e tt

seat_in : WordKind → ℕ
seat_in (Plain x) = zero
seat_in (Install q k) = q
seat_in (Exchange p a) = p

number_in : WordKind → ℕ
number_in (Plain x) = x
number_in (Install q k) = k
number_in (Exchange p a) = a

-- a word is one word: its parts are determined
pub seat_of : (p a q c : ℕ) → Exchange p a ≡ Exchange q c → p ≡ q
unfolding seat_in
seat_of p a q c e = ap seat_in e

pub number_of : (p a q c : ℕ) → Exchange p a ≡ Exchange q c → a ≡ c
unfolding number_in
number_of p a q c e = ap number_in e

pub install_seat : (p a q c : ℕ) → Install p a ≡ Install q c → p ≡ q
unfolding seat_in
install_seat p a q c e = ap seat_in e

pub install_number : (p a q c : ℕ) → Install p a ≡ Install q c → a ≡ c
unfolding number_in
install_number p a q c e = ap number_in e

pub plain_value : (x y : ℕ) → Plain x ≡ Plain y → x ≡ y
unfolding number_in
plain_value x y e = ap number_in e
