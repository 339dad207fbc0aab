-- Packing and unpacking the words of nodes.
use Rattle.std.proofs.Common.{◌≡◌, ℕ, ◌^◌, ◌<◌, sym, ap, ◌∙◌, arith}
use Rattle.std.proofs.lemmas.Bool.Decides.{nat_tests}
use Rattle.pc_words.specs.declared.word.WordKind.{WordKind}
use Rattle.pc_words.specs.declared.word.WordKind.TheVariants.{Plain, Install, Exchange}
use Rattle.pc_words.specs.Words.{raw, kind, IsWord, InRange}

-- a word in range is told again from its number
pub kind_raw : (w : WordKind) → InRange w → kind (raw w) ≡ w
kind_raw (Plain x) small = grind (arith, nat_tests)
kind_raw (Install s k) small = grind (arith, nat_tests)
kind_raw (Exchange s k) small = grind (arith, nat_tests)

pub raw_is_word : (w : WordKind) → InRange w → IsWord (raw w)
raw_is_word (Plain x) small = (λ e. absurd (omega arith), λ e. absurd (omega arith))
raw_is_word (Install s k) small = (λ e. absurd (omega arith), λ e. absurd (omega arith))
raw_is_word (Exchange s k) small = (λ e. absurd (omega arith), λ e. let a = small.0 in let b = small.1 in omega arith)

pub raw_fits : (w : WordKind) → InRange w → raw w < 2 ^ 64
raw_fits (Plain x) small = omega arith
raw_fits (Install s k) small = let a = small.0 in let b = small.1 in omega arith
raw_fits (Exchange s k) small = let a = small.0 in let b = small.1 in omega arith

-- two words in range with one number are one word
pub raw_injective : (v w : WordKind) → InRange v → InRange w → raw v ≡ raw w → v ≡ w
raw_injective v w a b e = sym (kind_raw v a) ∙ (ap kind e ∙ kind_raw w b)

-- a stored word is the number of what it is told to be
pub raw_kind : (r : ℕ) → IsWord r → raw (kind r) ≡ r
raw_kind r is = let n = is.0 in let z = is.1 in grind (arith, nat_tests)

pub kind_in_range : (r : ℕ) → r < 2 ^ 64 → IsWord r → InRange (kind r)
kind_in_range r small is = let n = is.0 in let z = is.1 in grind (arith, nat_tests)
