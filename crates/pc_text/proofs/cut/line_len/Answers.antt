-- The first line feed, where there is one.
use Rattle.std.proofs.Common.{◌≡◌, ℕ, ◌≤◌, List, length, Option, Some, None, sym, ◌∙◌, arith}
use Rattle.std.specs.Prelude.{◌==◌, unwrap_or}
use Rattle.std.specs.List.{position_or_len}
use Rattle.std.proofs.lemmas.Bool.{false_from_ne_true}
use Rattle.std.proofs.lemmas.List.Sums.{position_or_len_is}
use Rattle.memchr.specs.Find.{IsFirstByte, is_byte}
use Rattle.pc_text.proofs.cut.line_len.Goals as goal

place : (bytes : List ℕ) (found : Option ℕ) → IsFirstByte (is_byte 10) bytes found
    → position_or_len (λ byte. byte == 10) bytes ≡ unwrap_or found (length bytes)
place bytes None nowhere = position_or_len_is (λ byte. byte == 10) bytes (length bytes) 0 (omega arith)
    (λ k below. false_from_ne_true _ (nowhere k (omega arith) below)) (λ below. absurd (omega arith))
place bytes (Some k) found = position_or_len_is (λ byte. byte == 10) bytes k 0 (omega (arith, found.0.high))
    (λ j below. false_from_ne_true _ (found.0.before j (omega arith) below)) (λ _. found.1)

within : (bytes : List ℕ) (found : Option ℕ) → IsFirstByte (is_byte 10) bytes found
    → unwrap_or found (length bytes) ≤ length bytes
within bytes None nowhere = omega arith
within bytes (Some k) found = omega (arith, found.0.high)

pub returns : goal.returns
returns c = record {
  place = c.unwrap_or.ensures ∙ sym (place c.args.bytes.now c.memchr.result c.memchr.ensures);
  within = rw c.unwrap_or.ensures (within c.args.bytes.now c.memchr.result c.memchr.ensures);
}
