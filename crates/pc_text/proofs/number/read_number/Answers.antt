use Rattle.std.proofs.Common.{arith, sym, ◌∙◌, ◌≡◌, ◌+◌, ◌<◌, true, get_or, length}
use Rattle.std.specs.Char.{is_ascii_digit}
use Rattle.pc_text.proofs.NumberLemmas.{digits_more, value_more, number_of-too_large}
use Rattle.pc_text.proofs.number.read_number.Goals as goal

pub loop-byte-preserved : goal.loop-byte-preserved
loop-byte-preserved c =
    let below : c.loop-byte.byte-index < length c.args.word.now = omega arith in
    let digit : is_ascii_digit (get_or c.args.word.now c.loop-byte.byte-index 0) ≡ true =
    sym c.is_ascii_digit.ensures.value ∙ c.if-not-is_ascii_digit.false in
    record {
      digits = digits_more c.args.word.now c.loop-byte.byte-index c.loop-byte.invariant.digits below digit;
      value = rw (← value_more c.args.word.now c.loop-byte.byte-index c.loop-byte.value below digit
          c.loop-byte.invariant.value) (omega arith);
      in_range = omega arith;
    }

pub returns-then-value-gt-GREATEST_NUMBER-clause-number : goal.returns-then-value-gt-GREATEST_NUMBER-clause-number
returns-then-value-gt-GREATEST_NUMBER-clause-number c =
    let below : c.loop-byte.byte-index < length c.args.word.now = omega arith in
    let digit : is_ascii_digit (get_or c.args.word.now c.loop-byte.byte-index 0) ≡ true =
    sym c.is_ascii_digit.ensures.value ∙ c.if-not-is_ascii_digit.false in
    sym (number_of-too_large c.args.word.now (c.loop-byte.byte-index + 1)
    (omega (
      arith,
      value_more c.args.word.now c.loop-byte.byte-index c.loop-byte.value below digit
          c.loop-byte.invariant.value,
    )))
