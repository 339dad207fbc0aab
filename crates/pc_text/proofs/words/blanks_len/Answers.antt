use Rattle.std.proofs.Common.{arith, sym, ◌∙◌, length}
use Rattle.std.proofs.lemmas.List.Sums.{prefix_len_is}
use Rattle.pc_text.specs.ScriptWords.{is_blank}
use Rattle.pc_text.proofs.words.blanks_len.Goals as goal

pub returns-then-not-is_blank_byte-clause-place : goal.returns-then-not-is_blank_byte-clause-place
returns-then-not-is_blank_byte-clause-place c =
    sym (prefix_len_is is_blank c.args.bytes.now c.loop-i.i 0 (omega arith) c.loop-i.invariant
    (λ _. sym c.is_blank_byte.ensures ∙ c.if-not-is_blank_byte.true))

pub returns-clause-place : goal.returns-clause-place
returns-clause-place c =
    sym (prefix_len_is is_blank c.args.bytes.now (length c.args.bytes.now) 0 (omega arith)
    (λ k below. c.loop-i.invariant k (omega arith)) (λ below. absurd (omega arith)))
