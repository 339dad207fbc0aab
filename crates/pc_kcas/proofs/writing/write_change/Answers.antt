-- The three words of the change stand then.
use Rattle.std.proofs.Common.{ℕ, ◌+◌, ◌*◌, ap, ◌∙◌}
use Rattle.pc_rule_law.specs.Views.{word_in}
use Rattle.pc_rule.specs.Passes.{view}
use Rattle.pc_kcas.specs.Exchanges.{with_word}
use Rattle.pc_kcas.proofs.Words.{three_written}
use Rattle.pc_kcas.proofs.writing.write_change.Goals as goal

pub returns-clause-words : goal.returns-clause-words
returns-clause-words g c = let f = word_in (view c.args.pass.now).attempt.words in let i = c.args.i in let p = c.args.place in
    three_written f (word_in (view c.write_word.new.pass).attempt.words) (word_in (view c.write_word-2.new.pass).attempt.words)
    (word_in (view c.write_word-3.new.pass).attempt.words) (3 + 3 * i) (4 + 3 * i) (5 + 3 * i) c.number.result p.old p.new c.write_word.ensures.words
    c.write_word-2.ensures.words c.write_word-3.ensures.words
    ∙ ap (λ (n : ℕ). with_word (with_word (with_word f (3 + 3 * i) n) (4 + 3 * i) p.old) (5 + 3 * i) p.new) c.number.ensures
