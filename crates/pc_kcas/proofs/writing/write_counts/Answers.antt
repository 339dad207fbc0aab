-- The mode and the two counts stand then.
use Rattle.std.proofs.Common.{ℕ, ap₂, ◌∙◌}
use Rattle.pc_rule_law.specs.Views.{word_in}
use Rattle.pc_rule.specs.Passes.{view}
use Rattle.pc_kcas.specs.Exchanges.{with_counts}
use Rattle.pc_kcas.proofs.Words.{three_written}
use Rattle.pc_kcas.proofs.writing.write_counts.Goals as goal

pub returns-clause-words : goal.returns-clause-words
returns-clause-words g c = let f = word_in (view c.args.pass.now).attempt.words in
    three_written f (word_in (view c.write_word.new.pass).attempt.words) (word_in (view c.write_word-2.new.pass).attempt.words)
    (word_in (view c.write_word-3.new.pass).attempt.words) 0 1 2 c.args.mode c.from.result c.from-2.result c.write_word.ensures.words c.write_word-2.ensures.words
    c.write_word-3.ensures.words ∙ ap₂ (λ (k n : ℕ). with_counts f c.args.mode k n) c.from.ensures c.from-2.ensures
