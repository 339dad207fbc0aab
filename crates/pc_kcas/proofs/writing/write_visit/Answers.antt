-- The two words of the visit stand then.
use Rattle.std.proofs.Common.{ℕ, ◌+◌, ◌*◌, ap, ap₂, ◌∙◌}
use Rattle.pc_rule_law.specs.Past.{visits_begin}
use Rattle.pc_rule_law.specs.Views.{View, word_in}
use Rattle.pc_rule.specs.Passes.{view, board_size}
use Rattle.pc_kcas.specs.Exchanges.{with_word}
use Rattle.pc_kcas.proofs.Words.{two_written}
use Rattle.pc_kcas.proofs.writing.write_visit.Goals as goal

pub returns-clause-words : goal.returns-clause-words
returns-clause-words g c = let f = word_in (view c.args.pass.now).attempt.words in let v = c.args.visit in let a = c.visit_place-place.result in
    two_written f (word_in (view c.step_10.new.pass).attempt.words) (word_in (view c.step_10-2.new.pass).attempt.words) a (a + 1) c.from.result v.version
    (ap (λ (u : View). word_in u.attempt.words) c.step_10.ensures.told) (ap (λ (u : View). word_in u.attempt.words) c.step_10-2.ensures.told)
    ∙ ap₂ (λ (b n : ℕ). with_word (with_word f b n) (b + 1) v.version) c.visit_place-place.ensures c.from.ensures
