use Rattle.std.proofs.Common.{◌∙◌}
use Rattle.pc_rule.proofs.WordsAtOpening.{own_there}
use Rattle.pc_rule.proofs.opening.word_start.Goals as goal

pub returns-then-at-begin : goal.returns-then-at-begin
returns-then-at-begin c = λ p in_p e. c.own_start.ensures ∙ own_there c.args.opening.now c.args.at c.if-at-begin.true p in_p e
