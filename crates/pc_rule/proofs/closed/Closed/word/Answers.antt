use Rattle.pc_rule.specs.Left.{words_left}
use Rattle.pc_rule.proofs.Left.{index_at}
use Rattle.pc_rule.proofs.closed.Closed.word.Goals as goal

pub returns : goal.returns
returns g c = index_at (words_left c.args.self.now) c.args.at c.word.result c.word.ensures
