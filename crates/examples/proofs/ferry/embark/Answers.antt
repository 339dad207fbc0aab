-- The end of the operation leaves what the pass knows.
use Rattle.pc_rule.specs.Passes.{whole}
use Rattle.examples.proofs.Ferries.{answer_still}
use Rattle.examples.proofs.ferry.embark.Goals as goal

pub returns-clause-aboard : goal.returns-clause-aboard
returns-clause-aboard c = answer_still (whole c.boarded-answer.new.pass) (whole c.end.new.pass) c.args.guest c.boarded-answer.result
    c.end.ensures.same.0 c.end.ensures.same.1 c.boarded-answer.ensures.aboard
