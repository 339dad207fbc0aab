-- The exchange stays published.
use Rattle.pc_rule.specs.Passes.{view}
use Rattle.pc_kcas.proofs.Owning.{published_known}
use Rattle.board_trials.proofs.OwnSteps.{later_attempt}
use Rattle.path_trials.proofs.stopping.whole_half.Goals as goal

pub returns-in-Some-clause-published : goal.returns-in-Some-clause-published
returns-in-Some-clause-published c = let p = c.args.pass.now in let q = c.complete.new.pass in let f = c.complete.ensures in
    published_known p q f.pass (later_attempt (view p) (view q) f.later.same) f.learns c.requires.published
