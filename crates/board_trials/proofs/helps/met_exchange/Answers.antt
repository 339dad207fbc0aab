-- The exchange stays published over the install, and the pass of the one that it met is known to have come to it.
use Rattle.pc_rule.specs.Passes.{whole, view}
use Rattle.pc_kcas.proofs.Finished.{if_some}
use Rattle.pc_kcas.proofs.Owning.{published_known}
use Rattle.board_trials.proofs.Published.{come_met}
use Rattle.board_trials.proofs.helps.met_exchange.Goals as goal

pub returns-clause-published : goal.returns-clause-published
returns-clause-published c = let e = c.install-answer.ensures in published_known c.args.pass.now c.install-answer.new.pass e.pass e.attempt e.learns c.requires.published

pub returns-clause-exchange : goal.returns-clause-exchange
returns-clause-exchange c = if_some c.exchange_in.result _ _ (λ r m. m.1) c.exchange_in.ensures

pub returns-clause-come : goal.returns-clause-come
returns-clause-come c = let e = c.install-answer.ensures in if_some c.exchange_in.result _ _
    (λ r m. come_met (view c.args.pass.now) (whole c.install-answer.new.pass) c.exchange_of-op.result c.args.place c.install-answer.result r m.0 m.1 e.met e.came) c.exchange_in.ensures
