-- The exchange is the same after the install and the completing.
use Rattle.std.proofs.Common.{subst}
use Rattle.pc_rule.specs.declared.refs.Ref.{Ref}
use Rattle.pc_rule.specs.Passes.{view, knows}
use Rattle.pc_dcss.specs.Installs.{KnowsOutdated}
use Rattle.pc_kcas.specs.Exchanges.{own_exchange}
use Rattle.pc_kcas.proofs.Holding.{knows_still}
use Rattle.board_trials.proofs.Published.{met_known, differs_so}
use Rattle.board_trials.proofs.exchanges.installed.Goals as goal

pub complete_met-requires-clause-met : goal.complete_met-requires-clause-met
complete_met-requires-clause-met c = met_known (view c.args.pass.now) (view c.install-answer.new.pass) c.exchange_of-op.result c.args.place c.install-answer.result c.install-answer.ensures.met

pub returns-clause-known : goal.returns-clause-known
returns-clause-known c = let p = c.args.pass.now in let q = c.install-answer.new.pass in let e = c.install-answer.ensures in let f = c.complete_met.ensures in
    knows_still q c.complete_met.new.pass f.same f.attempt f.keeps c.args.place (knows_still p q e.pass e.attempt e.keeps c.args.place c.requires.known)

pub returns-clause-keeps : goal.returns-clause-keeps
returns-clause-keeps c = λ x known. let p = c.args.pass.now in let q = c.install-answer.new.pass in let e = c.install-answer.ensures in let f = c.complete_met.ensures in
    knows_still q c.complete_met.new.pass f.same f.attempt f.keeps x (knows_still p q e.pass e.attempt e.keeps x known)

pub returns-clause-outdated : goal.returns-clause-outdated
returns-clause-outdated c = let p = c.args.pass.now in let q = c.install-answer.new.pass in let r = c.complete_met.new.pass in let at = c.args.place in
    differs_so (KnowsOutdated (knows q) c.exchange_of-op.result at) (KnowsOutdated (knows r) (own_exchange p) at) c.install-answer.result
    (λ h. subst (λ (o : Ref). KnowsOutdated (knows r) o at) c.exchange_of-op.ensures (c.complete_met.ensures.learns.told _ h)) c.install-answer.ensures.outdated
