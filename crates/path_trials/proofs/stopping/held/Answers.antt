-- The word is one of the exchange, which stays published.
use Rattle.std.proofs.Common.{◌<◌, length, sym, subst}
use Rattle.pc_rule.specs.Passes.{view}
use Rattle.pc_kcas.proofs.Finished.{own_place}
use Rattle.pc_kcas.proofs.Owning.{published_known}
use Rattle.path_trials.proofs.stopping.held.Goals as goal

pub install-requires-clause-place : goal.install-requires-clause-place
install-requires-clause-place c κs = let p = c.args.pass.now in let of = c.requires.pass in
    own_place p c.args.at c.own-op.result c.listed-2.result.now _ c.requires.published (subst (λ z. (view p).seat < z.seats) (sym of.1) of.2) c.own-op.ensures c.listed-2.ensures
    (subst (λ l. c.args.at < length l) c.listed.ensures c.if-at-listed.false)

pub returns-clause-published : goal.returns-clause-published
returns-clause-published c = let e = c.install.ensures in published_known c.args.pass.now c.install.new.pass e.pass e.attempt e.learns c.requires.published
