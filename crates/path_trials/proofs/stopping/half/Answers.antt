-- The word is one of the exchange, which stays published.
use Rattle.std.proofs.Common.{◌<◌, length, sym, subst}
use Rattle.pc_rule.specs.Passes.{view}
use Rattle.pc_kcas.proofs.Finished.{own_place}
use Rattle.pc_kcas.proofs.Owning.{published_known}
use Rattle.path_trials.proofs.stopping.half.Goals as goal

pub place_install-requires-clause-place : goal.place_install-requires-clause-place
place_install-requires-clause-place c κs = let p = c.args.pass.now in let of = c.requires.pass in
    own_place p c.args.at c.own-op.result c.listed-2.result.now _ c.requires.published (subst (λ z. (view p).seat < z.seats) (sym of.1) of.2) c.own-op.ensures c.listed-2.ensures
    (subst (λ l. c.args.at < length l) c.listed.ensures c.if-at-listed.false)

pub returns-in-Ok-clause-published : goal.returns-in-Ok-clause-published
returns-in-Ok-clause-published c = let e = c.place_install.ensures in published_known c.args.pass.now c.place_install.new.pass e.pass e.attempt e.learns c.requires.published

pub returns-in-Err-clause-published : goal.returns-in-Err-clause-published
returns-in-Err-clause-published c = let e = c.place_install.ensures in published_known c.args.pass.now c.place_install.new.pass e.pass e.attempt e.learns c.requires.published
