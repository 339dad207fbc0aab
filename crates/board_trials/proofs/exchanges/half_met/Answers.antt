-- The exchanges stay published over the installs.
use Rattle.std.proofs.Common.{sym, subst}
use Rattle.pc_dcss.specs.Installs.{KnowsPlace}
use Rattle.pc_rule.specs.Passes.{view}
use Rattle.pc_kcas.proofs.Owning.{published_known}
use Rattle.board_trials.proofs.OwnSteps.{later_attempt}
use Rattle.board_trials.proofs.exchanges.half_met.Goals as goal

pub finish-end-requires-clause-published : goal.finish-end-requires-clause-published
finish-end-requires-clause-published c κs = let e = c.installed-met.ensures in let f = c.installed-then.ensures in
    published_known c.installed-met.new.pass c.installed-then.new.pass f.same f.attempt f.learns
    (published_known c.published-2.new.pass c.installed-met.new.pass e.same e.attempt e.learns c.in-Ok-published.ensures.published)

pub finish-requires-clause-published : goal.finish-requires-clause-published
finish-requires-clause-published c κs = let p = c.place_install.new.pass in let q = c.complete.new.pass in let e = c.place_install.ensures in let f = c.complete.ensures in
    published_known p q f.pass (later_attempt (view p) (view q) f.later.same) f.learns
    (published_known c.published.new.pass p e.pass e.attempt e.learns c.in-Ok.ensures.published)

pub place_install-requires-clause-place : goal.place_install-requires-clause-place
place_install-requires-clause-place c κs =
    subst (λ r. KnowsPlace (view c.published.new.pass) r c.version-both.result) (sym c.exchange_of-op.ensures) c.in-Ok.ensures.known
