-- The exchanges stay published over the installs.
use Rattle.pc_kcas.proofs.Owning.{published_known}
use Rattle.board_trials.proofs.helps.each_holds_one.Goals as goal

pub finish-blocked-requires-clause-published : goal.finish-blocked-requires-clause-published
finish-blocked-requires-clause-published c κs = let e = c.installed-one.ensures in published_known c.published.new.pass c.installed-one.new.pass e.same e.attempt e.learns c.in-Ok.ensures.published

pub finish-requires-clause-published : goal.finish-requires-clause-published
finish-requires-clause-published c κs = let e = c.installed-two.ensures in published_known c.published-2.new.pass c.installed-two.new.pass e.same e.attempt e.learns c.in-Ok-published.ensures.published
