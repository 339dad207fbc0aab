-- The exchange stays published over the install.
use Rattle.pc_kcas.proofs.Owning.{published_known}
use Rattle.board_trials.proofs.exchanges.second_meets.Goals as goal

pub finish-then-requires-clause-published : goal.finish-then-requires-clause-published
finish-then-requires-clause-published c κs = let e = c.installed-met.ensures in published_known c.published-2.new.pass c.installed-met.new.pass e.same e.attempt e.learns c.in-Ok-published.ensures.published
