-- The exchange stays published over the calls, and its words stay known.
use Rattle.pc_kcas.proofs.Owning.{published_known}
use Rattle.board_trials.proofs.rows.fails_and_installs.Goals as goal

pub failed-undecided-requires-clause-published : goal.failed-undecided-requires-clause-published
failed-undecided-requires-clause-published c = let e = c.installed-first.ensures in published_known c.args.pass.now c.installed-first.new.pass e.same e.attempt e.learns c.requires.published

pub installed-second-requires-clause-known : goal.installed-second-requires-clause-known
installed-second-requires-clause-known c = c.failed-undecided.ensures.keeps c.args.two (c.installed-first.ensures.keeps c.args.two c.requires.two)

pub finish-requires-clause-published : goal.finish-requires-clause-published
finish-requires-clause-published c κs = let e = c.installed-second.ensures in
    published_known c.failed-undecided.new.pass c.installed-second.new.pass e.same e.attempt e.learns c.failed-undecided.ensures.published
