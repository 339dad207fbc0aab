-- An install of one word keeps what is known of the other.
use Rattle.std.proofs.Common.{rules}
use Rattle.board_trials.proofs.meetings.install_often.Goals as goal

pub installed-second-requires-clause-known : goal.installed-second-requires-clause-known
installed-second-requires-clause-known c = c.installed-first.ensures.keeps c.args.two c.loop.invariant.two

pub loop-preserved : goal.loop-preserved
loop-preserved c = let first = c.installed-first.ensures in let second = c.installed-second.ensures in record {
  same = search rules;
  free = second.free;
  published = second.published;
  one = second.keeps c.args.one first.known;
  two = second.known;
}
