-- The words are still added beside the call that is taken along. The room is that for one operation less.
use Rattle.std.proofs.Common.{arith}
use Rattle.path_race.proofs.Adding.{added_carried}
use Rattle.path_race.proofs.operating.change_words.Goals as goal

pub exchange-answer-requires-clause-added : goal.exchange-answer-requires-clause-added
exchange-answer-requires-clause-added c = (c.args.count, let few = c.requires.count.0 in omega arith, added_carried c.args.board.now c.add_words.new.pass c.take_put.new.pass c.args.count (c.add_words.ensures.added c.if-not-add_words.false) c.take_put.ensures.only c.take_put.ensures.begun)

pub returns-clause-room : goal.returns-clause-room
returns-clause-room c = λ n room. c.end.ensures n (c.take_down-taken.ensures n room)
