-- The room is that for one exchange less.
use Rattle.exchange_race.proofs.making.try_one.Goals as goal

pub returns-clause-room : goal.returns-clause-room
returns-clause-room c = λ n room. c.end.ensures n (c.take_down-count.ensures n room)
