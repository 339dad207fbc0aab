-- The room is that for one operation less.
use Rattle.path_race.proofs.operating.read_words.Goals as goal

pub returns-clause-room : goal.returns-clause-room
returns-clause-room c = λ n room. c.end.ensures n (c.take_down-taken.ensures n room)
