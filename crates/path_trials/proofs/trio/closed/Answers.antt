-- The list has all passes of the board.
use Rattle.path_trials.proofs.Trios.{three_all}
use Rattle.path_trials.proofs.trio.closed.Goals as goal

pub close_board-requires-clause-passes : goal.close_board-requires-clause-passes
close_board-requires-clause-passes c κs = let t = c.args.trio in let r = c.requires in
    three_all c.args.board t.first t.second t.third r.three r.first r.second r.third.0 r.third.1 c.in-Ok.passes.items c.in-Ok.ensures
