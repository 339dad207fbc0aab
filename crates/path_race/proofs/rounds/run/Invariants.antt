-- There is a hand for each thread. Fewer operations are left after each round.
use Rattle.std.proofs.Common.{◌≡◌, vec_len}
use Rattle.path_race.proofs.rounds.run.Given as goal

abbrev pub invariant-loop-left : goal.invariant-loop-left
invariant-loop-left g l = vec_len l.hands ≡ l.plan.threads

abbrev pub decreases-loop-left : goal.decreases-loop-left
decreases-loop-left g l = l.left
