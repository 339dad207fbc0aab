-- There is a hand for each seat below this one.
use Rattle.std.proofs.Common.{◌≡◌, vec_len}
use Rattle.path_race.proofs.crew.hands_for.Given as goal

abbrev pub invariant-loop-seat : goal.invariant-loop-seat
invariant-loop-seat l = vec_len l.hands ≡ l.seat
