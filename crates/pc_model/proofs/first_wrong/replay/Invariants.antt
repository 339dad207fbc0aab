use Rattle.pc_model.proofs.Replaying.{HasReplayed}
use Rattle.pc_model.proofs.first_wrong.replay.Given as goal

abbrev pub invariant-loop-place : goal.invariant-loop-place
invariant-loop-place l = HasReplayed l.list l.place l.map.entries
