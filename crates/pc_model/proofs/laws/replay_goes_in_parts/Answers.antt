-- Proved in Replaying.
use Rattle.pc_model.proofs.Replaying.{goes_in_parts}
use Rattle.pc_model.proofs.laws.replay_goes_in_parts.Goals as goal

pub returns : goal.returns
returns c = goes_in_parts
