-- Proved in Owned.
use Rattle.pc_protocol.proofs.Owned.{steps_keep_owned}
use Rattle.pc_protocol.proofs.laws.steps_keep_what_is_owned.Goals as goal

pub returns : goal.returns
returns c = steps_keep_owned
