-- Proved in OwnAttempts.
use Rattle.pc_exchange_law.proofs.OwnAttempts.{own_steps_are_known}
use Rattle.pc_exchange_law.proofs.laws.own_steps_are_known.Goals as goal

pub returns : goal.returns
returns c = own_steps_are_known
