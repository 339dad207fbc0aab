-- Proved in OwnAttempts.
use Rattle.pc_exchange_law.proofs.OwnAttempts.{attempts_open, steps_keep_scripts}
use Rattle.pc_exchange_law.proofs.laws.descriptors_are_scripts.Goals as goal

pub returns-clause-opening : goal.returns-clause-opening
returns-clause-opening c = attempts_open

pub returns-clause-steps : goal.returns-clause-steps
returns-clause-steps c = steps_keep_scripts
