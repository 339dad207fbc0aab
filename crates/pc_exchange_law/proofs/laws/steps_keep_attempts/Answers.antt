-- Proved in AttemptSteps.
use Rattle.pc_exchange_law.proofs.AttemptSteps.{steps_keep_attempts, steps_leave_attempts}
use Rattle.pc_exchange_law.proofs.laws.steps_keep_attempts.Goals as goal

pub returns-clause-keep : goal.returns-clause-keep
returns-clause-keep c = steps_keep_attempts

pub returns-clause-leave : goal.returns-clause-leave
returns-clause-leave c = steps_leave_attempts
