-- Proved in Entering.
use Rattle.pc_history.proofs.Entering.{has_entered}
use Rattle.pc_history.proofs.laws.late_exchanges_enter.Goals as goal

pub returns : goal.returns
returns c = λ opening clock item s e run may. has_entered opening clock item run s e may
