-- Proved in AttemptNotes.
use Rattle.pc_exchange_law.proofs.AttemptNotes.{attempts_are_known}
use Rattle.pc_exchange_law.proofs.laws.attempts_are_known.Goals as goal

pub returns : goal.returns
returns c = attempts_are_known
