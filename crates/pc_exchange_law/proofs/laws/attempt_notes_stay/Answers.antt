-- Proved in AttemptNotes.
use Rattle.pc_exchange_law.proofs.AttemptNotes.{attempt_notes_stay}
use Rattle.pc_exchange_law.proofs.laws.attempt_notes_stay.Goals as goal

pub returns : goal.returns
returns c = attempt_notes_stay
