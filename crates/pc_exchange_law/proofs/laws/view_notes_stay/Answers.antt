-- Proved in ViewNotes.
use Rattle.pc_exchange_law.proofs.ViewNotes.{view_notes_stay}
use Rattle.pc_exchange_law.proofs.laws.view_notes_stay.Goals as goal

pub returns : goal.returns
returns g c = view_notes_stay g.H.Shape.form
