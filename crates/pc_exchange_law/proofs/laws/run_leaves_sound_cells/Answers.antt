-- Proved in TieRuns.
use Rattle.pc_exchange_law.proofs.TieRuns.{run_leaves_sound, run_is_shown}
use Rattle.pc_exchange_law.proofs.laws.run_leaves_sound_cells.Goals as goal

pub returns-clause-sound : goal.returns-clause-sound
returns-clause-sound g c = run_leaves_sound g.H.Shape.form

pub returns-clause-shown : goal.returns-clause-shown
returns-clause-shown g c = λ z b t h rule tied. run_is_shown b t h rule tied g.H.Shape.form z
