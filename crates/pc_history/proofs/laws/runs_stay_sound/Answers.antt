-- Proved in SoundRuns.
use Rattle.pc_history.proofs.SoundRuns.{runs_stay_sound}
use Rattle.pc_history.proofs.laws.runs_stay_sound.Goals as goal

pub returns : goal.returns
returns g c = runs_stay_sound g.H.Shape.form
