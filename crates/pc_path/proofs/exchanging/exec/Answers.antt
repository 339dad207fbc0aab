-- An exchange of words alone visits nothing, so no lock stops it.
use Rattle.pc_path.proofs.Exchanged.{never_locked}
use Rattle.pc_path.proofs.exchanging.exec.Goals as goal

pub returns-clause-never_locked : goal.returns-clause-never_locked
returns-clause-never_locked g c = never_locked c.exchanged.result c.exchanged.ensures.walked
