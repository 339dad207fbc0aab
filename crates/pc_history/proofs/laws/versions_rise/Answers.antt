-- Proved in Moments and Footprints.
use Rattle.pc_history.proofs.Footprints.{raises_versions}
use Rattle.pc_history.proofs.Moments.{versions_rise}
use Rattle.pc_history.proofs.laws.versions_rise.Goals as goal

pub returns : goal.returns
returns c = record { rise = versions_rise; well_formed = raises_versions }
