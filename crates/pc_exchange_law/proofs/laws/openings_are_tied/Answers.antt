-- Proved in TieOpenings.
use Rattle.pc_exchange_law.proofs.TieOpenings.{openings_are_tied}
use Rattle.pc_exchange_law.proofs.laws.openings_are_tied.Goals as goal

pub returns : goal.returns
returns c = openings_are_tied
