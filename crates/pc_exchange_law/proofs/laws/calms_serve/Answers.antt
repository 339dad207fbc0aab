-- Proved in Calms.
use Rattle.pc_exchange_law.proofs.Calms.{calms_serve}
use Rattle.pc_exchange_law.proofs.laws.calms_serve.Goals as goal

pub returns : goal.returns
returns c = calms_serve
