-- Proved in TieTelling.
use Rattle.pc_exchange_law.proofs.TieTelling.{board_tells}
use Rattle.pc_exchange_law.proofs.laws.board_tells.Goals as goal

pub returns : goal.returns
returns c = board_tells
