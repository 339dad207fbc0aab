-- Proved in ExchangeLaws.
use Rattle.pc_exchange_law.proofs.ExchangeLaws.{exchange_steps_go_on}
use Rattle.pc_exchange_law.proofs.laws.exchange_steps_go_on.Goals as goal

pub returns : goal.returns
returns g c = exchange_steps_go_on g.H.Shape.form
