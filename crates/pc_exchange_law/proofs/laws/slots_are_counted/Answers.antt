-- Proved in ShareCounts.
use Rattle.pc_exchange_law.proofs.ShareCounts.{slots_are_counted}
use Rattle.pc_exchange_law.proofs.laws.slots_are_counted.Goals as goal

pub returns : goal.returns
returns g c = slots_are_counted g.H.Shape.form
