-- Proved in QuietSearches.
use Rattle.pc_model.specs.declared.cell.Side.TheVariants.{Left, Right}
use Rattle.pc_order.proofs.QuietSearches.{search_quiet}
use Rattle.pc_order.proofs.laws.plans_change_nothing.Goals as goal

pub returns-clause-ceil : goal.returns-clause-ceil
returns-clause-ceil c = search_quiet Right

pub returns-clause-floor : goal.returns-clause-floor
returns-clause-floor c = search_quiet Left
