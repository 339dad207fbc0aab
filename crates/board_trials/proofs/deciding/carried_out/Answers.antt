-- Each listed word held the reference.
use Rattle.std.proofs.Common.{rules}
use Rattle.board_trials.proofs.OwnSteps.{all_held}
use Rattle.board_trials.proofs.deciding.carried_out.Goals as goal

pub aimed-requires-clause-held : goal.aimed-requires-clause-held
aimed-requires-clause-held c = all_held c.args.pass.now c.install_first-held.new.pass c.install_first-held.result (search rules) c.install_first-held.ensures.held
