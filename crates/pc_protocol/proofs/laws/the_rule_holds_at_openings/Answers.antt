-- Proved in Openings.
use Rattle.pc_protocol.proofs.Openings.{rule_holds_at_openings}
use Rattle.pc_protocol.proofs.laws.the_rule_holds_at_openings.Goals as goal

pub returns : goal.returns
returns c = rule_holds_at_openings
