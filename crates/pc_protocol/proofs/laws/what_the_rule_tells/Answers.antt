-- Proved in Protocol.
use Rattle.pc_protocol.proofs.Protocol.{rule_tells}
use Rattle.pc_protocol.proofs.laws.what_the_rule_tells.Goals as goal

pub returns : goal.returns
returns c = rule_tells
