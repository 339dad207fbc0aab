-- Proved in Protocol.
use Rattle.pc_protocol.proofs.Protocol.{steps_keep_the_rule}
use Rattle.pc_protocol.proofs.laws.steps_keep_the_rule.Goals as goal

pub returns : goal.returns
returns c = steps_keep_the_rule
