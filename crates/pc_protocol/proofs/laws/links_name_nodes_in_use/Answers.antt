-- Proved in LinkSteps.
use Rattle.pc_protocol.proofs.LinkSteps.{links_law}
use Rattle.pc_protocol.proofs.laws.links_name_nodes_in_use.Goals as goal

pub returns : goal.returns
returns c = links_law
