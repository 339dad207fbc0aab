use Rattle.pc_text.proofs.TextLemmas.{clients_read_back}
use Rattle.pc_text.proofs.laws.written_clients_read_back.Goals as goal

pub returns : goal.returns
returns c = clients_read_back
