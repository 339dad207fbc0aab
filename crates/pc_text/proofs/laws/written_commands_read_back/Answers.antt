use Rattle.pc_text.proofs.TextLemmas.{reads_back}
use Rattle.pc_text.proofs.laws.written_commands_read_back.Goals as goal

pub returns : goal.returns
returns c = reads_back
