use Rattle.pc_text.proofs.MadeLemmas.{made_reads_back}
use Rattle.pc_text.proofs.laws.made_scripts_read_back.Goals as goal

pub returns : goal.returns
returns c = made_reads_back
