-- Printed text can be read back.
use Rattle.pc_text.proofs.Readable.{fixes_history}
use Rattle.pc_text.proofs.laws.printed_run_fixes_history.Goals as goal

pub returns : goal.returns
returns c = fixes_history
