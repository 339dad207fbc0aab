-- A made script is no longer than an input may be.
use Rattle.std.proofs.Common.{arith, ap, length}
use Rattle.pc_text.proofs.MadeLemmas.{made_is_short}
use Rattle.pc_run.specs.declared.reading.TheConstants.{MADE_CLIENTS, MADE_COMMANDS}
use Rattle.pc_run.proofs.reading.make_input.Goals as goal

pub returns-clause-small : goal.returns-clause-small
returns-clause-small c =
    omega (
      arith,
      c.in_ok-bytes.bytes.ok,
      ap length c.in_ok-bytes.ensures,
      made_is_short c.args.seed MADE_CLIENTS MADE_COMMANDS (omega arith) (omega arith),
    )
