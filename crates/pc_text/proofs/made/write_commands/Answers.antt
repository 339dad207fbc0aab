-- Each command's line comes after the earlier ones; where the sink failed, a front of all lines was sent.
use Rattle.std.proofs.Common.{[], ◌++◌}
use Rattle.std.specs.Prelude.{codes}
use Rattle.std.proofs.lemmas.Result.{err_from_is_err_and}
use Rattle.pc_edge.proofs.Sends.{Writes-failed}
use Rattle.pc_text.specs.Made.{command_from}
use Rattle.pc_text.specs.Printed.{call_text}
use Rattle.pc_text.proofs.MadeLemmas.{next_line}
use Rattle.pc_text.proofs.Writing.{Writes-append, has_written_more, has_written_failed}
use Rattle.pc_text.proofs.made.write_commands.Goals as goal

pub returns-in_err-make_room : goal.returns-in_err-make_room
returns-in_err-make_room g c =
    let p = err_from_is_err_and c.from_residual.result c.from_residual.ensures.1 in
    let line = call_text (command_from c.loop.generator.state) ++ codes "\n" in
    rw p.1 (has_written_failed {T = Unit {0}} _ _ _ _ _ _ _ _ _ line _ [] _ _ _ c.loop.invariant.written
    (next_line c.args.commands c.loop.counter c.loop.generator.state c.loop-test.true)
    (Writes-failed _ _ _ _ _ line _ _ _ _ c.in_err-make_room.ensures.written))

pub loop-preserved : goal.loop-preserved
loop-preserved g c =
    let line = call_text (command_from c.loop.generator.state) ++ codes "\n" in
    record {
      below = c.command.ensures.below;
      written = rw (c.push_command.ensures, c.command.ensures.call, c.command.ensures.state)
          (has_written_more _ _ _ _ _ _ _ _ _ line _ _ c.loop.invariant.written
          (next_line c.args.commands c.loop.counter c.loop.generator.state c.loop-test.true)
          (Writes-append _ _ _ _ _ _ line _ c.in_ok-make_room.ensures.written));
    }
