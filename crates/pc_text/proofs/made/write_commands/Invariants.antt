-- The commands that the generator has still to draw are to come.
use Rattle.std.proofs.Common.{◌-◌, ◌<◌, ◌^◌}
use Rattle.pc_text.specs.Made.{commands_from}
use Rattle.pc_text.specs.ScriptText.{text_of}
use Rattle.pc_text.proofs.Writing.{HasWritten}
use Rattle.pc_text.proofs.made.write_commands.Given as goal

abbrev pub invariant-loop : goal.invariant-loop
invariant-loop g l = record {
  below : l.generator.state < 2 ^ 31;
  written : HasWritten g.K.Sink.held g.K.Sink.faults l.initial.sink l.sink l.initial.chunk
      (text_of (commands_from l.commands l.initial.generator.state)) l.chunk
      (text_of (commands_from (l.commands - l.counter) l.generator.state));
}
