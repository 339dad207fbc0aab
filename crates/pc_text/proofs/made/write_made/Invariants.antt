-- The texts of the clients that follow are to come.
use Rattle.std.proofs.Common.{◌+◌, ◌-◌}
use Rattle.pc_text.proofs.MadeLemmas.{text_from}
use Rattle.pc_text.proofs.Writing.{HasWritten}
use Rattle.pc_text.proofs.made.write_made.Given as goal

abbrev pub invariant-loop-before : goal.invariant-loop-before
invariant-loop-before g l =
    HasWritten g.K.Sink.held g.K.Sink.faults l.initial.sink l.sink l.initial.chunk
    (text_from l.seed l.commands 1 l.clients) l.chunk
    (text_from l.seed l.commands (l.before + 1) (l.clients - l.before))
