-- The lines of the first entries were written, but for what waits in the chunk.
use Rattle.std.proofs.Common.{◌++◌, take}
use Rattle.std.specs.Prelude.{Ok}
use Rattle.pc_edge.specs.declared.traits.Failed.{Failed}
use Rattle.pc_edge.specs.Sending.{Writes}
use Rattle.pc_text.specs.Printed.{entry_lines}
use Rattle.pc_text.proofs.print.print_entries.Given as goal

abbrev pub invariant-loop-i : goal.invariant-loop-i
invariant-loop-i g l =
    Writes {T = Unit {0}} {E = Failed} g.K.Sink.held g.K.Sink.faults l.initial.sink l.sink
    (l.initial.chunk ++ entry_lines 1 (take l.i l.history)) l.chunk (Ok tt)
