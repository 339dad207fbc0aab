-- The lines of the first pairs were written, but for what waits in the chunk.
use Rattle.std.proofs.Common.{◌++◌, take}
use Rattle.std.specs.Prelude.{Ok}
use Rattle.pc_edge.specs.declared.traits.Failed.{Failed}
use Rattle.pc_edge.specs.Sending.{Writes}
use Rattle.pc_text.specs.Printed.{pair_lines}
use Rattle.pc_text.proofs.print.print_pairs.Given as goal

abbrev pub invariant-loop-key : goal.invariant-loop-key
invariant-loop-key g l =
    Writes {T = Unit {0}} {E = Failed} g.K.Sink.held g.K.Sink.faults l.initial.sink l.sink
    (l.initial.chunk ++ pair_lines (take l.key-index l.pairs)) l.chunk (Ok tt)
