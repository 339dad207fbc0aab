-- The lines of the first nodes were written, but for what waits in the chunk.
use Rattle.std.proofs.Common.{◌++◌, take}
use Rattle.std.specs.Prelude.{Ok}
use Rattle.pc_edge.specs.declared.traits.Failed.{Failed}
use Rattle.pc_edge.specs.Sending.{Writes}
use Rattle.pc_text.specs.Printed.{node_lines}
use Rattle.pc_text.proofs.print.print_nodes.Given as goal

abbrev pub invariant-loop-node : goal.invariant-loop-node
invariant-loop-node g l =
    Writes {T = Unit {0}} {E = Failed} g.K.Sink.held g.K.Sink.faults l.initial.sink l.sink
    (l.initial.chunk ++ node_lines (take l.node-index l.nodes)) l.chunk (Ok tt)
