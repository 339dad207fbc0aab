-- The line goes through an empty chunk.
use Rattle.pc_edge.proofs.Sends.{Writes-then}
use Rattle.pc_text.proofs.PrintedLines.{Writes-from_empty}
use Rattle.pc_text.specs.FaultLine.{fault_line}
use Rattle.pc_text.proofs.fault.print_fault.Goals as goal

pub returns : goal.returns
returns g c =
    let line = fault_line c.args.fault.now in
    let put = Writes-from_empty _ _ _ _ _ line _ _ c.new-chunk.ensures c.in_ok-print_line.ensures in
    Writes-then _ _ _ _ _ line _ _ _ c.flush.result put c.flush.ensures.written
