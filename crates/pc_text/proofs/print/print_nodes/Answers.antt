-- Each node's line comes after the earlier ones; where the sink failed, a front of all lines was sent.
use Rattle.std.proofs.Common.{◌+◌}
use Rattle.std.proofs.lemmas.Result.{err_from_is_err_and}
use Rattle.pc_text.proofs.PrintedLines.{node_lines-next, node_lines-split, Writes-next, Writes-cut}
use Rattle.pc_text.proofs.print.print_nodes.Goals as goal

pub loop-node-preserved : goal.loop-node-preserved
loop-node-preserved g c =
    let next = node_lines-next c.args.nodes.now c.loop-node.node-index _ c.loop-node-test.true in
    Writes-next _ _ _ _ _ c.args.chunk.now _ _ _ _ _ _ _ next c.loop-node.invariant c.in_ok-print_line.ensures

pub returns-in_err-print_line : goal.returns-in_err-print_line
returns-in_err-print_line g c =
    let p = err_from_is_err_and c.from_residual.result c.from_residual.ensures.1 in
    let next = node_lines-next c.args.nodes.now c.loop-node.node-index _ c.loop-node-test.true in
    let whole = node_lines-split c.args.nodes.now (c.loop-node.node-index + 1) in
    let failed = Writes-next _ _ _ _ _ c.args.chunk.now _ _ _ _ _ _ _ next c.loop-node.invariant
    c.in_err-print_line.ensures in
    rw p.1 (Writes-cut _ _ _ _ c.args.chunk.now _ _ _ _ _ _ _ whole failed)
