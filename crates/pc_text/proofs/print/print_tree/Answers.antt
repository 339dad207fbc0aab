-- The height's line comes before the nodes'; where the sink failed there, a front of both was sent.
use Rattle.std.proofs.Common.{◌++◌, ap, sym}
use Rattle.std.proofs.lemmas.Result.{err_from_is_err_and}
use Rattle.pc_text.specs.Printed.{height_line, node_lines}
use Rattle.pc_text.proofs.PrintedLines.{Writes-next, Writes-cut}
use Rattle.pc_text.proofs.print.print_tree.Goals as goal

pub returns-in_err-print_line : goal.returns-in_err-print_line
returns-in_err-print_line g c =
    let p = err_from_is_err_and c.from_residual.result c.from_residual.ensures.1 in
    rw p.1 (Writes-cut _ _ _ _ c.args.chunk.now (height_line c.height_in.result)
    (node_lines c.args.nodes.now) _ _ _ _ _
    (ap (λ height. height_line height ++ node_lines c.args.nodes.now) (sym c.height_in.ensures))
    c.in_err-print_line.ensures)

pub returns : goal.returns
returns g c =
    Writes-next _ _ _ _ _ c.args.chunk.now (height_line c.height_in.result) (node_lines c.args.nodes.now) _ _ _ _ _
    (ap (λ height. height_line height ++ node_lines c.args.nodes.now) (sym c.height_in.ensures))
    c.in_ok-print_line.ensures c.print_nodes.ensures
