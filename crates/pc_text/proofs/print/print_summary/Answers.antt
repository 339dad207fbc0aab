-- The two lines go one after the other through an empty chunk.
use Rattle.std.proofs.Common.{◌++◌, length}
use Rattle.std.proofs.lemmas.Result.{err_from_is_err_and}
use Rattle.pc_edge.proofs.Sends.{Writes-then, Writes-more, Writes-failed, Writes-stopped}
use Rattle.pc_text.proofs.PrintedLines.{Writes-from_empty}
use Rattle.pc_text.specs.Printed.{count_line, end_line}
use Rattle.pc_text.proofs.print.print_summary.Goals as goal

pub returns-in_err-print_line : goal.returns-in_err-print_line
returns-in_err-print_line g c =
    let p = err_from_is_err_and c.from_residual.result c.from_residual.ensures.1 in
    let count = count_line (length c.args.history.now) in
    rw p.1 (Writes-failed _ _ _ _ count end_line _ _ _ _
    (Writes-from_empty _ _ _ _ _ count _ _ c.new-chunk.ensures c.in_err-print_line.ensures))

pub returns-in_err-print_line-2 : goal.returns-in_err-print_line-2
returns-in_err-print_line-2 g c =
    let p = err_from_is_err_and c.from_residual-in_err-print_line-2.result
    c.from_residual-in_err-print_line-2.ensures.1 in
    let count = count_line (length c.args.history.now) in
    let first = Writes-from_empty _ _ _ _ _ count _ _ c.new-chunk.ensures c.in_ok-print_line.ensures in
    let both = Writes-more _ _ _ _ _ count _ end_line _ _ _ first c.in_err-print_line-2.ensures in
    rw p.1 (Writes-stopped _ _ _ _ (count ++ end_line) _ _ _ _ both)

pub returns : goal.returns
returns g c =
    let count = count_line (length c.args.history.now) in
    let first = Writes-from_empty _ _ _ _ _ count _ _ c.new-chunk.ensures c.in_ok-print_line.ensures in
    let both = Writes-more _ _ _ _ _ count _ end_line _ _ _ first c.in_ok-print_line-2.ensures in
    Writes-then _ _ _ _ _ (count ++ end_line) _ _ _ c.flush.result both c.flush.ensures.written
