-- Each entry's line comes after the earlier ones; where the sink failed, a front of all lines was sent.
use Rattle.std.proofs.Common.{◌+◌, arith}
use Rattle.std.proofs.lemmas.Result.{err_from_is_err_and}
use Rattle.pc_text.proofs.Lines.{entry_lines-next, entry_lines-split, Sends-next, AppendsFront-next}
use Rattle.pc_text.proofs.print.print_entries.Goals as goal

pub loop-i-preserved : goal.loop-i-preserved
loop-i-preserved g c = record {
  sent = Sends-next _ _ _ c.args.chunk.now _ _ _ _ _ (entry_lines-next c.args.history.now c.loop-i.i _ c.loop-i-test.true) c.loop-i.invariant.sent c.in_ok-print_entry.ensures.ok;
  kept = omega (arith, c.in_ok-print_entry.ensures.never_falls);
}

pub returns-in_err-print_entry-clause-front : goal.returns-in_err-print_entry-clause-front
returns-in_err-print_entry-clause-front g c =
    let p = err_from_is_err_and c.from_residual.result c.from_residual.ensures.1 in
    rw p.1 (AppendsFront-next _ _ _ c.args.chunk.now _ _ _ _ _ _ (entry_lines-next c.args.history.now c.loop-i.i _ c.loop-i-test.true)
    (entry_lines-split c.args.history.now (c.loop-i.i + 1)) c.loop-i.invariant.sent c.in_err-print_entry.ensures.front)
