-- Where no room could be made, a front of what waited was sent.
use Rattle.std.proofs.lemmas.Result.{err_from_is_err_and}
use Rattle.pc_edge.proofs.Sends.{Writes-failed}
use Rattle.pc_text.proofs.lines.print_line.Goals as goal

pub returns-in_err-make_room : goal.returns-in_err-make_room
returns-in_err-make_room g c =
    let p = err_from_is_err_and c.from_residual.result c.from_residual.ensures.1 in
    rw p.1 (Writes-failed _ _ _ _ _ _ _ _ _ _ c.in_err-make_room.ensures.written)
