-- The bytes that are filled are those that were taken, and the count of faults didn't fall.
use Rattle.std.proofs.Common.{◌≤◌, vec_len}
use Rattle.pc_run.proofs.Turns.{HasRead}
use Rattle.pc_run.proofs.reading.read_all.Given as goal

abbrev pub invariant-turns : goal.invariant-turns
invariant-turns g l = record {
  read : HasRead (g.S.Source.left l.initial.source) (g.S.Source.left l.source) l.bytes.items
      (vec_len l.bytes) l.filled l._turn;
  kept : g.S.Source.faults l.initial.source ≤ g.S.Source.faults l.source;
}
