use Rattle.std.proofs.Common.{length, map}
use Rattle.pc_text.proofs.ReadLemmas.{HasRead}
use Rattle.pc_text.proofs.read.read_script.Given as goal

abbrev pub invariant-loop-rest : goal.invariant-loop-rest
invariant-loop-rest l =
    HasRead l.bytes l.rest (map (λ list. list.items) l.lists.items) l.line l.turn l.clients l.commands

abbrev pub decreases-loop-rest : goal.decreases-loop-rest
decreases-loop-rest l = length l.rest
