use Rattle.std.proofs.Common.{◌≡◌, take}
use Rattle.pc_model.specs.Debts.{taken_up}
use Rattle.pc_plain.proofs.owed_run.take_up.Given as goal

abbrev pub invariant-loop-key : goal.invariant-loop-key
invariant-loop-key l = l.owed ≡ taken_up l.fn.settlement (take l.key-index l.charges) l.fn.owed
