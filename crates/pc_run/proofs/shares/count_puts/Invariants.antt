use Rattle.std.proofs.Common.{◌≡◌, ◌≤◌, take}
use Rattle.pc_model.specs.Calls.{puts_in}
use Rattle.pc_run.proofs.shares.count_puts.Given as goal

abbrev pub invariant-loop-call : goal.invariant-loop-call
invariant-loop-call l = (l.puts ≡ puts_in (take l.call-index l.calls)) × (l.puts ≤ l.call-index)
