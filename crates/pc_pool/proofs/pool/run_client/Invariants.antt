use Rattle.std.proofs.Common.{◌≡◌}
use Rattle.pc_pool.specs.Working.{HasBegun}
use Rattle.pc_pool.proofs.pool.run_client.Given as goal

abbrev pub invariant-loop-done : goal.invariant-loop-done
invariant-loop-done g l = (g.W.Worker.task l.worker ≡ g.W.Worker.task l.initial.worker)
    × HasBegun l.done (g.W.Worker.done l.worker) (g.W.Worker.stopped l.worker)
