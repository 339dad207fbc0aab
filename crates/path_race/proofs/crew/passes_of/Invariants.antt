-- There is a pass for each worker so far.
use Rattle.std.proofs.Common.{◌≡◌, map}
use Rattle.path_race.specs.declared.worker.Worker.{Worker}
use Rattle.path_race.proofs.crew.passes_of.Given as goal

abbrev pub invariant-loop-worker : goal.invariant-loop-worker
invariant-loop-worker l = l.passes.items ≡ map (λ (w : Worker). w.pass) l.yielded
