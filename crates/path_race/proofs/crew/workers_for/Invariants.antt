-- There is a worker for each pass so far, with room for its share.
use Rattle.std.proofs.Common.{◌≡◌, map}
use Rattle.std.specs.List.{All}
use Rattle.path_race.specs.declared.worker.Worker.{Worker}
use Rattle.path_race.specs.Rooms.{HasRoom}
use Rattle.path_race.proofs.crew.workers_for.Given as goal

abbrev pub invariant-loop-pass : goal.invariant-loop-pass
invariant-loop-pass l = record {
  passes : map (λ (w : Worker). w.pass) l.workers.items ≡ l.yielded;
  room : All (λ (w : Worker). HasRoom l.share w.wins) l.workers.items;
}
