-- The worker that is added has room.
use Rattle.std.proofs.Common.{◌≡◌, List, [], ◌∷◌, ◌++◌, map, sym, ap₂, ◌∙◌, subst}
use Rattle.std.specs.List.{All}
use Rattle.std.proofs.lemmas.List.{map_push}
use Rattle.std.proofs.lemmas.List.Elements.{All-push}
use Rattle.path_race.specs.Rooms.{HasRoom}
use Rattle.path_race.specs.declared.worker.Worker.{Worker}
use Rattle.path_race.proofs.crew.workers_for.Goals as goal

pub loop-pass-preserved : goal.loop-pass-preserved
loop-pass-preserved c = let before = c.loop-pass.invariant in let worker : Worker = c.new-worker.result in record {
  passes = subst (λ (l : List Worker). map (λ (w : Worker). w.pass) l ≡ c.loop-pass.yielded ++ c.in-Some.pass ∷ []) (sym c.in_ok-push.ensures.items)
      (map_push (λ (w : Worker). w.pass) c.loop-pass.workers.items worker ∙ ap₂ (λ l q. l ++ q ∷ []) before.passes c.new-worker.ensures.pass);
  room = subst (All (λ (w : Worker). HasRoom c.args.share w.wins)) (sym c.in_ok-push.ensures.items)
      (All-push (λ (w : Worker). HasRoom c.args.share w.wins) c.loop-pass.workers.items worker before.room
      (subst (HasRoom c.args.share) (sym c.new-worker.ensures.wins) c.in_ok-wins.ensures));
}
