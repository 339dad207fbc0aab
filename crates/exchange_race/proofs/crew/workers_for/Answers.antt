-- The worker that is added has room.
use Rattle.std.proofs.Common.{◌≡◌, List, [], ◌∷◌, ◌++◌, map, sym, ap, ◌∙◌, subst}
use Rattle.std.specs.List.{All}
use Rattle.std.proofs.lemmas.List.{map_push}
use Rattle.std.proofs.lemmas.List.Elements.{All-push}
use Rattle.exchange_race.specs.Rooms.{HasRoom}
use Rattle.exchange_race.specs.declared.worker.Worker.{Worker}
use Rattle.exchange_race.proofs.crew.workers_for.Goals as goal

pub loop-pass-preserved : goal.loop-pass-preserved
loop-pass-preserved c = let before = c.loop-pass.invariant in
    let worker : Worker = record { pass = c.in-Some.pass; hand = c.hand_at-hand.result; wins = c.in_ok-wins.wins } in record {
      passes = subst (λ (l : List Worker). map (λ (w : Worker). w.pass) l ≡ c.loop-pass.yielded ++ c.in-Some.pass ∷ []) (sym c.in_ok-push.ensures.items)
          (map_push (λ (w : Worker). w.pass) c.loop-pass.workers.items worker ∙ ap (λ l. l ++ c.in-Some.pass ∷ []) before.passes);
      room = subst (All (λ (w : Worker). HasRoom c.args.share w.wins)) (sym c.in_ok-push.ensures.items)
          (All-push (λ (w : Worker). HasRoom c.args.share w.wins) c.loop-pass.workers.items worker before.room c.in_ok-wins.ensures);
    }
