-- Each worker may race, and the passes are all those of the board afterwards.
use Rattle.std.proofs.Common.{get_or, sym, subst}
use Rattle.pc_rule_law.specs.Conditions.{IsFree}
use Rattle.pc_rule.specs.Passes.{view, IsPassOf, SitsAs}
use Rattle.path_race.specs.declared.worker.Worker.{Worker}
use Rattle.path_race.specs.Rooms.{HasRoom}
use Rattle.path_race.proofs.Crews.{ready_at, all_raced}
use Rattle.path_race.proofs.racing.race_all.Goals as goal

pub for_each_mut-requires-clause-accepts : goal.for_each_mut-requires-clause-accepts
for_each_mut-requires-clause-accepts g c κs within i p lt is = let l = c.args.workers.now in (
  ready_at (λ (w : Worker). w.pass) c.args.board.now l c.requires.all c.requires.tried c.requires.visited i p.now lt is,
  (
    c.requires.slots,
    subst (λ (w : Worker). HasRoom c.args.share w.wins) (sym is) (c.requires.room i p.now lt),
  ),
)

pub returns : goal.returns
returns g c = let old = c.args.workers.now in let new = c.for_each_mut.new.s in let h = c.for_each_mut.ensures in let n = c.for_each_mut.auto.s in
    all_raced (λ (w : Worker). w.pass) c.args.board.now old new c.requires.all n
    (λ i d lt. let u = (h i d lt).1 in (
      subst (λ (w : Worker). SitsAs w.pass (get_or new i d).pass) u.argument_is (subst (λ (w : Worker). SitsAs u.argument.now.pass w.pass) u.left u.call.0),
      subst (λ (w : Worker). IsPassOf c.args.board.now w.pass) u.left u.call.1.0,
      subst (λ (w : Worker). IsFree (view w.pass)) u.left u.call.1.1,
    ))
