-- Each pass may make its calls, and all are those of the board afterwards.
use Rattle.std.proofs.Common.{◌<◌, get_or, subst}
use Rattle.pc_rule_law.specs.Conditions.{IsFree}
use Rattle.pc_rule.specs.Passes.{view, IsSeatedAs}
use Rattle.pc_rule.proofs.Calls.{pass_at, free_by_index}
use Rattle.board_trials.proofs.Published.{may_list}
use Rattle.board_trials.proofs.Seated.{all_seated}
use Rattle.board_trials.proofs.meetings.installed_in_threads.Goals as goal

pub for_each_mut-requires-clause-accepts : goal.for_each_mut-requires-clause-accepts
for_each_mut-requires-clause-accepts g c κs within i p lt is = let at = pass_at c.args.passes.now i p.now lt is in let o = c.requires.all.order i p.now at in
    (o.0, (may_list c.args.passes.now c.requires.open i p.now at, (o.2, c.requires.start)))

pub returns : goal.returns
returns g c = let old = c.args.passes.now in let new = c.for_each_mut.new.s in let h = c.for_each_mut.ensures in let n = c.for_each_mut.auto.s in
    all_seated c.args.board.now old new
    (λ i d lt. let u = (h i d lt).1 in
    subst (λ p. IsSeatedAs p (get_or new i d)) u.argument_is (subst (λ q. IsSeatedAs u.argument.now q) u.left u.call.0))
    c.requires.all n
    (free_by_index new (λ i d lt. let u = (h i d (subst (λ k. i < k) n lt)).1 in subst (λ q. IsFree (view q)) u.left u.call.1))
