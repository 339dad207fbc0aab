-- The draw leaves what the check and the decision ask for.
use Rattle.std.proofs.Common.{◌≡◌, sym, subst, ap, ◌∙◌}
use Rattle.pc_rule.specs.Passes.{whole, view, listed}
use Rattle.pc_rule.specs.declared.refs.Ref.{Ref}
use Rattle.pc_kcas.proofs.Failing.{failure_before}
use Rattle.pc_kcas.proofs.Going.{goes_learnt}
use Rattle.pc_kcas.proofs.Learning.{learnt_then, of_still, known_by_holding}
use Rattle.pc_kcas.proofs.Owning.{published_goes}
use Rattle.pc_kcas.proofs.OwnVisits.{own_holds_each, same_exchange, failure_if, stuck_if}
use Rattle.pc_kcas.proofs.TakeWords.{free_later}
use Rattle.pc_kcas.proofs.own_deciding.decide_own.Goals as goal

pub draw-requires-clause-held : goal.draw-requires-clause-held
draw-requires-clause-held g c = λ _ _. own_holds_each c.args.pass.now c.args.op c.requires.published.0 c.requires.own c.requires.held

pub decide_drawn-requires-clause-free : goal.decide_drawn-requires-clause-free
decide_drawn-requires-clause-free g c = λ _ _. free_later (view c.args.pass.now) (view c.draw.new.pass) c.draw.ensures.learnt.view c.requires.free

pub decide_drawn-requires-clause-published : goal.decide_drawn-requires-clause-published
decide_drawn-requires-clause-published g c = λ _ _. let p = c.args.pass.now in let q = c.draw.new.pass in
    published_goes p q c.draw.ensures.pass (goes_learnt (whole p) (whole q) c.draw.ensures.learnt) c.requires.published

pub decide_drawn-requires-clause-own : goal.decide_drawn-requires-clause-own
decide_drawn-requires-clause-own g c = λ _ _. same_exchange c.args.pass.now c.draw.new.pass c.args.op c.draw.ensures.pass c.draw.ensures.learnt c.requires.own

pub decide_drawn-requires-clause-known : goal.decide_drawn-requires-clause-known
decide_drawn-requires-clause-known g c = λ _ _. let p = c.args.pass.now in let o = c.args.op in
    of_still (whole p) (whole c.draw.new.pass) c.draw.ensures.learnt o.seat o.number
    (known_by_holding (whole p) o.seat o.number (own_holds_each p o c.requires.published.0 c.requires.own c.requires.held))

pub decide-requires-clause-known : goal.decide-requires-clause-known
decide-requires-clause-known g c = λ _ _. let p = c.args.pass.now in let o = c.args.op in
    of_still (whole p) (whole c.draw.new.pass) c.draw.ensures.learnt o.seat o.number
    (known_by_holding (whole p) o.seat o.number (own_holds_each p o c.requires.published.0 c.requires.own c.requires.held))

pub returns-in-Stamp-clause-learnt : goal.returns-in-Stamp-clause-learnt
returns-in-Stamp-clause-learnt g c = learnt_then (whole c.args.pass.now) (whole c.draw.new.pass) (whole c.decide_drawn.new.pass) c.draw.ensures.learnt c.decide_drawn.ensures.learnt

pub returns-in-Refused-clause-learnt : goal.returns-in-Refused-clause-learnt
returns-in-Refused-clause-learnt g c = learnt_then (whole c.args.pass.now) (whole c.draw.new.pass) (whole c.decide.new.pass) c.draw.ensures.learnt c.decide.ensures.learnt

pub returns-in-Stamp-clause-failure : goal.returns-in-Stamp-clause-failure
returns-in-Stamp-clause-failure g c = failure_if (whole c.args.pass.now) (whole c.draw.new.pass) (whole c.decide_drawn.new.pass) c.args.op.seat c.decide_drawn.result
    c.draw.ensures.learnt c.decide_drawn.ensures.failure

pub returns-in-Refused-clause-failure : goal.returns-in-Refused-clause-failure
returns-in-Refused-clause-failure g c = failure_before (whole c.args.pass.now) (whole c.draw.new.pass) (whole c.decide.new.pass) c.args.op.seat c.decide.result
    c.draw.ensures.learnt c.decide.ensures.failure

pub returns-in-Stamp-clause-stuck : goal.returns-in-Stamp-clause-stuck
returns-in-Stamp-clause-stuck g c = stuck_if (whole c.args.pass.now) (whole c.draw.new.pass) (whole c.decide_drawn.new.pass) c.args.op c.decide_drawn.result
    c.draw.ensures.learnt.view.adds c.decide_drawn.ensures.stuck
