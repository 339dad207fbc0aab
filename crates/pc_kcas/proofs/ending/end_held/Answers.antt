-- What is known of the decision, or of what the exchange is stuck at.
use Rattle.std.proofs.Common.{ap, sym, subst}
use Rattle.pc_rule.specs.declared.refs.Ref.{Ref}
use Rattle.pc_rule.specs.Passes.{whole, view, listed}
use Rattle.pc_kcas.specs.Exchanges.{own_exchange}
use Rattle.pc_kcas.specs.Stops.{AreInTheWay}
use Rattle.pc_kcas.specs.Verdicts.{EndedSo, HasMetVisited}
use Rattle.pc_kcas.specs.declared.obstacle.Obstacle.TheVariants.{Stuck as IsStuckThere}
use Rattle.pc_kcas.specs.Checking.{IsStuckAtVisit}
use Rattle.pc_kcas.proofs.Ended.{why_ended, ended_after}
use Rattle.pc_kcas.proofs.Going.{goes_learnt}
use Rattle.pc_kcas.proofs.Owning.{published_goes}
use Rattle.pc_kcas.proofs.OwnVisits.{is_two, own_reached, so_more, stuck_so, blocked_reason}
use Rattle.pc_kcas.proofs.ending.end_held.Goals as goal

pub conclude-requires-clause-published : goal.conclude-requires-clause-published
conclude-requires-clause-published g c = λ _ _. let p = c.args.pass.now in let q = c.decide_own.new.pass in let e = c.decide_own.ensures in
    (published_goes p q e.pass (goes_learnt (whole p) (whole q) e.learnt) c.requires.published).0

pub conclude-requires-clause-why : goal.conclude-requires-clause-why
conclude-requires-clause-why g c = λ _ _. let p = c.args.pass.now in let e = c.decide_own.ensures in let o = c.own_ref-op.ensures in
    why_ended (whole p) (whole c.decide_own.new.pass) (listed p) c.own_ref-op.result.seat c.own_ref-op.result.number c.in-Ok.status (ap (λ (r : Ref). r.seat) o) (ap (λ (r : Ref). r.number) o)
    c.requires.published.0 c.requires.published.1 p.one_attempt e.learnt c.in-Ok.ensures.settled c.in-Ok.ensures.failure

pub returns-in-Ok-clause-ended : goal.returns-in-Ok-clause-ended
returns-in-Ok-clause-ended g c = ended_after (whole c.args.pass.now) (whole c.decide_own.new.pass) (whole c.conclude.new.pass) c.decide_own.ensures.learnt c.conclude.ensures.ended

pub returns-in-Ok-clause-so : goal.returns-in-Ok-clause-so
returns-in-Ok-clause-so g c = let p = c.args.pass.now in let y = whole c.conclude.new.pass in
    so_more y y.view.attempt.number c.conclude.result (λ _ _. ⊥) (HasMetVisited (whole p) y (own_exchange p)) (λ _ _ _ none. absurd none) c.conclude.ensures.so

pub blocked_at-requires : goal.blocked_at-requires
blocked_at-requires g c = is_two (whole c.args.pass.now) (whole c.decide_own.new.pass) c.own_ref-op.result c.in-Err.stuck c.in-Err.ensures.stuck

pub end_withdrawn-requires-clause-published : goal.end_withdrawn-requires-clause-published
end_withdrawn-requires-clause-published g c = λ _ _. let p = c.args.pass.now in let q = c.decide_own.new.pass in let e = c.decide_own.ensures in
    published_goes p q e.pass (goes_learnt (whole p) (whole q) e.learnt) c.requires.published

pub end_withdrawn-requires-clause-reason : goal.end_withdrawn-requires-clause-reason
end_withdrawn-requires-clause-reason g c = λ _ _. blocked_reason (whole c.decide_own.new.pass) c.blocked_at.result (AreInTheWay (IsStuckThere c.in-Err.stuck)) c.blocked_at.ensures

pub returns-in-Err-clause-ended : goal.returns-in-Err-clause-ended
returns-in-Err-clause-ended g c = ended_after (whole c.args.pass.now) (whole c.decide_own.new.pass) (whole c.end_withdrawn.new.pass) c.decide_own.ensures.learnt c.end_withdrawn.ensures.ended

pub returns-in-Err-clause-so : goal.returns-in-Err-clause-so
returns-in-Err-clause-so g c = let p = c.args.pass.now in let q = c.decide_own.new.pass in let y = whole c.end_withdrawn.new.pass in let e = c.decide_own.ensures in let own = c.own_ref-op.ensures in
    subst (λ (r : Ref). EndedSo y y.view.attempt.number c.end_withdrawn.result (HasMetVisited (whole p) y r)) own
    (stuck_so (whole p) (whole q) y c.own_ref-op.result c.in-Err.stuck y.view.attempt.number c.blocked_at.result c.end_withdrawn.result (goes_learnt (whole p) (whole q) e.learnt)
    c.end_withdrawn.ensures.ended c.in-Err.ensures.stuck (own_reached p q c.own_ref-op.result e.pass e.learnt c.requires.published.0 own c.requires.held) c.blocked_at.ensures c.end_withdrawn.ensures.so)
