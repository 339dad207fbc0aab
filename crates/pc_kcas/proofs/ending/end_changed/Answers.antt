-- What is known of the decision.
use Rattle.std.proofs.Common.{ap}
use Rattle.pc_rule.specs.declared.refs.Ref.{Ref}
use Rattle.pc_rule.specs.Passes.{whole, listed}
use Rattle.pc_kcas.proofs.Ended.{why_ended, ended_after}
use Rattle.pc_kcas.proofs.ending.end_changed.Goals as goal

pub conclude-requires-clause-why : goal.conclude-requires-clause-why
conclude-requires-clause-why g c = λ _ _. let p = c.args.pass.now in let e = c.decide-status.ensures in let o = c.own_ref-op.ensures in
    why_ended (whole p) (whole c.decide-status.new.pass) (listed p) c.own_ref-op.result.seat c.own_ref-op.result.number c.decide-status.result (ap (λ (r : Ref). r.seat) o) (ap (λ (r : Ref). r.number) o)
    c.requires.published.0 c.requires.published.1 p.one_attempt e.learnt e.settled e.failure

pub returns-clause-ended : goal.returns-clause-ended
returns-clause-ended g c = ended_after (whole c.args.pass.now) (whole c.decide-status.new.pass) (whole c.conclude.new.pass) c.decide-status.ensures.learnt c.conclude.ensures.ended
