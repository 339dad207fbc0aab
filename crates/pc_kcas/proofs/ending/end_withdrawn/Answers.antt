-- The withdrawal, or who decided the exchange first.
use Rattle.std.proofs.Common.{refl, ap, ◌∙◌}
use Rattle.pc_rule_law.specs.Views.{View}
use Rattle.pc_protocol.specs.Histories.{aborted, withdrawn}
use Rattle.pc_rule.specs.Passes.{whole, view, listed}
use Rattle.pc_kcas.proofs.Ended.{why_ended, ended_after, ended_withdrawn, cleared_ended, own_withdrawn, own_noted, reason_so}
use Rattle.pc_kcas.proofs.ending.end_withdrawn.Goals as goal

pub conclude-requires-clause-why : goal.conclude-requires-clause-why
conclude-requires-clause-why g c = λ _ _. let p = c.args.pass.now in let e = c.in-Some.ensures in
    why_ended (whole p) (whole c.withdraw.new.pass) (listed p) (view p).seat (view p).attempt.number c.in-Some.status refl refl
    c.requires.published.0 c.requires.published.1 p.one_attempt e.learnt e.settled e.failure

pub returns-in-Some-clause-ended : goal.returns-in-Some-clause-ended
returns-in-Some-clause-ended g c = ended_after (whole c.args.pass.now) (whole c.withdraw.new.pass) (whole c.conclude.new.pass) c.in-Some.ensures.learnt c.conclude.ensures.ended

pub clear-requires-clause-decided : goal.clear-requires-clause-decided
clear-requires-clause-decided g c = λ _ _. let e = c.in-None.ensures in
    (aborted withdrawn, own_withdrawn (whole c.args.pass.now) (whole c.withdraw.new.pass) (aborted withdrawn) e.withdrew e.told, refl)

pub returns-in-None-clause-ended : goal.returns-in-None-clause-ended
returns-in-None-clause-ended g c = ended_withdrawn (whole c.args.pass.now) (whole c.withdraw.new.pass) (whole c.clear.new.pass) c.in-None.ensures.withdrew
    (cleared_ended (whole c.withdraw.new.pass) (whole c.clear.new.pass) c.clear.ensures.cleared)

pub returns-in-None-clause-so : goal.returns-in-None-clause-so
returns-in-None-clause-so g c = let p = c.args.pass.now in let q = c.withdraw.new.pass in let r = c.clear.new.pass in let e = c.in-None.ensures in
    let ended = cleared_ended (whole q) (whole r) c.clear.ensures.cleared in
    reason_so (whole p) (whole r) c.args.reason c.requires.reason
    (ap (λ (v : View). v.install.number) ended.view ∙ ap (λ (v : View). v.install.number) e.withdrew.view.same)
    (own_noted (whole q) (whole r) (aborted withdrawn) ended (own_withdrawn (whole p) (whole q) (aborted withdrawn) e.withdrew e.told))
