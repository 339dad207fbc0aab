-- By what came of the decision.
use Rattle.std.proofs.Common.{subst}
use Rattle.pc_rule.specs.Passes.{whole}
use Rattle.pc_kcas.specs.Checking.{HasSettled}
use Rattle.pc_kcas.proofs.Concluded.{come_over}
use Rattle.pc_kcas.proofs.Courses.{past_settled}
use Rattle.pc_kcas.proofs.helping.end_settled.Goals as goal

pub conclude_helped-requires-clause-past : goal.conclude_helped-requires-clause-past
conclude_helped-requires-clause-past g c = λ _ _. let s = c.requires.settled in let p = whole c.args.pass.now in
    let h = subst (HasSettled s.0 p c.args.op) c.in-By.is s.1 in past_settled s.0 p c.args.op c.in-By.status h.0 h.1

pub returns-in-By-clause-come : goal.returns-in-By-clause-come
returns-in-By-clause-come g c = λ o left adds s. let h = subst (HasSettled o (whole c.args.pass.now) c.args.op) c.in-By.is s in
    c.conclude_helped.ensures.come o left adds h.1.cleaned

pub returns-in-Over-clause-come : goal.returns-in-Over-clause-come
returns-in-Over-clause-come g c = λ o left adds s. let p = whole c.args.pass.now in let h = subst (HasSettled o p c.args.op) c.in-Over.is s in
    come_over o p c.args.op left c.in-Over.status c.ended_by.result h.1 h.2 c.ended_by.ensures.decided c.ended_by.ensures.gone

pub returns-in-Stuck-clause-come : goal.returns-in-Stuck-clause-come
returns-in-Stuck-clause-come g c = λ o left adds s. let h = subst (HasSettled o (whole c.args.pass.now) c.args.op) c.in-Stuck.is s in
    c.end_stuck.ensures.come o left adds (h left)

pub returns-in-By-clause-no_install : goal.returns-in-By-clause-no_install
returns-in-By-clause-no_install g c = c.conclude_helped.ensures.no_install

pub returns-in-Stuck-clause-no_install : goal.returns-in-Stuck-clause-no_install
returns-in-Stuck-clause-no_install g c = c.end_stuck.ensures.no_install
