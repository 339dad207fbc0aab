-- The old number of the change is the visited version, or it isn't.
use Rattle.std.proofs.Common.{subst}
use Rattle.pc_rule.specs.Passes.{whole, view, knows}
use Rattle.pc_exchange_law.specs.ExchangeConditions.{KnowsPassed, is_changed}
use Rattle.pc_kcas.proofs.VisitChecks.{draws_visit, look_differs}
use Rattle.pc_kcas.proofs.checking.check_changed.Goals as goal

pub step_17-requires-clause-visited : goal.step_17-requires-clause-visited
step_17-requires-clause-visited g c = λ _ _. let v = c.requires.visited in
    draws_visit (whole c.args.pass.now) c.args.op c.args.stamp v.0 c.args.visit.node c.args.visit.version c.requires.small c.requires.drawn v.1

pub returns-then-old-visit-clause-checked : goal.returns-then-old-visit-clause-checked
returns-then-old-visit-clause-checked g c = let e = c.requires.changes in let p = c.args.pass.now in
    subst (KnowsPassed (view p) (knows p) c.args.op.seat c.args.op.number c.args.stamp c.args.visit.node) c.if-old-visit.true (is_changed e.0 e.1 e.2)

pub returns-clause-checked : goal.returns-clause-checked
returns-clause-checked g c = let v = c.requires.visited in let e = c.requires.changes in let s = c.step_17.ensures in
    look_differs (whole c.args.pass.now) (whole c.step_17.new.pass) c.args.op c.args.visit.node c.step_17.result c.args.stamp s.told s.looked c.requires.drawn
    v.0 e.0 c.args.visit.version c.args.old e.1 c.requires.small v.1 e.2 c.if-old-visit.false
