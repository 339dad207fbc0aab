-- The check of the visits leaves what the decision asks for.
use Rattle.std.proofs.Common.{◌≡◌, ◌<◌, Result, Ok, Err, IfOk, IfErr, subst, sym, arith}
use Rattle.pc_protocol.specs.Notes.{drew}
use Rattle.pc_exchange_law.specs.Ties.{code}
use Rattle.pc_rule.specs.Passes.{whole}
use Rattle.pc_kcas.proofs.Failing.{failure_before}
use Rattle.pc_kcas.proofs.Learning.{learnt_then, of_still}
use Rattle.pc_kcas.proofs.OwnVisits.{failure_if, stuck_by}
use Rattle.pc_kcas.proofs.own_deciding.decide_drawn.Goals as goal

pub decide-requires-clause-known : goal.decide-requires-clause-known
decide-requires-clause-known g c = λ _ _. let op = c.args.op in
    of_still (whole c.args.pass.now) (whole c.check_own_visits.new.pass) c.check_own_visits.ensures.learnt op.seat op.number c.requires.known

pub decide-requires-clause-may : goal.decide-requires-clause-may
decide-requires-clause-may g c = λ _ _. let op = c.args.op in let early = c.requires.early in record {
  drawn = c.check_own_visits.ensures.learnt.told (drew (code op.seat op.number) c.args.stamp) c.requires.drawn;
  low = omega arith;
  checked = c.in-None.ensures.checked;
}

pub decide_barred-requires-clause-known : goal.decide_barred-requires-clause-known
decide_barred-requires-clause-known g c = λ _ _. let op = c.args.op in
    of_still (whole c.args.pass.now) (whole c.check_own_visits.new.pass) c.check_own_visits.ensures.learnt op.seat op.number c.requires.known

pub decide_barred-requires-clause-drawn : goal.decide_barred-requires-clause-drawn
decide_barred-requires-clause-drawn g c = λ _ _. let op = c.args.op in c.check_own_visits.ensures.learnt.told (drew (code op.seat op.number) c.args.stamp) c.requires.drawn

pub decide_barred-requires-clause-barred : goal.decide_barred-requires-clause-barred
decide_barred-requires-clause-barred g c = λ _ _. (whole c.args.pass.now, c.in-Some.ensures.barred)

pub returns-in-None-clause-learnt : goal.returns-in-None-clause-learnt
returns-in-None-clause-learnt g c = learnt_then (whole c.args.pass.now) (whole c.check_own_visits.new.pass) (whole c.decide.new.pass) c.check_own_visits.ensures.learnt c.decide.ensures.learnt

pub returns-in-None-clause-failure : goal.returns-in-None-clause-failure
returns-in-None-clause-failure g c = failure_before (whole c.args.pass.now) (whole c.check_own_visits.new.pass) (whole c.decide.new.pass) c.args.op.seat c.decide.result
    c.check_own_visits.ensures.learnt c.decide.ensures.failure

pub returns-in-Some-clause-learnt : goal.returns-in-Some-clause-learnt
returns-in-Some-clause-learnt g c = learnt_then (whole c.args.pass.now) (whole c.check_own_visits.new.pass) (whole c.decide_barred.new.pass) c.check_own_visits.ensures.learnt
    c.decide_barred.ensures.learnt

pub returns-in-Some-clause-failure : goal.returns-in-Some-clause-failure
returns-in-Some-clause-failure g c = failure_if (whole c.args.pass.now) (whole c.check_own_visits.new.pass) (whole c.decide_barred.new.pass) c.args.op.seat c.decide_barred.result
    c.check_own_visits.ensures.learnt c.decide_barred.ensures.failure

pub returns-in-Some-clause-stuck : goal.returns-in-Some-clause-stuck
returns-in-Some-clause-stuck g c = stuck_by (whole c.args.pass.now) (whole c.check_own_visits.new.pass) (whole c.decide_barred.new.pass) c.args.op c.args.stamp c.in-Some.barred
    c.decide_barred.result c.in-Some.ensures.barred c.decide_barred.ensures.stuck
