-- The visit is read, then the change of the node, where there is one, and then the node is checked.
use Rattle.std.proofs.Common.{◌<◌, arith}
use Rattle.pc_rule.specs.Passes.{whole, view, board_size}
use Rattle.pc_rule.proofs.BoardSizes.{few_seats}
use Rattle.pc_dcss.proofs.Staying.{notes_ranged}
use Rattle.pc_kcas.specs.Settling.{HasLearnt}
use Rattle.pc_kcas.proofs.Collected.{come_goes}
use Rattle.pc_kcas.proofs.Evidence.{stuck_since}
use Rattle.pc_kcas.proofs.Going.{goes_learnt}
use Rattle.pc_kcas.proofs.Learning.{learnt_by, learnt_then}
use Rattle.pc_kcas.proofs.ReadWords.{come_still, met_attempt}
use Rattle.pc_kcas.proofs.TakeWords.{free_later}
use Rattle.pc_kcas.proofs.VisitChecks.{over_failed, failed_since, visit_still}
use Rattle.pc_kcas.specs.declared.checking.Failed.TheVariants.{Over as IsOverBy}
use Rattle.pc_kcas.proofs.VisitsPassed.{passed_if, failed_if}
use Rattle.pc_kcas.proofs.checking.check_at.Goals as goal

pub returns-in-Err-clause-learnt : goal.returns-in-Err-clause-learnt
returns-in-Err-clause-learnt g c = let e = c.read_visit.ensures in learnt_by (whole c.args.pass.now) (whole c.read_visit.new.pass) e.later e.learns

pub returns-in-Err-clause-failed : goal.returns-in-Err-clause-failed
returns-in-Err-clause-failed g c = let e = c.in-Err.ensures in
    over_failed (whole c.args.pass.now) (whole c.read_visit.new.pass) c.args.op c.args.stamp c.in-Err.status e.over e.decided e.ahead e.passed e.cleaned

pub find_old-requires-clause-come : goal.find_old-requires-clause-come
find_old-requires-clause-come g c = λ _ _. let e = c.read_visit.ensures in
    come_still (whole c.args.pass.now) (whole c.read_visit.new.pass) c.args.op e.later e.learns c.requires.come

pub returns-in-Err-find_old-clause-learnt : goal.returns-in-Err-find_old-clause-learnt
returns-in-Err-find_old-clause-learnt g c = let e = c.read_visit.ensures in let o = whole c.args.pass.now in let a = whole c.read_visit.new.pass in
    learnt_then o a (whole c.find_old.new.pass) (learnt_by o a e.later e.learns) c.find_old.ensures.learnt

pub returns-in-Err-find_old-clause-failed : goal.returns-in-Err-find_old-clause-failed
returns-in-Err-find_old-clause-failed g c = failed_since (whole c.args.pass.now) (whole c.read_visit.new.pass) (whole c.find_old.new.pass) c.args.op c.args.stamp
    (IsOverBy c.in-Err-find_old.status) c.read_visit.ensures.later.adds c.in-Err-find_old.ensures.over

pub check_visit-requires-clause-free : goal.check_visit-requires-clause-free
check_visit-requires-clause-free g c = λ _ _. let v = view c.read_visit.new.pass in
    free_later v (view c.find_old.new.pass) c.find_old.ensures.learnt.view (free_later (view c.args.pass.now) v c.read_visit.ensures.later c.requires.free)

pub check_visit-requires-clause-small : goal.check_visit-requires-clause-small
check_visit-requires-clause-small g c = λ _ _. let b = c.args.board.now in let p = c.args.pass.now in
    let low = (met_attempt (board_size b) (view p) c.args.op (notes_ranged b p c.requires.pass) c.requires.come.0).0 in let few = few_seats b in
    let small : c.args.op.seat < 32 = omega arith in small

pub check_visit-requires-clause-visited : goal.check_visit-requires-clause-visited
check_visit-requires-clause-visited g c = λ _ _. (
  c.args.i,
  visit_still (whole c.read_visit.new.pass) (whole c.find_old.new.pass) c.find_old.ensures.learnt c.args.op c.args.i
      c.in-Ok.visit.node c.in-Ok.visit.version c.in-Ok.ensures.visit,
)

pub end_check-requires-clause-come : goal.end_check-requires-clause-come
end_check-requires-clause-come g c = λ _ _. let e = c.read_visit.ensures in let o = whole c.args.pass.now in let a = whole c.read_visit.new.pass in
    let b = whole c.find_old.new.pass in let d = whole c.check_visit.new.pass in
    let l : HasLearnt o d = learnt_then o b d (learnt_then o a b (learnt_by o a e.later e.learns) c.find_old.ensures.learnt) c.check_visit.ensures.learnt in
    come_goes o d c.args.op (goes_learnt o d l) c.requires.come

pub end_check-requires-clause-visited : goal.end_check-requires-clause-visited
end_check-requires-clause-visited g c = λ _ _. let a = whole c.read_visit.new.pass in let b = whole c.find_old.new.pass in let d = whole c.check_visit.new.pass in
    let l : HasLearnt a d = learnt_then a b d c.find_old.ensures.learnt c.check_visit.ensures.learnt in
    (c.args.i, visit_still a d l c.args.op c.args.i c.in-Ok.visit.node c.in-Ok.visit.version c.in-Ok.ensures.visit)

pub returns-in-Ok-check_visit-clause-learnt : goal.returns-in-Ok-check_visit-clause-learnt
returns-in-Ok-check_visit-clause-learnt g c = let e = c.read_visit.ensures in let o = whole c.args.pass.now in let a = whole c.read_visit.new.pass in
    let b = whole c.find_old.new.pass in let d = whole c.check_visit.new.pass in
    learnt_then o d (whole c.end_check.new.pass) (learnt_then o b d (learnt_then o a b (learnt_by o a e.later e.learns) c.find_old.ensures.learnt) c.check_visit.ensures.learnt)
    c.end_check.ensures.learnt

pub returns-in-Ok-check_visit-clause-passed : goal.returns-in-Ok-check_visit-clause-passed
returns-in-Ok-check_visit-clause-passed g c = let a = whole c.read_visit.new.pass in let b = whole c.find_old.new.pass in let d = whole c.check_visit.new.pass in
    let f = whole c.end_check.new.pass in
    let l : HasLearnt a f = learnt_then a d f (learnt_then a b d c.find_old.ensures.learnt c.check_visit.ensures.learnt) c.end_check.ensures.learnt in
    passed_if f c.args.op c.args.stamp c.args.i c.in-Ok.visit.node c.in-Ok.visit.version c.end_check.result
    (visit_still a f l c.args.op c.args.i c.in-Ok.visit.node c.in-Ok.visit.version c.in-Ok.ensures.visit) c.end_check.ensures.passed

pub returns-in-Ok-check_visit-clause-failed : goal.returns-in-Ok-check_visit-clause-failed
returns-in-Ok-check_visit-clause-failed g c = let e = c.read_visit.ensures in let o = whole c.args.pass.now in let a = whole c.read_visit.new.pass in
    let b = whole c.find_old.new.pass in let d = whole c.check_visit.new.pass in
    let l : HasLearnt o d = learnt_then o b d (learnt_then o a b (learnt_by o a e.later e.learns) c.find_old.ensures.learnt) c.check_visit.ensures.learnt in
    failed_if o d (whole c.end_check.new.pass) c.args.op c.args.stamp c.end_check.result l.view.adds c.end_check.ensures.failed

pub returns-in-Err-check_visit-clause-learnt : goal.returns-in-Err-check_visit-clause-learnt
returns-in-Err-check_visit-clause-learnt g c = let e = c.read_visit.ensures in let o = whole c.args.pass.now in let a = whole c.read_visit.new.pass in
    let b = whole c.find_old.new.pass in
    learnt_then o b (whole c.check_visit.new.pass) (learnt_then o a b (learnt_by o a e.later e.learns) c.find_old.ensures.learnt) c.check_visit.ensures.learnt

pub returns-in-Err-check_visit-clause-failed : goal.returns-in-Err-check_visit-clause-failed
returns-in-Err-check_visit-clause-failed g c = λ left. let e = c.read_visit.ensures in let o = whole c.args.pass.now in let a = whole c.read_visit.new.pass in
    let b = whole c.find_old.new.pass in let l : HasLearnt o b = learnt_then o a b (learnt_by o a e.later e.learns) c.find_old.ensures.learnt in
    let t = c.in-Err-check_visit.ensures.stuck left in
    (stuck_since o.view b.view l.view.adds (whole c.check_visit.new.pass) left c.in-Err-check_visit.stuck t.0, t.1)
