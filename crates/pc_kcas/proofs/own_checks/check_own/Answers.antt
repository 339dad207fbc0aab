-- The visit that the pass holds is one of the exchange, and so is the change of its node.
use Rattle.std.proofs.Common.{◌≡◌, ◌<◌, ◌≤◌, refl, sym, ap, ◌∙◌, subst, arith}
use Rattle.pc_rule.specs.declared.refs.Ref.{Ref}
use Rattle.pc_rule.specs.Passes.{whole, view, board_size}
use Rattle.pc_rule.proofs.BoardSizes.{few_seats}
use Rattle.pc_kcas.specs.Settling.{HasLearnt}
use Rattle.pc_kcas.proofs.Learning.{learnt_then}
use Rattle.pc_kcas.proofs.Cleared.{published_learnt}
use Rattle.pc_kcas.proofs.OwnVisits.{own_visit, same_exchange, barred_if, own_passed_if}
use Rattle.pc_kcas.proofs.VisitChecks.{visit_still}
use Rattle.pc_kcas.proofs.own_checks.check_own.Goals as goal

pub check_visit-requires-clause-small : goal.check_visit-requires-clause-small
check_visit-requires-clause-small g c = λ _ _. let b = c.args.board.now in let p = c.args.pass.now in
    let seat : c.args.op.seat ≡ (view p).seat = ap (λ (r : Ref). r.seat) c.requires.own in
    let size = c.requires.pass.1 in let low = subst (λ z. (view p).seat < z.seats) size (subst (λ z. (view p).seat < z.seats) (sym size) c.requires.pass.2) in
    let few = few_seats b in let small : c.args.op.seat < 32 = omega arith in small

pub check_visit-requires-clause-visited : goal.check_visit-requires-clause-visited
check_visit-requires-clause-visited g c = λ _ _.
    (c.args.i, own_visit c.args.pass.now c.args.i c.visits.result.now _ c.args.op c.requires.published c.requires.own c.visits.ensures.visits c.requires.index)

pub check_visit-requires-clause-changes : goal.check_visit-requires-clause-changes
check_visit-requires-clause-changes g c = λ _ _. rw c.requires.own c.own_old-old.ensures

pub barred_by-requires-clause-published : goal.barred_by-requires-clause-published
barred_by-requires-clause-published g c = λ _ _. published_learnt c.args.pass.now c.check_visit.new.pass c.check_visit.ensures.pass c.check_visit.ensures.learnt c.requires.published.0

pub barred_by-requires-clause-own : goal.barred_by-requires-clause-own
barred_by-requires-clause-own g c = λ _ _. same_exchange c.args.pass.now c.check_visit.new.pass c.args.op c.check_visit.ensures.pass c.check_visit.ensures.learnt c.requires.own

pub barred_by-requires-clause-visited : goal.barred_by-requires-clause-visited
barred_by-requires-clause-visited g c = λ _ _. (
  c.args.i,
  visit_still (whole c.args.pass.now) (whole c.check_visit.new.pass) c.check_visit.ensures.learnt c.args.op c.args.i _ _
      (own_visit c.args.pass.now c.args.i c.visits.result.now _ c.args.op c.requires.published c.requires.own c.visits.ensures.visits c.requires.index),
)

pub returns-in-Ok-clause-learnt : goal.returns-in-Ok-clause-learnt
returns-in-Ok-clause-learnt g c = learnt_then (whole c.args.pass.now) (whole c.check_visit.new.pass) (whole c.barred_by.new.pass) c.check_visit.ensures.learnt c.barred_by.ensures.learnt

pub returns-in-Ok-clause-passed : goal.returns-in-Ok-clause-passed
returns-in-Ok-clause-passed g c = let x = whole c.args.pass.now in let u = whole c.check_visit.new.pass in let y = whole c.barred_by.new.pass in
    let l : HasLearnt x y = learnt_then x u y c.check_visit.ensures.learnt c.barred_by.ensures.learnt in
    own_passed_if y c.args.op c.args.stamp c.args.i _ _ c.barred_by.result
    (visit_still x y l c.args.op c.args.i _ _ (own_visit c.args.pass.now c.args.i c.visits.result.now _ c.args.op c.requires.published c.requires.own c.visits.ensures.visits c.requires.index))
    c.barred_by.ensures.passed

pub returns-in-Ok-clause-barred : goal.returns-in-Ok-clause-barred
returns-in-Ok-clause-barred g c = barred_if (whole c.args.pass.now) (whole c.check_visit.new.pass) (whole c.barred_by.new.pass) c.args.op c.args.stamp c.barred_by.result
    c.check_visit.ensures.learnt.view.adds c.barred_by.ensures.barred

pub returns-in-Err-clause-barred : goal.returns-in-Err-clause-barred
returns-in-Err-clause-barred g c = let x = whole c.args.pass.now in let y = whole c.check_visit.new.pass in (
  _,
  c.in-Err.ensures.at,
  (
    c.args.i,
    _,
    visit_still x y c.check_visit.ensures.learnt c.args.op c.args.i _ _
        (own_visit c.args.pass.now c.args.i c.visits.result.now _ c.args.op c.requires.published c.requires.own c.visits.ensures.visits c.requires.index),
  ),
)
