-- One visit more has passed, or one hasn't.
use Rattle.std.proofs.Common.{rules, ◌≡◌, ◌+◌, ◌≤◌, List, length, ap, ◌∙◌, subst, arith}
use Rattle.pc_rule.specs.declared.visit.Visit.{Visit}
use Rattle.pc_rule.specs.Passes.{whole, view, visits, board_size}
use Rattle.pc_kcas.proofs.Evidence.{goes_then}
use Rattle.pc_path.specs.Losses.{IsBlockedAt, IfBlocked}
use Rattle.pc_path.proofs.Counted.{checks_next, checks_all}
use Rattle.pc_path.proofs.Losing.{blocked_since}
use Rattle.pc_path.proofs.validating.check_visits.Goals as goal

pub returns-in_err-check_visit-clause-goes_on : goal.returns-in_err-check_visit-clause-goes_on
returns-in_err-check_visit-clause-goes_on g c = goes_then (whole c.args.pass.now) (whole c.loop-at.pass) (whole c.check_visit.new.pass) c.loop-at.invariant.goes c.check_visit.ensures.goes_on

pub returns-in_err-check_visit-clause-blocked : goal.returns-in_err-check_visit-clause-blocked
returns-in_err-check_visit-clause-blocked g c = let links = (board_size c.args.board.now).seats in let x = whole c.args.pass.now in let y = whole c.check_visit.new.pass in
    let blocked = subst (λ (l : List Visit). IfBlocked c.in_err-check_visit.field-0.0 (IsBlockedAt links x.view y l)) c.loop-at.invariant.same_visits
    (blocked_since links x.view (whole c.loop-at.pass).view y (visits c.loop-at.pass) c.in_err-check_visit.field-0.0 c.loop-at.invariant.goes.adds c.in_err-check_visit.ensures.blocked) in search rules

pub loop-at-preserved : goal.loop-at-preserved
loop-at-preserved g c = let inv = c.loop-at.invariant in let e = c.check_visit.ensures in record {
  few = search rules;
  seated = search rules;
  goes = goes_then (whole c.args.pass.now) (whole c.loop-at.pass) (whole c.check_visit.new.pass) inv.goes e.goes_on;
  free = e.free;
  same_visits = e.visits ∙ inv.same_visits;
  begun = e.begun ∙ inv.begun;
  bounded = checks_next (board_size c.args.board.now) c.loop-at.at (view c.args.pass.now) (view c.loop-at.pass) (view c.check_visit.new.pass) inv.bounded e.bounded;
  checked = λ p s is. c.in_ok-check_visit.ensures.passed p s (inv.checked p s is);
}

pub returns-clause-read : goal.returns-clause-read
returns-clause-read g c = λ p s is. let inv = c.loop-at.invariant in let count = inv.few.1 in let all : length (visits c.loop-at.pass) ≤ c.loop-at.at = omega arith in
    (inv.checked p s is).done all

pub returns-in_err-check_visit-clause-bounded : goal.returns-in_err-check_visit-clause-bounded
returns-in_err-check_visit-clause-bounded g c = let z = board_size c.args.board.now in let o = view c.args.pass.now in let p = view c.loop-at.pass in let q = view c.check_visit.new.pass in
    let inv = c.loop-at.invariant in let all : length (visits c.loop-at.pass) ≡ length (visits c.args.pass.now) = ap (λ (l : List Visit). length l) inv.same_visits in
    checks_all z (c.loop-at.at + 1) (length (visits c.args.pass.now)) o q (search rules) (checks_next z c.loop-at.at o p q inv.bounded c.check_visit.ensures.bounded)

pub returns-clause-bounded : goal.returns-clause-bounded
returns-clause-bounded g c = let inv = c.loop-at.invariant in let all : length (visits c.loop-at.pass) ≡ length (visits c.args.pass.now) = ap (λ (l : List Visit). length l) inv.same_visits in
    checks_all (board_size c.args.board.now) c.loop-at.at (length (visits c.args.pass.now)) (view c.args.pass.now) (view c.loop-at.pass) (search rules) inv.bounded

pub check_visit-requires-clause-checked : goal.check_visit-requires-clause-checked
check_visit-requires-clause-checked g c = λ _ _. let d = c.requires.drawn in (d.0, d.1, c.loop-at.invariant.checked d.0 d.1 d.2)
