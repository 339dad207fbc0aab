-- The stamp, and the checks.
use Rattle.std.proofs.Common.{List, length, ◌+◌, ◌≤◌, subst}
use Rattle.pc_rule.specs.declared.visit.Visit.{Visit}
use Rattle.pc_rule.specs.Passes.{whole, view, visits, board_size}
use Rattle.pc_kcas.proofs.Evidence.{goes_then}
use Rattle.pc_path.specs.Losses.{IsBlockedAt, IfBlocked}
use Rattle.pc_path.specs.Bounds.{most_in_checks}
use Rattle.pc_path.proofs.Counted.{none_before, none_only}
use Rattle.pc_path.proofs.Losing.{blocked_since}
use Rattle.pc_path.proofs.validating.validated.Goals as goal

pub returns-in-Err-check_visits-clause-goes_on : goal.returns-in-Err-check_visits-clause-goes_on
returns-in-Err-check_visits-clause-goes_on g c = goes_then (whole c.args.pass.now) (whole c.draw_stamp.new.pass) (whole c.check_visits.new.pass) c.draw_stamp.ensures.goes_on c.check_visits.ensures.goes_on

pub returns-in-Err-check_visits-clause-blocked : goal.returns-in-Err-check_visits-clause-blocked
returns-in-Err-check_visits-clause-blocked g c = let links = (board_size c.args.board.now).seats in let x = whole c.args.pass.now in let y = whole c.check_visits.new.pass in
    subst (λ (l : List Visit). IfBlocked c.in-Err-check_visits.lost (IsBlockedAt links x.view y l)) c.draw_stamp.ensures.visits
    (blocked_since links x.view (whole c.draw_stamp.new.pass).view y (visits c.draw_stamp.new.pass) c.in-Err-check_visits.lost c.draw_stamp.ensures.goes_on.adds c.in-Err-check_visits.ensures.blocked)

pub returns-in-Ok-check_visits-clause-goes_on : goal.returns-in-Ok-check_visits-clause-goes_on
returns-in-Ok-check_visits-clause-goes_on g c = goes_then (whole c.args.pass.now) (whole c.draw_stamp.new.pass) (whole c.check_visits.new.pass) c.draw_stamp.ensures.goes_on c.check_visits.ensures.goes_on

pub returns-in-Err-check_visits-clause-bounded : goal.returns-in-Err-check_visits-clause-bounded
returns-in-Err-check_visits-clause-bounded g c = let z = board_size c.args.board.now in let o = view c.args.pass.now in let p = view c.draw_stamp.new.pass in let q = view c.check_visits.new.pass in
    subst (λ (l : List Visit). q.install.number ≤ o.install.number + most_in_checks z (length l)) c.draw_stamp.ensures.visits
    (none_before o p q (most_in_checks z (length (visits c.draw_stamp.new.pass))) c.draw_stamp.ensures.no_install c.check_visits.ensures.bounded)

pub returns-in-Ok-check_visits-clause-bounded : goal.returns-in-Ok-check_visits-clause-bounded
returns-in-Ok-check_visits-clause-bounded g c = let z = board_size c.args.board.now in let o = view c.args.pass.now in let p = view c.draw_stamp.new.pass in let q = view c.check_visits.new.pass in
    subst (λ (l : List Visit). q.install.number ≤ o.install.number + most_in_checks z (length l)) c.draw_stamp.ensures.visits
    (none_before o p q (most_in_checks z (length (visits c.draw_stamp.new.pass))) c.draw_stamp.ensures.no_install c.check_visits.ensures.bounded)

pub returns-in-Err-clause-bounded : goal.returns-in-Err-clause-bounded
returns-in-Err-clause-bounded g c = none_only (view c.args.pass.now) (view c.draw_stamp.new.pass) (most_in_checks (board_size c.args.board.now) (length (visits c.args.pass.now))) c.draw_stamp.ensures.no_install
