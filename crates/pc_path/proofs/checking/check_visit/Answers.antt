-- The visit's node is loaded, and its version compared.
use Rattle.std.proofs.Common.{◌≡◌, ◌+◌, List, get_or, sym, ◌∙◌, subst}
use mathlib.Core.Option.{some}
use lib.ListN.{get_elem?}
use Rattle.pc_rule.specs.declared.visit.Visit.{Visit}
use Rattle.pc_rule.specs.Passes.{whole, knows, visits, path, board_size}
use Rattle.pc_rule.proofs.Starting.{element}
use Rattle.pc_model.specs.declared.cell.Field.TheVariants.{Version}
use Rattle.pc_path.specs.declared.lost.Lost.{Lost}
use Rattle.pc_path.specs.Checks.{IsCheckedBy, IsCheckedTo}
use Rattle.pc_path.specs.Faults.{IsBusy}
use Rattle.pc_path.specs.Losses.{IsFirstVisit, IsBlockedAt, IfBlocked}
use Rattle.pc_path.proofs.Checked.{may_check, checked_more, has_changed}
use Rattle.pc_path.proofs.Losing.{lost_blocked}
use Rattle.pc_path.proofs.checking.check_visit.Goals as goal

pub find_checked-requires-clause-next : goal.find_checked-requires-clause-next
find_checked-requires-clause-next g c = λ _ _. let all : List Visit = visits c.args.pass.now in let d : Visit = record { node = 0; version = 0 } in
    let v : Visit = get_or c.visits.result.now c.args.at d in
    let here : get_elem? all c.args.at ≡ some v = subst (λ (l : List Visit). get_elem? all c.args.at ≡ some (get_or l c.args.at d)) (sym c.visits.ensures.visits) (element all c.args.at d c.requires.place) in
    let k = c.requires.checked in may_check k.0 k.1 all c.args.at (path c.args.pass.now) (knows c.args.pass.now) v here k.2

pub returns-then-version-visit-clause-passed : goal.returns-then-version-visit-clause-passed
returns-then-version-visit-clause-passed g c = λ p s before. let all : List Visit = visits c.args.pass.now in let d : Visit = record { node = 0; version = 0 } in
    let v : Visit = get_or c.visits.result.now c.args.at d in let q = c.find_checked.new.pass in
    let here : get_elem? all c.args.at ≡ some v = subst (λ (l : List Visit). get_elem? all c.args.at ≡ some (get_or l c.args.at d)) (sym c.visits.ensures.visits) (element all c.args.at d c.requires.place) in
    subst (λ (l : List Visit). IsCheckedTo p s l (c.args.at + 1) (path q) (knows q)) (sym c.find_checked.ensures.visits)
    (checked_more p s all c.args.at (path c.args.pass.now) (knows c.args.pass.now) v here before (path q) (knows q)
    (subst (λ w. IsCheckedBy (path c.args.pass.now) w (path q) (knows q)) c.if-version-visit.true c.in-Ok.ensures.checked))

pub returns-else-version-visit-clause-changed : goal.returns-else-version-visit-clause-changed
returns-else-version-visit-clause-changed g c = let all : List Visit = visits c.args.pass.now in let d : Visit = record { node = 0; version = 0 } in
    let v : Visit = get_or c.visits.result.now c.args.at d in
    let here : get_elem? all c.args.at ≡ some v = subst (λ (l : List Visit). get_elem? all c.args.at ≡ some (get_or l c.args.at d)) (sym c.visits.ensures.visits) (element all c.args.at d c.requires.place) in
    let same : c.visits-in-Ok.result.now ≡ all = c.visits-in-Ok.ensures.visits ∙ c.find_checked.ensures.visits in
    let first : IsFirstVisit all v.node c.first_seen-seen.result = subst (λ (l : List Visit). IsFirstVisit l v.node c.first_seen-seen.result) same
    (c.first_seen-seen.ensures v (subst (λ (l : List Visit). get_elem? l c.args.at ≡ some v) (sym same) here)) in
    has_changed all c.args.at v here c.args.pass.now.walking.rising (whole c.args.pass.now) (whole c.find_checked.new.pass) c.first_seen-seen.result c.in-Ok.version
    first c.in-Ok.ensures.after c.if-version-visit.false c.in-Ok.ensures.found

pub returns-in-Err-clause-blocked : goal.returns-in-Err-clause-blocked
returns-in-Err-clause-blocked g c = let all : List Visit = visits c.args.pass.now in let d : Visit = record { node = 0; version = 0 } in
    let v : Visit = get_or c.visits.result.now c.args.at d in let x = whole c.args.pass.now in let y = whole c.find_checked.new.pass in
    let here : get_elem? all c.args.at ≡ some v = subst (λ (l : List Visit). get_elem? all c.args.at ≡ some (get_or l c.args.at d)) (sym c.visits.ensures.visits) (element all c.args.at d c.requires.place) in
    let links = (board_size c.args.board.now).seats in
    subst (λ (e : Lost). IfBlocked e (IsBlockedAt links x.view y all)) (sym c.lost.ensures)
    (lost_blocked (IsBusy links x.view y v.node Version) (IsBlockedAt links x.view y all) c.in-Err.fault (λ first second busy. (v, (c.args.at, here), busy)) c.in-Err.ensures.busy)
