-- The two words of the visit, by the status that is loaded after them.
use Rattle.std.proofs.Common.{◌≡◌, ◌+◌, ◌*◌, ap, subst, arith}
use Rattle.pc_model.specs.Cells.{IsNode}
use Rattle.pc_rule_law.specs.Board.{Size}
use Rattle.pc_rule_law.specs.Past.{visits_begin}
use Rattle.pc_rule_law.specs.Plays.{IsLater}
use Rattle.pc_rule.specs.Passes.{whole, view, knows, board_size}
use Rattle.pc_rule.proofs.BoardSizes.{few_slots}
use Rattle.pc_rule.proofs.Calls.{pass_stays}
use Rattle.pc_exchange_law.specs.Knowing.{Learns}
use Rattle.pc_dcss.proofs.Learnt.{learns_then}
use Rattle.pc_dcss.proofs.Staying.{later_then}
use Rattle.pc_kcas.specs.Readings.{HasLoaded}
use Rattle.pc_kcas.proofs.ReadWords.{come_still, now_read, loaded_still, visit_fits, over_decided, over_cleaned}
use Rattle.pc_kcas.proofs.VisitChecks.{visit_read}
use Rattle.pc_kcas.proofs.reading.read_visit.Goals as goal

pub load_word-version-requires-clause-come : goal.load_word-version-requires-clause-come
load_word-version-requires-clause-come g c = λ _ _. let e = c.load_word-node.ensures in
    come_still (whole c.args.pass.now) (whole c.load_word-node.new.pass) c.args.op e.later e.learns c.requires.come

pub load_status-status-requires-clause-met : goal.load_status-status-requires-clause-met
load_status-status-requires-clause-met g c = λ _ _. let p = c.args.pass.now in let a = c.load_word-node.new.pass in let b = c.load_word-version.new.pass in
    (come_still (whole p) (whole b) c.args.op (later_then (view p) (view a) (view b) c.load_word-node.ensures.later c.load_word-version.ensures.later)
    (learns_then (knows p) (knows a) (knows b) c.load_word-node.ensures.learns c.load_word-version.ensures.learns) c.requires.come).0

pub returns-then-not-stands-clause-later : goal.returns-then-not-stands-clause-later
returns-then-not-stands-clause-later g c = let p = c.args.pass.now in let a = c.load_word-node.new.pass in let b = c.load_word-version.new.pass in
    later_then (view p) (view b) (view c.load_status-status.new.pass) (later_then (view p) (view a) (view b) c.load_word-node.ensures.later c.load_word-version.ensures.later)
    c.load_status-status.ensures.loaded.told.later

pub returns-then-not-stands-clause-learns : goal.returns-then-not-stands-clause-learns
returns-then-not-stands-clause-learns g c = let p = c.args.pass.now in let a = c.load_word-node.new.pass in let b = c.load_word-version.new.pass in
    learns_then (knows p) (knows b) (knows c.load_status-status.new.pass) (learns_then (knows p) (knows a) (knows b) c.load_word-node.ensures.learns c.load_word-version.ensures.learns)
    c.load_status-status.ensures.loaded.learnt.learns

pub returns-clause-later : goal.returns-clause-later
returns-clause-later g c = let p = c.args.pass.now in let a = c.load_word-node.new.pass in let b = c.load_word-version.new.pass in
    later_then (view p) (view b) (view c.load_status-status.new.pass) (later_then (view p) (view a) (view b) c.load_word-node.ensures.later c.load_word-version.ensures.later)
    c.load_status-status.ensures.loaded.told.later

pub returns-clause-learns : goal.returns-clause-learns
returns-clause-learns g c = let p = c.args.pass.now in let a = c.load_word-node.new.pass in let b = c.load_word-version.new.pass in
    learns_then (knows p) (knows b) (knows c.load_status-status.new.pass) (learns_then (knows p) (knows a) (knows b) c.load_word-node.ensures.learns c.load_word-version.ensures.learns)
    c.load_status-status.ensures.loaded.learnt.learns

pub returns-then-not-stands-clause-decided : goal.returns-then-not-stands-clause-decided
returns-then-not-stands-clause-decided g c = let p = c.args.pass.now in let a = c.load_word-node.new.pass in let b = c.load_word-version.new.pass in let k = c.load_status-status in
    let later : IsLater (view p) (view b) = later_then (view p) (view a) (view b) c.load_word-node.ensures.later c.load_word-version.ensures.later in
    over_decided (whole b) (whole k.new.pass) c.args.op k.result k.ensures.loaded (view p) later.adds k.ensures.ahead (c.stands.ensures.no c.if-not-stands.true)

pub returns-then-not-stands-clause-cleaned : goal.returns-then-not-stands-clause-cleaned
returns-then-not-stands-clause-cleaned g c = let p = c.args.pass.now in let a = c.load_word-node.new.pass in let b = c.load_word-version.new.pass in let k = c.load_status-status in
    let later : IsLater (view p) (view b) = later_then (view p) (view a) (view b) c.load_word-node.ensures.later c.load_word-version.ensures.later in
    over_cleaned (whole b) (whole k.new.pass) c.args.op k.result k.ensures.loaded (view p) later k.ensures.ahead (c.stands.ensures.no c.if-not-stands.true)

pub returns-clause-node : goal.returns-clause-node
returns-clause-node g c =
    let board = c.args.board.now in let p = c.args.pass.now in let a = c.load_word-node.new.pass in let b = c.load_word-version.new.pass in let k = c.load_status-status in
    let op = c.args.op in let yes = c.stands.ensures.yes c.if-not-stands.false in
    let later : IsLater (view p) (view b) = later_then (view p) (view a) (view b) c.load_word-node.ensures.later c.load_word-version.ensures.later in
    let learns : Learns (knows p) (knows b) = learns_then (knows p) (knows a) (knows b) c.load_word-node.ensures.learns c.load_word-version.ensures.learns in
    let of_b = pass_stays board a b (pass_stays board p a c.requires.pass c.load_word-node.ensures.pass.0) c.load_word-version.ensures.pass.0 in
    let sized : (view b).size.slots ≡ (board_size board).slots = ap (λ (z : Size). z.slots) of_b.1 in
    let place : c.visit_place-place.result ≡ visits_begin (view b).size.slots + 2 * c.args.i = let at = c.visit_place-place.ensures in omega arith in
    let next : c.visit_place-place.result + 1 ≡ visits_begin (view b).size.slots + (1 + 2 * c.args.i) = omega arith in
    let at_node = subst (λ r. HasLoaded (whole b) op r c.load_word-node.result) place (loaded_still (whole a) (whole b) op c.visit_place-place.result c.load_word-node.result c.load_word-version.ensures.later c.load_word-version.ensures.learns c.load_word-node.ensures.loaded) in
    let at_version = subst (λ r. HasLoaded (whole b) op r c.load_word-version.result) next c.load_word-version.ensures.loaded in
    subst (λ s. IsNode s c.load_word-node.result) sized
    (visit_fits (whole b) (whole k.new.pass) op k.result k.ensures.loaded yes.0 yes.1 c.args.visits c.args.i c.load_word-node.result c.load_word-version.result
    (loaded_still (whole p) (whole b) op 2 c.args.visits later learns c.requires.counted) c.requires.index at_node at_version).0

pub returns-clause-visit : goal.returns-clause-visit
returns-clause-visit g c =
    let board = c.args.board.now in let p = c.args.pass.now in let a = c.load_word-node.new.pass in let b = c.load_word-version.new.pass in let k = c.load_status-status in
    let op = c.args.op in let yes = c.stands.ensures.yes c.if-not-stands.false in let w = whole k.new.pass in let l = k.ensures.loaded in
    let later : IsLater (view p) (view b) = later_then (view p) (view a) (view b) c.load_word-node.ensures.later c.load_word-version.ensures.later in
    let learns : Learns (knows p) (knows b) = learns_then (knows p) (knows a) (knows b) c.load_word-node.ensures.learns c.load_word-version.ensures.learns in
    let of_b = pass_stays board a b (pass_stays board p a c.requires.pass c.load_word-node.ensures.pass.0) c.load_word-version.ensures.pass.0 in
    let of_w = pass_stays board b k.new.pass of_b k.ensures.pass.0 in
    visit_read w op (board_size board).slots c.args.visits c.args.i c.visit_place-place.result c.load_word-node.result c.load_word-version.result
    (ap (λ (z : Size). z.slots) of_w.1) c.visit_place-place.ensures c.requires.index
    (now_read (whole b) w op k.result l yes.0 yes.1 2 c.args.visits (loaded_still (whole p) (whole b) op 2 c.args.visits later learns c.requires.counted))
    (now_read (whole b) w op k.result l yes.0 yes.1 c.visit_place-place.result c.load_word-node.result (loaded_still (whole a) (whole b) op c.visit_place-place.result c.load_word-node.result c.load_word-version.ensures.later c.load_word-version.ensures.learns c.load_word-node.ensures.loaded))
    (now_read (whole b) w op k.result l yes.0 yes.1 (c.visit_place-place.result + 1) c.load_word-version.result c.load_word-version.ensures.loaded)

pub overflow_cast-result : goal.overflow_cast-result
overflow_cast-result g c =
    let board = c.args.board.now in let p = c.args.pass.now in let a = c.load_word-node.new.pass in let b = c.load_word-version.new.pass in let k = c.load_status-status in
    let op = c.args.op in let yes = c.stands.ensures.yes c.if-not-stands.false in
    let later : IsLater (view p) (view b) = later_then (view p) (view a) (view b) c.load_word-node.ensures.later c.load_word-version.ensures.later in
    let learns : Learns (knows p) (knows b) = learns_then (knows p) (knows a) (knows b) c.load_word-node.ensures.learns c.load_word-version.ensures.learns in
    let of_b = pass_stays board a b (pass_stays board p a c.requires.pass c.load_word-node.ensures.pass.0) c.load_word-version.ensures.pass.0 in
    let sized : (view b).size.slots ≡ (board_size board).slots = ap (λ (z : Size). z.slots) of_b.1 in
    let place : c.visit_place-place.result ≡ visits_begin (view b).size.slots + 2 * c.args.i = let at = c.visit_place-place.ensures in omega arith in
    let next : c.visit_place-place.result + 1 ≡ visits_begin (view b).size.slots + (1 + 2 * c.args.i) = omega arith in
    let at_node = subst (λ r. HasLoaded (whole b) op r c.load_word-node.result) place (loaded_still (whole a) (whole b) op c.visit_place-place.result c.load_word-node.result c.load_word-version.ensures.later c.load_word-version.ensures.learns c.load_word-node.ensures.loaded) in
    let at_version = subst (λ r. HasLoaded (whole b) op r c.load_word-version.result) next c.load_word-version.ensures.loaded in
    let node = (visit_fits (whole b) (whole k.new.pass) op k.result k.ensures.loaded yes.0 yes.1 c.args.visits c.args.i c.load_word-node.result c.load_word-version.result
    (loaded_still (whole p) (whole b) op 2 c.args.visits later learns c.requires.counted) c.requires.index at_node at_version).0 in
    let few = few_slots board in let high = node.1 in omega arith
