-- The count, by the status that is loaded after it.
use Rattle.std.proofs.Common.{◌≡◌, ◌+◌, ◌≤◌, ap, subst, arith}
use Rattle.pc_rule_law.specs.Board.{Size}
use Rattle.pc_rule_law.specs.Plays.{IsLater}
use Rattle.pc_rule.specs.Passes.{whole, view, knows, board_size}
use Rattle.pc_rule.proofs.BoardSizes.{few_slots}
use Rattle.pc_rule.proofs.Calls.{pass_stays}
use Rattle.pc_dcss.proofs.Learnt.{learns_then}
use Rattle.pc_dcss.proofs.Staying.{later_then}
use Rattle.pc_kcas.proofs.ReadWords.{come_still, now_read, loaded_still, count_few, visits_few, over_decided, over_cleaned, number_passed}
use Rattle.pc_kcas.proofs.reading.read_counts.Goals as goal

pub load_word-visits-requires-clause-come : goal.load_word-visits-requires-clause-come
load_word-visits-requires-clause-come g c = λ _ _. come_still (whole c.args.pass.now) (whole c.load_word-changes.new.pass) c.args.op c.load_word-changes.ensures.later c.load_word-changes.ensures.learns c.requires.come

pub load_status-status-requires-clause-met : goal.load_status-status-requires-clause-met
load_status-status-requires-clause-met g c = λ _ _. (come_still (whole c.args.pass.now) (whole c.load_word-visits.new.pass) c.args.op (later_then (view c.args.pass.now) (view c.load_word-changes.new.pass) (view c.load_word-visits.new.pass) c.load_word-changes.ensures.later c.load_word-visits.ensures.later) (learns_then (knows c.args.pass.now) (knows c.load_word-changes.new.pass) (knows c.load_word-visits.new.pass) c.load_word-changes.ensures.learns c.load_word-visits.ensures.learns) c.requires.come).0

pub returns-then-not-stands-clause-later : goal.returns-then-not-stands-clause-later
returns-then-not-stands-clause-later g c = later_then (view c.args.pass.now) (view c.load_word-visits.new.pass) (view c.load_status-status.new.pass) (later_then (view c.args.pass.now) (view c.load_word-changes.new.pass) (view c.load_word-visits.new.pass) c.load_word-changes.ensures.later c.load_word-visits.ensures.later) c.load_status-status.ensures.loaded.told.later

pub returns-then-not-stands-clause-learns : goal.returns-then-not-stands-clause-learns
returns-then-not-stands-clause-learns g c = learns_then (knows c.args.pass.now) (knows c.load_word-visits.new.pass) (knows c.load_status-status.new.pass) (learns_then (knows c.args.pass.now) (knows c.load_word-changes.new.pass) (knows c.load_word-visits.new.pass) c.load_word-changes.ensures.learns c.load_word-visits.ensures.learns) c.load_status-status.ensures.loaded.learnt.learns

pub returns-clause-later : goal.returns-clause-later
returns-clause-later g c = later_then (view c.args.pass.now) (view c.load_word-visits.new.pass) (view c.load_status-status.new.pass) (later_then (view c.args.pass.now) (view c.load_word-changes.new.pass) (view c.load_word-visits.new.pass) c.load_word-changes.ensures.later c.load_word-visits.ensures.later) c.load_status-status.ensures.loaded.told.later

pub returns-clause-learns : goal.returns-clause-learns
returns-clause-learns g c = learns_then (knows c.args.pass.now) (knows c.load_word-visits.new.pass) (knows c.load_status-status.new.pass) (learns_then (knows c.args.pass.now) (knows c.load_word-changes.new.pass) (knows c.load_word-visits.new.pass) c.load_word-changes.ensures.learns c.load_word-visits.ensures.learns) c.load_status-status.ensures.loaded.learnt.learns

pub returns-then-not-stands-clause-decided : goal.returns-then-not-stands-clause-decided
returns-then-not-stands-clause-decided g c = let later : IsLater (view c.args.pass.now) (view c.load_word-visits.new.pass) = (later_then (view c.args.pass.now) (view c.load_word-changes.new.pass) (view c.load_word-visits.new.pass) c.load_word-changes.ensures.later c.load_word-visits.ensures.later) in
    over_decided (whole c.load_word-visits.new.pass) (whole c.load_status-status.new.pass) c.args.op c.load_status-status.result c.load_status-status.ensures.loaded (view c.args.pass.now) later.adds c.load_status-status.ensures.ahead (c.stands.ensures.no c.if-not-stands.true)

pub returns-then-not-stands-clause-cleaned : goal.returns-then-not-stands-clause-cleaned
returns-then-not-stands-clause-cleaned g c = let later : IsLater (view c.args.pass.now) (view c.load_word-visits.new.pass) = (later_then (view c.args.pass.now) (view c.load_word-changes.new.pass) (view c.load_word-visits.new.pass) c.load_word-changes.ensures.later c.load_word-visits.ensures.later) in
    over_cleaned (whole c.load_word-visits.new.pass) (whole c.load_status-status.new.pass) c.args.op c.load_status-status.result c.load_status-status.ensures.loaded (view c.args.pass.now) later c.load_status-status.ensures.ahead (c.stands.ensures.no c.if-not-stands.true)

pub returns-then-not-stands-clause-over : goal.returns-then-not-stands-clause-over
returns-then-not-stands-clause-over g c = c.stands.ensures.no c.if-not-stands.true

pub returns-then-not-stands-clause-passed : goal.returns-then-not-stands-clause-passed
returns-then-not-stands-clause-passed g c = number_passed (whole c.load_word-visits.new.pass) (whole c.load_status-status.new.pass) c.args.op c.load_status-status.result c.load_status-status.ensures.loaded

-- the status is the exchange's, and isn't cleared
pub returns-clause-counts : goal.returns-clause-counts
returns-clause-counts g c =
    let yes = c.stands.ensures.yes c.if-not-stands.false in let op = c.args.op in
    let a = whole c.load_word-changes.new.pass in let b = whole c.load_word-visits.new.pass in let w = whole c.load_status-status.new.pass in
    let l = c.load_status-status.ensures.loaded in
    let changes = loaded_still a b op 1 c.load_word-changes.result c.load_word-visits.ensures.later c.load_word-visits.ensures.learns c.load_word-changes.ensures.loaded in
    let visits = c.load_word-visits.ensures.loaded in (
      loaded_still b w op 1 c.load_word-changes.result l.told.later l.learnt.learns changes,
      now_read b w op c.load_status-status.result l yes.0 yes.1 1 c.load_word-changes.result changes,
      loaded_still b w op 2 c.load_word-visits.result l.told.later l.learnt.learns visits,
      now_read b w op c.load_status-status.result l yes.0 yes.1 2 c.load_word-visits.result visits,
    )

pub returns-clause-few : goal.returns-clause-few
returns-clause-few g c =
    let yes = c.stands.ensures.yes c.if-not-stands.false in let op = c.args.op in let board = c.args.board.now in
    let a = whole c.load_word-changes.new.pass in let b = whole c.load_word-visits.new.pass in let w = whole c.load_status-status.new.pass in
    let l = c.load_status-status.ensures.loaded in
    let changes = loaded_still a b op 1 c.load_word-changes.result c.load_word-visits.ensures.later c.load_word-visits.ensures.learns c.load_word-changes.ensures.loaded in
    let sized : (view c.load_word-visits.new.pass).size.slots ≡ (board_size board).slots = ap (λ (z : Size). z.slots) (pass_stays board c.load_word-changes.new.pass c.load_word-visits.new.pass (pass_stays board c.args.pass.now c.load_word-changes.new.pass c.requires.pass c.load_word-changes.ensures.pass.0) c.load_word-visits.ensures.pass.0).1 in (
      subst (λ s. c.load_word-changes.result ≤ 25 + s) sized (count_few b w op c.load_status-status.result l yes.0 yes.1 c.load_word-changes.result changes),
      subst (λ s. c.load_word-visits.result ≤ s + 1) sized (visits_few b w op c.load_status-status.result l yes.0 yes.1 c.load_word-visits.result c.load_word-visits.ensures.loaded),
    )

pub overflow_cast-result : goal.overflow_cast-result
overflow_cast-result g c = let few = few_slots c.args.board.now in let le = (returns-clause-few g c).0 in omega arith

pub overflow_cast-result-2 : goal.overflow_cast-result-2
overflow_cast-result-2 g c = let few = few_slots c.args.board.now in let le = (returns-clause-few g c).1 in omega arith
