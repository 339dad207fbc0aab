-- The three words of the change, by the status that is loaded after them.
use Rattle.std.proofs.Common.{◌≡◌, ◌+◌, ◌*◌, ◌<◌, ◌≤◌, ◌^◌, sym, ap, ◌∙◌, subst}
use Rattle.pc_rule_law.specs.Board.{Size}
use Rattle.pc_rule_law.specs.Plays.{IsLater, IsPlaceIn}
use Rattle.pc_rule_law.specs.Views.{IsAttempt}
use Rattle.pc_rule.specs.Passes.{whole, view, knows, board_size}
use Rattle.pc_rule.proofs.BoardSizes.{few_slots}
use Rattle.pc_rule.proofs.Calls.{pass_stays}
use Rattle.pc_dcss.proofs.Learnt.{learns_then}
use Rattle.pc_dcss.proofs.Staying.{later_then, notes_ranged}
use Rattle.pc_kcas.specs.Readings.{HasRead}
use Rattle.pc_kcas.proofs.ReadWords.{met_attempt, come_still, now_read, loaded_still, words_fit, over_decided, over_cleaned, number_passed, entry_read, place_read, place_low}
use Rattle.pc_kcas.proofs.reading.read_place.Goals as goal

pub load_word-old-requires-clause-come : goal.load_word-old-requires-clause-come
load_word-old-requires-clause-come g c = λ _ _. let e = c.load_word-place.ensures in come_still (whole c.args.pass.now) (whole c.load_word-place.new.pass) c.args.op e.later e.learns c.requires.come

pub load_word-new-requires-clause-come : goal.load_word-new-requires-clause-come
load_word-new-requires-clause-come g c = λ _ _. let e = c.load_word-place.ensures in let f = c.load_word-old.ensures in
    come_still (whole c.load_word-place.new.pass) (whole c.load_word-old.new.pass) c.args.op f.later f.learns (come_still (whole c.args.pass.now) (whole c.load_word-place.new.pass) c.args.op e.later e.learns c.requires.come)

pub load_status-status-requires-clause-met : goal.load_status-status-requires-clause-met
load_status-status-requires-clause-met g c = λ _ _.
    let p = c.args.pass.now in let a = c.load_word-place.new.pass in let b = c.load_word-old.new.pass in let d = c.load_word-new.new.pass in
    (come_still (whole p) (whole d) c.args.op (later_then (view p) (view a) (view d) c.load_word-place.ensures.later (later_then (view a) (view b) (view d) c.load_word-old.ensures.later c.load_word-new.ensures.later)) (learns_then (knows p) (knows a) (knows d) c.load_word-place.ensures.learns (learns_then (knows a) (knows b) (knows d) c.load_word-old.ensures.learns c.load_word-new.ensures.learns)) c.requires.come).0

pub returns-then-not-stands-clause-later : goal.returns-then-not-stands-clause-later
returns-then-not-stands-clause-later g c =
    let p = c.args.pass.now in let a = c.load_word-place.new.pass in let b = c.load_word-old.new.pass in let d = c.load_word-new.new.pass in let w = c.load_status-status.new.pass in
    later_then (view p) (view d) (view w) (later_then (view p) (view a) (view d) c.load_word-place.ensures.later (later_then (view a) (view b) (view d) c.load_word-old.ensures.later c.load_word-new.ensures.later)) c.load_status-status.ensures.loaded.told.later

pub returns-then-not-stands-clause-learns : goal.returns-then-not-stands-clause-learns
returns-then-not-stands-clause-learns g c =
    let p = c.args.pass.now in let a = c.load_word-place.new.pass in let b = c.load_word-old.new.pass in let d = c.load_word-new.new.pass in let w = c.load_status-status.new.pass in
    learns_then (knows p) (knows d) (knows w) (learns_then (knows p) (knows a) (knows d) c.load_word-place.ensures.learns (learns_then (knows a) (knows b) (knows d) c.load_word-old.ensures.learns c.load_word-new.ensures.learns)) c.load_status-status.ensures.loaded.learnt.learns

pub returns-clause-later : goal.returns-clause-later
returns-clause-later g c =
    let p = c.args.pass.now in let a = c.load_word-place.new.pass in let b = c.load_word-old.new.pass in let d = c.load_word-new.new.pass in let w = c.load_status-status.new.pass in
    later_then (view p) (view d) (view w) (later_then (view p) (view a) (view d) c.load_word-place.ensures.later (later_then (view a) (view b) (view d) c.load_word-old.ensures.later c.load_word-new.ensures.later)) c.load_status-status.ensures.loaded.told.later

pub returns-clause-learns : goal.returns-clause-learns
returns-clause-learns g c =
    let p = c.args.pass.now in let a = c.load_word-place.new.pass in let b = c.load_word-old.new.pass in let d = c.load_word-new.new.pass in let w = c.load_status-status.new.pass in
    learns_then (knows p) (knows d) (knows w) (learns_then (knows p) (knows a) (knows d) c.load_word-place.ensures.learns (learns_then (knows a) (knows b) (knows d) c.load_word-old.ensures.learns c.load_word-new.ensures.learns)) c.load_status-status.ensures.loaded.learnt.learns

pub returns-then-not-stands-clause-decided : goal.returns-then-not-stands-clause-decided
returns-then-not-stands-clause-decided g c =
    let p = c.args.pass.now in let a = c.load_word-place.new.pass in let b = c.load_word-old.new.pass in let d = c.load_word-new.new.pass in let w = c.load_status-status.new.pass in
    let l = c.load_status-status.ensures in let adds : IsLater (view p) (view d) = (later_then (view p) (view a) (view d) c.load_word-place.ensures.later (later_then (view a) (view b) (view d) c.load_word-old.ensures.later c.load_word-new.ensures.later)) in
    over_decided (whole d) (whole w) c.args.op c.load_status-status.result l.loaded (view p) adds.adds l.ahead (c.stands.ensures.no c.if-not-stands.true)

pub returns-then-not-stands-clause-cleaned : goal.returns-then-not-stands-clause-cleaned
returns-then-not-stands-clause-cleaned g c =
    let p = c.args.pass.now in let a = c.load_word-place.new.pass in let b = c.load_word-old.new.pass in let d = c.load_word-new.new.pass in let w = c.load_status-status.new.pass in
    let l = c.load_status-status.ensures in let adds : IsLater (view p) (view d) = (later_then (view p) (view a) (view d) c.load_word-place.ensures.later (later_then (view a) (view b) (view d) c.load_word-old.ensures.later c.load_word-new.ensures.later)) in
    over_cleaned (whole d) (whole w) c.args.op c.load_status-status.result l.loaded (view p) adds l.ahead (c.stands.ensures.no c.if-not-stands.true)

pub returns-then-not-stands-clause-over : goal.returns-then-not-stands-clause-over
returns-then-not-stands-clause-over g c = c.stands.ensures.no c.if-not-stands.true

pub returns-then-not-stands-clause-passed : goal.returns-then-not-stands-clause-passed
returns-then-not-stands-clause-passed g c = number_passed (whole c.load_word-new.new.pass) (whole c.load_status-status.new.pass) c.args.op c.load_status-status.result c.load_status-status.ensures.loaded

pub place_of-requires : goal.place_of-requires
place_of-requires g c =
    let p = c.args.pass.now in let a = c.load_word-place.new.pass in let b = c.load_word-old.new.pass in let d = c.load_word-new.new.pass in let w = c.load_status-status.new.pass in
    let counted = loaded_still (whole p) (whole d) c.args.op 1 c.args.count (later_then (view p) (view a) (view d) c.load_word-place.ensures.later (later_then (view a) (view b) (view d) c.load_word-old.ensures.later c.load_word-new.ensures.later)) (learns_then (knows p) (knows a) (knows d) c.load_word-place.ensures.learns (learns_then (knows a) (knows b) (knows d) c.load_word-old.ensures.learns c.load_word-new.ensures.learns)) c.requires.counted in
    let at_place = loaded_still (whole a) (whole d) c.args.op (3 + 3 * c.args.i) c.load_word-place.result (later_then (view a) (view b) (view d) c.load_word-old.ensures.later c.load_word-new.ensures.later) (learns_then (knows a) (knows b) (knows d) c.load_word-old.ensures.learns c.load_word-new.ensures.learns) c.load_word-place.ensures.loaded in
    let at_old = loaded_still (whole b) (whole d) c.args.op (4 + 3 * c.args.i) c.load_word-old.result c.load_word-new.ensures.later c.load_word-new.ensures.learns c.load_word-old.ensures.loaded in
    let at_new = c.load_word-new.ensures.loaded in
    let l = c.load_status-status.ensures.loaded in let s = c.load_status-status.result in
    let yes = c.stands.ensures.yes c.if-not-stands.false in
    let z = board_size c.args.board.now in let still = pass_stays c.args.board.now in
    let sized : (view d).size.slots ≡ z.slots = ap (λ (z : Size). z.slots) (still b d (still a b (still p a c.requires.pass c.load_word-place.ensures.pass.0) c.load_word-old.ensures.pass.0) c.load_word-new.ensures.pass.0).1 in
    let fit = words_fit (whole d) (whole w) c.args.op s l yes.0 yes.1 c.args.count c.args.i c.load_word-place.result c.load_word-old.result c.load_word-new.result counted c.requires.index at_place at_old at_new in
    place_low (view d).size.slots c.load_word-place.result (subst (λ n. n ≤ 61000) (sym sized) (few_slots c.args.board.now)) fit.0

pub returns-clause-entry : goal.returns-clause-entry
returns-clause-entry g c =
    let p = c.args.pass.now in let a = c.load_word-place.new.pass in let b = c.load_word-old.new.pass in let d = c.load_word-new.new.pass in let w = c.load_status-status.new.pass in
    let counted = loaded_still (whole p) (whole d) c.args.op 1 c.args.count (later_then (view p) (view a) (view d) c.load_word-place.ensures.later (later_then (view a) (view b) (view d) c.load_word-old.ensures.later c.load_word-new.ensures.later)) (learns_then (knows p) (knows a) (knows d) c.load_word-place.ensures.learns (learns_then (knows a) (knows b) (knows d) c.load_word-old.ensures.learns c.load_word-new.ensures.learns)) c.requires.counted in
    let at_place = loaded_still (whole a) (whole d) c.args.op (3 + 3 * c.args.i) c.load_word-place.result (later_then (view a) (view b) (view d) c.load_word-old.ensures.later c.load_word-new.ensures.later) (learns_then (knows a) (knows b) (knows d) c.load_word-old.ensures.learns c.load_word-new.ensures.learns) c.load_word-place.ensures.loaded in
    let at_old = loaded_still (whole b) (whole d) c.args.op (4 + 3 * c.args.i) c.load_word-old.result c.load_word-new.ensures.later c.load_word-new.ensures.learns c.load_word-old.ensures.loaded in
    let at_new = c.load_word-new.ensures.loaded in
    let l = c.load_status-status.ensures.loaded in let s = c.load_status-status.result in
    let yes = c.stands.ensures.yes c.if-not-stands.false in
    entry_read (whole w) c.args.op c.args.count c.args.i c.load_word-place.result c.place_of.result c.requires.index (now_read (whole d) (whole w) c.args.op s l yes.0 yes.1 (1) c.args.count counted)
    c.place_of.ensures.place (now_read (whole d) (whole w) c.args.op s l yes.0 yes.1 (3 + 3 * c.args.i) c.load_word-place.result at_place)
    (subst (λ r. HasRead (whole w) c.args.op (4 + 3 * c.args.i) r) (sym c.place_of.ensures.old) (now_read (whole d) (whole w) c.args.op s l yes.0 yes.1 (4 + 3 * c.args.i) c.load_word-old.result at_old))
    (subst (λ r. HasRead (whole w) c.args.op (5 + 3 * c.args.i) r) (sym c.place_of.ensures.new) (now_read (whole d) (whole w) c.args.op s l yes.0 yes.1 (5 + 3 * c.args.i) c.load_word-new.result at_new))

pub returns-clause-place : goal.returns-clause-place
returns-clause-place g c =
    let p = c.args.pass.now in let a = c.load_word-place.new.pass in let b = c.load_word-old.new.pass in let d = c.load_word-new.new.pass in let w = c.load_status-status.new.pass in
    let counted = loaded_still (whole p) (whole d) c.args.op 1 c.args.count (later_then (view p) (view a) (view d) c.load_word-place.ensures.later (later_then (view a) (view b) (view d) c.load_word-old.ensures.later c.load_word-new.ensures.later)) (learns_then (knows p) (knows a) (knows d) c.load_word-place.ensures.learns (learns_then (knows a) (knows b) (knows d) c.load_word-old.ensures.learns c.load_word-new.ensures.learns)) c.requires.counted in
    let at_place = loaded_still (whole a) (whole d) c.args.op (3 + 3 * c.args.i) c.load_word-place.result (later_then (view a) (view b) (view d) c.load_word-old.ensures.later c.load_word-new.ensures.later) (learns_then (knows a) (knows b) (knows d) c.load_word-old.ensures.learns c.load_word-new.ensures.learns) c.load_word-place.ensures.loaded in
    let at_old = loaded_still (whole b) (whole d) c.args.op (4 + 3 * c.args.i) c.load_word-old.result c.load_word-new.ensures.later c.load_word-new.ensures.learns c.load_word-old.ensures.loaded in
    let at_new = c.load_word-new.ensures.loaded in
    let l = c.load_status-status.ensures.loaded in let s = c.load_status-status.result in
    let yes = c.stands.ensures.yes c.if-not-stands.false in
    let z = board_size c.args.board.now in let still = pass_stays c.args.board.now in
    let of_d = still b d (still a b (still p a c.requires.pass c.load_word-place.ensures.pass.0) c.load_word-old.ensures.pass.0) c.load_word-new.ensures.pass.0 in
    let of_w = still d w of_d c.load_status-status.ensures.pass.0 in
    let come = come_still (whole p) (whole d) c.args.op (later_then (view p) (view a) (view d) c.load_word-place.ensures.later (later_then (view a) (view b) (view d) c.load_word-old.ensures.later c.load_word-new.ensures.later)) (learns_then (knows p) (knows a) (knows d) c.load_word-place.ensures.learns (learns_then (knows a) (knows b) (knows d) c.load_word-old.ensures.learns c.load_word-new.ensures.learns)) c.requires.come in
    let fit = words_fit (whole d) (whole w) c.args.op s l yes.0 yes.1 c.args.count c.args.i c.load_word-place.result c.load_word-old.result c.load_word-new.result counted c.requires.index at_place at_old at_new in
    place_read (whole w) c.args.op c.args.count c.args.i c.load_word-place.result c.place_of.result c.requires.index (now_read (whole d) (whole w) c.args.op s l yes.0 yes.1 (1) c.args.count counted)
    c.place_of.ensures.place (now_read (whole d) (whole w) c.args.op s l yes.0 yes.1 (3 + 3 * c.args.i) c.load_word-place.result at_place)
    (subst (λ r. HasRead (whole w) c.args.op (4 + 3 * c.args.i) r) (sym c.place_of.ensures.old) (now_read (whole d) (whole w) c.args.op s l yes.0 yes.1 (4 + 3 * c.args.i) c.load_word-old.result at_old))
    (subst (λ r. HasRead (whole w) c.args.op (5 + 3 * c.args.i) r) (sym c.place_of.ensures.new) (now_read (whole d) (whole w) c.args.op s l yes.0 yes.1 (5 + 3 * c.args.i) c.load_word-new.result at_new))
    (subst (λ (y : Size). IsAttempt y c.args.op.seat c.args.op.number) (sym of_w.1) (met_attempt z (view d) c.args.op (notes_ranged c.args.board.now d of_d) come.0))
    (subst (λ (y : Size). IsPlaceIn y.slots c.load_word-place.result × (c.place_of.result.old < 2 ^ 62) × (c.place_of.result.new < 2 ^ 62)) (of_d.1 ∙ sym of_w.1)
    (fit.0, subst (λ r. r < 2 ^ 62) (sym c.place_of.ensures.old) fit.1, subst (λ r. r < 2 ^ 62) (sym c.place_of.ensures.new) fit.2))
