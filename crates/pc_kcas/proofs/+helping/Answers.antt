-- One word, the words of an exchange, and its help: of each what was noted in its calls, one after the other.
use Rattle.std.proofs.Common.{◌≡◌, ◌≤◌, ◌+◌, ◌-◌, ◌*◌, ◌∙◌, Option, None, IfSome, IfNone, rules, arith, refl, sym, subst, inl}
use Rattle.pc_rule_law.specs.Plays.{AddsNotes}
use Rattle.pc_rule_law.specs.Views.{held}
use Rattle.pc_rule.specs.Passes.{whole, view, board_size}
use Rattle.pc_rule.proofs.Calls.{pass_stays}
use Rattle.pc_dcss.proofs.Staying.{adds_then, notes_ranged}
use Rattle.pc_kcas.specs.declared.collecting.Halt.{Halt}
use Rattle.pc_kcas.specs.Bounds.{most_in_one}
use Rattle.pc_kcas.specs.Collecting.{IsHaltedBy}
use Rattle.pc_kcas.specs.Takings.{HoldsAt}
use Rattle.pc_kcas.proofs.Collected.{come_goes, loaded_goes, counts_goes, holds_more, holds_word, halted_word, halted_since, halted_if, node_of}
use Rattle.pc_kcas.proofs.Concluded.{come_over}
use Rattle.pc_kcas.proofs.Counted.{none_installed, installs_none, installs_more, installs_same, installs_further, word_once, word_helped, word_twice, all_words}
use Rattle.pc_kcas.proofs.Courses.{past_over, decided_noted}
use Rattle.pc_kcas.proofs.Evidence.{goes_then, is_word_goes, followed_since, followed_goes, followed_link, followed_more}
use Rattle.pc_kcas.proofs.Going.{goes_later}
use Rattle.pc_kcas.proofs.HeldWords.{told_of, held_since, completed_gone, place_goes, first_obstacle, met_link, met_other, met_come, beyond, second_obstacle}
use Rattle.pc_kcas.proofs.ReadWords.{come_still}
use Rattle.pc_kcas.proofs.TakeWords.{free_later}
use Rattle.pc_kcas.proofs.+helping.Goals as goal

-- ---- the words of an exchange

pub collecting::collect-returns-in-Some-clause-goes_on : goal.collecting::collect-returns-in-Some-clause-goes_on
collecting::collect-returns-in-Some-clause-goes_on g t c =
    goes_then (whole c.args.pass.now) (whole c.loop-i.pass) (whole c.collect_word-word.new.pass) c.loop-i.invariant.goes c.collect_word-word.ensures.goes_on

pub collecting::collect-returns-in-Some-clause-followed : goal.collecting::collect-returns-in-Some-clause-followed
collecting::collect-returns-in-Some-clause-followed g t c = let e = c.collect_word-word.ensures in let inv = c.loop-i.invariant in
    followed_more c.args.links c.loop-i.left c.collect_word-word.result.links (view c.args.pass.now) (whole c.loop-i.pass) (whole c.collect_word-word.new.pass)
    inv.fewer e.links e.goes_on e.pass.0.2 inv.followed e.followed

pub collecting::collect-returns-in-Some-clause-bounded : goal.collecting::collect-returns-in-Some-clause-bounded
collecting::collect-returns-in-Some-clause-bounded g t c = let w = c.collect_word-word in let e = w.ensures in let inv = c.loop-i.invariant in let z = (board_size c.args.board.now).slots in
    let o = view c.args.pass.now in let q = view w.new.pass in let i = c.loop-i.i in let count = c.args.count in
    let below : i + 1 ≤ count = search rules in
    installs_more z (3 * i + 3) (3 * count) (c.args.links - w.result.links) o q (omega arith)
    (installs_further z (3 * i) 3 c.args.links c.loop-i.left w.result.links o (view c.loop-i.pass) q inv.fewer e.links inv.bounded e.bounded)

pub collecting::collect-returns-clause-bounded : goal.collecting::collect-returns-clause-bounded
collecting::collect-returns-clause-bounded g t c = let inv = c.loop-i.invariant in let below = inv.below in
    installs_more (board_size c.args.board.now).slots (3 * c.loop-i.i) (3 * c.args.count) (c.args.links - c.loop-i.left) (view c.args.pass.now) (view c.loop-i.pass) (omega arith) inv.bounded

pub collecting::collect-returns-in-Some-clause-halted : goal.collecting::collect-returns-in-Some-clause-halted
collecting::collect-returns-in-Some-clause-halted g t c = let w = c.collect_word-word in let left = w.result.links in
    halted_since (whole c.args.pass.now) (whole c.loop-i.pass) c.loop-i.invariant.goes.adds (whole w.new.pass) c.args.op left c.in-Some.halt
    (subst (λ (h : Option Halt). IfSome h (IsHaltedBy (whole c.loop-i.pass) (whole w.new.pass) c.args.op left)) c.in-Some.is w.ensures.halted)

pub collecting::collect-loop-i-preserved : goal.collecting::collect-loop-i-preserved
collecting::collect-loop-i-preserved g t c =
    let inv = c.loop-i.invariant in let w = c.collect_word-word in let e = w.ensures in let o = c.args.pass.now in let p = c.loop-i.pass in let q = w.new.pass in record {
      below = search rules;
      fewer = omega arith;
      same = search rules;
      goes = goes_then (whole o) (whole p) (whole q) inv.goes e.goes_on;
      free = e.free;
      come = come_goes (whole p) (whole q) c.args.op e.goes_on inv.come;
      counted = loaded_goes (whole p) (whole q) c.args.op 1 c.args.count e.goes_on inv.counted;
      holds = holds_more (whole p) (whole q) c.args.op c.loop-i.i e.goes_on e.pass.0.2 inv.holds
          (subst (λ (h : Option Halt). IfNone h (HoldsAt (whole q) c.args.op c.loop-i.i)) c.in_default.is e.holds);
      bounded = installs_more (board_size c.args.board.now).slots (3 * c.loop-i.i + 3) (3 * (c.loop-i.i + 1)) (c.args.links - w.result.links) (view o) (view q) (omega arith)
          (installs_further (board_size c.args.board.now).slots (3 * c.loop-i.i) 3 c.args.links c.loop-i.left w.result.links (view o) (view p) (view q) inv.fewer e.links inv.bounded e.bounded);
      followed = followed_more c.args.links c.loop-i.left w.result.links (view o) (whole p) (whole q) inv.fewer e.links e.goes_on e.pass.0.2 inv.followed e.followed;
    }

pub collecting::collect_word-hold_word-held-requires-clause-free : goal.collecting::collect_word-hold_word-held-requires-clause-free
collecting::collect_word-hold_word-held-requires-clause-free g t c = λ _ _.
    free_later (view c.args.pass.now) (view c.read_place.new.pass) c.read_place.ensures.later c.requires.free

pub collecting::collect_word-returns-in-Ok-clause-goes_on : goal.collecting::collect_word-returns-in-Ok-clause-goes_on
collecting::collect_word-returns-in-Ok-clause-goes_on g t c = let r = c.read_place.ensures in let x = whole c.args.pass.now in let u = whole c.read_place.new.pass in
    goes_then x u (whole c.hold_word-held.new.pass) (goes_later x u r.later r.learns) c.hold_word-held.ensures.goes_on

pub collecting::collect_word-returns-in-Ok-clause-followed : goal.collecting::collect_word-returns-in-Ok-clause-followed
collecting::collect_word-returns-in-Ok-clause-followed g t c = let h = c.hold_word-held in
    followed_since (view c.args.pass.now) (view c.read_place.new.pass) c.read_place.ensures.later.adds (whole h.new.pass) (c.args.links - h.result.links) h.ensures.followed

pub collecting::collect_word-returns-in-Ok-clause-bounded : goal.collecting::collect_word-returns-in-Ok-clause-bounded
collecting::collect_word-returns-in-Ok-clause-bounded g t c = let h = c.hold_word-held in let v = view c.args.pass.now in let u = view c.read_place.new.pass in let w = view h.new.pass in
    installs_same (board_size c.args.board.now).slots 3 (c.args.links - h.result.links) v u w w (none_installed v u c.read_place.ensures.later) refl h.ensures.bounded

pub collecting::collect_word-returns-in-Err-clause-bounded : goal.collecting::collect_word-returns-in-Err-clause-bounded
collecting::collect_word-returns-in-Err-clause-bounded g t c = let v = view c.args.pass.now in let u = view c.read_place.new.pass in
    installs_none (board_size c.args.board.now).slots 3 (c.args.links - c.args.links) v u (none_installed v u c.read_place.ensures.later)

pub collecting::collect_word-returns-in-Ok-clause-holds : goal.collecting::collect_word-returns-in-Ok-clause-holds
collecting::collect_word-returns-in-Ok-clause-holds g t c = let h = c.hold_word-held in
    subst (λ (o : Option Halt). IfNone o (HoldsAt (whole h.new.pass) c.args.op c.args.i)) (sym c.halted.ensures)
    (holds_word (whole c.read_place.new.pass) (whole h.new.pass) c.args.op c.args.i c.in-Ok.place h.result.obstacle h.ensures.goes_on h.ensures.pass.0.2
    c.in-Ok.ensures.entry h.ensures.held)

pub collecting::collect_word-returns-in-Ok-clause-halted : goal.collecting::collect_word-returns-in-Ok-clause-halted
collecting::collect_word-returns-in-Ok-clause-halted g t c =
    let h = c.hold_word-held in let x = whole c.args.pass.now in let u = whole c.read_place.new.pass in let z = whole h.new.pass in let at = c.in-Ok.place in
    let still = pass_stays c.args.board.now in let of_u = still c.args.pass.now c.read_place.new.pass c.requires.pass c.read_place.ensures.pass.0 in
    let of_z = still c.read_place.new.pass h.new.pass of_u h.ensures.pass.0 in
    subst (λ (o : Option Halt). IfSome o (IsHaltedBy x z c.args.op h.result.links)) (sym c.halted.ensures)
    (halted_word x u z c.args.op at c.args.links h.result.links h.result.obstacle c.read_place.ensures.later.adds
    (node_of (board_size c.args.board.now) u.view z.view c.args.op at of_u.1 of_z.1 (notes_ranged c.args.board.now c.read_place.new.pass of_u) c.in-Ok.ensures.place)
    (is_word_goes u z h.ensures.goes_on h.ensures.pass.0.2 c.args.op at.node at.field (inl (c.args.i, at.old, at.new, c.in-Ok.ensures.entry))) h.ensures.obstacle)

pub collecting::collect_word-returns-in-Err-clause-free : goal.collecting::collect_word-returns-in-Err-clause-free
collecting::collect_word-returns-in-Err-clause-free g t c = free_later (view c.args.pass.now) (view c.read_place.new.pass) c.read_place.ensures.later c.requires.free

pub collecting::collect_word-returns-in-Err-clause-halted : goal.collecting::collect_word-returns-in-Err-clause-halted
collecting::collect_word-returns-in-Err-clause-halted g t c = let e = c.in-Err.ensures in
    let x = view c.args.pass.now in let y = whole c.read_place.new.pass in let op = c.args.op in
    (e.over, past_over y op c.in-Err.status e.over e.ahead (decided_noted x y.view op.seat op.number e.decided) e.passed, e.cleaned)

-- ---- the help of an exchange

pub helping::help_linked-returns-in-Err-clause-come : goal.helping::help_linked-returns-in-Err-clause-come
helping::help_linked-returns-in-Err-clause-come g t c = let e = c.in-Err.ensures in let x = whole c.args.pass.now in let y = whole c.read_counts.new.pass in
    let op = c.args.op in
    come_over x y op c.args.links c.in-Err.status c.ended_by.result (past_over y op c.in-Err.status e.over e.ahead (decided_noted x.view y.view op.seat op.number e.decided) e.passed) e.cleaned
    c.ended_by.ensures.decided c.ended_by.ensures.gone

pub helping::help_linked-returns-in-Err-clause-bounded : goal.helping::help_linked-returns-in-Err-clause-bounded
helping::help_linked-returns-in-Err-clause-bounded g t c = let v = view c.args.pass.now in let u = view c.read_counts.new.pass in let z = (board_size c.args.board.now).slots in
    installs_none z (most_in_one z) (c.args.links - c.args.links) v u (none_installed v u c.read_counts.ensures.later)

pub helping::help_linked-returns-clause-bounded : goal.helping::help_linked-returns-clause-bounded
helping::help_linked-returns-clause-bounded g t c =
    let k = c.collect-collected in let v = view c.args.pass.now in let u = view c.read_counts.new.pass in let w = view k.new.pass in let x = view c.end_collected-progress.new.pass in
    let z = (board_size c.args.board.now).slots in
    installs_same z (most_in_one z) (c.args.links - k.result.links) v u w x (none_installed v u c.read_counts.ensures.later) c.end_collected-progress.ensures.no_install
    (all_words z c.in-Ok.counts.changes (c.args.links - k.result.links) u w c.in-Ok.ensures.few.0 k.ensures.bounded)

pub helping::help_linked-collect-collected-requires-clause-free : goal.helping::help_linked-collect-collected-requires-clause-free
helping::help_linked-collect-collected-requires-clause-free g t c = λ _ _.
    free_later (view c.args.pass.now) (view c.read_counts.new.pass) c.read_counts.ensures.later c.requires.free

pub helping::help_linked-collect-collected-requires-clause-come : goal.helping::help_linked-collect-collected-requires-clause-come
helping::help_linked-collect-collected-requires-clause-come g t c = λ _ _. let r = c.read_counts.ensures in
    come_still (whole c.args.pass.now) (whole c.read_counts.new.pass) c.args.op r.later r.learns c.requires.come

pub helping::help_linked-end_collected-progress-requires-clause-come : goal.helping::help_linked-end_collected-progress-requires-clause-come
helping::help_linked-end_collected-progress-requires-clause-come g t c = λ _ _. let r = c.read_counts.ensures in let u = whole c.read_counts.new.pass in
    come_goes u (whole c.collect-collected.new.pass) c.args.op c.collect-collected.ensures.goes_on (come_still (whole c.args.pass.now) u c.args.op r.later r.learns c.requires.come)

pub helping::help_linked-end_collected-progress-requires-clause-counts : goal.helping::help_linked-end_collected-progress-requires-clause-counts
helping::help_linked-end_collected-progress-requires-clause-counts g t c = λ _ _.
    counts_goes (whole c.read_counts.new.pass) (whole c.collect-collected.new.pass) c.args.op c.in-Ok.counts c.collect-collected.ensures.goes_on c.in-Ok.ensures.counts

pub helping::help_linked-returns-clause-goes_on : goal.helping::help_linked-returns-clause-goes_on
helping::help_linked-returns-clause-goes_on g t c =
    let r = c.read_counts.ensures in let x = whole c.args.pass.now in let u = whole c.read_counts.new.pass in let z = whole c.collect-collected.new.pass in let y = whole c.end_collected-progress.new.pass in
    goes_then x z y (goes_then x u z (goes_later x u r.later r.learns) c.collect-collected.ensures.goes_on) c.end_collected-progress.ensures.goes_on

pub helping::help_linked-returns-clause-followed : goal.helping::help_linked-returns-clause-followed
helping::help_linked-returns-clause-followed g t c =
    let k = c.collect-collected in let e = c.end_collected-progress in let z = whole k.new.pass in let y = whole e.new.pass in let many = c.args.links - k.result.links in
    followed_goes z y e.ensures.goes_on e.ensures.pass.0.2 many (view c.args.pass.now)
    (followed_since (view c.args.pass.now) (view c.read_counts.new.pass) c.read_counts.ensures.later.adds z many k.ensures.followed)

pub helping::help_linked-returns-clause-come : goal.helping::help_linked-returns-clause-come
helping::help_linked-returns-clause-come g t c =
    let k = c.collect-collected in let x = whole c.args.pass.now in let u = whole c.read_counts.new.pass in let adds : AddsNotes x.view u.view = c.read_counts.ensures.later.adds in
    c.end_collected-progress.ensures.come x k.result.links (adds_then x.view u.view (view k.new.pass) adds k.ensures.goes_on.adds)
    (halted_if x u adds (whole k.new.pass) c.args.op k.result.links k.result.halt k.ensures.halted)

-- ---- one word

pub hold::hold_word-returns-in_default-clause-obstacle : goal.hold::hold_word-returns-in_default-clause-obstacle
hold::hold_word-returns-in_default-clause-obstacle g t c =
    let k = c.take_word-taken in let e = k.ensures in let x = whole c.args.pass.now in let u = whole k.new.pass in let at = c.args.place in
    first_obstacle x u c.args.op at c.args.links k.result.completed k.result.answer c.earlier-first.result c.obstacle_after.result c.requires.exchange
    (is_word_goes x u e.goes_on e.pass.0.2 c.args.op at.node at.field c.requires.word)
    (told_of x u c.args.op at None k.result.completed k.result.answer e.decided e.outdated e.met e.fresh e.numbers e.kept e.completed e.in_turn e.another e.exchange)
    c.in_default.ensures.none c.earlier-first.ensures.install c.obstacle_after.ensures

pub hold::hold_word-returns-then-links-eq0-clause-obstacle : goal.hold::hold_word-returns-then-links-eq0-clause-obstacle
hold::hold_word-returns-then-links-eq0-clause-obstacle g t c =
    let k = c.take_word-taken in let e = k.ensures in let x = whole c.args.pass.now in let u = whole k.new.pass in let at = c.args.place in let met = c.in-Some.met in
    let told = told_of x u c.args.op at None k.result.completed k.result.answer e.decided e.outdated e.met e.fresh e.numbers e.kept e.completed e.in_turn e.another e.exchange in
    let none : c.args.links ≡ 0 = omega arith in (
      none,
      none,
      met_link x u c.args.op at k.result.completed k.result.answer met told c.in-Some.ensures.some c.requires.exchange
          (is_word_goes x u e.goes_on e.pass.0.2 c.args.op at.node at.field c.requires.word),
      met_other x u c.args.op at k.result.completed k.result.answer met told c.in-Some.ensures.some c.requires.exchange,
    )

pub hold::hold_word-help_linked-help-requires-clause-come : goal.hold::hold_word-help_linked-help-requires-clause-come
hold::hold_word-help_linked-help-requires-clause-come g t c = λ _ _.
    let k = c.take_word-taken in let e = k.ensures in let x = whole c.args.pass.now in let u = whole k.new.pass in let at = c.args.place in
    let told = told_of x u c.args.op at None k.result.completed k.result.answer e.decided e.outdated e.met e.fresh e.numbers e.kept e.completed e.in_turn e.another e.exchange in
    met_come x u c.args.op at k.result.completed k.result.answer c.in-Some.met told c.in-Some.ensures.some c.requires.exchange e.came

pub hold::hold_word-returns-in-Some-hindrance-clause-goes_on : goal.hold::hold_word-returns-in-Some-hindrance-clause-goes_on
hold::hold_word-returns-in-Some-hindrance-clause-goes_on g t c =
    goes_then (whole c.args.pass.now) (whole c.take_word-taken.new.pass) (whole c.help_linked-help.new.pass) c.take_word-taken.ensures.goes_on c.help_linked-help.ensures.goes_on

pub hold::hold_word-returns-in-Some-hindrance-clause-followed : goal.hold::hold_word-returns-in-Some-hindrance-clause-followed
hold::hold_word-returns-in-Some-hindrance-clause-followed g t c =
    let k = c.take_word-taken in let e = k.ensures in let h = c.help_linked-help in let x = whole c.args.pass.now in let u = whole k.new.pass in let z = whole h.new.pass in
    let at = c.args.place in let met = c.in-Some.met in
    let told = told_of x u c.args.op at None k.result.completed k.result.answer e.decided e.outdated e.met e.fresh e.numbers e.kept e.completed e.in_turn e.another e.exchange in
    let less = h.ensures.links in let some : 1 ≤ c.args.links = omega arith in
    followed_link c.args.links h.result.links x.view u z met some less h.ensures.goes_on h.ensures.pass.0.2
    (met_link x u c.args.op at k.result.completed k.result.answer met told c.in-Some.ensures.some c.requires.exchange
    (is_word_goes x u e.goes_on e.pass.0.2 c.args.op at.node at.field c.requires.word)) h.ensures.followed

pub hold::hold_word-returns-in-Some-hindrance-clause-obstacle : goal.hold::hold_word-returns-in-Some-hindrance-clause-obstacle
hold::hold_word-returns-in-Some-hindrance-clause-obstacle g t c =
    let k = c.take_word-taken in let e = k.ensures in let h = c.help_linked-help in let x = whole c.args.pass.now in let u = whole k.new.pass in let z = whole h.new.pass in
    let at = c.args.place in let met = c.in-Some.met in
    let told = told_of x u c.args.op at None k.result.completed k.result.answer e.decided e.outdated e.met e.fresh e.numbers e.kept e.completed e.in_turn e.another e.exchange in
    beyond x u c.args.op at k.result.completed k.result.answer met told c.in-Some.ensures.some c.requires.exchange
    z c.args.links h.result.links h.result.progress c.hindrance.result c.in-Some-hindrance.obstacle h.ensures.goes_on.adds h.ensures.come c.hindrance.ensures c.in-Some-hindrance.is

pub hold::hold_word-take_word-again-requires-clause-place : goal.hold::hold_word-take_word-again-requires-clause-place
hold::hold_word-take_word-again-requires-clause-place g t c = λ _ _. let e = c.take_word-taken.ensures in let h = c.help_linked-help.ensures in
    let x = whole c.args.pass.now in let u = whole c.take_word-taken.new.pass in let z = whole c.help_linked-help.new.pass in
    place_goes u z h.goes_on h.pass.0.2 h.pass.0.1 c.args.op c.args.place (place_goes x u e.goes_on e.pass.0.2 e.pass.0.1 c.args.op c.args.place c.requires.place)

pub hold::hold_word-take_word-again-requires-clause-gone : goal.hold::hold_word-take_word-again-requires-clause-gone
hold::hold_word-take_word-again-requires-clause-gone g t c = λ _ _. let k = c.take_word-taken in
    completed_gone (view c.args.pass.now) (view k.new.pass) (view c.help_linked-help.new.pass) c.args.op c.args.place k.result.completed c.help_linked-help.ensures.goes_on.adds
    k.ensures.completed

pub hold::hold_word-returns-clause-goes_on : goal.hold::hold_word-returns-clause-goes_on
hold::hold_word-returns-clause-goes_on g t c =
    let x = whole c.args.pass.now in let u = whole c.take_word-taken.new.pass in let z = whole c.help_linked-help.new.pass in
    goes_then x z (whole c.take_word-again.new.pass) (goes_then x u z c.take_word-taken.ensures.goes_on c.help_linked-help.ensures.goes_on) c.take_word-again.ensures.goes_on

pub hold::hold_word-returns-clause-followed : goal.hold::hold_word-returns-clause-followed
hold::hold_word-returns-clause-followed g t c =
    let k = c.take_word-taken in let e = k.ensures in let h = c.help_linked-help in let x = whole c.args.pass.now in let u = whole k.new.pass in let z = whole h.new.pass in
    let at = c.args.place in let met = c.in-Some.met in let a = c.take_word-again.ensures in
    let told = told_of x u c.args.op at None k.result.completed k.result.answer e.decided e.outdated e.met e.fresh e.numbers e.kept e.completed e.in_turn e.another e.exchange in
    let less = h.ensures.links in let some : 1 ≤ c.args.links = omega arith in
    followed_goes z (whole c.take_word-again.new.pass) a.goes_on a.pass.0.2 (c.args.links - h.result.links) x.view
    (followed_link c.args.links h.result.links x.view u z met some less h.ensures.goes_on h.ensures.pass.0.2
    (met_link x u c.args.op at k.result.completed k.result.answer met told c.in-Some.ensures.some c.requires.exchange
    (is_word_goes x u e.goes_on e.pass.0.2 c.args.op at.node at.field c.requires.word)) h.ensures.followed)

pub hold::hold_word-returns-clause-held : goal.hold::hold_word-returns-clause-held
hold::hold_word-returns-clause-held g t c =
    let k = c.take_word-again in let x = whole c.args.pass.now in let u = whole c.take_word-taken.new.pass in let z = whole c.help_linked-help.new.pass in let op = c.args.op in let at = c.args.place in
    held_since x z (whole k.new.pass) (held op.seat op.number at.node at.field)
    (adds_then x.view u.view z.view c.take_word-taken.ensures.goes_on.adds c.help_linked-help.ensures.goes_on.adds) k.result.answer c.earlier-first-2.result c.obstacle_after-2.result
    c.obstacle_after-2.ensures k.ensures.held

pub hold::hold_word-returns-clause-obstacle : goal.hold::hold_word-returns-clause-obstacle
hold::hold_word-returns-clause-obstacle g t c =
    let k = c.take_word-taken in let e = k.ensures in let h = c.help_linked-help in let n = c.take_word-again in let a = n.ensures in
    let x = whole c.args.pass.now in let u = whole k.new.pass in let z = whole h.new.pass in let y = whole n.new.pass in let op = c.args.op in let at = c.args.place in let met = c.in-Some.met in
    let told = told_of x u op at None k.result.completed k.result.answer e.decided e.outdated e.met e.fresh e.numbers e.kept e.completed e.in_turn e.another e.exchange in
    let told' = told_of z y op at k.result.completed n.result.completed n.result.answer a.decided a.outdated a.met a.fresh a.numbers a.kept a.completed a.in_turn a.another a.exchange in
    second_obstacle x u op at k.result.completed k.result.answer met told c.in-Some.ensures.some c.requires.exchange
    z y h.result.links h.result.progress n.result.completed n.result.answer c.earlier-first-2.result c.obstacle_after-2.result h.ensures.goes_on.adds h.ensures.pass.0.2 a.pass.0.2
    (is_word_goes z y a.goes_on a.pass.0.2 op at.node at.field (is_word_goes u z h.ensures.goes_on h.ensures.pass.0.2 op at.node at.field
    (is_word_goes x u e.goes_on e.pass.0.2 op at.node at.field c.requires.word))) h.ensures.come (sym c.hindrance.ensures ∙ c.in_default-hindrance.is) told'
    c.args.links c.earlier-first-2.ensures.install c.earlier-first-2.ensures.exchange c.obstacle_after-2.ensures

pub hold::hold_word-returns-in_default-clause-bounded : goal.hold::hold_word-returns-in_default-clause-bounded
hold::hold_word-returns-in_default-clause-bounded g t c = let k = c.take_word-taken in
    word_once (board_size c.args.board.now).slots (c.args.links - c.args.links) (view c.args.pass.now) (view k.new.pass) k.result.completed k.ensures.most

pub hold::hold_word-returns-then-links-eq0-clause-bounded : goal.hold::hold_word-returns-then-links-eq0-clause-bounded
hold::hold_word-returns-then-links-eq0-clause-bounded g t c = let k = c.take_word-taken in
    word_once (board_size c.args.board.now).slots (c.args.links - c.args.links) (view c.args.pass.now) (view k.new.pass) k.result.completed k.ensures.most

pub hold::hold_word-returns-in-Some-hindrance-clause-bounded : goal.hold::hold_word-returns-in-Some-hindrance-clause-bounded
hold::hold_word-returns-in-Some-hindrance-clause-bounded g t c = let k = c.take_word-taken in let h = c.help_linked-help in
    let less = h.ensures.links in let some : 1 ≤ c.args.links = omega arith in
    word_helped (board_size c.args.board.now).slots c.args.links h.result.links (view c.args.pass.now) (view k.new.pass) (view h.new.pass) k.result.completed some less
    k.ensures.most h.ensures.bounded

pub hold::hold_word-returns-clause-bounded : goal.hold::hold_word-returns-clause-bounded
hold::hold_word-returns-clause-bounded g t c = let k = c.take_word-taken in let h = c.help_linked-help in let n = c.take_word-again in
    let less = h.ensures.links in let some : 1 ≤ c.args.links = omega arith in
    word_twice (board_size c.args.board.now).slots c.args.links h.result.links (view c.args.pass.now) (view k.new.pass) (view h.new.pass) (view n.new.pass)
    k.result.completed n.result.completed some less k.ensures.most h.ensures.bounded n.ensures.most
