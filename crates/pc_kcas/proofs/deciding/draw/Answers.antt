-- What three steps tell: a load of the clock, one of the status, and the draw.
use Rattle.std.proofs.Common.{rules, ◌≡◌, ◌<◌, refl, ap₂, ◌∙◌}
use Rattle.pc_exchange_law.specs.Knowing.{after_draw, after_refusal}
use Rattle.pc_exchange_law.specs.Ties.{code, last_stamp}
use Rattle.pc_protocol.specs.Notes.{clock_was, drew}
use Rattle.pc_rule.specs.Passes.{whole}
use Rattle.pc_kcas.specs.Settling.{HasLearnt}
use Rattle.pc_kcas.proofs.Learning.{learnt_then, learnt_note, clock_learnt, holds_still, of_still, known_by_holding, draws_for}
use Rattle.pc_kcas.proofs.Courses.{course_before}
use Rattle.pc_kcas.proofs.Failing.{failure_before}
use Rattle.pc_kcas.proofs.deciding.draw.Goals as goal

pub returns-then-clock-ge-LAST_STAMP-clause-learnt : goal.returns-then-clock-ge-LAST_STAMP-clause-learnt
returns-then-clock-ge-LAST_STAMP-clause-learnt g c = let e = c.step_9-clock.ensures in clock_learnt (whole c.args.pass.now) (whole c.step_9-clock.new.pass) c.step_9-clock.result e.told e.learnt

pub load_status-status-requires-clause-known : goal.load_status-status-requires-clause-known
load_status-status-requires-clause-known g c = λ _ _. let e = c.step_9-clock.ensures in let x = whole c.args.pass.now in let y = whole c.step_9-clock.new.pass in let o = c.args.op in
    of_still x y (clock_learnt x y c.step_9-clock.result e.told e.learnt) o.seat o.number (known_by_holding x o.seat o.number c.requires.held)

pub returns-then-status-op-clause-learnt : goal.returns-then-status-op-clause-learnt
returns-then-status-op-clause-learnt g c = let e = c.step_9-clock.ensures in let x = whole c.args.pass.now in let y = whole c.step_9-clock.new.pass in
    learnt_then x y (whole c.load_status-status.new.pass) (clock_learnt x y c.step_9-clock.result e.told e.learnt) c.load_status-status.ensures.learnt

pub returns-then-not-is_open-clause-learnt : goal.returns-then-not-is_open-clause-learnt
returns-then-not-is_open-clause-learnt g c = let e = c.step_9-clock.ensures in let x = whole c.args.pass.now in let y = whole c.step_9-clock.new.pass in
    learnt_then x y (whole c.load_status-status.new.pass) (clock_learnt x y c.step_9-clock.result e.told e.learnt) c.load_status-status.ensures.learnt

pub step_13-stamp-requires-clause-may : goal.step_13-stamp-requires-clause-may
step_13-stamp-requires-clause-may g c = λ _ _. let e = c.step_9-clock.ensures in let s = c.load_status-status.ensures in
    let x = whole c.args.pass.now in let y = whole c.step_9-clock.new.pass in let z = whole c.load_status-status.new.pass in let o = c.args.op in
    let l : HasLearnt x z = learnt_then x y z (clock_learnt x y c.step_9-clock.result e.told e.learnt) s.learnt in
    let low : c.step_9-clock.result < last_stamp = search rules in
    let at : c.load_status-status.result.number ≡ o.number = search rules in
    (s.aim ∙ ap₂ (λ a b. (a, b)) refl at, draws_for z o.seat o.number (s.ready ∙ e.learnt.early low) (holds_still x z l o.seat o.number c.requires.held))

pub returns-then-stamp-ge-LAST_STAMP-clause-learnt : goal.returns-then-stamp-ge-LAST_STAMP-clause-learnt
returns-then-stamp-ge-LAST_STAMP-clause-learnt g c = let e = c.step_9-clock.ensures in let s = c.load_status-status.ensures in
    let x = whole c.args.pass.now in let y = whole c.step_9-clock.new.pass in let z = whole c.load_status-status.new.pass in let r = c.step_13-stamp.result in
    learnt_then x z (whole c.step_13-stamp.new.pass) (learnt_then x y z (clock_learnt x y c.step_9-clock.result e.told e.learnt) s.learnt)
    (learnt_note z (whole c.step_13-stamp.new.pass) (after_refusal z.knows r) (clock_was r) (c.step_13-stamp.ensures.refused (search rules)) refl refl refl)

pub returns-clause-learnt : goal.returns-clause-learnt
returns-clause-learnt g c = let e = c.step_9-clock.ensures in let s = c.load_status-status.ensures in let o = c.args.op in
    let x = whole c.args.pass.now in let y = whole c.step_9-clock.new.pass in let z = whole c.load_status-status.new.pass in let r = c.step_13-stamp.result in
    learnt_then x z (whole c.step_13-stamp.new.pass) (learnt_then x y z (clock_learnt x y c.step_9-clock.result e.told e.learnt) s.learnt)
    (learnt_note z (whole c.step_13-stamp.new.pass) (after_draw z.knows (code o.seat o.number) r) (drew (code o.seat o.number) r) (c.step_13-stamp.ensures.drawn (search rules)) refl refl refl)

pub returns-then-status-op-clause-failure : goal.returns-then-status-op-clause-failure
returns-then-status-op-clause-failure g c = let e = c.step_9-clock.ensures in let x = whole c.args.pass.now in let y = whole c.step_9-clock.new.pass in
    failure_before x y (whole c.load_status-status.new.pass) c.args.op.seat c.load_status-status.result (clock_learnt x y c.step_9-clock.result e.told e.learnt) c.load_status-status.ensures.failure

pub returns-then-not-is_open-clause-failure : goal.returns-then-not-is_open-clause-failure
returns-then-not-is_open-clause-failure g c = let e = c.step_9-clock.ensures in let x = whole c.args.pass.now in let y = whole c.step_9-clock.new.pass in
    failure_before x y (whole c.load_status-status.new.pass) c.args.op.seat c.load_status-status.result (clock_learnt x y c.step_9-clock.result e.told e.learnt) c.load_status-status.ensures.failure

pub returns-then-status-op-clause-course : goal.returns-then-status-op-clause-course
returns-then-status-op-clause-course g c = let e = c.step_9-clock.ensures in let x = whole c.args.pass.now in let y = whole c.step_9-clock.new.pass in
    course_before x y (whole c.load_status-status.new.pass) c.args.op c.load_status-status.result (clock_learnt x y c.step_9-clock.result e.told e.learnt).view.more c.load_status-status.ensures.course

pub returns-then-not-is_open-clause-course : goal.returns-then-not-is_open-clause-course
returns-then-not-is_open-clause-course g c = let e = c.step_9-clock.ensures in let x = whole c.args.pass.now in let y = whole c.step_9-clock.new.pass in
    course_before x y (whole c.load_status-status.new.pass) c.args.op c.load_status-status.result (clock_learnt x y c.step_9-clock.result e.told e.learnt).view.more c.load_status-status.ensures.course
