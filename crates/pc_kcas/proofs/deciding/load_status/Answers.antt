-- What a load of the status tells.
use Rattle.std.proofs.Common.{◌-◌, ◌+◌, ◌≡◌, subst, arith}
use Rattle.pc_words.specs.Statuses.{unpacked}
use Rattle.pc_rule_law.specs.Plays.{StatusLoaded}
use Rattle.pc_exchange_law.specs.Knowing.{StatusSeen}
use Rattle.pc_exchange_law.specs.WholePlays.{OwnVerdict}
use Rattle.pc_rule.specs.Passes.{whole, view, knows}
use Rattle.pc_kcas.proofs.Standing.{stands_seen}
use Rattle.pc_kcas.proofs.Courses.{course_seen}
use Rattle.pc_kcas.proofs.Failing.{failure_seen}
use Rattle.pc_kcas.proofs.deciding.load_status.Goals as goal

pub returns-clause-stands : goal.returns-clause-stands
returns-clause-stands g c = let p = c.args.pass.now in let q = c.step_7.new.pass in let s = c.args.op.seat in
    let at : (s + 1) - 1 ≡ s = omega arith in
    rw c.unpack.ensures.status (stands_seen (whole p) (whole q) s c.args.op.number (unpacked c.step_7.result) c.requires.known
    (subst (λ i. StatusLoaded (view p) i (unpacked c.step_7.result) (view q)) at c.step_7.ensures.told)
    (subst (λ i. StatusSeen (knows p) i (unpacked c.step_7.result) (knows q)) at c.step_7.ensures.learnt))

pub returns-clause-failure : goal.returns-clause-failure
returns-clause-failure g c = let p = c.args.pass.now in let q = c.step_7.new.pass in let s = c.args.op.seat in
    let at : (s + 1) - 1 ≡ s = omega arith in
    rw c.unpack.ensures.status (failure_seen (whole p) (whole q) s (unpacked c.step_7.result)
    (subst (λ i. StatusSeen (knows p) i (unpacked c.step_7.result) (knows q)) at c.step_7.ensures.learnt)
    (subst (λ i. OwnVerdict (whole p) i (unpacked c.step_7.result) (whole q)) at c.step_7.ensures.own))

pub returns-clause-still_decided : goal.returns-clause-still_decided
returns-clause-still_decided g c = let p = c.args.pass.now in let q = c.step_7.new.pass in let s = c.args.op.seat in
    let at : (s + 1) - 1 ≡ s = omega arith in
    rw c.unpack.ensures.status ((subst (λ i. StatusLoaded (view p) i (unpacked c.step_7.result) (view q)) at c.step_7.ensures.told).still_decided)

pub returns-clause-course : goal.returns-clause-course
returns-clause-course g c = let p = c.args.pass.now in let q = c.step_7.new.pass in let s = c.args.op.seat in
    let at : (s + 1) - 1 ≡ s = omega arith in
    rw c.unpack.ensures.status (course_seen (whole p) (whole q) c.args.op (unpacked c.step_7.result)
    (subst (λ i. StatusLoaded (view p) i (unpacked c.step_7.result) (view q)) at c.step_7.ensures.told)
    (subst (λ i. StatusSeen (knows p) i (unpacked c.step_7.result) (knows q)) at c.step_7.ensures.learnt))
