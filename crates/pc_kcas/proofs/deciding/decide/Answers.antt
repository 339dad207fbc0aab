-- The decision, by what stood in the status.
use Rattle.std.proofs.Common.{ℕ, ◌-◌, ◌+◌, ◌≡◌, ◌∷◌, refl, sym, ap, ◌∙◌, subst, arith}
use Rattle.pc_words.specs.declared.status.Status.{Status}
use Rattle.pc_words.specs.Statuses.{unpacked}
use Rattle.pc_rule_law.specs.Past.{Has}
use Rattle.pc_rule_law.specs.Plays.{StatusLoaded}
use Rattle.pc_rule_law.specs.Views.{decided_below}
use Rattle.pc_exchange_law.specs.Knowing.{StatusSeen}
use Rattle.pc_exchange_law.specs.Ties.{code}
use Rattle.pc_exchange_law.specs.Wholes.{Whole}
use Rattle.pc_exchange_law.specs.WholePlays.{OwnVerdict, verdict_by}
use Rattle.pc_protocol.specs.Notes.{verdict}
use Rattle.pc_rule.specs.Deciding.{MayDecide}
use Rattle.pc_rule.specs.Passes.{whole, board_size}
use Rattle.pc_kcas.proofs.Learning.{learnt_decision, decision_told, told_by}
use Rattle.pc_kcas.proofs.Standing.{stands_seen, not_undecided, settled_by, settles_idle, settles_open, may_decide}
use Rattle.pc_kcas.proofs.Courses.{course_seen, course_put}
use Rattle.pc_kcas.proofs.Failing.{failure_seen, failure_put}
use Rattle.pc_kcas.proofs.deciding.decide.Goals as goal

pub step_14-found-requires-clause-may : goal.step_14-found-requires-clause-may
step_14-found-requires-clause-may g c = λ _ _. let o = c.args.op in let at : o.seat ≡ (o.seat + 1) - 1 = omega arith in
    subst (λ i. MayDecide (board_size c.args.board.now) (whole c.args.pass.now) i c.pack-old.result c.pack-new.result) at
    (may_decide (board_size c.args.board.now) (whole c.args.pass.now) o.seat o.number c.args.stage c.pack-old.result c.pack-new.result
    c.pack-old.ensures.packed c.pack-new.ensures.packed c.requires.attempt c.requires.range c.requires.may)

pub returns-then-found-old-clause-learnt : goal.returns-then-found-old-clause-learnt
returns-then-found-old-clause-learnt g c = let x = whole c.args.pass.now in let y = whole c.step_14-found.new.pass in let o = c.args.op in
    let m = told_by (code ((o.seat + 1) - 1) (unpacked c.pack-old.result).number) (verdict_by (unpacked c.pack-new.result).stage) in
    learnt_decision x y ((o.seat + 1) - 1) (unpacked c.pack-old.result).number _ m (c.step_14-found.ensures.told.hit c.if-found-old.true) refl refl refl

pub returns-then-found-old-clause-settled : goal.returns-then-found-old-clause-settled
returns-then-found-old-clause-settled g c = let x = whole c.args.pass.now in let y = whole c.step_14-found.new.pass in let o = c.args.op in
    let at : (o.seat + 1) - 1 ≡ o.seat = omega arith in
    let n = verdict (code ((o.seat + 1) - 1) (unpacked c.pack-old.result).number) (verdict_by (unpacked c.pack-new.result).stage) in
    let told = decision_told x y ((o.seat + 1) - 1) (unpacked c.pack-old.result).number _ n _ (c.step_14-found.ensures.told.hit c.if-found-old.true) refl in
    settled_by y o.seat o.number c.args.stage (settles_idle x o.seat o.number c.args.stage c.requires.may) (settles_open x o.seat o.number c.args.stage c.requires.may)
    (rw (sym at, sym (ap (λ (s : Status). s.number) c.pack-old.ensures.back), sym (ap (λ (s : Status). s.stage) c.pack-new.ensures.back)) told)

pub returns-clause-settled : goal.returns-clause-settled
returns-clause-settled g c = let x = whole c.args.pass.now in let y = whole c.step_14-found.new.pass in let o = c.args.op in let r = c.step_14-found.result in
    let at : (o.seat + 1) - 1 ≡ o.seat = omega arith in
    let m = c.step_14-found.ensures.told.miss c.if-found-old.false in
    rw c.unpack.ensures.status record {
      stands = stands_seen x y o.seat o.number (unpacked r) c.requires.known
          (subst (λ i. StatusLoaded x.view i (unpacked r) y.view) at m.1)
          (subst (λ i. StatusSeen x.knows i (unpacked r) y.knows) at m.2);
      over = not_undecided r o.number m.0 (λ e. c.if-found-old.false (e ∙ sym c.pack-old.ensures.packed));
    }

pub returns-then-found-old-clause-failure : goal.returns-then-found-old-clause-failure
returns-then-found-old-clause-failure g c = let x = whole c.args.pass.now in let y = whole c.step_14-found.new.pass in let o = c.args.op in
    let at : (o.seat + 1) - 1 ≡ o.seat = omega arith in
    let n = verdict (code ((o.seat + 1) - 1) (unpacked c.pack-old.result).number) (verdict_by (unpacked c.pack-new.result).stage) in
    let m = told_by (code ((o.seat + 1) - 1) (unpacked c.pack-old.result).number) (verdict_by (unpacked c.pack-new.result).stage) in
    let hit = c.step_14-found.ensures.told.hit c.if-found-old.true in
    let l = learnt_decision x y ((o.seat + 1) - 1) (unpacked c.pack-old.result).number _ m hit refl refl refl in
    let told = decision_told x y ((o.seat + 1) - 1) (unpacked c.pack-old.result).number _ n _ hit refl in
    failure_put x y o.seat o.number c.args.stage c.requires.may l.told
    (rw (sym at, sym (ap (λ (s : Status). s.number) c.pack-old.ensures.back), sym (ap (λ (s : Status). s.stage) c.pack-new.ensures.back)) told)

pub returns-clause-failure : goal.returns-clause-failure
returns-clause-failure g c = let x = whole c.args.pass.now in let y = whole c.step_14-found.new.pass in let o = c.args.op in let r = c.step_14-found.result in
    let at : (o.seat + 1) - 1 ≡ o.seat = omega arith in
    let m = c.step_14-found.ensures.told.miss c.if-found-old.false in
    rw c.unpack.ensures.status (failure_seen x y o.seat (unpacked r)
    (subst (λ i. StatusSeen x.knows i (unpacked r) y.knows) at m.2)
    (subst (λ i. OwnVerdict x i (unpacked r) y) at m.4))

pub returns-then-found-old-clause-course : goal.returns-then-found-old-clause-course
returns-then-found-old-clause-course g c = let x = whole c.args.pass.now in let y = whole c.step_14-found.new.pass in let o = c.args.op in
    let at : (o.seat + 1) - 1 ≡ o.seat = omega arith in
    let number : (unpacked c.pack-old.result).number ≡ o.number = ap (λ (s : Status). s.number) c.pack-old.ensures.back in
    let notes : y.view.notes ≡ decided_below ((o.seat + 1) - 1) ((unpacked c.pack-old.result).number + 1) ∷ x.view.notes = ap (λ (w : Whole). w.view.notes) (c.step_14-found.ensures.told.hit c.if-found-old.true) in
    let first : Has y.view.notes (decided_below ((o.seat + 1) - 1) ((unpacked c.pack-old.result).number + 1)) = subst (λ l. Has l (decided_below ((o.seat + 1) - 1) ((unpacked c.pack-old.result).number + 1))) (sym notes) (0, refl) in
    course_put x y o c.args.stage (subst (λ (i : ℕ × ℕ). Has y.view.notes (decided_below i.0 (i.1 + 1))) (λ t. (at t, number t)) first)
    (settles_idle x o.seat o.number c.args.stage c.requires.may) (settles_open x o.seat o.number c.args.stage c.requires.may)

pub returns-clause-course : goal.returns-clause-course
returns-clause-course g c = let x = whole c.args.pass.now in let y = whole c.step_14-found.new.pass in let o = c.args.op in let r = c.step_14-found.result in
    let at : (o.seat + 1) - 1 ≡ o.seat = omega arith in
    let m = c.step_14-found.ensures.told.miss c.if-found-old.false in
    rw c.unpack.ensures.status (course_seen x y o (unpacked r)
    (subst (λ i. StatusLoaded x.view i (unpacked r) y.view) at m.1)
    (subst (λ i. StatusSeen x.knows i (unpacked r) y.knows) at m.2))
