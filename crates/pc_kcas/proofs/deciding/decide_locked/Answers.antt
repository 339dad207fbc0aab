-- The decision, and the load of the status that tells of it.
use Rattle.std.proofs.Common.{◌≡◌, ◌-◌, ◌+◌, inr, refl, ap, subst, arith}
use Rattle.pc_words.specs.declared.status.Status.{Status}
use Rattle.pc_words.specs.Statuses.{unpacked}
use Rattle.pc_protocol.specs.Histories.{locked}
use Rattle.pc_exchange_law.specs.Ties.{code}
use Rattle.pc_exchange_law.specs.WholePlays.{verdict_by}
use Rattle.pc_rule.specs.Deciding.{MayDecide}
use Rattle.pc_rule.specs.Passes.{whole, view, board_size}
use Rattle.pc_rule.proofs.BoardSizes.{few_slots}
use Rattle.pc_kcas.specs.Settling.{HasLearnt}
use Rattle.pc_kcas.proofs.Courses.{course_before, still_closed}
use Rattle.pc_kcas.proofs.Failing.{failure_before}
use Rattle.pc_kcas.proofs.Learning.{learnt_then, of_still, told_by}
use Rattle.pc_kcas.proofs.VisitChecks.{tried_learnt, tried_decided_at}
use Rattle.pc_kcas.proofs.deciding.decide_locked.Goals as goal

pub step_18-requires-clause-may : goal.step_18-requires-clause-may
step_18-requires-clause-may g c = λ _ _. let o = c.args.op in let at : o.seat ≡ (o.seat + 1) - 1 = omega arith in
    let node = c.requires.node.1 in let few = few_slots c.args.board.now in
    subst (λ i. MayDecide (board_size c.args.board.now) (whole c.args.pass.now) i c.pack-old.result c.pack-new.result) at
    (o.number, c.pack-old.ensures.packed, c.requires.attempt, inr (locked c.args.node c.args.by, c.pack-new.ensures.packed, (omega arith, c.requires.by), c.requires.may))

pub load_status-requires-clause-known : goal.load_status-requires-clause-known
load_status-requires-clause-known g c = λ _ _. let x = whole c.args.pass.now in let y = whole c.step_18.new.pass in let o = c.args.op in
    let l : HasLearnt x y = tried_learnt x y ((o.seat + 1) - 1) (unpacked c.pack-old.result).number c.pack-old.result c.step_18.result _
    (told_by (code ((o.seat + 1) - 1) (unpacked c.pack-old.result).number) (verdict_by (unpacked c.pack-new.result).stage)) c.step_18.ensures.told refl refl refl in
    of_still x y l o.seat o.number c.requires.known

pub returns-clause-learnt : goal.returns-clause-learnt
returns-clause-learnt g c = let x = whole c.args.pass.now in let y = whole c.step_18.new.pass in let o = c.args.op in
    let l : HasLearnt x y = tried_learnt x y ((o.seat + 1) - 1) (unpacked c.pack-old.result).number c.pack-old.result c.step_18.result _
    (told_by (code ((o.seat + 1) - 1) (unpacked c.pack-old.result).number) (verdict_by (unpacked c.pack-new.result).stage)) c.step_18.ensures.told refl refl refl in
    learnt_then x y (whole c.load_status.new.pass) l c.load_status.ensures.learnt

pub returns-clause-settled : goal.returns-clause-settled
returns-clause-settled g c = let x = whole c.args.pass.now in let y = whole c.step_18.new.pass in let o = c.args.op in
    let at : (o.seat + 1) - 1 ≡ o.seat = omega arith in
    let decided = tried_decided_at x y o ((o.seat + 1) - 1) c.pack-old.result c.step_18.result _ at c.requires.known c.pack-old.ensures.packed
    (ap (λ (s : Status). s.number) c.pack-old.ensures.back) c.step_18.ensures.told in record {
      stands = c.load_status.ensures.stands;
      over = still_closed (view c.step_18.new.pass) o c.load_status.result decided c.load_status.ensures.still_decided;
    }

pub returns-clause-failure : goal.returns-clause-failure
returns-clause-failure g c = let x = whole c.args.pass.now in let y = whole c.step_18.new.pass in let o = c.args.op in
    let l : HasLearnt x y = tried_learnt x y ((o.seat + 1) - 1) (unpacked c.pack-old.result).number c.pack-old.result c.step_18.result _
    (told_by (code ((o.seat + 1) - 1) (unpacked c.pack-old.result).number) (verdict_by (unpacked c.pack-new.result).stage)) c.step_18.ensures.told refl refl refl in
    failure_before x y (whole c.load_status.new.pass) o.seat c.load_status.result l c.load_status.ensures.failure

pub returns-clause-course : goal.returns-clause-course
returns-clause-course g c = let x = whole c.args.pass.now in let y = whole c.step_18.new.pass in let o = c.args.op in
    let l : HasLearnt x y = tried_learnt x y ((o.seat + 1) - 1) (unpacked c.pack-old.result).number c.pack-old.result c.step_18.result _
    (told_by (code ((o.seat + 1) - 1) (unpacked c.pack-old.result).number) (verdict_by (unpacked c.pack-new.result).stage)) c.step_18.ensures.told refl refl refl in
    course_before x y (whole c.load_status.new.pass) o c.load_status.result l.view.more c.load_status.ensures.course
