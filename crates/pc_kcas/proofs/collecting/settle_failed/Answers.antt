-- By what failed.
use Rattle.std.proofs.Common.{subst}
use Rattle.pc_rule.specs.Passes.{whole, view, board_size}
use Rattle.pc_dcss.proofs.Staying.{notes_ranged}
use Rattle.pc_kcas.specs.Checking.{HasFailed}
use Rattle.pc_kcas.proofs.ReadWords.{met_attempt}
use Rattle.pc_kcas.proofs.VisitChecks.{settled_status}
use Rattle.pc_kcas.proofs.collecting.settle_failed.Goals as goal

pub decide_changed-requires-clause-attempt : goal.decide_changed-requires-clause-attempt
decide_changed-requires-clause-attempt g c = λ _ _. let b = c.args.board.now in let p = c.args.pass.now in
    met_attempt (board_size b) (view p) c.args.op (notes_ranged b p c.requires.pass) c.requires.come.0

pub decide_locked-requires-clause-attempt : goal.decide_locked-requires-clause-attempt
decide_locked-requires-clause-attempt g c = λ _ _. let b = c.args.board.now in let p = c.args.pass.now in
    met_attempt (board_size b) (view p) c.args.op (notes_ranged b p c.requires.pass) c.requires.come.0

pub decide_locked-requires-clause-may : goal.decide_locked-requires-clause-may
decide_locked-requires-clause-may g c = λ _ _. let f = c.requires.failed in
    let h = subst (HasFailed f.0 (whole c.args.pass.now) c.args.op c.args.stamp) c.in-Locked.is f.1 in (c.args.stamp, c.requires.drawn, h.3, h.2, h.4)

pub returns-in-Changed-clause-came : goal.returns-in-Changed-clause-came
returns-in-Changed-clause-came g c = λ o adds _. let k = c.decide_changed in
    settled_status o (whole c.args.pass.now) (whole k.new.pass) c.args.op k.result adds k.ensures.settled k.ensures.course

pub returns-in-Locked-clause-came : goal.returns-in-Locked-clause-came
returns-in-Locked-clause-came g c = λ o adds _. let k = c.decide_locked in
    settled_status o (whole c.args.pass.now) (whole k.new.pass) c.args.op k.result adds k.ensures.settled k.ensures.course
