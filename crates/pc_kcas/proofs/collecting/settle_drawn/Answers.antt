-- The check leaves what the decision asks for.
use Rattle.std.proofs.Common.{inl, arith}
use Rattle.pc_protocol.specs.Notes.{drew}
use Rattle.pc_exchange_law.specs.Ties.{code}
use Rattle.pc_rule.specs.Passes.{whole, view, board_size}
use Rattle.pc_dcss.proofs.Staying.{notes_ranged}
use Rattle.pc_kcas.proofs.Collected.{come_goes, counts_goes}
use Rattle.pc_kcas.proofs.Going.{goes_learnt}
use Rattle.pc_kcas.proofs.Learning.{learnt_then, of_still}
use Rattle.pc_kcas.proofs.ReadWords.{met_attempt}
use Rattle.pc_kcas.proofs.VisitChecks.{all_checked, settled_status}
use Rattle.pc_kcas.proofs.collecting.settle_drawn.Goals as goal

pub decide-requires-clause-attempt : goal.decide-requires-clause-attempt
decide-requires-clause-attempt g c = λ _ _. let b = c.args.board.now in let p = c.args.pass.now in
    met_attempt (board_size b) (view p) c.args.op (notes_ranged b p c.requires.pass) c.requires.come.0

pub decide-requires-clause-known : goal.decide-requires-clause-known
decide-requires-clause-known g c = λ _ _. let op = c.args.op in
    of_still (whole c.args.pass.now) (whole c.check_visits.new.pass) c.check_visits.ensures.learnt op.seat op.number (inl c.requires.come.0)

pub decide-requires-clause-may : goal.decide-requires-clause-may
decide-requires-clause-may g c = λ _ _. let x = whole c.args.pass.now in let y = whole c.check_visits.new.pass in let op = c.args.op in
    let l = c.check_visits.ensures.learnt in let early = c.requires.early in record {
      drawn = l.told (drew (code op.seat op.number) c.args.stamp) c.requires.drawn;
      low = omega arith;
      checked = all_checked y op c.args.stamp c.args.counts.visits (counts_goes x y op c.args.counts (goes_learnt x y l) c.requires.counts).3 c.in-None.ensures.passed;
    }

pub settle_failed-requires-clause-come : goal.settle_failed-requires-clause-come
settle_failed-requires-clause-come g c = λ _ _. let x = whole c.args.pass.now in let y = whole c.check_visits.new.pass in
    come_goes x y c.args.op (goes_learnt x y c.check_visits.ensures.learnt) c.requires.come

pub returns-in-None-clause-learnt : goal.returns-in-None-clause-learnt
returns-in-None-clause-learnt g c = learnt_then (whole c.args.pass.now) (whole c.check_visits.new.pass) (whole c.decide.new.pass) c.check_visits.ensures.learnt c.decide.ensures.learnt

pub returns-in-None-clause-came : goal.returns-in-None-clause-came
returns-in-None-clause-came g c = let k = c.decide in
    settled_status (whole c.args.pass.now) (whole c.check_visits.new.pass) (whole k.new.pass) c.args.op k.result c.check_visits.ensures.learnt.view.adds k.ensures.settled k.ensures.course

pub returns-in-Some-clause-learnt : goal.returns-in-Some-clause-learnt
returns-in-Some-clause-learnt g c = learnt_then (whole c.args.pass.now) (whole c.check_visits.new.pass) (whole c.settle_failed.new.pass) c.check_visits.ensures.learnt
    c.settle_failed.ensures.learnt

pub returns-in-Some-clause-came : goal.returns-in-Some-clause-came
returns-in-Some-clause-came g c = c.settle_failed.ensures.came (whole c.args.pass.now) c.check_visits.ensures.learnt.view.adds c.in-Some.ensures.failed
