-- The draw leaves what the decision asks for.
use Rattle.std.proofs.Common.{inl}
use Rattle.pc_rule.specs.Passes.{whole, view, board_size}
use Rattle.pc_dcss.proofs.Staying.{notes_ranged}
use Rattle.pc_kcas.proofs.Collected.{come_goes, counts_goes, holds_each}
use Rattle.pc_kcas.proofs.Going.{goes_learnt}
use Rattle.pc_kcas.proofs.Learning.{learnt_then, of_still}
use Rattle.pc_kcas.proofs.ReadWords.{met_attempt}
use Rattle.pc_kcas.proofs.TakeWords.{free_later}
use Rattle.pc_kcas.proofs.VisitChecks.{settled_status, settled_since}
use Rattle.pc_kcas.proofs.collecting.settle_collected.Goals as goal

pub draw-requires-clause-attempt : goal.draw-requires-clause-attempt
draw-requires-clause-attempt g c = λ _ _. let b = c.args.board.now in let p = c.args.pass.now in
    met_attempt (board_size b) (view p) c.args.op (notes_ranged b p c.requires.pass) c.requires.come.0

pub draw-requires-clause-held : goal.draw-requires-clause-held
draw-requires-clause-held g c = λ _ _. holds_each (whole c.args.pass.now) c.args.op c.args.counts.changes c.requires.counts.1 c.requires.come c.requires.holds

pub settle_drawn-requires-clause-free : goal.settle_drawn-requires-clause-free
settle_drawn-requires-clause-free g c = λ _ _. free_later (view c.args.pass.now) (view c.draw.new.pass) c.draw.ensures.learnt.view c.requires.free

pub settle_drawn-requires-clause-come : goal.settle_drawn-requires-clause-come
settle_drawn-requires-clause-come g c = λ _ _. let x = whole c.args.pass.now in let y = whole c.draw.new.pass in
    come_goes x y c.args.op (goes_learnt x y c.draw.ensures.learnt) c.requires.come

pub settle_drawn-requires-clause-counts : goal.settle_drawn-requires-clause-counts
settle_drawn-requires-clause-counts g c = λ _ _. let x = whole c.args.pass.now in let y = whole c.draw.new.pass in
    counts_goes x y c.args.op c.args.counts (goes_learnt x y c.draw.ensures.learnt) c.requires.counts

pub decide-requires-clause-attempt : goal.decide-requires-clause-attempt
decide-requires-clause-attempt g c = λ _ _. let b = c.args.board.now in let p = c.args.pass.now in
    met_attempt (board_size b) (view p) c.args.op (notes_ranged b p c.requires.pass) c.requires.come.0

pub decide-requires-clause-known : goal.decide-requires-clause-known
decide-requires-clause-known g c = λ _ _. let op = c.args.op in
    of_still (whole c.args.pass.now) (whole c.draw.new.pass) c.draw.ensures.learnt op.seat op.number (inl c.requires.come.0)

pub returns-in-Stamp-clause-learnt : goal.returns-in-Stamp-clause-learnt
returns-in-Stamp-clause-learnt g c = learnt_then (whole c.args.pass.now) (whole c.draw.new.pass) (whole c.settle_drawn.new.pass) c.draw.ensures.learnt c.settle_drawn.ensures.learnt

pub returns-in-Stamp-clause-came : goal.returns-in-Stamp-clause-came
returns-in-Stamp-clause-came g c = let k = c.settle_drawn in
    settled_since (whole c.args.pass.now) (whole c.draw.new.pass) (whole k.new.pass) c.args.op k.result c.draw.ensures.learnt.view.adds k.ensures.came

pub returns-in-Refused-clause-learnt : goal.returns-in-Refused-clause-learnt
returns-in-Refused-clause-learnt g c = learnt_then (whole c.args.pass.now) (whole c.draw.new.pass) (whole c.decide.new.pass) c.draw.ensures.learnt c.decide.ensures.learnt

pub returns-in-Refused-clause-came : goal.returns-in-Refused-clause-came
returns-in-Refused-clause-came g c = let k = c.decide in
    settled_status (whole c.args.pass.now) (whole c.draw.new.pass) (whole k.new.pass) c.args.op k.result c.draw.ensures.learnt.view.adds k.ensures.settled k.ensures.course
