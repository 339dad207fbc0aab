-- By the obstacle: what is known of it is what the end of the help asks for.
use Rattle.std.proofs.Common.{◌∙◌, subst}
use Rattle.pc_rule.specs.Passes.{whole, view, board_size}
use Rattle.pc_dcss.proofs.Staying.{adds_then, notes_ranged}
use Rattle.pc_kcas.specs.Obstacles.{IsObstacle}
use Rattle.pc_kcas.proofs.Collected.{come_goes}
use Rattle.pc_kcas.proofs.Counted.{none_installed}
use Rattle.pc_kcas.proofs.Courses.{past_settled}
use Rattle.pc_kcas.proofs.Evidence.{goes_then}
use Rattle.pc_kcas.proofs.Going.{goes_learnt}
use Rattle.pc_kcas.proofs.HelpEnds.{cleaned_since, stuck_there, stuck_beyond}
use Rattle.pc_kcas.proofs.ReadWords.{met_attempt}
use Rattle.pc_kcas.proofs.TakeWords.{free_later}
use Rattle.pc_kcas.proofs.helping.end_at.Goals as goal

pub decide_changed-status-requires-clause-attempt : goal.decide_changed-status-requires-clause-attempt
decide_changed-status-requires-clause-attempt g c = λ _ _. let b = c.args.board.now in let p = c.args.pass.now in
    met_attempt (board_size b) (view p) c.args.op (notes_ranged b p c.requires.pass) c.requires.come.0

pub conclude_helped-requires-clause-free : goal.conclude_helped-requires-clause-free
conclude_helped-requires-clause-free g c = λ _ _.
    free_later (view c.args.pass.now) (view c.decide_changed-status.new.pass) c.decide_changed-status.ensures.learnt.view c.requires.free

pub conclude_helped-requires-clause-come : goal.conclude_helped-requires-clause-come
conclude_helped-requires-clause-come g c = λ _ _. let x = whole c.args.pass.now in let y = whole c.decide_changed-status.new.pass in
    come_goes x y c.args.op (goes_learnt x y c.decide_changed-status.ensures.learnt) c.requires.come

pub conclude_helped-requires-clause-past : goal.conclude_helped-requires-clause-past
conclude_helped-requires-clause-past g c = λ _ _. let k = c.decide_changed-status in
    past_settled (whole c.args.pass.now) (whole k.new.pass) c.args.op k.result k.ensures.settled k.ensures.course

pub returns-in-Decided-clause-come : goal.returns-in-Decided-clause-come
returns-in-Decided-clause-come g c = λ o left adds _. c.end_decided.ensures.come o left adds tt

pub returns-in-Changed-clause-goes_on : goal.returns-in-Changed-clause-goes_on
returns-in-Changed-clause-goes_on g c = let x = whole c.args.pass.now in let y = whole c.decide_changed-status.new.pass in
    goes_then x y (whole c.conclude_helped.new.pass) (goes_learnt x y c.decide_changed-status.ensures.learnt) c.conclude_helped.ensures.goes_on

pub returns-in-Changed-clause-come : goal.returns-in-Changed-clause-come
returns-in-Changed-clause-come g c = λ o left adds _. let x = whole c.args.pass.now in let k = c.decide_changed-status in let y = whole k.new.pass in
    c.conclude_helped.ensures.come o left (adds_then o.view x.view y.view adds k.ensures.learnt.view.adds) (cleaned_since o x y c.args.op k.result adds k.ensures.course)

pub returns-in-Stuck-clause-come : goal.returns-in-Stuck-clause-come
returns-in-Stuck-clause-come g c = λ o left adds h.
    let s = stuck_there o (whole c.args.pass.now) c.args.op c.args.node h.0 h.1 left c.in-Stuck.stuck
    (subst (IsObstacle o (whole c.args.pass.now) c.args.op c.args.node h.0 h.1 left) c.in-Stuck.is h.4) in c.end_stuck.ensures.come o left adds s

pub returns-in-Beyond-clause-come : goal.returns-in-Beyond-clause-come
returns-in-Beyond-clause-come g c = λ o left adds h.
    let s = stuck_beyond o (whole c.args.pass.now) c.args.op c.args.node h.0 left c.in-Beyond.met c.in-Beyond.stuck c.stuck_with-nearer.result h.3
    (subst (IsObstacle o (whole c.args.pass.now) c.args.op c.args.node h.0 h.1 left) c.in-Beyond.is h.4) c.stuck_with-nearer.ensures in
    c.end_stuck-in-Beyond.ensures.come o left adds s

pub returns-in-Changed-clause-no_install : goal.returns-in-Changed-clause-no_install
returns-in-Changed-clause-no_install g c = let k = c.decide_changed-status in
    c.conclude_helped.ensures.no_install ∙ none_installed (view c.args.pass.now) (view k.new.pass) k.ensures.learnt.view
