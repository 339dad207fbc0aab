-- It is stuck as it was, or the status that is loaded doesn't say that the exchange is undecided.
use Rattle.std.proofs.Common.{◌∙◌}
use Rattle.pc_rule.specs.Passes.{whole, view}
use Rattle.pc_dcss.proofs.Staying.{adds_then}
use Rattle.pc_kcas.proofs.Counted.{none_installed}
use Rattle.pc_kcas.proofs.Courses.{past_loaded}
use Rattle.pc_kcas.proofs.Evidence.{goes_then, stuck_goes}
use Rattle.pc_kcas.proofs.Going.{goes_later}
use Rattle.pc_kcas.proofs.HelpEnds.{cleaned_since, course_loaded}
use Rattle.pc_kcas.proofs.ReadWords.{come_still}
use Rattle.pc_kcas.proofs.TakeWords.{free_later}
use Rattle.pc_kcas.proofs.helping.end_stuck.Goals as goal

pub returns-then-says_open-clause-free : goal.returns-then-says_open-clause-free
returns-then-says_open-clause-free g c =
    free_later (view c.args.pass.now) (view c.load_status-status.new.pass) c.load_status-status.ensures.loaded.told.later c.requires.free

pub returns-then-says_open-clause-come : goal.returns-then-says_open-clause-come
returns-then-says_open-clause-come g c = λ o left adds h.
    let x = whole c.args.pass.now in let k = c.load_status-status in let y = whole k.new.pass in let l = k.ensures.loaded in
    (stuck_goes x y (goes_later x y l.told.later l.learnt.learns) k.ensures.pass.0.2 o.view left c.args.stuck h.0, h.1)

pub conclude_helped-requires-clause-free : goal.conclude_helped-requires-clause-free
conclude_helped-requires-clause-free g c = λ _ _.
    free_later (view c.args.pass.now) (view c.load_status-status.new.pass) c.load_status-status.ensures.loaded.told.later c.requires.free

pub conclude_helped-requires-clause-come : goal.conclude_helped-requires-clause-come
conclude_helped-requires-clause-come g c = λ _ _. let l = c.load_status-status.ensures.loaded in
    come_still (whole c.args.pass.now) (whole c.load_status-status.new.pass) c.args.op l.told.later l.learnt.learns c.requires.come

pub conclude_helped-requires-clause-past : goal.conclude_helped-requires-clause-past
conclude_helped-requires-clause-past g c = λ _ _. let k = c.load_status-status in
    past_loaded (whole c.args.pass.now) (whole k.new.pass) c.args.op k.result k.ensures.loaded k.ensures.ahead (c.says_open.ensures.no c.if-says_open.false)

pub returns-clause-goes_on : goal.returns-clause-goes_on
returns-clause-goes_on g c =
    let x = whole c.args.pass.now in let y = whole c.load_status-status.new.pass in let l = c.load_status-status.ensures.loaded in
    goes_then x y (whole c.conclude_helped.new.pass) (goes_later x y l.told.later l.learnt.learns) c.conclude_helped.ensures.goes_on

pub returns-clause-come : goal.returns-clause-come
returns-clause-come g c = λ o left adds _.
    let x = whole c.args.pass.now in let k = c.load_status-status in let y = whole k.new.pass in let l = k.ensures.loaded in
    c.conclude_helped.ensures.come o left (adds_then o.view x.view y.view adds l.told.later.adds) (cleaned_since o x y c.args.op k.result adds (course_loaded x y c.args.op k.result l))

pub returns-clause-no_install : goal.returns-clause-no_install
returns-clause-no_install g c = c.conclude_helped.ensures.no_install ∙ none_installed (view c.args.pass.now) (view c.load_status-status.new.pass) c.load_status-status.ensures.loaded.told.later

pub returns-then-says_open-clause-no_install : goal.returns-then-says_open-clause-no_install
returns-then-says_open-clause-no_install g c = none_installed (view c.args.pass.now) (view c.load_status-status.new.pass) c.load_status-status.ensures.loaded.told.later
