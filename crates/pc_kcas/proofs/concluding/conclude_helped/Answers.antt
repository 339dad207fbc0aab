-- By the status, or by the words, or by the status that stood behind one of them.
use Rattle.pc_rule.specs.Passes.{whole, view}
use Rattle.pc_kcas.proofs.Concluded.{over_cleared, come_over, come_cleared, clean_met_before}
use Rattle.pc_kcas.proofs.Counted.{none_installed}
use Rattle.pc_kcas.proofs.TakeWords.{free_later}
use Rattle.pc_kcas.proofs.concluding.conclude_helped.Goals as goal

pub returns-then-not-stands-clause-come : goal.returns-then-not-stands-clause-come
returns-then-not-stands-clause-come g c = λ x left adds cleaned. let s = c.args.status in let past = c.requires.past in let e = c.ended_by.ensures in
    come_over x (whole c.args.pass.now) c.args.op left s c.ended_by.result past
    (cleaned (over_cleared c.args.op.number s past.ahead (c.stands.ensures.no c.if-not-stands.true))) e.decided e.gone

pub returns-in-Some-clause-free : goal.returns-in-Some-clause-free
returns-in-Some-clause-free g c = free_later (view c.args.pass.now) (view c.clear_collected.new.pass) c.clear_collected.ensures.learnt.view c.requires.free

pub returns-in-Some-clause-come : goal.returns-in-Some-clause-come
returns-in-Some-clause-come g c = λ x left adds _. let y = c.clear_collected.new.pass in let h = c.in-Some.ensures in let e = c.ended_by-in-Some.ensures in
    come_over x (whole y) c.args.op left c.in-Some.later c.ended_by-in-Some.result h.past
    (clean_met_before x.view (view c.args.pass.now) (view y) c.args.op adds h.cleaned) e.decided e.gone

pub returns-in-None-clause-free : goal.returns-in-None-clause-free
returns-in-None-clause-free g c = free_later (view c.args.pass.now) (view c.clear_collected.new.pass) c.clear_collected.ensures.learnt.view c.requires.free

pub returns-in-None-clause-come : goal.returns-in-None-clause-come
returns-in-None-clause-come g c = λ x left _ _. let y = c.clear_collected.new.pass in let d = c.requires.past.decided in
    come_cleared x (whole y) c.args.op left (d.0, c.clear_collected.ensures.learnt.view.more _ d.1, d.2) c.in-None.ensures.cleared

pub returns-in-Some-clause-no_install : goal.returns-in-Some-clause-no_install
returns-in-Some-clause-no_install g c = none_installed (view c.args.pass.now) (view c.clear_collected.new.pass) c.clear_collected.ensures.learnt.view

pub returns-in-None-clause-no_install : goal.returns-in-None-clause-no_install
returns-in-None-clause-no_install g c = none_installed (view c.args.pass.now) (view c.clear_collected.new.pass) c.clear_collected.ensures.learnt.view
