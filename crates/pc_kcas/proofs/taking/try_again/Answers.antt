-- The completion, and then the install.
use Rattle.std.proofs.Common.{arith}
use Rattle.pc_rule_law.specs.Views.{held, removed}
use Rattle.pc_rule.specs.Passes.{whole, view}
use Rattle.pc_dcss.proofs.Staying.{noted_after, decided_after, on_held, on_decided}
use Rattle.pc_dcss.specs.Installs.{IsNews}
use Rattle.pc_kcas.proofs.Counted.{none_installed}
use Rattle.pc_kcas.proofs.Evidence.{goes_then}
use Rattle.pc_kcas.proofs.Going.{goes_by, goes_later, news_goes}
use Rattle.pc_kcas.proofs.Holding.{at_most_one}
use Rattle.pc_kcas.proofs.TakeWords.{if_met, met_since, different_since, last_since, free_later, place_later, another_met}
use Rattle.pc_kcas.proofs.taking.try_again.Goals as goal

pub install-requires-clause-free : goal.install-requires-clause-free
install-requires-clause-free g c = λ _ _. free_later (view c.args.pass.now) (view c.complete.new.pass) c.complete.ensures.later c.requires.free

pub install-requires-clause-place : goal.install-requires-clause-place
install-requires-clause-place g c = λ _ _. place_later (view c.args.pass.now) (view c.complete.new.pass) c.complete.ensures.later c.args.op c.args.place c.requires.place

pub returns-clause-goes_on : goal.returns-clause-goes_on
returns-clause-goes_on g c = goes_then (whole c.args.pass.now) (whole c.complete.new.pass) (whole c.install.new.pass)
    (goes_later (whole c.args.pass.now) (whole c.complete.new.pass) c.complete.ensures.later c.complete.ensures.learns)
    (goes_by (whole c.complete.new.pass) (whole c.install.new.pass) c.install.ensures.adds c.install.ensures.pass.0.1 c.install.ensures.attempt c.install.ensures.learns)

pub returns-clause-gone : goal.returns-clause-gone
returns-clause-gone g c = c.install.ensures.keeps (removed c.args.first.seat c.args.first.number) c.complete.ensures.removed

pub returns-clause-held : goal.returns-clause-held
returns-clause-held g c = let op = c.args.op in let at = c.args.place in on_held _ _ c.install.result
    (noted_after (view c.args.pass.now) (view c.complete.new.pass) (view c.install.new.pass) (held op.seat op.number at.node at.field) c.complete.ensures.later.adds) c.install.ensures.held

pub returns-clause-decided : goal.returns-clause-decided
returns-clause-decided g c = on_decided _ _ c.install.result
    (decided_after (view c.args.pass.now) (view c.complete.new.pass) (view c.install.new.pass) c.args.op.seat c.args.op.number c.complete.ensures.later.adds) c.install.ensures.decided

pub returns-clause-differs : goal.returns-clause-differs
returns-clause-differs g c = different_since (view c.args.pass.now) (view c.complete.new.pass) (view c.install.new.pass) c.args.op c.args.place c.complete.ensures.later.adds c.install.result c.install.ensures.differs

pub returns-clause-met : goal.returns-clause-met
returns-clause-met g c = met_since (view c.args.pass.now) (view c.complete.new.pass) (view c.install.new.pass) c.args.op c.args.place c.complete.ensures.later.adds c.install.result c.install.ensures.met

pub returns-clause-fresh : goal.returns-clause-fresh
returns-clause-fresh g c = let x = whole c.args.pass.now in let y = whole c.complete.new.pass in
    if_met (IsNews y c.args.place) (IsNews x c.args.place) c.install.result
    (news_goes x y (goes_later x y c.complete.ensures.later c.complete.ensures.learns) c.complete.ensures.pass.0.2 c.args.place) c.install.ensures.fresh

pub returns-clause-another : goal.returns-clause-another
returns-clause-another g c = another_met (whole c.complete.new.pass) c.args.place c.args.first c.install.result c.complete.ensures.removed c.install.ensures.fresh

pub returns-clause-numbers : goal.returns-clause-numbers
returns-clause-numbers g c = last_since (view c.args.pass.now) (view c.complete.new.pass) (view c.install.new.pass) c.args.op c.args.place c.complete.ensures.later.adds c.install.result c.install.ensures.numbers

pub returns-clause-most : goal.returns-clause-most
returns-clause-most g c = let e = c.install.ensures in let u = view c.complete.new.pass in
    let same = none_installed (view c.args.pass.now) u c.complete.ensures.later in let one = at_most_one u (view c.install.new.pass) c.install.result e.number e.last e.numbers in omega arith
