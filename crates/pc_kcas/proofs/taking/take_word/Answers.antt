-- The install, and where it met an install, the completion and another.
use Rattle.std.proofs.Common.{[], refl, subst}
use Rattle.pc_rule_law.specs.Views.{held}
use Rattle.pc_rule.specs.Passes.{whole, view}
use Rattle.pc_dcss.specs.Installs.{IsMet, IsNews, IfMet}
use Rattle.pc_dcss.proofs.Meeting.{met_install}
use Rattle.pc_dcss.proofs.Puts.{place_still}
use Rattle.pc_dcss.proofs.Staying.{noted_after, decided_after, on_held, on_decided}
use Rattle.pc_kcas.proofs.Counted.{took_once, took_again}
use Rattle.pc_kcas.proofs.Evidence.{goes_then}
use Rattle.pc_kcas.proofs.Going.{goes_by, news_goes}
use Rattle.pc_kcas.proofs.Holding.{at_most_one}
use Rattle.pc_kcas.proofs.TakeWords.{if_met, if_none, met_since, different_since, last_since, met_longer, different_longer, met_in_turn, completed_since}
use Rattle.pc_kcas.proofs.taking.take_word.Goals as goal

pub try_again-again-requires-clause-met : goal.try_again-again-requires-clause-met
try_again-again-requires-clause-met g c = λ _ _. let o = view c.args.pass.now in let u = view c.install-answer.new.pass in
    met_install o u c.args.op c.in-Some.first c.args.place (subst (λ a. IfMet a (IsMet o u c.args.op c.args.place)) c.in-Some.ensures.met.1 c.install-answer.ensures.met) c.in-Some.ensures.met.2

pub try_again-again-requires-clause-place : goal.try_again-again-requires-clause-place
try_again-again-requires-clause-place g c = λ _ _. let e = c.install-answer.ensures in
    place_still (view c.args.pass.now) (view c.install-answer.new.pass) record { notes = e.keeps; seat = e.pass.0.2; size = e.pass.0.1; attempt = e.attempt.0; posted = e.attempt.1 } c.args.op c.args.place c.requires.place

pub returns-in-Some-clause-goes_on : goal.returns-in-Some-clause-goes_on
returns-in-Some-clause-goes_on g c = let e = c.install-answer.ensures in
    goes_then (whole c.args.pass.now) (whole c.install-answer.new.pass) (whole c.try_again-again.new.pass)
    (goes_by (whole c.args.pass.now) (whole c.install-answer.new.pass) e.adds e.pass.0.1 e.attempt e.learns) c.try_again-again.ensures.goes_on

pub returns-in-None-clause-goes_on : goal.returns-in-None-clause-goes_on
returns-in-None-clause-goes_on g c = let e = c.install-answer.ensures in
    goes_by (whole c.args.pass.now) (whole c.install-answer.new.pass) e.adds e.pass.0.1 e.attempt e.learns

pub returns-in-Some-clause-fresh : goal.returns-in-Some-clause-fresh
returns-in-Some-clause-fresh g c = let e = c.install-answer.ensures in let x = whole c.args.pass.now in let y = whole c.install-answer.new.pass in
    if_met (IsNews y c.args.place) (IsNews x c.args.place) c.try_again-again.result
    (news_goes x y (goes_by x y e.adds e.pass.0.1 e.attempt e.learns) e.pass.0.2 c.args.place) c.try_again-again.ensures.fresh

pub returns-in-Some-clause-held : goal.returns-in-Some-clause-held
returns-in-Some-clause-held g c = let op = c.args.op in let at = c.args.place in on_held _ _ c.try_again-again.result
    (noted_after (view c.args.pass.now) (view c.install-answer.new.pass) (view c.try_again-again.new.pass) (held op.seat op.number at.node at.field) c.install-answer.ensures.adds) c.try_again-again.ensures.held

pub returns-in-Some-clause-decided : goal.returns-in-Some-clause-decided
returns-in-Some-clause-decided g c = on_decided _ _ c.try_again-again.result
    (decided_after (view c.args.pass.now) (view c.install-answer.new.pass) (view c.try_again-again.new.pass) c.args.op.seat c.args.op.number c.install-answer.ensures.adds) c.try_again-again.ensures.decided

pub returns-in-Some-clause-differs : goal.returns-in-Some-clause-differs
returns-in-Some-clause-differs g c = different_longer (view c.args.pass.now) (view c.install-answer.new.pass) (view c.try_again-again.new.pass) c.args.op c.args.place c.install-answer.ensures.adds c.try_again-again.result c.try_again-again.ensures.differs

pub returns-in-Some-clause-met : goal.returns-in-Some-clause-met
returns-in-Some-clause-met g c = met_longer (view c.args.pass.now) (view c.install-answer.new.pass) (view c.try_again-again.new.pass) c.args.op c.args.place c.install-answer.ensures.adds c.try_again-again.result c.try_again-again.ensures.met

pub returns-in-Some-clause-completed : goal.returns-in-Some-clause-completed
returns-in-Some-clause-completed g c = let e = c.try_again-again.ensures in
    if_none _ c.args.completed
    (completed_since (view c.args.pass.now) (view c.install-answer.new.pass) (view c.try_again-again.new.pass) c.args.op c.args.place c.install-answer.result c.in-Some.first
    c.in-Some.ensures.met.1 c.in-Some.ensures.met.2 c.install-answer.ensures.met e.goes_on.adds e.pass.0.2 e.gone)

pub returns-in-Some-clause-in_turn : goal.returns-in-Some-clause-in_turn
returns-in-Some-clause-in_turn g c = let e = c.try_again-again.ensures in
    if_none _ c.args.completed
    (met_in_turn (view c.args.pass.now) (view c.install-answer.new.pass) (view c.try_again-again.new.pass) c.args.op c.args.place c.install-answer.result c.try_again-again.result
    c.in-Some.first c.in-Some.ensures.met.1 c.install-answer.ensures.met e.met)

pub returns-in-None-clause-differs : goal.returns-in-None-clause-differs
returns-in-None-clause-differs g c = different_since (view c.args.pass.now) (view c.args.pass.now) (view c.install-answer.new.pass) c.args.op c.args.place ([], refl) c.install-answer.result c.install-answer.ensures.differs

pub returns-in-None-clause-met : goal.returns-in-None-clause-met
returns-in-None-clause-met g c = met_since (view c.args.pass.now) (view c.args.pass.now) (view c.install-answer.new.pass) c.args.op c.args.place ([], refl) c.install-answer.result c.install-answer.ensures.met

pub returns-in-None-clause-numbers : goal.returns-in-None-clause-numbers
returns-in-None-clause-numbers g c = last_since (view c.args.pass.now) (view c.args.pass.now) (view c.install-answer.new.pass) c.args.op c.args.place ([], refl) c.install-answer.result c.install-answer.ensures.numbers

pub returns-in-Some-clause-most : goal.returns-in-Some-clause-most
returns-in-Some-clause-most g c = let e = c.install-answer.ensures in let v = view c.args.pass.now in let u = view c.install-answer.new.pass in
    took_again v u (view c.try_again-again.new.pass) c.args.completed c.in-Some.first c.in-Some.ensures.met.0
    (at_most_one v u c.install-answer.result e.number e.last e.numbers) c.try_again-again.ensures.most

pub returns-in-None-clause-most : goal.returns-in-None-clause-most
returns-in-None-clause-most g c = let e = c.install-answer.ensures in let v = view c.args.pass.now in let u = view c.install-answer.new.pass in
    took_once v u c.args.completed (at_most_one v u c.install-answer.result e.number e.last e.numbers)
