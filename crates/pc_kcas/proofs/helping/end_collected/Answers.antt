-- By the halt: what is known of it is what the end of the help asks for.
use Rattle.std.proofs.Common.{ℕ, ◌∙◌, ap, Option, Some, IfSome, subst}
use Rattle.pc_exchange_law.specs.Wholes.{Whole}
use Rattle.pc_rule.specs.Passes.{whole, view}
use Rattle.pc_dcss.proofs.Staying.{adds_then}
use Rattle.pc_kcas.specs.Collecting.{IsHaltedBy}
use Rattle.pc_kcas.specs.declared.collecting.Halt.{Halt}
use Rattle.pc_kcas.proofs.Collected.{come_goes, loaded_goes, read_goes}
use Rattle.pc_kcas.proofs.Concluded.{come_over}
use Rattle.pc_kcas.proofs.Counted.{none_installed}
use Rattle.pc_kcas.proofs.Evidence.{goes_then}
use Rattle.pc_kcas.proofs.Going.{goes_learnt}
use Rattle.pc_kcas.proofs.TakeWords.{free_later}
use Rattle.pc_kcas.proofs.VisitChecks.{settled_since}
use Rattle.pc_kcas.proofs.helping.end_collected.Goals as goal

pub end_settled-requires-clause-free : goal.end_settled-requires-clause-free
end_settled-requires-clause-free g c = λ _ _.
    free_later (view c.args.pass.now) (view c.settle_collected-settled.new.pass) c.settle_collected-settled.ensures.learnt.view c.requires.free

pub end_settled-requires-clause-come : goal.end_settled-requires-clause-come
end_settled-requires-clause-come g c = λ _ _. let x = whole c.args.pass.now in let y = whole c.settle_collected-settled.new.pass in
    come_goes x y c.args.op (goes_learnt x y c.settle_collected-settled.ensures.learnt) c.requires.come

pub end_settled-requires-clause-counted : goal.end_settled-requires-clause-counted
end_settled-requires-clause-counted g c = λ _ _. let x = whole c.args.pass.now in let y = whole c.settle_collected-settled.new.pass in
    loaded_goes x y c.args.op 1 c.args.counts.changes (goes_learnt x y c.settle_collected-settled.ensures.learnt) c.requires.counts.0

pub end_settled-requires-clause-read : goal.end_settled-requires-clause-read
end_settled-requires-clause-read g c = λ _ _. let x = whole c.args.pass.now in let y = whole c.settle_collected-settled.new.pass in
    read_goes x y c.args.op 1 c.args.counts.changes (goes_learnt x y c.settle_collected-settled.ensures.learnt) c.requires.counts.1

pub end_settled-requires-clause-settled : goal.end_settled-requires-clause-settled
end_settled-requires-clause-settled g c = λ _ _. (whole c.args.pass.now, c.settle_collected-settled.ensures.came)

pub returns-in-None-clause-goes_on : goal.returns-in-None-clause-goes_on
returns-in-None-clause-goes_on g c = let x = whole c.args.pass.now in let y = whole c.settle_collected-settled.new.pass in
    goes_then x y (whole c.end_settled.new.pass) (goes_learnt x y c.settle_collected-settled.ensures.learnt) c.end_settled.ensures.goes_on

pub returns-in-None-clause-come : goal.returns-in-None-clause-come
returns-in-None-clause-come g c = λ o left adds _. let x = whole c.args.pass.now in let k = c.settle_collected-settled in let y = whole k.new.pass in
    c.end_settled.ensures.come o left (adds_then o.view x.view y.view adds k.ensures.learnt.view.adds) (settled_since o x y c.args.op k.result adds k.ensures.came)

pub end_at-requires-clause-halted : goal.end_at-requires-clause-halted
end_at-requires-clause-halted g c = λ _ _. let p = whole c.args.pass.now in
    subst (λ (h : Option Halt). IfSome h (λ k. (x : Whole) × (left : ℕ) × IsHaltedBy x p c.args.op left k)) (c.in-Some.is ∙ ap (λ (k : Halt). Some k) c.in-At.is) c.requires.halted

pub returns-in-Over-clause-come : goal.returns-in-Over-clause-come
returns-in-Over-clause-come g c = λ o left adds h. let p = whole c.args.pass.now in
    let e = subst (λ (k : Option Halt). IfSome k (IsHaltedBy o p c.args.op left)) (c.in-Some.is ∙ ap (λ (k : Halt). Some k) c.in-Over.is) h in
    come_over o p c.args.op left c.in-Over.status c.ended_by.result e.1 e.2 c.ended_by.ensures.decided c.ended_by.ensures.gone

pub returns-in-At-clause-come : goal.returns-in-At-clause-come
returns-in-At-clause-come g c = λ o left adds h. c.end_at.ensures.come o left adds
    (subst (λ (k : Option Halt). IfSome k (IsHaltedBy o (whole c.args.pass.now) c.args.op left)) (c.in-Some.is ∙ ap (λ (k : Halt). Some k) c.in-At.is) h)

pub returns-in-None-clause-no_install : goal.returns-in-None-clause-no_install
returns-in-None-clause-no_install g c = let k = c.settle_collected-settled in
    c.end_settled.ensures.no_install ∙ none_installed (view c.args.pass.now) (view k.new.pass) k.ensures.learnt.view
