-- The exchange is published, or all is dropped.
use Rattle.std.proofs.Common.{ap, ◌∙◌, sym, subst}
use Rattle.pc_rule_law.specs.Conditions.{IsFree}
use Rattle.pc_exchange_law.specs.Paths.{dropped}
use Rattle.pc_exchange_law.specs.Wholes.{Whole}
use Rattle.pc_rule.specs.Passes.{whole, view}
use Rattle.pc_rule.proofs.Calls.{pass_stays}
use Rattle.pc_kcas.specs.Verdicts.{KeepsAll}
use Rattle.pc_kcas.proofs.Attempts.{free_published}
use Rattle.pc_rule_law.specs.Views.{View}
use Rattle.pc_path.proofs.Counted.{one_more, none_more}
use Rattle.pc_path.proofs.Endings.{whole_same, concluded_sits, concluded_of, seated_sits}
use Rattle.pc_path.proofs.Paths.{path_kept}
use Rattle.pc_path.proofs.exchanging.begun.Goals as goal

pub returns-in-Ok-clause-seated : goal.returns-in-Ok-clause-seated
returns-in-Ok-clause-seated g c = (seated_sits c.args.pass.now c.publish.new.pass c.publish.ensures.seated, pass_stays c.args.board.now c.args.pass.now c.publish.new.pass c.requires.pass c.publish.ensures.seated)

pub returns-in-Ok-clause-free : goal.returns-in-Ok-clause-free
returns-in-Ok-clause-free g c = free_published (view c.args.pass.now) (view c.publish.new.pass) c.in-Ok.ensures.only c.requires.free

pub returns-in-Ok-clause-recorded : goal.returns-in-Ok-clause-recorded
returns-in-Ok-clause-recorded g c = ap (λ r. r.entries.items) c.publish.ensures.seated.7

pub returns-in-Ok-clause-once : goal.returns-in-Ok-clause-once
returns-in-Ok-clause-once g c = c.in-Ok.ensures.only.number

pub returns-in-Err-clause-seated : goal.returns-in-Err-clause-seated
returns-in-Err-clause-seated g c = let p = c.args.pass.now in let q = c.publish.new.pass in let r = c.conclude.new.pass in let b = c.args.board.now in (
  concluded_sits p q r (seated_sits p q c.publish.ensures.seated) c.conclude.ensures.only,
  concluded_of b q r (pass_stays b p q c.requires.pass c.publish.ensures.seated) c.conclude.ensures.only c.conclude.ensures.few,
)

pub returns-in-Err-clause-free : goal.returns-in-Err-clause-free
returns-in-Err-clause-free g c = let q = c.publish.new.pass in let r = c.conclude.new.pass in
    subst (λ (y : Whole). IsFree y.view) (sym (whole_same q r c.conclude.ensures.only)) (subst IsFree (sym c.in-Err.ensures.dropped.0) c.requires.free)

pub returns-in-Err-clause-kept : goal.returns-in-Err-clause-kept
returns-in-Err-clause-kept g c = subst (λ (y : Whole). KeepsAll (whole c.args.pass.now) y) (sym (whole_same c.publish.new.pass c.conclude.new.pass c.conclude.ensures.only)) c.publish.ensures.kept

pub returns-in-Err-clause-recorded : goal.returns-in-Err-clause-recorded
returns-in-Err-clause-recorded g c = c.conclude.ensures.not_recorded ∙ ap (λ r. r.entries.items) c.publish.ensures.seated.7

pub returns-in-Err-clause-nothing : goal.returns-in-Err-clause-nothing
returns-in-Err-clause-nothing g c = ap (λ (y : Whole). y.view) (whole_same c.publish.new.pass c.conclude.new.pass c.conclude.ensures.only) ∙ c.in-Err.ensures.dropped.0

pub returns-in-Err-clause-adds : goal.returns-in-Err-clause-adds
returns-in-Err-clause-adds g c = ap (λ v. v.items) c.conclude.ensures.only.2 ∙ c.in-Err.ensures.dropped.1

pub returns-in-Err-clause-path : goal.returns-in-Err-clause-path
returns-in-Err-clause-path g c = c.conclude.ensures.path ∙ ap dropped (path_kept c.args.pass.now c.publish.new.pass c.publish.ensures.path)

pub returns-in-Ok-clause-attempts : goal.returns-in-Ok-clause-attempts
returns-in-Ok-clause-attempts g c = one_more (view c.args.pass.now).attempt.number (view c.publish.new.pass).attempt.number c.in-Ok.ensures.only.number

pub returns-in-Ok-clause-no_install : goal.returns-in-Ok-clause-no_install
returns-in-Ok-clause-no_install g c = ap (λ (v : View). v.install.number) c.in-Ok.ensures.only.same

pub returns-in-Err-clause-attempts : goal.returns-in-Err-clause-attempts
returns-in-Err-clause-attempts g c = none_more (view c.args.pass.now).attempt.number (view c.conclude.new.pass).attempt.number
    (ap (λ (v : View). v.attempt.number) (ap (λ (y : Whole). y.view) (whole_same c.publish.new.pass c.conclude.new.pass c.conclude.ensures.only) ∙ c.in-Err.ensures.dropped.0))

pub returns-in-Err-clause-no_install : goal.returns-in-Err-clause-no_install
returns-in-Err-clause-no_install g c = ap (λ (v : View). v.install.number) (ap (λ (y : Whole). y.view) (whole_same c.publish.new.pass c.conclude.new.pass c.conclude.ensures.only) ∙ c.in-Err.ensures.dropped.0)
