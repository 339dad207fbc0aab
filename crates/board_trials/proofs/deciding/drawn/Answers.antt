-- The exchange is the own one, at which the pass aims.
use Rattle.std.proofs.Common.{◌≡◌, refl, sym, ap, ◌∙◌, subst}
use Rattle.pc_rule_law.specs.Conditions.{IsFree}
use Rattle.pc_rule_law.specs.Past.{Has}
use Rattle.pc_protocol.specs.Notes.{drew}
use Rattle.pc_exchange_law.specs.Ties.{code}
use Rattle.pc_exchange_law.specs.Wholes.{Whole}
use Rattle.pc_rule.specs.declared.refs.Ref.{Ref}
use Rattle.pc_rule.specs.Deciding.{MayDraw}
use Rattle.pc_rule.specs.Passes.{whole, view, knows, listed}
use Rattle.pc_kcas.specs.Exchanges.{own_exchange}
use Rattle.pc_kcas.proofs.Holding.{pass_published}
use Rattle.board_trials.proofs.OwnSteps.{may_draw, view_after, same_attempt}
use Rattle.board_trials.proofs.deciding.drawn.Goals as goal

pub step_13-requires-clause-may : goal.step_13-requires-clause-may
step_13-requires-clause-may c κs = let p = c.args.pass.now in
    subst (MayDraw (whole p)) (sym c.exchange_of-op.ensures)
    (c.requires.aim, may_draw (whole p) (listed p) c.requires.published p.one_attempt c.requires.ready c.requires.some c.requires.held)

pub returns-clause-published : goal.returns-clause-published
returns-clause-published c = let p = c.args.pass.now in let q = c.step_13.new.pass in let e = c.step_13.ensures in
    pass_published p q e.pass (same_attempt (view p) (view q) (view_after (whole p) c.step_13.result (whole q) _ _ e.drawn e.refused)) c.requires.published

pub returns-clause-free : goal.returns-clause-free
returns-clause-free c = let p = c.args.pass.now in let q = c.step_13.new.pass in let e = c.step_13.ensures in
    subst IsFree (sym (view_after (whole p) c.step_13.result (whole q) _ _ e.drawn e.refused)) c.requires.free

pub returns-clause-drawn : goal.returns-clause-drawn
returns-clause-drawn c lt = let p = c.args.pass.now in let q = c.step_13.new.pass in let is = c.step_13.ensures.drawn lt in let op : Ref = c.exchange_of-op.result in
    let there : Has (knows q).told (drew (code op.seat op.number) c.step_13.result) = subst (λ (x : Whole). Has x.knows.told (drew (code op.seat op.number) c.step_13.result)) (sym is) (0, refl) in
    let own : op ≡ own_exchange q = c.exchange_of-op.ensures ∙ sym (ap (λ (x : Whole). record { kind = (own_exchange p).kind; seat = x.view.seat; number = x.view.attempt.number }) is) in
    subst (λ (r : Ref). Has (knows q).told (drew (code r.seat r.number) c.step_13.result)) own there
