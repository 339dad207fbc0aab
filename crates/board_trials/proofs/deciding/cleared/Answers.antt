-- One word more is clean; and then the own attempt may be cleared.
use Rattle.std.proofs.Common.{rules, true, refl, ◌≡◌, ℕ, length, sym, ap, ◌∙◌, subst, arith}
use mathlib.Core.Logic.{dite}
use native.Mathlib.Decide.{ℕ_discrete}
use Rattle.pc_model.specs.declared.shape.Shape.{Ghosts}
use Rattle.pc_words.specs.declared.status.Stage.TheVariants.{Idle}
use Rattle.pc_words.specs.Statuses.{packed}
use Rattle.pc_rule_law.specs.Conditions.{IsFree}
use Rattle.pc_rule_law.specs.Past.{Has}
use Rattle.pc_protocol.specs.Histories.{committed}
use Rattle.pc_protocol.specs.Notes.{verdict}
use Rattle.pc_exchange_law.specs.Ties.{code}
use Rattle.pc_exchange_law.specs.Wholes.{Whole}
use Rattle.pc_rule.specs.declared.board.Pass.{Pass}
use Rattle.pc_rule.specs.Deciding.{MayClearOwn, KnowsOutcome}
use Rattle.pc_rule.specs.Passes.{whole, view, knows, listed}
use Rattle.pc_kcas.proofs.Holding.{pass_published}
use Rattle.board_trials.specs.Deciding.{IsCleanAt}
use Rattle.board_trials.proofs.OwnSteps.{may_clear, clean_still}
use Rattle.board_trials.proofs.deciding.cleared.Goals as goal

pub loop-i-preserved : goal.loop-i-preserved
loop-i-preserved c = let inv = c.loop-i.invariant in let e = c.replaced.ensures in let p = c.loop-i.pass in let q = c.replaced.new.pass in let lt = c.loop-i-test.true in let n = inv.count in record {
  below = omega arith;
  count = n ∙ ap (λ v. length v.items) (sym e.same.1);
  same = search rules;
  published = pass_published p q e.same e.attempt inv.published;
  free = e.free;
  succeeded = e.succeeded;
  clean = λ k below. dite (ℕ_discrete k c.loop-i.i)
      (λ (here : k ≡ c.loop-i.i). subst (IsCleanAt q) (sym here) (e.clean (search rules)))
      (λ other. clean_still p q k e.same e.attempt e.keeps (inv.clean k (omega arith)));
}

pub step_16-requires-clause-may : goal.step_16-requires-clause-may
step_16-requires-clause-may c κs = let inv = c.loop-i.invariant in let p = c.loop-i.pass in let n = inv.count in let ge = c.loop-i-test.false in
    let same : whole c.tell_won.new.self ≡ whole p = ap (λ s. s.me.0) c.tell_won.ensures.only.0 in
    subst (λ (x : Whole). MayClearOwn x c.pack-idle.result) (sym same) (
      c.pack-idle.ensures.packed ∙ ap (λ (k : ℕ). packed (record { number = k; stage = Idle })) (c.attempts.ensures ∙ sym p.one_attempt.number),
      may_clear (whole p) (listed p) inv.published p.one_attempt inv.succeeded.0 inv.succeeded.1 (λ k lt. inv.clean k (omega arith)),
    )

-- the stage that the pass knows of its attempt
decided : {H : Type 0} {S : Ghosts H} (p : Pass H S) (s : ℕ) → Has (knows p).told (verdict (code (view p).seat (view p).attempt.number) (committed s))
    → Has (knows p).told (verdict (code (view p).seat (knows p).own.number) (committed s))
decided p s has = subst (λ (a : ℕ). Has (knows p).told (verdict (code (view p).seat a) (committed s))) (sym p.one_attempt.number) has

pub step_16-requires-clause-outcome : goal.step_16-requires-clause-outcome
unfolding decided
step_16-requires-clause-outcome c κs = let won = c.loop-i.invariant.succeeded in let p = c.loop-i.pass in
    let same : whole c.tell_won.new.self ≡ whole p = ap (λ s. s.me.0) c.tell_won.ensures.only.0 in
    subst (KnowsOutcome (whole c.tell_won.new.self)) (sym c.tell_won.ensures.won) (subst (λ (x : Whole). KnowsOutcome x true) (sym same) (committed won.0, decided p won.0 won.1, refl))

pub returns-clause-free : goal.returns-clause-free
unfolding decided
returns-clause-free c = let won = c.loop-i.invariant.succeeded in let p = c.loop-i.pass in
    let same : whole c.tell_won.new.self ≡ whole p = ap (λ s. s.me.0) c.tell_won.ensures.only.0 in
    let has = subst (λ (x : Whole). Has x.knows.told (verdict (code x.view.seat x.knows.own.number) (committed won.0))) (sym same) (decided p won.0 won.1) in
    let is = c.step_16.ensures.told (committed won.0) has in
    subst (λ (x : Whole). IsFree x.view) (sym is) (subst (λ (x : Whole). IsFree x.view) (sym same) c.loop-i.invariant.free)
