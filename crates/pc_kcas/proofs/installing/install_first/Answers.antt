-- One word more held, or the installs stop.
use Rattle.std.proofs.Common.{rules, ◌≡◌, ◌∙◌, subst, sym, arith}
use mathlib.Core.Logic.{dite}
use native.Mathlib.Decide.{ℕ_discrete}
use Rattle.pc_rule.specs.Passes.{knows}
use Rattle.pc_dcss.proofs.Learnt.{learns_then}
use Rattle.pc_kcas.specs.Exchanges.{IsHeldAt}
use Rattle.pc_kcas.proofs.Holding.{held_still, held_since, stopped_since, adds_more}
use Rattle.pc_kcas.proofs.installing.install_first.Goals as goal

pub returns-then-not-install_at-clause-adds : goal.returns-then-not-install_at-clause-adds
returns-then-not-install_at-clause-adds g c = adds_more c.args.pass.now c.loop-held.pass c.install_at.new.pass c.loop-held.invariant.adds c.install_at.ensures.adds

pub returns-then-not-install_at-clause-learns : goal.returns-then-not-install_at-clause-learns
returns-then-not-install_at-clause-learns g c = learns_then (knows c.args.pass.now) (knows c.loop-held.pass) (knows c.install_at.new.pass) c.loop-held.invariant.learns c.install_at.ensures.learns

pub returns-then-not-install_at-clause-held : goal.returns-then-not-install_at-clause-held
returns-then-not-install_at-clause-held g c = λ i lt. let e = c.install_at.ensures in held_still c.args.pass.now c.loop-held.pass c.install_at.new.pass i e.pass e.attempt e.adds (c.loop-held.invariant.held i lt)

pub returns-then-not-install_at-clause-stopped : goal.returns-then-not-install_at-clause-stopped
returns-then-not-install_at-clause-stopped g c = λ _ _. stopped_since c.args.pass.now c.loop-held.pass c.install_at.new.pass c.loop-held.held c.loop-held.invariant.adds (c.install_at.ensures.stopped (search rules))

pub loop-held-preserved : goal.loop-held-preserved
loop-held-preserved g c = let inv = c.loop-held.invariant in let e = c.install_at.ensures in let o = c.args.pass.now in let p = c.loop-held.pass in let q = c.install_at.new.pass in record {
  few = search rules;
  same = search rules;
  free = e.free;
  published = e.published;
  learns = learns_then (knows o) (knows p) (knows q) inv.learns e.learns;
  adds = adds_more o p q inv.adds e.adds;
  attempt = (e.attempt.0 ∙ inv.attempt.0, e.attempt.1 ∙ inv.attempt.1);
  most = (let a = inv.most in let b = e.most in omega arith);
  held = λ i lt. dite (ℕ_discrete i c.loop-held.held)
      (λ (here : i ≡ c.loop-held.held). subst (IsHeldAt o q) (sym here) (held_since o p q c.loop-held.held inv.adds (e.held (search rules))))
      (λ other. held_still o p q i e.pass e.attempt e.adds (inv.held i (omega arith)));
}
