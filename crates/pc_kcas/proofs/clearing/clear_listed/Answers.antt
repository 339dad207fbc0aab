-- One word more is clean.
use Rattle.std.proofs.Common.{rules, ◌≡◌, subst, sym, arith}
use mathlib.Core.Logic.{dite}
use native.Mathlib.Decide.{ℕ_discrete}
use Rattle.pc_rule.specs.Passes.{whole}
use Rattle.pc_kcas.specs.Clearing.{IsCleanAt}
use Rattle.pc_kcas.proofs.Cleared.{published_learnt, clean_still}
use Rattle.pc_kcas.proofs.Learning.{learnt_then}
use Rattle.pc_kcas.proofs.clearing.clear_listed.Goals as goal

pub loop-i-preserved : goal.loop-i-preserved
loop-i-preserved g c = let inv = c.loop-i.invariant in let e = c.clear_at.ensures in let o = c.args.pass.now in let p = c.loop-i.pass in let q = c.clear_at.new.pass in record {
  below = search rules;
  count = search rules;
  same = search rules;
  learnt = learnt_then (whole o) (whole p) (whole q) inv.learnt e.learnt;
  published = published_learnt p q e.pass e.learnt inv.published;
  clean = λ k lt. dite (ℕ_discrete k c.loop-i.i)
      (λ (here : k ≡ c.loop-i.i). subst (IsCleanAt q) (sym here) e.clean)
      (λ other. clean_still p q k e.pass e.learnt (inv.clean k (omega arith)));
}
