-- One word more is clean.
use Rattle.std.proofs.Common.{rules, ◌≡◌, subst, sym, arith}
use mathlib.Core.Logic.{dite}
use native.Mathlib.Decide.{ℕ_discrete}
use Rattle.pc_rule.specs.Passes.{whole}
use Rattle.pc_kcas.specs.Concluding.{IsCleanWord}
use Rattle.pc_kcas.proofs.Cleared.{outcome_learnt}
use Rattle.pc_kcas.proofs.Collected.{come_goes, loaded_goes, read_goes}
use Rattle.pc_kcas.proofs.Concluded.{clean_word_still, cleared_words}
use Rattle.pc_kcas.proofs.Going.{goes_learnt}
use Rattle.pc_kcas.proofs.Learning.{learnt_then}
use Rattle.pc_kcas.proofs.concluding.clear_collected.Goals as goal

pub returns-in-Some-clause-learnt : goal.returns-in-Some-clause-learnt
returns-in-Some-clause-learnt g c = learnt_then (whole c.args.pass.now) (whole c.loop-i.pass) (whole c.clear_read.new.pass) c.loop-i.invariant.learnt c.clear_read.ensures.learnt

pub loop-i-preserved : goal.loop-i-preserved
loop-i-preserved g c = let inv = c.loop-i.invariant in let e = c.clear_read.ensures in let op = c.args.op in let count = c.args.count in
    let x = whole c.args.pass.now in let y = whole c.loop-i.pass in let z = whole c.clear_read.new.pass in record {
      below = search rules;
      same = search rules;
      learnt = learnt_then x y z inv.learnt e.learnt;
      come = come_goes y z op (goes_learnt y z e.learnt) inv.come;
      counted = loaded_goes y z op 1 count (goes_learnt y z e.learnt) inv.counted;
      read = read_goes y z op 1 count (goes_learnt y z e.learnt) inv.read;
      decided = outcome_learnt y z op.seat op.number c.args.won e.learnt inv.decided;
      clean = λ k lt. dite (ℕ_discrete k c.loop-i.i)
          (λ (here : k ≡ c.loop-i.i). subst (IsCleanWord z op) (sym here) c.in-None.ensures.clean)
          (λ other. clean_word_still y z op k e.learnt (inv.clean k (omega arith)));
    }

pub returns-clause-cleared : goal.returns-clause-cleared
returns-clause-cleared g c = let inv = c.loop-i.invariant in
    cleared_words (whole c.loop-i.pass) c.args.op c.args.count inv.read (λ i lt. inv.clean i (omega arith))
