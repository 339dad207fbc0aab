-- One visit more has passed, or one keeps the exchange from taking effect.
use Rattle.std.proofs.Common.{rules, ◌≡◌, ◌<◌, ◌≤◌, ◌+◌, ℕ, sym, ap, ◌∙◌, subst, arith}
use Rattle.pc_protocol.specs.Notes.{drew}
use Rattle.pc_rule_law.specs.Views.{View, word_in}
use Rattle.pc_exchange_law.specs.Ties.{code}
use Rattle.pc_rule.specs.Passes.{whole, view}
use Rattle.pc_rule.proofs.BoardSizes.{few_slots}
use Rattle.pc_kcas.proofs.Going.{goes_learnt}
use Rattle.pc_kcas.proofs.Learning.{learnt_then, learnt_none}
use Rattle.pc_kcas.proofs.Owning.{published_goes}
use Rattle.pc_kcas.proofs.OwnVisits.{own_checked, same_exchange, barred_since}
use Rattle.pc_kcas.proofs.TakeWords.{free_later}
use Rattle.pc_kcas.proofs.VisitsPassed.{passed_more}
use Rattle.pc_kcas.proofs.own_checks.check_own_visits.Goals as goal

pub loop-i-init : goal.loop-i-init
loop-i-init g c = let p = c.args.pass.now in record {
  below = search rules;
  counted = let within = c.requires.published.2.within in let few = p.walking.few in let slots = few_slots c.args.board.now in
      let size = ap (λ z. z.slots) c.requires.pass.1 in let word = c.attempt_word-count.ensures in omega arith;
  same = search rules;
  learnt = learnt_none (whole p);
  free = c.requires.free;
  published = c.requires.published;
  own = c.requires.own;
  drawn = c.requires.drawn;
  passed = λ k lt. absurd (omega arith);
}

pub loop-i-preserved : goal.loop-i-preserved
loop-i-preserved g c = let inv = c.loop-i.invariant in let e = c.check_own.ensures in let p = c.loop-i.pass in let q = c.check_own.new.pass in
    let l = whole p in let y = whole q in let op = c.args.op in record {
      below = search rules;
      counted = inv.counted ∙ sym (ap (λ (v : View). word_in v.attempt.words 2) e.learnt.view.same);
      same = search rules;
      learnt = learnt_then (whole c.args.pass.now) l y inv.learnt e.learnt;
      free = free_later l.view y.view e.learnt.view inv.free;
      published = published_goes p q e.pass (goes_learnt l y e.learnt) inv.published;
      own = same_exchange p q op e.pass e.learnt inv.own;
      drawn = e.learnt.told (drew (code op.seat op.number) c.args.stamp) inv.drawn;
      passed = passed_more l y e.learnt op c.args.stamp c.loop-i.i inv.passed c.in_default.ensures.passed;
    }

pub returns-in-Some-clause-learnt : goal.returns-in-Some-clause-learnt
returns-in-Some-clause-learnt g c = learnt_then (whole c.args.pass.now) (whole c.loop-i.pass) (whole c.check_own.new.pass) c.loop-i.invariant.learnt c.check_own.ensures.learnt

pub returns-in-Some-clause-barred : goal.returns-in-Some-clause-barred
returns-in-Some-clause-barred g c = barred_since (whole c.args.pass.now) (whole c.loop-i.pass) (whole c.check_own.new.pass) c.args.op c.args.stamp c.in-Some.barred
    c.loop-i.invariant.learnt.view.adds c.in-Some.ensures.barred

pub returns-clause-checked : goal.returns-clause-checked
returns-clause-checked g c = let inv = c.loop-i.invariant in let p = c.loop-i.pass in
    own_checked p c.args.op c.args.stamp inv.published inv.own (λ k lt. inv.passed k (search rules))
