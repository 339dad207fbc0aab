-- One visit more has passed, or one keeps the exchange from taking effect.
use Rattle.std.proofs.Common.{rules}
use Rattle.pc_protocol.specs.Notes.{drew}
use Rattle.pc_exchange_law.specs.Ties.{code}
use Rattle.pc_rule.specs.Passes.{whole}
use Rattle.pc_kcas.proofs.Collected.{come_goes, counts_goes}
use Rattle.pc_kcas.proofs.Going.{goes_learnt}
use Rattle.pc_kcas.proofs.Learning.{learnt_then}
use Rattle.pc_kcas.proofs.TakeWords.{free_later}
use Rattle.pc_kcas.proofs.VisitChecks.{failed_since}
use Rattle.pc_kcas.proofs.VisitsPassed.{passed_more}
use Rattle.pc_kcas.proofs.checking.check_visits.Goals as goal

pub returns-in-Some-clause-learnt : goal.returns-in-Some-clause-learnt
returns-in-Some-clause-learnt g c = learnt_then (whole c.args.pass.now) (whole c.loop-i.pass) (whole c.check_at.new.pass) c.loop-i.invariant.learnt c.check_at.ensures.learnt

pub returns-in-Some-clause-failed : goal.returns-in-Some-clause-failed
returns-in-Some-clause-failed g c = failed_since (whole c.args.pass.now) (whole c.loop-i.pass) (whole c.check_at.new.pass) c.args.op c.args.stamp c.in-Some.failed
    c.loop-i.invariant.learnt.view.adds c.in-Some.ensures.failed

pub loop-i-preserved : goal.loop-i-preserved
loop-i-preserved g c = let inv = c.loop-i.invariant in let e = c.check_at.ensures in let l = whole c.loop-i.pass in let q = whole c.check_at.new.pass in
    let op = c.args.op in let goes = goes_learnt l q e.learnt in record {
      below = search rules;
      same = search rules;
      learnt = learnt_then (whole c.args.pass.now) l q inv.learnt e.learnt;
      free = free_later l.view q.view e.learnt.view inv.free;
      come = come_goes l q op goes inv.come;
      drawn = e.learnt.told (drew (code op.seat op.number) c.args.stamp) inv.drawn;
      counts = counts_goes l q op c.args.counts goes inv.counts;
      passed = passed_more l q e.learnt op c.args.stamp c.loop-i.i inv.passed c.in_default.ensures.passed;
    }
