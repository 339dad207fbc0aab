-- One change more is of another word, or the change is found.
use Rattle.std.proofs.Common.{rules, inl}
use Rattle.pc_rule_law.specs.Board.{place_number}
use Rattle.pc_rule.specs.Passes.{whole}
use Rattle.pc_kcas.specs.declared.checking.Failed.TheVariants.{Over as IsOverBy}
use Rattle.pc_kcas.proofs.Collected.{come_goes, loaded_goes, read_goes}
use Rattle.pc_kcas.proofs.Going.{goes_learnt}
use Rattle.pc_kcas.proofs.Learning.{learnt_by, learnt_then}
use Rattle.pc_kcas.proofs.VisitChecks.{over_failed, failed_since}
use Rattle.pc_kcas.proofs.VisitsPassed.{changes_by, others_more}
use Rattle.pc_kcas.proofs.checking.find_old.Goals as goal

pub returns-then-is_version_of-clause-learnt : goal.returns-then-is_version_of-clause-learnt
returns-then-is_version_of-clause-learnt g c = let e = c.read_place.ensures in let l = whole c.loop-i.pass in let q = whole c.read_place.new.pass in
    learnt_then (whole c.args.pass.now) l q c.loop-i.invariant.learnt (learnt_by l q e.later e.learns)

pub returns-then-is_version_of-clause-changes : goal.returns-then-is_version_of-clause-changes
returns-then-is_version_of-clause-changes g c =
    changes_by (whole c.read_place.new.pass) c.args.op c.loop-i.i c.args.node c.in-Ok.place c.in-Ok.ensures.entry (c.is_version_of.ensures.yes c.if-is_version_of.true)

pub loop-i-preserved : goal.loop-i-preserved
loop-i-preserved g c = let inv = c.loop-i.invariant in let e = c.read_place.ensures in let l = whole c.loop-i.pass in let q = whole c.read_place.new.pass in
    let op = c.args.op in let at = c.in-Ok.place in let learnt = learnt_by l q e.later e.learns in let goes = goes_learnt l q learnt in record {
      below = search rules;
      same = search rules;
      learnt = learnt_then (whole c.args.pass.now) l q inv.learnt learnt;
      come = come_goes l q op goes inv.come;
      counted = loaded_goes l q op 1 c.args.count goes inv.counted;
      read = read_goes l q op 1 c.args.count goes inv.read;
      others = others_more l q learnt op c.args.node c.loop-i.i inv.others
          (place_number at.node at.field, c.in-Ok.ensures.entry.place, c.is_version_of.ensures.no c.if-is_version_of.false);
    }

pub returns-in-Err-clause-learnt : goal.returns-in-Err-clause-learnt
returns-in-Err-clause-learnt g c = let e = c.read_place.ensures in let l = whole c.loop-i.pass in let q = whole c.read_place.new.pass in
    learnt_then (whole c.args.pass.now) l q c.loop-i.invariant.learnt (learnt_by l q e.later e.learns)

pub returns-in-Err-clause-over : goal.returns-in-Err-clause-over
returns-in-Err-clause-over g c = let e = c.in-Err.ensures in let l = whole c.loop-i.pass in let q = whole c.read_place.new.pass in let s = c.in-Err.status in
    failed_since (whole c.args.pass.now) l q c.args.op 0 (IsOverBy s) c.loop-i.invariant.learnt.view.adds
    (over_failed l q c.args.op 0 s e.over e.decided e.ahead e.passed e.cleaned)

pub returns-clause-changes : goal.returns-clause-changes
returns-clause-changes g c = let inv = c.loop-i.invariant in record {
  count = c.args.count;
  counted = inl inv.read.1;
  each = λ k lt. inv.others k (search rules);
}
