-- One change more is of another word, or the change is found.
use Rattle.std.proofs.Common.{rules, arith, refl}
use Rattle.pc_rule.specs.Passes.{whole}
use Rattle.pc_kcas.specs.Exchanges.{own_exchange}
use Rattle.pc_kcas.proofs.Cleared.{own_entry_of}
use Rattle.pc_kcas.proofs.OwnVisits.{own_other, others_next, own_leaves}
use Rattle.pc_kcas.proofs.VisitsPassed.{changes_by}
use Rattle.pc_kcas.proofs.own_checks.own_old.Goals as goal

pub returns-then-is_version_of : goal.returns-then-is_version_of
returns-then-is_version_of g c = let p = c.args.pass.now in
    let e = own_entry_of p c.loop-i.i c.listed.result.now _ (own_exchange p) c.requires.published c.listed.ensures (search rules) refl refl in
    changes_by (whole p) (own_exchange p) e.0 c.args.node _ e.1 (c.is_version_of.ensures.yes c.if-is_version_of.true)

pub loop-i-preserved : goal.loop-i-preserved
loop-i-preserved g c = let p = c.args.pass.now in record {
  below = search rules;
  others = others_next p c.args.node c.loop-i.i c.loop-i.invariant.others
      (own_other p c.loop-i.i c.listed.result.now _ c.args.node c.requires.published c.listed.ensures (search rules) (c.is_version_of.ensures.no c.if-is_version_of.false));
}

pub returns : goal.returns
returns g c = own_leaves c.args.pass.now c.args.node c.requires.published (λ k lt. c.loop-i.invariant.others k (search rules))
