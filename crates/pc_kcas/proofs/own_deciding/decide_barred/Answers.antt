-- What each decision asks for.
use Rattle.std.proofs.Common.{◌≡◌, subst, sym}
use Rattle.pc_rule.specs.Passes.{whole}
use Rattle.pc_kcas.specs.Checking.{IsBarred}
use Rattle.pc_kcas.specs.declared.own_checks.Barred.TheVariants.{Changed as ByChange, Locked as ByLock}
use Rattle.pc_kcas.proofs.own_deciding.decide_barred.Goals as goal

pub decide_locked-requires-clause-may : goal.decide_locked-requires-clause-may
decide_locked-requires-clause-may g c = λ _ _. let b = c.requires.barred in
    let h = subst (IsBarred b.0 (whole c.args.pass.now) c.args.op c.args.stamp) c.in-Locked.is b.1 in
    (c.args.stamp, c.requires.drawn, h.3, h.2, h.4)
