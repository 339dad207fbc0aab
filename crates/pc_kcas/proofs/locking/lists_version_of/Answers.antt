-- One word more isn't the version, or it is.
use Rattle.std.proofs.Common.{rules, ◌≡◌, [], drop, refl, sym, ap, ◌∙◌, arith}
use Rattle.pc_kcas.specs.Locks.{lists_version}
use Rattle.pc_kcas.proofs.Locks.{lists_here, lists_elsewhere}
use Rattle.pc_kcas.proofs.locking.lists_version_of.Goals as goal

pub loop-i-preserved : goal.loop-i-preserved
loop-i-preserved g c = record {
  below = search rules;
  rest = lists_elsewhere c.listed-places.result.now c.loop-i.i c.args.node _ c.loop-i-test.true (c.is_version_of.ensures.no c.if-is_version_of.false) c.loop-i.invariant.rest;
}
