-- The place goes up to the first visit of the node, which isn't behind the one that was given.
use Rattle.std.proofs.Common.{arith}
use Rattle.pc_rule.specs.declared.visit.Visit.{Visit}
use Rattle.pc_path.proofs.Places.{not_passed, more_others, first_at}
use Rattle.pc_path.proofs.checking.first_seen.Goals as goal

pub loop-place-preserved : goal.loop-place-preserved
loop-place-preserved c = let d : Visit = record { node = 0; version = 0 } in let inv = c.loop-place.invariant in record {
  few = not_passed c.args.visits.now c.args.at c.loop-place.place d inv.few c.loop-place-test.true;
  none = more_others c.args.visits.now c.loop-place.place _ d c.loop-place-test.true inv.none;
}

pub returns : goal.returns
returns c = λ v here. let d : Visit = record { node = 0; version = 0 } in let inv = c.loop-place.invariant in let few = inv.few in let lt = c.requires in
    first_at c.args.visits.now c.args.at c.loop-place.place v d here (omega arith) c.loop-place-test.false inv.none
