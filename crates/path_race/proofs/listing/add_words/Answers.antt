-- A field more was added, and the pass sits as it did.
use Rattle.pc_kcas.proofs.Finished.{seated_then}
use Rattle.path_race.proofs.listing.add_words.Goals as goal

pub loop-place-preserved : goal.loop-place-preserved
loop-place-preserved c = record {
  seated = seated_then c.args.pass.now c.loop-place.pass c.add_field.new.pass c.loop-place.invariant.seated c.add_field.ensures.seated;
  added = c.add_field.ensures.added c.if-not-add_field.false;
}
