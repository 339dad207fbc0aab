use Rattle.std.proofs.Common.{rules, ◌∙◌, ap}
use Rattle.pc_model.specs.Counts.{count}
use Rattle.pc_plain.proofs.Opening.{one_pushed}
use Rattle.pc_plain.proofs.node_words.all_slots.Goals as goal

pub loop-pushed-preserved : goal.loop-pushed-preserved
loop-pushed-preserved c = record {
  long = search rules;
  room = c.push_reserved.ensures.capacity ∙ c.loop-pushed.invariant.room;
  counts = λ n. ap (count n) c.push_reserved.ensures.items
      ∙ one_pushed c.args.slots c.loop-pushed.pushed n c.loop-pushed.free.items c.loop-pushed-test.true
      (c.loop-pushed.invariant.counts n);
}
