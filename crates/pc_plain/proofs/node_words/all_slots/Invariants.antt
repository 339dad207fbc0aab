use Rattle.std.proofs.Common.{◌≡◌, ℕ, vec_len, vec_capacity}
use Rattle.pc_model.specs.Counts.{count, one_if}
use Rattle.pc_plain.proofs.Opening.{is_among_last}
use Rattle.pc_plain.proofs.node_words.all_slots.Given as goal

abbrev pub invariant-loop-pushed : goal.invariant-loop-pushed
invariant-loop-pushed l = record {
  long : vec_len l.free ≡ l.pushed;
  room : vec_capacity l.free ≡ l.slots;
  counts : (n : ℕ) → count n l.free.items ≡ one_if (is_among_last l.slots l.pushed n);
}
