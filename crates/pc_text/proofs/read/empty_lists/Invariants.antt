-- So many empty lists were made.
use Rattle.std.proofs.Common.{◌≡◌, [], vec_len}
use Rattle.std.specs.List.{All}
use Rattle.pc_text.proofs.read.empty_lists.Given as goal

abbrev pub invariant-loop : goal.invariant-loop
invariant-loop l = record {
  empty : All (λ list. list.items ≡ []) l.lists.items;
  count : vec_len l.lists ≡ l.counter;
}
