-- The same words are listed, in their order.
use Rattle.std.proofs.Common.{rules}
use Rattle.std.proofs.lemmas.List.Sorted.{IsNonDecreasingBy-from_sort_by_key}
use Rattle.pc_rule.specs.Listed.{word_number}
use Rattle.pc_rule.proofs.Listing.{listed_again}
use Rattle.pc_rule.proofs.board.Pass.sort_listed.Goals as goal

pub invariant_of-self-clause-listing : goal.invariant_of-self-clause-listing
invariant_of-self-clause-listing g c = listed_again _ c.args.self.now.listed.items _ c.sort_unstable_by_key.ensures.permutation c.args.self.now.listing

pub returns-clause-rising : goal.returns-clause-rising
returns-clause-rising g c = IsNonDecreasingBy-from_sort_by_key word_number _ c.sort_unstable_by_key.ensures.sorted (λ a r q k. search rules)
