-- Nothing is listed any more.
use Rattle.pc_rule.proofs.Listing.{none_listed}
use Rattle.pc_rule.proofs.board.Pass.drop_listed.Goals as goal

pub invariant_of-self-clause-listing : goal.invariant_of-self-clause-listing
invariant_of-self-clause-listing g c = none_listed _ _ c.clear.ensures.items
