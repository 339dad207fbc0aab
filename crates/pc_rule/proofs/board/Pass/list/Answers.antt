-- One word more is listed.
use Rattle.pc_rule.proofs.Listing.{one_listed}
use Rattle.pc_rule.proofs.board.Pass.list.Goals as goal

pub invariant_of-self-clause-listing : goal.invariant_of-self-clause-listing
invariant_of-self-clause-listing g c = one_listed _ c.args.self.now.listed.items _ c.args.place c.push_reserved.ensures.items c.args.self.now.listing c.requires.few c.requires.fits c.requires.apart
