use Rattle.std.proofs.Common.{◌∙◌}
use Rattle.pc_avl.specs.declared.repair.Place.TheVariants.{Near}
use Rattle.pc_avl.specs.Looks.{link_at}
use Rattle.pc_avl.specs.Repairs.{seeks_far}
use Rattle.pc_avl.proofs.Seeking.{seeks_known}
use Rattle.pc_avl.proofs.repair.Repair.seek_near.Goals as goal

pub returns-in-Known : goal.returns-in-Known
returns-in-Known c = c.seek_far.ensures ∙ seeks_known seeks_far c.args.self.now c.seek.new.self Near (link_at c.args.self.now.inner c.args.self.now.side)
    c.link-link.result c.seek.result c.seek.ensures c.link-link.ensures c.in-Known.is
