use Rattle.std.proofs.Common.{◌∙◌}
use Rattle.pc_avl.specs.declared.repair.Place.TheVariants.{Outer}
use Rattle.pc_avl.specs.Looks.{link_at}
use Rattle.pc_avl.specs.Repairs.{child, seeks_inner}
use Rattle.pc_avl.proofs.Seeking.{seeks_known}
use Rattle.pc_avl.proofs.repair.Repair.seek_outer.Goals as goal

pub returns-in-Known : goal.returns-in-Known
returns-in-Known c = c.seek_inner.ensures ∙ seeks_known seeks_inner c.args.self.now c.seek.new.self Outer (link_at (child c.args.self.now) c.args.self.now.side)
    c.link-link.result c.seek.result c.seek.ensures (cc) c.in-Known.is
