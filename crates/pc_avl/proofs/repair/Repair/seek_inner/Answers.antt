use Rattle.std.proofs.Common.{◌∙◌}
use Rattle.pc_model.specs.Sides.{opposite}
use Rattle.pc_avl.specs.declared.repair.Place.TheVariants.{Inner}
use Rattle.pc_avl.specs.Looks.{link_at}
use Rattle.pc_avl.specs.Repairs.{child, turns}
use Rattle.pc_avl.proofs.Seeking.{seeks_known}
use Rattle.pc_avl.proofs.repair.Repair.seek_inner.Goals as goal

pub returns-in-Known : goal.returns-in-Known
returns-in-Known c = c.turn.ensures ∙ seeks_known turns c.args.self.now c.seek.new.self Inner (link_at (child c.args.self.now) (opposite c.args.self.now.side))
    c.link-link.result c.seek.result c.seek.ensures (cc) c.in-Known.is
