use Rattle.std.proofs.Common.{◌∙◌, refl}
use Rattle.pc_avl.specs.declared.repair.Place.TheVariants.{Left}
use Rattle.pc_avl.specs.Repairs.{seeks_right}
use Rattle.pc_avl.proofs.Seeking.{seeks_known}
use Rattle.pc_avl.proofs.repair.Repair.seek_left.Goals as goal

pub returns-in-Known : goal.returns-in-Known
returns-in-Known c = c.seek_right.ensures ∙ seeks_known seeks_right c.args.self.now c.seek.new.self Left (c.args.self.now.node.left)
    c.args.self.now.node.left c.seek.result c.seek.ensures refl c.in-Known.is
