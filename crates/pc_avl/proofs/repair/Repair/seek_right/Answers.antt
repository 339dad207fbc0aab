use Rattle.std.proofs.Common.{◌∙◌, refl}
use Rattle.pc_avl.specs.declared.repair.Place.TheVariants.{Right}
use Rattle.pc_avl.specs.Repairs.{weighs}
use Rattle.pc_avl.proofs.Seeking.{seeks_known}
use Rattle.pc_avl.proofs.repair.Repair.seek_right.Goals as goal

pub returns-in-Known : goal.returns-in-Known
returns-in-Known c = c.weigh.ensures ∙ seeks_known weighs c.args.self.now c.seek.new.self Right (c.args.self.now.node.right)
    c.args.self.now.node.right c.seek.result c.seek.ensures refl c.in-Known.is
