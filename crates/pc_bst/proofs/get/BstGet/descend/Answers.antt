use Rattle.pc_bst.proofs.GetDescents.{goes_by_nodes, goes_down}
use Rattle.pc_bst.proofs.get.BstGet.descend.Goals as goal

pub of-requires : goal.of-requires
of-requires g c =
    goes_by_nodes c.args.self.now (g.C.StillCells.slots c.args.cells.now) (g.C.StillCells.cells c.args.cells.now)
    c.args.told c.in-Walking.is c.requires

pub returns : goal.returns
returns g c =
    goes_down c.args.self.now (g.C.StillCells.slots c.args.cells.now) (g.C.StillCells.cells c.args.cells.now)
    c.args.told c.in-Walking.is c.requires c.in-Some.descent c.in-Some.ensures
