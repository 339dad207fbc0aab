use Rattle.std.proofs.Common.{refl}
use Rattle.pc_model.specs.declared.cell.Field.TheVariants.{Key as KeyField, Left as LeftLink}
use Rattle.pc_avl.specs.Looks.{told_all}
use Rattle.pc_avl.proofs.look.Look.at_once.Goals as goal

pub word-key-requires : goal.word-key-requires
word-key-requires g c =
    c.requires (told_all (g.C.StillCells.cells c.args.cells.now) c.args.self.now.seen.node c.in-Version-Version.version
    (g.C.StillCells.cells c.args.cells.now c.args.self.now.seen.node KeyField)
    (g.C.StillCells.cells c.args.cells.now c.args.self.now.seen.node LeftLink))
    (rw (c.in-Version-Version.is-0, c.in-Version-Version.is-1) refl)

pub word-left-requires : goal.word-left-requires
word-left-requires g c =
    c.requires (told_all (g.C.StillCells.cells c.args.cells.now) c.args.self.now.seen.node c.in-Version-Version.version
    (g.C.StillCells.cells c.args.cells.now c.args.self.now.seen.node KeyField)
    (g.C.StillCells.cells c.args.cells.now c.args.self.now.seen.node LeftLink))
    (rw (c.in-Version-Version.is-0, c.in-Version-Version.is-1) refl)

pub told_all-requires : goal.told_all-requires
told_all-requires g c =
    c.requires (told_all (g.C.StillCells.cells c.args.cells.now) c.args.self.now.seen.node c.in-Version-Version.version
    (g.C.StillCells.cells c.args.cells.now c.args.self.now.seen.node KeyField)
    (g.C.StillCells.cells c.args.cells.now c.args.self.now.seen.node LeftLink))
    (rw (c.in-Version-Version.is-0, c.in-Version-Version.is-1) refl)

pub told_all-requires-in-Left-Number : goal.told_all-requires-in-Left-Number
told_all-requires-in-Left-Number g c =
    c.requires (told_all (g.C.StillCells.cells c.args.cells.now) c.args.self.now.seen.node c.args.self.now.seen.version
    c.args.self.now.seen.key c.in-Left-Number.left)
    (rw (c.in-Left-Number.is-0, c.in-Left-Number.is-1) refl)
