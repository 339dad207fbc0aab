use Rattle.pc_plain.specs.PlainCells.{cells_in}
use Rattle.pc_plain.proofs.KeptCells.{node_written}
use Rattle.pc_plain.proofs.node_words.write_fresh.Goals as goal

pub returns-clause-cells : goal.returns-clause-cells
returns-clause-cells c =
    rw (
      c.write-8.ensures.cells,
      c.write-7.ensures.cells,
      c.write-6.ensures.cells,
      c.write-5.ensures.cells,
      c.write-4.ensures.cells,
      c.write-3.ensures.cells,
      c.write-2.ensures.cells,
      c.write.ensures.cells,
      c.from.ensures,
      c.kept_number.ensures,
    )
    (node_written (cells_in c.args.words.now) c.args.slot c.args.version c.args.fresh)
