use Rattle.std.proofs.Common.{◌≡◌, ◌∙◌, ap, arith, ◌+◌}
use Rattle.pc_model.specs.Cells.{Cells, written}
use Rattle.pc_model.specs.declared.cell.Field.TheVariants.{Version, Key}
use Rattle.pc_plain.specs.PlainCells.{cells_in}
use Rattle.pc_plain.proofs.Opening.{unused_below, unused_none, unused_more, opened}
use Rattle.pc_plain.proofs.node_words.opening_words.Goals as goal

pub loop-node-init : goal.loop-node-init
loop-node-init c = record { long = c.in_ok-words.ensures.long; cells = c.in_ok-words.ensures.cells ∙ unused_none }

pub loop-node-preserved : goal.loop-node-preserved
loop-node-preserved c = record {
  long = c.write.ensures.long ∙ c.loop-node.invariant.long;
  cells = c.write.ensures.cells ∙ ap (λ (d : Cells). written c.loop-node.node Version 1 d) c.loop-node.invariant.cells
      ∙ unused_more c.loop-node.node;
}

pub returns-clause-cells : goal.returns-clause-cells
returns-clause-cells c n f h =
    let all : c.loop-node.node ≡ c.args.slots + 2 = omega arith in
    let e : cells_in c.write-3.new.words ≡ written 1 Key 4611686018427387903
    (written 1 Version 0 (unused_below (c.args.slots + 2)))
    = c.write-3.ensures.cells
    ∙ ap (λ (d : Cells). written 1 Key 4611686018427387903 d)
    (c.write-2.ensures.cells
    ∙ ap (λ (d : Cells). written 1 Version 0 d) (c.loop-node.invariant.cells ∙ ap unused_below all)) in
    ap (λ (d : Cells). d n f) e ∙ opened c.args.slots n f h
