use Rattle.std.proofs.Common.{◌≡◌, ◌∙◌, length, sym, subst, arith}
use Rattle.pc_plain.specs.PlainCells.{SplitWords}
use Rattle.pc_plain.specs.PlainWriting.{ReachWords}
use Rattle.pc_plain.proofs.SplitWriting.{near_written, far_written}
use Rattle.pc_plain.proofs.node_words.write.Goals as goal

pub returns-then-is_near-clause-cells : goal.returns-then-is_near-clause-cells
returns-then-is_near-clause-cells c =
    let reach : ReachWords c.args.node (length c.words.inside.near.items)
    = subst (λ (w : SplitWords). ReachWords c.args.node (length w.near)) (sym c.words.view_is) c.requires in
    rw (← c.words.view_is, c.place_of.ensures)
    (near_written (record { near = c.words.inside.near.items; far = c.words.inside.far.items }) c.args.node c.args.field
    c.args.number (sym c.is_near.ensures ∙ c.if-is_near.true) reach)

pub returns-else-is_near-clause-cells : goal.returns-else-is_near-clause-cells
returns-else-is_near-clause-cells c =
    let near : ReachWords c.args.node (length c.words.inside.near.items)
    = subst (λ (w : SplitWords). ReachWords c.args.node (length w.near)) (sym c.words.view_is) c.requires in
    let even : length c.words.inside.near.items ≡ length c.words.inside.far.items = c.words.invariant in
    let reach : ReachWords c.args.node (length c.words.inside.far.items) = omega arith in
    rw (← c.words.view_is, c.place_of.ensures)
    (far_written (record { near = c.words.inside.near.items; far = c.words.inside.far.items }) c.args.node c.args.field
    c.args.number (sym c.is_near.ensures ∙ c.if-is_near.false) reach)
