use Rattle.pc_model.specs.Trees.{plain, balanced}
use Rattle.pc_plain.proofs.Opening.{opening_sound, opening_empty}
use Rattle.pc_plain.proofs.node_store.NodeStore.new.Goals as goal

pub invariant_of-result : goal.invariant_of-result
invariant_of-result c =
    opening_sound c.args.slots c.in_ok-words.words c.in_ok-words.ensures.long c.in_ok-words.ensures.even
    c.in_ok-words.ensures.cells
    c.in_ok-free.free.items _ c.requires c.in_ok-free.ensures.counts c.in_ok-free.ensures.room

pub returns-clause-empty : goal.returns-clause-empty
returns-clause-empty c =
    opening_empty c.args.slots c.in_ok-words.words c.in_ok-words.ensures.long c.in_ok-words.ensures.even
    c.in_ok-words.ensures.cells plain

pub returns-clause-empty_balanced : goal.returns-clause-empty_balanced
returns-clause-empty_balanced c =
    opening_empty c.args.slots c.in_ok-words.words c.in_ok-words.ensures.long c.in_ok-words.ensures.even
    c.in_ok-words.ensures.cells balanced
