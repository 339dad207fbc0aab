use Rattle.std.proofs.Common.{rules}
use Rattle.pc_plain.proofs.FreeSlots.{last_counted, takes_slot}
use Rattle.pc_plain.proofs.node_words.take_slot.Goals as goal

pub word-version-requires : goal.word-version-requires
word-version-requires c = c.requires.within c.in_ok-slot.slot (last_counted _ _ _ c.in_ok-slot.ensures.items)

pub write_fresh-requires-clause-reach : goal.write_fresh-requires-clause-reach
write_fresh-requires-clause-reach c =
    c.requires.within c.in_ok-slot.slot (last_counted _ _ _ c.in_ok-slot.ensures.items)

pub returns-clause-some : goal.returns-clause-some
returns-clause-some c =
    takes_slot c.args.fresh c.in-Some.fresh _ _ _ _ c.in_ok-slot.slot c.word-version.result c.in-Some.is
    c.in_ok-slot.ensures.items c.word-version.ensures c.requires.fit c.write_fresh.ensures.cells
    c.write_fresh.ensures.long (search rules) c.write_fresh.ensures.parent
