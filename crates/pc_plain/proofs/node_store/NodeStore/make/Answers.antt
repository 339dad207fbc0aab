use Rattle.std.proofs.Common.{◌≡◌, ◌<◌, ◌++◌, ap, sym, ◌∙◌, subst, length, IsSome, option_to_list, vec_len}
use Rattle.std.proofs.Common.{vec_capacity}
use Rattle.pc_plan.specs.Planned.{Planned}
use Rattle.pc_plain.specs.PlainCells.{PlainWords, cells_in}
use Rattle.pc_plain.specs.PlainWriting.{with_adds, TakesSlot, CanMake, IsWritten}
use Rattle.pc_plain.proofs.Making.{made_reach, made_room, made_sound, made_is}
use Rattle.pc_plain.proofs.node_store.NodeStore.make.Goals as goal
use Rattle.pc_plain.proofs.node_store.NodeStore.make.Goals.{After-adds}

abbrev seen : (c : After-adds) → PlainWords
seen c = record { slots = c.self.inside.slots; words = c.self.inside.words }

can_make : (c : After-adds) → CanMake (seen c) c.args.change.now
can_make c = subst (λ (w : PlainWords). CanMake w c.args.change.now) (sym c.self.view_is) c.requires

takes_it : (c : After-adds)
    → TakesSlot c.args.change.now.fresh c.self.inside.words c.take_slot.new.words c.self.inside.free.items
    c.take_slot.new.free.items c.in-Some.slot
takes_it c = subst (λ (p : Planned). TakesSlot p.fresh c.self.inside.words c.take_slot.new.words
    c.self.inside.free.items c.take_slot.new.free.items c.in-Some.slot) c.change.view_is c.in-Some.ensures.some

pub write_adds-requires : goal.write_adds-requires
write_adds-requires c =
    rw c.adds.ensures.words
    (made_reach (seen c) c.self.inside.free.items (vec_capacity c.self.inside.free) c.args.change.now c.self.invariant
    (can_make c)
    c.take_slot.new.words c.take_slot.new.free.items c.in-Some.slot (takes_it c))

pub give_slot-requires : goal.give_slot-requires
give_slot-requires c =
    let b : After-adds = (goal.at.give_slot-requires c).After-adds in
    let cells : cells_in c.write_adds.new.words ≡ with_adds c.in-Some.slot c.args.change.now.adds
    (cells_in c.take_slot.new.words) = rw c.adds.ensures.words at c.write_adds.ensures.cells in
    let room : IsSome c.args.change.now.mark → length c.take_slot.new.free.items < vec_capacity c.self.inside.free
    = made_room (seen b) c.self.inside.free.items (vec_capacity c.self.inside.free) c.args.change.now c.self.invariant
    (can_make b)
    c.take_slot.new.words c.take_slot.new.free.items c.in-Some.slot
    (takes_it b) c.write_adds.new.words cells in
    let mark : c.change.inside.mark ≡ c.args.change.now.mark = ap (λ (p : Planned). p.mark) c.change.view_is in
    let same : vec_capacity c.take_slot.new.free ≡ vec_capacity c.self.inside.free = c.in-Some.ensures.room in
    let len : vec_len c.take_slot.new.free ≡ length c.take_slot.new.free.items = c.take_slot.new.free.ok.0 in
    rw (mark, same, len) room

pub invariant_of-self-2 : goal.invariant_of-self-2
invariant_of-self-2 c =
    let b : After-adds = (goal.at.invariant_of-self-2 c).After-adds in
    let cells : cells_in c.write_adds.new.words ≡ with_adds c.in-Some.slot c.args.change.now.adds
    (cells_in c.take_slot.new.words) = rw c.adds.ensures.words at c.write_adds.ensures.cells in
    let mark : c.change.inside.mark ≡ c.args.change.now.mark = ap (λ (p : Planned). p.mark) c.change.view_is in
    let free : c.give_slot.new.free.items ≡ c.take_slot.new.free.items ++ option_to_list c.args.change.now.mark
    = rw mark at c.give_slot.ensures.free in
    let same : vec_capacity c.give_slot.new.free ≡ vec_capacity c.self.inside.free
    = c.give_slot.ensures.room ∙ c.in-Some.ensures.room in
    made_sound (seen b) c.self.inside.free.items (vec_capacity c.self.inside.free) c.args.change.now c.self.invariant
    (can_make b)
    c.take_slot.new.words c.take_slot.new.free.items c.in-Some.slot
    (takes_it b) c.write_adds.new.words cells c.give_slot.new.free.items
    (vec_capacity c.give_slot.new.free) free same c.write_adds.ensures.long

pub returns-clause-made : goal.returns-clause-made
returns-clause-made c =
    let b : After-adds = (goal.at.returns-clause-made c).After-adds in
    let cells : cells_in c.write_adds.new.words ≡ with_adds c.in-Some.slot c.args.change.now.adds
    (cells_in c.take_slot.new.words) = rw c.adds.ensures.words at c.write_adds.ensures.cells in
    let is : IsWritten (seen b)
    (record { slots = c.self.inside.slots; words = c.write_adds.new.words }) c.args.change.now
    = made_is (seen b) c.self.inside.free.items (vec_capacity c.self.inside.free) c.args.change.now c.self.invariant
    (can_make b)
    c.take_slot.new.words c.take_slot.new.free.items c.in-Some.slot
    (takes_it b) c.write_adds.new.words cells in
    subst (λ (w : PlainWords). IsWritten w
    (record { slots = c.self.inside.slots; words = c.write_adds.new.words }) c.args.change.now)
    c.self.view_is is
