use Rattle.std.proofs.Common.{◌≡◌, ◌+◌, ◌≤◌, ◌∷◌, [], ◌++◌, length, vec_len, sym, ap, ◌∙◌, arith}
use Rattle.std.proofs.lemmas.Grind.{common_steps}
use Rattle.std.proofs.lemmas.List.{nil_from_length}
use Rattle.pc_model.specs.Cells.{IsSlot}
use Rattle.pc_model.specs.Trees.{pair_of}
use Rattle.pc_plain.specs.PlainCells.{cells_of}
use Rattle.pc_plain.proofs.Listing.{IsListing, listing_slot, listing_left, listing_last, listing_right, listing_few}
use Rattle.pc_plain.proofs.Listing.{listing_done}
use Rattle.pc_plain.proofs.tree_pairs.pairs.Goals as goal
use Rattle.pc_plain.proofs.tree_pairs.pairs.Goals.{Then-link-ne0, After-word-link-then-link-ne0, In-Some}
use Rattle.pc_plain.proofs.tree_pairs.pairs.Goals.{After-word-link-else-link-ne0}

link_slot : (c : Then-link-ne0) → IsSlot c.args.cells.now.slots c.walk.link
link_slot c = listing_slot c.args.cells.now.slots
    (cells_of c.args.cells.now) c.walk.listed.items c.walk.link c.walk.waiting.items c.walk.invariant
    c.if-link-ne0.true

gone_left : (c : After-word-link-then-link-ne0)
    → IsListing c.args.cells.now.slots
    (cells_of c.args.cells.now) c.walk.listed.items c.word-link-then-link-ne0.result c.push.new.self.items
gone_left c =
    let pushed : c.push.new.self.items ≡ c.walk.waiting.items ++ c.walk.link ∷ [] = grind (arith, common_steps) in
    rw (c.word-link-then-link-ne0.ensures.value, pushed)
    (listing_left c.args.cells.now.slots
    (cells_of c.args.cells.now) c.walk.listed.items c.walk.link c.walk.waiting.items c.walk.invariant
    c.if-link-ne0.true)

at_last : (c : In-Some)
    → IsListing c.args.cells.now.slots (cells_of c.args.cells.now) c.walk.listed.items 0
    (c.pop.new.self.items ++ c.in-Some.node ∷ [])
at_last c = rw (← c.if-link-ne0.false, ← c.in-Some.ensures.items) c.walk.invariant

last_slot : (c : In-Some) → IsSlot c.args.cells.now.slots c.in-Some.node
last_slot c = (listing_last c.args.cells.now.slots
    (cells_of c.args.cells.now) c.walk.listed.items c.pop.new.self.items c.in-Some.node (at_last c)).slot

pub overflow_cast-node : goal.overflow_cast-node
overflow_cast-node c =
    let slot : IsSlot c.args.cells.now.slots c.walk.link = link_slot c in
    let few : c.args.cells.now.slots ≤ 61000 = c.word-link.ensures.few in
    omega arith

pub word-link-requires-then-link-ne0 : goal.word-link-requires-then-link-ne0
word-link-requires-then-link-ne0 c = (link_slot (goal.at.word-link-requires-then-link-ne0 c).Then-link-ne0).1

pub walk-smaller-then-link-ne0 : goal.walk-smaller-then-link-ne0
walk-smaller-then-link-ne0 c =
    let few : length c.walk.listed.items + length c.push.new.self.items ≤ c.args.cells.now.slots
    = listing_few c.args.cells.now.slots
    (cells_of c.args.cells.now) c.walk.listed.items c.word-link-then-link-ne0.result c.push.new.self.items
    (gone_left c) in
    let pushed : vec_len c.push.new.self ≡ vec_len c.walk.waiting + 1 = grind (arith, common_steps) in
    let a : vec_len c.push.new.self ≡ length c.push.new.self.items = c.push.new.self.ok.0 in
    let b : vec_len c.walk.listed ≡ length c.walk.listed.items = c.walk.listed.ok.0 in
    omega arith

pub walk-preserved-then-link-ne0 : goal.walk-preserved-then-link-ne0
walk-preserved-then-link-ne0 c = gone_left c

pub returns-in_default : goal.returns-in_default
returns-in_default c =
    let none : c.walk.waiting.items ≡ []
    = nil_from_length c.walk.waiting.items (sym c.walk.waiting.ok.0 ∙ c.in_default.ensures.cases.0) in
    let end : IsListing c.args.cells.now.slots (cells_of c.args.cells.now) c.walk.listed.items 0 []
    = rw (← c.if-link-ne0.false, ← none) c.walk.invariant in
    listing_done c.args.cells.now.slots (cells_of c.args.cells.now) c.walk.listed.items end

pub word-requires : goal.word-requires
word-requires c = (last_slot c).1

pub word-requires-else-link-ne0 : goal.word-requires-else-link-ne0
word-requires-else-link-ne0 c = (last_slot (goal.at.word-requires-else-link-ne0 c).In-Some).1

pub word-link-requires-else-link-ne0 : goal.word-link-requires-else-link-ne0
word-link-requires-else-link-ne0 c = (last_slot (goal.at.word-link-requires-else-link-ne0 c).In-Some).1

pub walk-smaller : goal.walk-smaller
walk-smaller c =
    let few : length c.walk.listed.items + length
    (c.pop.new.self.items ++ c.in-Some.node ∷ []) ≤ c.args.cells.now.slots
    = listing_few c.args.cells.now.slots (cells_of c.args.cells.now) c.walk.listed.items 0
    (c.pop.new.self.items ++ c.in-Some.node ∷ []) (at_last (goal.at.walk-smaller c).In-Some) in
    let popped : vec_len c.pop.new.self + 1 ≡ vec_len c.walk.waiting = c.in-Some.ensures.cases in
    let pushed : vec_len c.push-else-link-ne0.new.self ≡ vec_len c.walk.listed + 1 = grind (arith, common_steps) in
    let a : vec_len c.walk.waiting ≡ length c.walk.waiting.items = c.walk.waiting.ok.0 in
    let b : vec_len c.walk.listed ≡ length c.walk.listed.items = c.walk.listed.ok.0 in
    let d : length c.walk.waiting.items ≡ length (c.pop.new.self.items ++ c.in-Some.node ∷ [])
    = ap length c.in-Some.ensures.items in
    omega arith

pub walk-preserved : goal.walk-preserved
walk-preserved c =
    let pushed : c.push-else-link-ne0.new.self.items ≡ c.walk.listed.items ++ pair_of
    (cells_of c.args.cells.now) c.in-Some.node ∷ []
    = (let e : c.push-else-link-ne0.new.self.items ≡ c.walk.listed.items ++
    (c.word.result, c.word-else-link-ne0.result) ∷ [] = grind (arith, common_steps) in e)
    ∙ (λ i. c.walk.listed.items ++ (c.word.ensures.value i, c.word-else-link-ne0.ensures.value i) ∷ []) in
    rw (c.word-link-else-link-ne0.ensures.value, pushed)
    (listing_right c.args.cells.now.slots
    (cells_of c.args.cells.now) c.walk.listed.items c.pop.new.self.items c.in-Some.node
    (at_last (goal.at.walk-preserved c).In-Some))
