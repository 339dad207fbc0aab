-- A place that is taken from the stack is the root of a tree that waits; its two sides wait after it.
use Rattle.std.proofs.Common.{◌≡◌, ℕ, ◌+◌, ◌<◌, ◌≤◌, ◌∷◌, [], ◌++◌, length, vec_len, sym, ap, ◌∙◌, arith}
use Rattle.std.proofs.lemmas.Grind.{common_steps}
use Rattle.std.proofs.lemmas.List.{nil_from_length}
use Rattle.pc_model.specs.declared.cell.Field.TheVariants.{Left, Right}
use Rattle.pc_plain.specs.PlainCells.{cells_of}
use Rattle.pc_plain.specs.ShapePlaces.{places_at}
use Rattle.pc_plain.proofs.ShapeListing.{IsWalk, IsNext, walk_first, walk_next, walk_on, walk_few, walk_done, link_low}
use Rattle.pc_plain.proofs.tree_shape.places.Goals as goal
use Rattle.pc_plain.proofs.tree_shape.places.Goals.{In-Some}

pub hang-requires : goal.hang-requires
hang-requires c =
    let few : c.args.cells.now.slots ≤ 61000 = c.word.ensures.few in
    let search = c.requires.2 in
    let low : cells_of c.args.cells.now 1 Left ≤ c.args.cells.now.slots + 1
    = link_low c.requires.0 c.args.cells.now.slots (cells_of c.args.cells.now) search.tree 1
    (cells_of c.args.cells.now 1 Left) search.spelled in
    let value : c.word.result ≡ cells_of c.args.cells.now 1 Left = c.word.ensures.value in
    omega (arith, few, low, value)

pub loop-place-init : goal.loop-place-init
loop-place-init c =
    let waits : c.hang.new.waiting.items ≡ places_at (cells_of c.args.cells.now 1 Left) 1
    = c.in_ok-hang.ensures ∙ ap (λ x. x ++ places_at c.word.result 1) c.new-waiting.ensures.items
    ∙ ap (λ (x : ℕ). places_at x 1) c.word.ensures.value in
    rw (c.new-listed.ensures.items, waits)
    (walk_first c.requires.0 c.args.cells.now.slots (cells_of c.args.cells.now) c.requires.1 c.requires.2)

at_top : (c : In-Some) → IsWalk c.args.cells.now.slots (cells_of c.args.cells.now) c.loop-place.listed.items
    (c.pop.new.self.items ++ c.in-Some.place ∷ [])
at_top c = rw (← c.in-Some.ensures.items) c.loop-place.invariant

next_at : (c : In-Some) → IsNext (at_top c).kind c.args.cells.now.slots (cells_of c.args.cells.now)
    (length c.loop-place.listed.items + 1) (at_top c).waiting c.pop.new.self.items c.in-Some.place
next_at c = walk_next c.args.cells.now.slots (cells_of c.args.cells.now) c.loop-place.listed.items
    c.pop.new.self.items c.in-Some.place (at_top c)

few_at : (c : In-Some) → length c.loop-place.listed.items < c.args.cells.now.slots
few_at c = walk_few c.args.cells.now.slots (cells_of c.args.cells.now) c.loop-place.listed.items
    c.pop.new.self.items c.in-Some.place (at_top c)

right_low : (c : In-Some) → cells_of c.args.cells.now c.in-Some.place.node Right ≤ c.args.cells.now.slots + 1
right_low c = link_low (at_top c).kind c.args.cells.now.slots (cells_of c.args.cells.now) (next_at c).right
    c.in-Some.place.node (cells_of c.args.cells.now c.in-Some.place.node Right) (next_at c).spelled_right

left_low : (c : In-Some) → cells_of c.args.cells.now c.in-Some.place.node Left ≤ c.args.cells.now.slots + 1
left_low c = link_low (at_top c).kind c.args.cells.now.slots (cells_of c.args.cells.now) (next_at c).left
    c.in-Some.place.node (cells_of c.args.cells.now c.in-Some.place.node Left) (next_at c).spelled_left

pub word-requires-in-Some : goal.word-requires-in-Some
word-requires-in-Some c = (next_at (goal.at.word-requires-in-Some c).In-Some).slot.1

pub overflow_add-place : goal.overflow_add-place
overflow_add-place c =
    let here = (goal.at.overflow_add-place c).In-Some in
    let few : c.args.cells.now.slots ≤ 61000 = c.word.ensures.few in
    let less : length c.loop-place.listed.items < c.args.cells.now.slots = few_at here in
    let near : c.in-Some.place.depth ≤ length c.loop-place.listed.items + 1 = (next_at here).near in
    omega (arith, few, less, near)

pub hang-requires-in-Some : goal.hang-requires-in-Some
hang-requires-in-Some c =
    let few : c.args.cells.now.slots ≤ 61000 = c.word.ensures.few in
    let low : cells_of c.args.cells.now c.in-Some.place.node Right ≤ c.args.cells.now.slots + 1
    = right_low (goal.at.hang-requires-in-Some c).In-Some in
    let value : c.word-in-Some.result ≡ cells_of c.args.cells.now c.in-Some.place.node Right
    = c.word-in-Some.ensures.value in
    omega (arith, few, low, value)

pub word-requires-in-Some-2 : goal.word-requires-in-Some-2
word-requires-in-Some-2 c = (next_at (goal.at.word-requires-in-Some-2 c).In-Some).slot.1

pub overflow_add-place-in-Some : goal.overflow_add-place-in-Some
overflow_add-place-in-Some c =
    let here = (goal.at.overflow_add-place-in-Some c).In-Some in
    let few : c.args.cells.now.slots ≤ 61000 = c.word.ensures.few in
    let less : length c.loop-place.listed.items < c.args.cells.now.slots = few_at here in
    let near : c.in-Some.place.depth ≤ length c.loop-place.listed.items + 1 = (next_at here).near in
    omega (arith, few, less, near)

pub hang-requires-in-Some-2 : goal.hang-requires-in-Some-2
hang-requires-in-Some-2 c =
    let few : c.args.cells.now.slots ≤ 61000 = c.word.ensures.few in
    let low : cells_of c.args.cells.now c.in-Some.place.node Left ≤ c.args.cells.now.slots + 1
    = left_low (goal.at.hang-requires-in-Some-2 c).In-Some in
    let value : c.word-in-Some-2.result ≡ cells_of c.args.cells.now c.in-Some.place.node Left
    = c.word-in-Some-2.ensures.value in
    omega (arith, few, low, value)

pub loop-place-smaller : goal.loop-place-smaller
loop-place-smaller c =
    let less : length c.loop-place.listed.items < c.args.cells.now.slots
    = few_at (goal.at.loop-place-smaller c).In-Some in
    let pushed : vec_len c.push.new.self ≡ vec_len c.loop-place.listed + 1 = grind (arith, common_steps) in
    let b : vec_len c.loop-place.listed ≡ length c.loop-place.listed.items = c.loop-place.listed.ok.0 in
    omega (arith, less, pushed, b)

pub loop-place-preserved : goal.loop-place-preserved
loop-place-preserved c =
    let here = (goal.at.loop-place-preserved c).In-Some in
    let node = c.in-Some.place.node in
    let deeper = c.in-Some.place.depth + 1 in
    let pushed : c.push.new.self.items ≡ c.loop-place.listed.items ++ c.in-Some.place ∷ []
    = grind (arith, common_steps) in
    let waits : c.hang-in-Some-2.new.waiting.items ≡ (c.pop.new.self.items
    ++ places_at (cells_of c.args.cells.now node Right) deeper)
    ++ places_at (cells_of c.args.cells.now node Left) deeper
    = c.in_ok-hang-3.ensures
    ∙ ap (λ x. x ++ places_at c.word-in-Some-2.result deeper) (c.in_ok-hang-2.ensures
    ∙ ap (λ (x : ℕ). c.pop.new.self.items ++ places_at x deeper) c.word-in-Some.ensures.value)
    ∙ ap (λ (x : ℕ). (c.pop.new.self.items ++ places_at (cells_of c.args.cells.now node Right) deeper)
    ++ places_at x deeper) c.word-in-Some-2.ensures.value in
    rw (pushed, waits) (walk_on c.args.cells.now.slots (cells_of c.args.cells.now) c.loop-place.listed.items
    c.pop.new.self.items c.in-Some.place (at_top here))

pub returns : goal.returns
returns c =
    let none : c.loop-place.waiting.items ≡ []
    = nil_from_length c.loop-place.waiting.items (sym c.loop-place.waiting.ok.0 ∙ c.in_default.ensures.cases.0) in
    let end : IsWalk c.args.cells.now.slots (cells_of c.args.cells.now) c.loop-place.listed.items []
    = rw (← none) c.loop-place.invariant in
    walk_done c.args.cells.now.slots (cells_of c.args.cells.now) c.loop-place.listed.items end
