-- The heights of a place's two sides are those that were put last, so its line is that of its tree.
use Rattle.std.proofs.Common.{◌≡◌, ℕ, suc, max, ◌+◌, ◌<◌, ◌≤◌, ◌∷◌, [], ◌++◌, reverse, ◌-ℤ◌, sym, ap, ◌∙◌, arith}
use Rattle.std.proofs.lemmas.Grind.{common_steps}
use Rattle.std.proofs.lemmas.List.{nil_from_length}
use Rattle.pc_model.specs.declared.cell.Field.TheVariants.{Left, Right}
use Rattle.pc_model.specs.Cells.{IsSlot}
use Rattle.pc_text.specs.declared.shape.ShapeLine.{ShapeLine}
use Rattle.pc_plain.specs.PlainCells.{cells_of}
use Rattle.pc_plain.specs.ShapePlaces.{side_height, past_side}
use Rattle.pc_plain.proofs.ShapeBuilding.{IsBuilding, building_slot, building_low, building_on, building_done, line_at}
use Rattle.pc_plain.proofs.tree_shape.lines.Goals as goal
use Rattle.pc_plain.proofs.tree_shape.lines.Goals.{In-Some}

at_last : (c : In-Some) → IsBuilding c.args.cells.now.slots (cells_of c.args.cells.now)
    (c.pop.new.self.items ++ c.in-Some.place ∷ []) c.loop-place.heights.items c.loop-place.lines.items
at_last c = rw (← c.in-Some.ensures.items) c.loop-place.invariant

last_slot : (c : In-Some) → IsSlot c.args.cells.now.slots c.in-Some.place.node
last_slot c = building_slot c.args.cells.now.slots (cells_of c.args.cells.now) c.pop.new.self.items
    c.loop-place.heights.items c.loop-place.lines.items c.in-Some.place (at_last c)

pub word-requires : goal.word-requires
word-requires c = (last_slot (goal.at.word-requires c).In-Some).1

pub word-requires-in-Some : goal.word-requires-in-Some
word-requires-in-Some c = (last_slot (goal.at.word-requires-in-Some c).In-Some).1

pub word-requires-in-Some-2 : goal.word-requires-in-Some-2
word-requires-in-Some-2 c = (last_slot (goal.at.word-requires-in-Some-2 c).In-Some).1

pub overflow_add-height : goal.overflow_add-height
overflow_add-height c =
    let here = (goal.at.overflow_add-height c).In-Some in
    let cells = cells_of c.args.cells.now in
    let node = c.in-Some.place.node in
    let hs = reverse c.loop-place.heights.items in
    let left : c.take_side-left.result ≡ side_height (cells node Left) hs
    = c.take_side-left.ensures.height ∙ ap (λ (x : ℕ). side_height x hs) c.word.ensures.value in
    let past : reverse c.take_side-left.new.heights.items ≡ past_side (cells node Left) hs
    = c.take_side-left.ensures.rest ∙ ap (λ (x : ℕ). past_side x hs) c.word.ensures.value in
    let right : c.take_side-right.result ≡ side_height (cells node Right) (past_side (cells node Left) hs)
    = c.take_side-right.ensures.height
    ∙ (λ i. side_height (c.word-in-Some.ensures.value i) (past i)) in
    let low : (c.take_side-left.result < c.args.cells.now.slots) × (c.take_side-right.result < c.args.cells.now.slots)
    = building_low c.args.cells.now.slots cells c.pop.new.self.items c.loop-place.heights.items
    c.loop-place.lines.items c.in-Some.place c.take_side-left.result c.take_side-right.result
    (at_last here) left right in
    let few : c.args.cells.now.slots ≤ 61000 = c.word.ensures.few in
    let higher : c.max-height.result ≡ max c.take_side-left.result c.take_side-right.result = c.max-height.ensures in
    omega (arith, few, low.0, low.1, higher)

pub loop-place-preserved : goal.loop-place-preserved
loop-place-preserved c =
    let here = (goal.at.loop-place-preserved c).In-Some in
    let cells = cells_of c.args.cells.now in
    let node = c.in-Some.place.node in
    let hs = reverse c.loop-place.heights.items in
    let left : c.take_side-left.result ≡ side_height (cells node Left) hs
    = c.take_side-left.ensures.height ∙ ap (λ (x : ℕ). side_height x hs) c.word.ensures.value in
    let past : reverse c.take_side-left.new.heights.items ≡ past_side (cells node Left) hs
    = c.take_side-left.ensures.rest ∙ ap (λ (x : ℕ). past_side x hs) c.word.ensures.value in
    let right : c.take_side-right.result ≡ side_height (cells node Right) (past_side (cells node Left) hs)
    = c.take_side-right.ensures.height
    ∙ (λ i. side_height (c.word-in-Some.ensures.value i) (past i)) in
    let rest : reverse c.take_side-right.new.heights.items
    ≡ past_side (cells node Right) (past_side (cells node Left) hs)
    = c.take_side-right.ensures.rest ∙ (λ i. past_side (c.word-in-Some.ensures.value i) (past i)) in
    let height : c.max-height.result + 1 ≡ suc (max c.take_side-left.result c.take_side-right.result)
    = (let e : c.max-height.result ≡ max c.take_side-left.result c.take_side-right.result = c.max-height.ensures in
    omega (arith, e)) in
    let raised : c.push.new.self.items ≡ c.take_side-right.new.heights.items
    ++ suc (max c.take_side-left.result c.take_side-right.result) ∷ []
    = (let e : c.push.new.self.items ≡ c.take_side-right.new.heights.items ++ (c.max-height.result + 1) ∷ []
    = grind (arith, common_steps) in e) ∙ ap (λ (x : ℕ). c.take_side-right.new.heights.items ++ x ∷ []) height in
    let line : ShapeLine = line_at cells c.in-Some.place c.take_side-left.result c.take_side-right.result in
    let added : c.push-else-is_err.new.self.items ≡ c.loop-place.lines.items ++ line ∷ []
    = (let e : c.push-else-is_err.new.self.items ≡ c.loop-place.lines.items ++ (record {
      depth = c.in-Some.place.depth;
      key = c.word-in-Some-2.result;
      height = c.max-height.result + 1;
      balance = c.from.result -ℤ c.from-in-Some.result;
    }) ∷ [] = grind (arith, common_steps) in e)
    ∙ (λ i. c.loop-place.lines.items ++ (record {
      depth = c.in-Some.place.depth;
      key = c.word-in-Some-2.ensures.value i;
      height = height i;
      balance = c.from.ensures i -ℤ c.from-in-Some.ensures i;
    }) ∷ []) in
    rw (raised, added) (building_on c.args.cells.now.slots cells c.pop.new.self.items c.loop-place.heights.items
    c.loop-place.lines.items c.in-Some.place c.take_side-left.result c.take_side-right.result
    c.take_side-right.new.heights.items (at_last here) left right rest)

pub returns : goal.returns
returns c =
    let none : c.loop-place.places.items ≡ []
    = nil_from_length c.loop-place.places.items (sym c.loop-place.places.ok.0 ∙ c.in_default.ensures.cases.0) in
    let end : IsBuilding c.args.cells.now.slots (cells_of c.args.cells.now) [] c.loop-place.heights.items
    c.loop-place.lines.items
    = rw (← none) c.loop-place.invariant in
    rw (c.reverse.ensures.items)
    (building_done c.args.cells.now c.loop-place.heights.items c.loop-place.lines.items end)
