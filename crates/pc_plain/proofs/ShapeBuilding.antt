-- How the lines of a tree are built from its nodes, the last node first: a node's line is built where the heights
-- of its two sides are in front of those that wait.
use Rattle.std.proofs.Common.{◌≡◌, ℕ, suc, max, ◌+◌, ◌<◌, ◌≤◌, ◌==◌, pos, ◌-ℤ◌, List, [], ◌∷◌, ◌++◌}
use Rattle.std.proofs.Common.{length, reverse, refl, sym, ap, ◌∙◌, subst, arith, length-append, append_assoc, ⊎_elim}
use Rattle.std.proofs.lemmas.List.{append-nil, reverse-append, reverse-reverse}
use Rattle.std.proofs.lemmas.Bool.{cond-true, cond-false, eq-eqb, ne_eqb, cases_eq}
use Rattle.pc_model.specs.declared.cell.Field.TheVariants.{Key, Left, Right}
use Rattle.pc_model.specs.Cells.{Cells, IsSlot}
use Rattle.pc_model.specs.Trees.{Tree, Empty, Fork, Kind, Spells}
use Rattle.pc_model.specs.Heights.{height_of}
use Rattle.pc_text.specs.declared.shape.ShapeLine.{ShapeLine}
use Rattle.pc_text.specs.Shapes.{shape_of}
use Rattle.pc_plain.specs.declared.tree_shape.Place.{Place}
use Rattle.pc_plain.specs.PlainCells.{PlainWords, cells_of}
use Rattle.pc_plain.specs.PlainShapes.{IsShapeOf}
use Rattle.pc_plain.specs.ShapePlaces.{places_of, ArePlaces, side_height, past_side, front_or, without_front}
use Rattle.pc_plain.proofs.Listing.{spells_once}
use Rattle.pc_plain.proofs.ShapeListing.{places_few}

-- the line of a place between two sides of these heights
abbrev pub line_at : Cells → Place → ℕ → ℕ → ShapeLine
line_at c p left right = record {
  depth = p.depth;
  key = c p.node Key;
  height = suc (max left right);
  balance = pos left -ℤ pos right;
}

abbrev left_height : Cells → Place → List ℕ → ℕ
left_height c p heights = side_height (c p.node Left) heights

abbrev right_height : Cells → Place → List ℕ → ℕ
right_height c p heights = side_height (c p.node Right) (past_side (c p.node Left) heights)

-- the heights that wait, the front one first, and the lines, after these places
abbrev pub heights_of : Cells → List Place → List ℕ
heights_of c [] = []
heights_of c (p ∷ ps) = suc (max (left_height c p (heights_of c ps)) (right_height c p (heights_of c ps)))
    ∷ past_side (c p.node Right) (past_side (c p.node Left) (heights_of c ps))

abbrev pub lines_of : Cells → List Place → List ShapeLine
lines_of c [] = []
lines_of c (p ∷ ps) =
    line_at c p (left_height c p (heights_of c ps)) (right_height c p (heights_of c ps)) ∷ lines_of c ps

-- the height of a tree, if it has a node, in front of others
abbrev raised : Tree → List ℕ → List ℕ
raised Empty hs = hs
raised (Fork n l r) hs = height_of (Fork n l r) ∷ hs

raised_height : (kind : Kind) (slots : ℕ) (c : Cells) (t : Tree) (above link : ℕ) (hs : List ℕ)
    → Spells kind slots c t above link → side_height link (raised t hs) ≡ height_of t
raised_height kind slots c Empty above link hs s = cond-true (link == 0) 0 (front_or 0 hs) (eq-eqb link 0 s)
raised_height kind slots c (Fork n l r) above link hs s =
    let low : 2 ≤ n = s.1.slot.0 in
    let e : link ≡ n = s.0 in
    cond-false (link == 0) 0 (height_of (Fork n l r)) (ne_eqb link 0 (λ z. omega (arith, z, e, low)))

raised_past : (kind : Kind) (slots : ℕ) (c : Cells) (t : Tree) (above link : ℕ) (hs : List ℕ)
    → Spells kind slots c t above link → past_side link (raised t hs) ≡ hs
raised_past kind slots c Empty above link hs s = cond-true (link == 0) hs (without_front hs) (eq-eqb link 0 s)
raised_past kind slots c (Fork n l r) above link hs s =
    let low : 2 ≤ n = s.1.slot.0 in
    let e : link ≡ n = s.0 in
    cond-false (link == 0) (height_of (Fork n l r) ∷ hs) hs (ne_eqb link 0 (λ z. omega (arith, z, e, low)))

module _ (kind : Kind) (slots : ℕ) (c : Cells) where
  -- the heights of both sides of a fork, after its places
  fork_heights : (n : ℕ) (l r : Tree) (hs : List ℕ) → Spells kind slots c l n (c n Left)
      → Spells kind slots c r n (c n Right) → (depth : ℕ)
      → (left_height c (record { node = n; depth = depth }) (raised l (raised r hs)) ≡ height_of l)
      × (right_height c (record { node = n; depth = depth }) (raised l (raised r hs)) ≡ height_of r)
      × (past_side (c n Right) (past_side (c n Left) (raised l (raised r hs))) ≡ hs)
  fork_heights n l r hs left right depth =
      let past : past_side (c n Left) (raised l (raised r hs)) ≡ raised r hs
      = raised_past kind slots c l n (c n Left) (raised r hs) left in (
        raised_height kind slots c l n (c n Left) (raised r hs) left,
        ap (λ (x : List ℕ). side_height (c n Right) x) past ∙ raised_height kind slots c r n (c n Right) hs right,
        ap (λ (x : List ℕ). past_side (c n Right) x) past ∙ raised_past kind slots c r n (c n Right) hs right,
      )

  heights_tree : (depth : ℕ) (t : Tree) (above link : ℕ) (ps : List Place) → Spells kind slots c t above link
      → heights_of c (places_of depth t ++ ps) ≡ raised t (heights_of c ps)
  heights_tree depth Empty above link ps s = refl
  heights_tree depth (Fork n l r) above link ps s =
      let p : Place = record { node = n; depth = depth } in
      let sides : heights_of c ((places_of (depth + 1) l ++ places_of (depth + 1) r) ++ ps)
      ≡ raised l (raised r (heights_of c ps))
      = ap (heights_of c) (append_assoc (places_of (depth + 1) l) (places_of (depth + 1) r) ps)
      ∙ heights_tree (depth + 1) l n (c n Left) (places_of (depth + 1) r ++ ps) s.2
      ∙ ap (raised l) (heights_tree (depth + 1) r n (c n Right) ps s.3) in
      let fork = fork_heights n l r (heights_of c ps) s.2 s.3 depth in
      ap (λ (x : List ℕ). suc (max (left_height c p x) (right_height c p x))
      ∷ past_side (c n Right) (past_side (c n Left) x)) sides
      ∙ (λ i. suc (max (fork.0 i) (fork.1 i)) ∷ fork.2 i)

  heights_sides : (depth n : ℕ) (l r : Tree) (ps : List Place) → Spells kind slots c l n (c n Left)
      → Spells kind slots c r n (c n Right)
      → heights_of c ((places_of depth l ++ places_of depth r) ++ ps) ≡ raised l (raised r (heights_of c ps))
  heights_sides depth n l r ps left right =
      ap (heights_of c) (append_assoc (places_of depth l) (places_of depth r) ps)
      ∙ heights_tree depth l n (c n Left) (places_of depth r ++ ps) left
      ∙ ap (raised l) (heights_tree depth r n (c n Right) ps right)

  lines_tree : (depth : ℕ) (t : Tree) (above link : ℕ) (ps : List Place) → Spells kind slots c t above link
      → lines_of c (places_of depth t ++ ps) ≡ shape_of c depth t ++ lines_of c ps
  lines_tree depth Empty above link ps s = refl
  lines_tree depth (Fork n l r) above link ps s =
      let p : Place = record { node = n; depth = depth } in
      let hs : List ℕ = heights_of c ps in
      let sides = heights_sides (depth + 1) n l r ps s.2 s.3 in
      let fork = fork_heights n l r hs s.2 s.3 depth in
      let others : lines_of c ((places_of (depth + 1) l ++ places_of (depth + 1) r) ++ ps)
      ≡ (shape_of c (depth + 1) l ++ shape_of c (depth + 1) r) ++ lines_of c ps
      = ap (lines_of c) (append_assoc (places_of (depth + 1) l) (places_of (depth + 1) r) ps)
      ∙ lines_tree (depth + 1) l n (c n Left) (places_of (depth + 1) r ++ ps) s.2
      ∙ ap (λ (x : List ShapeLine). shape_of c (depth + 1) l ++ x) (lines_tree (depth + 1) r n (c n Right) ps s.3)
      ∙ sym (append_assoc (shape_of c (depth + 1) l) (shape_of c (depth + 1) r) (lines_of c ps)) in
      ap (λ (x : List ℕ). line_at c p (left_height c p x) (right_height c p x)
      ∷ lines_of c ((places_of (depth + 1) l ++ places_of (depth + 1) r) ++ ps)) sides
      ∙ (λ i. line_at c p (fork.0 i) (fork.1 i) ∷ others i)

-- no height is above a bound
abbrev pub AreLow : ℕ → List ℕ → Type 0
AreLow most [] = Unit {0}
AreLow most (h ∷ hs) = (h ≤ most) × AreLow most hs

low_front : (most link : ℕ) (hs : List ℕ) → AreLow most hs → side_height link hs ≤ most
low_front most link hs low = ⊎_elim
    (λ z. let e : side_height link hs ≡ 0 = cond-true (link == 0) 0 (front_or 0 hs) (eq-eqb link 0 z) in
    omega (arith, e))
    (λ ne. let e : side_height link hs ≡ front_or 0 hs = cond-false (link == 0) 0 (front_or 0 hs) (ne_eqb link 0 ne) in
    low_first hs low e)
    (cases_eq link 0) where
      low_first : (xs : List ℕ) → AreLow most xs → side_height link hs ≡ front_or 0 xs → side_height link hs ≤ most
      low_first [] low e = omega (arith, e)
      low_first (x ∷ xs) low e = let le : x ≤ most = low.0 in omega (arith, e, le)

low_past : (most link : ℕ) (hs : List ℕ) → AreLow most hs → AreLow most (past_side link hs)
low_past most link hs low = ⊎_elim
    (λ z. subst (AreLow most) (sym (cond-true (link == 0) hs (without_front hs) (eq-eqb link 0 z))) low)
    (λ ne. subst (AreLow most) (sym (cond-false (link == 0) hs (without_front hs) (ne_eqb link 0 ne))) (others hs low))
    (cases_eq link 0) where
      others : (xs : List ℕ) → AreLow most xs → AreLow most (without_front xs)
      others [] low = tt
      others (x ∷ xs) low = low.1

low_more : (most more : ℕ) (hs : List ℕ) → most ≤ more → AreLow most hs → AreLow more hs
low_more most more [] le low = tt
low_more most more (h ∷ hs) le low = let a : h ≤ most = low.0 in (omega (arith, a), low_more most more hs le low.1)

-- no height is above the number of the places
heights_low : (c : Cells) (ps : List Place) → AreLow (length ps) (heights_of c ps)
heights_low c [] = tt
heights_low c (p ∷ ps) =
    let low : AreLow (length ps) (heights_of c ps) = heights_low c ps in
    let past : AreLow (length ps) (past_side (c p.node Left) (heights_of c ps))
    = low_past (length ps) (c p.node Left) (heights_of c ps) low in
    let left : left_height c p (heights_of c ps) ≤ length ps =
    low_front (length ps) (c p.node Left) (heights_of c ps) low in
    let right : right_height c p (heights_of c ps) ≤ length ps
    = low_front (length ps) (c p.node Right) (past_side (c p.node Left) (heights_of c ps)) past in (
      omega (arith, left, right),
      low_more (length ps) (suc (length ps)) (past_side (c p.node Right) (past_side (c p.node Left) (heights_of c ps)))
          (omega arith) (low_past (length ps) (c p.node Right) (past_side (c p.node Left) (heights_of c ps)) past),
    )

-- places that are left to do, the heights that wait, the last one in front, and the lines, the last first
pub record IsBuilding (slots : ℕ) (c : Cells) (places : List Place) (heights : List ℕ) (lines : List ShapeLine)
    : Type 0 where
  pub all : List Place
  pub are : ArePlaces slots c all
  pub done : List Place
  pub split : places ++ done ≡ all
  pub heights_are : reverse heights ≡ heights_of c done
  pub lines_are : lines ≡ reverse (lines_of c done)

pub building_first : (slots : ℕ) (c : Cells) (places : List Place) → ArePlaces slots c places
    → IsBuilding slots c places [] []
building_first slots c places are = record {
  all = places;
  are = are;
  done = [];
  split = append-nil places;
  heights_are = refl;
  lines_are = refl;
}

-- the places of a spelled tree are slots
AreSlots : ℕ → List Place → Type 0
AreSlots slots [] = Unit {0}
AreSlots slots (p ∷ ps) = IsSlot slots p.node × AreSlots slots ps

slots_append : (slots : ℕ) (ps qs : List Place) → AreSlots slots ps → AreSlots slots qs → AreSlots slots (ps ++ qs)
unfolding AreSlots
slots_append slots [] qs a b = b
slots_append slots (p ∷ ps) qs a b = (a.0, slots_append slots ps qs a.1 b)

slots_middle : (slots : ℕ) (ps : List Place) (p : Place) (qs : List Place) → AreSlots slots ((ps ++ p ∷ []) ++ qs)
    → IsSlot slots p.node
unfolding AreSlots
slots_middle slots [] p qs a = a.0
slots_middle slots (x ∷ ps) p qs a = slots_middle slots ps p qs a.1

slots_of_tree : (kind : Kind) (slots : ℕ) (c : Cells) (depth : ℕ) (t : Tree) (above link : ℕ)
    → Spells kind slots c t above link → AreSlots slots (places_of depth t)
unfolding AreSlots
slots_of_tree kind slots c depth Empty above link s = tt
slots_of_tree kind slots c depth (Fork n l r) above link s = (
  s.1.slot,
  slots_append slots (places_of (depth + 1) l)
      (places_of (depth + 1) r) (slots_of_tree kind slots c (depth + 1) l n (c n Left) s.2)
      (slots_of_tree kind slots c (depth + 1) r n (c n Right) s.3),
)

module _ (slots : ℕ) (c : Cells) (places : List Place) (heights : List ℕ) (lines : List ShapeLine) where
  pub building_slot : (p : Place) → IsBuilding slots c (places ++ p ∷ []) heights lines → IsSlot slots p.node
  building_slot p at = slots_middle slots places p at.done (subst (AreSlots slots) (sym (at.split ∙ at.are.whole))
      (slots_of_tree at.are.kind slots c 1 at.are.search.tree 1 (c 1 Left) at.are.search.spelled))

  -- the heights of the two sides are below the number of the slots
  pub building_low : (p : Place) (left right : ℕ) → IsBuilding slots c (places ++ p ∷ []) heights lines
      → left ≡ left_height c p (reverse heights) → right ≡ right_height c p (reverse heights)
      → (left < slots) × (right < slots)
  building_low p left right at l r =
      let few : length (places_of 1 at.are.search.tree) ≤ slots
      = places_few at.are.kind slots c at.are.all at.are.search in
      let long : length ((places ++ p ∷ []) ++ at.done) ≡ length (places_of 1 at.are.search.tree)
      = ap length (at.split ∙ at.are.whole) in
      let parts : length ((places ++ p ∷ []) ++ at.done) ≡ length (places ++ p ∷ []) + length at.done
      = length-append (places ++ p ∷ []) at.done in
      let front : length (places ++ p ∷ []) ≡ length places + 1 = length-append places (p ∷ []) in
      let low : AreLow (length at.done) (reverse heights)
      = subst (AreLow (length at.done)) (sym at.heights_are) (heights_low c at.done) in
      let a : left_height c p (reverse heights) ≤ length at.done
      = low_front (length at.done) (c p.node Left) (reverse heights) low in
      let b : right_height c p (reverse heights) ≤ length at.done
      = low_front (length at.done) (c p.node Right) (past_side (c p.node Left) (reverse heights))
      (low_past (length at.done) (c p.node Left) (reverse heights) low) in
      (omega (arith, few, long, parts, front, a, l), omega (arith, few, long, parts, front, b, r))

  -- the last place has its line, and its height takes the place of those of its sides
  pub building_on : (p : Place) (left right : ℕ) (rest : List ℕ) → IsBuilding slots c (places ++ p ∷ []) heights lines
      → left ≡ left_height c p (reverse heights) → right ≡ right_height c p (reverse heights)
      → reverse rest ≡ past_side (c p.node Right) (past_side (c p.node Left) (reverse heights))
      → IsBuilding slots c places (rest ++ suc (max left right) ∷ []) (lines ++ line_at c p left right ∷ [])
  building_on p left right rest at l r past =
      let hs : List ℕ = heights_of c at.done in
      let left_is : left ≡ left_height c p hs = l ∙ ap (left_height c p) at.heights_are in
      let right_is : right ≡ right_height c p hs = r ∙ ap (right_height c p) at.heights_are in
      let rest_is : reverse rest ≡ past_side (c p.node Right) (past_side (c p.node Left) hs)
      = past ∙ ap (λ (x : List ℕ). past_side (c p.node Right) (past_side (c p.node Left) x)) at.heights_are in
      record {
        all = at.all;
        are = at.are;
        done = p ∷ at.done;
        split = sym (append_assoc places (p ∷ []) at.done) ∙ at.split;
        heights_are = reverse-append rest (suc (max left right) ∷ [])
            ∙ (λ i. suc (max (left_is i) (right_is i)) ∷ rest_is i);
        lines_are = ap (λ (x : List ShapeLine). x ++ line_at c p left right ∷ []) at.lines_are
            ∙ (λ i. reverse (lines_of c at.done) ++ line_at c p (left_is i) (right_is i) ∷ [])
            ∙ sym (reverse-append (line_at c p (left_height c p hs) (right_height c p hs) ∷ []) (lines_of c at.done));
      }

-- at the end the lines, turned round, are the shape
pub building_done : (w : PlainWords) (heights : List ℕ) (lines : List ShapeLine)
    → IsBuilding w.slots (cells_of w) [] heights lines → IsShapeOf w (reverse lines)
building_done w heights lines at kind ps search =
    let c : Cells = cells_of w in
    let one : at.are.search.tree ≡ search.tree
    = spells_once at.are.kind kind w.slots c at.are.search.tree search.tree 1
    (c 1 Left) at.are.search.spelled search.spelled in
    ap reverse at.lines_are ∙ reverse-reverse (lines_of c at.done)
    ∙ ap (lines_of c) (at.split ∙ at.are.whole ∙ sym (append-nil (places_of 1 at.are.search.tree)))
    ∙ lines_tree at.are.kind w.slots c 1 at.are.search.tree 1 (c 1 Left) [] at.are.search.spelled
    ∙ append-nil (shape_of c 1 at.are.search.tree) ∙ ap (shape_of c 1) one
