-- What changed cells hold where a node of a balanced tree got another stored height, or was rotated: its child took
-- its place, or its child's inner child did.
use Rattle.std.specs.Prelude.{◌≡◌, ◌≢◌, ℕ, ◌%◌, ◌^◌, ◌<◌, List, [], ◌∷◌}
use Rattle.pc_model.specs.declared.cell.Field.{Field}
use Rattle.pc_model.specs.declared.cell.Field.TheVariants.{Version, Left, Right, Parent, Height}
use Rattle.pc_model.specs.declared.cell.Side.{Side}
use Rattle.pc_model.specs.Cells.{Cells}
use Rattle.pc_model.specs.Sides.{link_of, opposite}
use Rattle.pc_model.specs.TreeForms.{height_at, height_over}

-- Words that are changed: some fields of some nodes

abbrev pub IsNoneOf : Field → List Field → Type 0
IsNoneOf f [] = Unit {0}
IsNoneOf f (g ∷ gs) = (f ≢ g) × IsNoneOf f gs

-- the word is none of these
abbrev pub IsElsewhere : ℕ → Field → List (ℕ × List Field) → Type 0
IsElsewhere m f [] = Unit {0}
IsElsewhere m f (w ∷ ws) = (m ≡ w.0 → IsNoneOf f w.1) × IsElsewhere m f ws

-- other words than these stay, and versions keep their parity
pub record ChangesOnly (changed : List (ℕ × List Field)) (c c' : Cells) : Type 0 where
  pub words : (m : ℕ) (f : Field) → f ≢ Version → IsElsewhere m f changed → c' m f ≡ c m f
  pub parity : (m : ℕ) → c' m Version % 2 ≡ c m Version % 2

-- Another height

-- a node has another stored height
pub record IsReheighted (c c' : Cells) (n height : ℕ) : Type 0 where
  pub stored : c' n Height ≡ height
  -- other words stay, and versions keep their parity
  pub words : (m : ℕ) (f : Field) → f ≢ Version → (m ≡ n → f ≢ Height) → c' m f ≡ c m f
  pub parity : (m : ℕ) → c' m Version % 2 ≡ c m Version % 2

-- the height that a node's children ask for
abbrev pub height_asked : Cells → ℕ → ℕ
height_asked c n = height_over (height_at c (c n Left)) (height_at c (c n Right))

-- A rotation

-- the words that a rotation of a node x and its child y on a side changes
abbrev pub rotated_words : Side → Cells → ℕ → Field → ℕ → ℕ → List (ℕ × List Field)
rotated_words side c above link x y = (above, link ∷ []) ∷ (x, link_of side ∷ Parent ∷ Height ∷ [])
    ∷ (y, link_of (opposite side) ∷ Parent ∷ Height ∷ []) ∷ (c y (link_of (opposite side)), Parent ∷ []) ∷ []

-- The child y of x on this side took its place below the node above, x hangs on y's other side, and the
-- tree that hung there, or none, hangs on x's side. Both nodes have some heights.
pub record IsRotated (side : Side) (c c' : Cells) (above : ℕ) (link : Field) (x y : ℕ) : Type 0 where
  pub was : c x (link_of side) ≡ y
  pub some : y ≢ 0
  pub linked : c' above link ≡ y
  pub upper_far : c' y (link_of (opposite side)) ≡ x
  pub lower_near : c' x (link_of side) ≡ c y (link_of (opposite side))
  pub upper_parent : c' y Parent ≡ above
  pub lower_parent : c' x Parent ≡ y
  pub middle_parent : c y (link_of (opposite side)) ≢ 0 → c' (c y (link_of (opposite side))) Parent ≡ x
  pub upper_height : c' y Height < 2 ^ 62
  pub lower_height : c' x Height < 2 ^ 62
  pub others : ChangesOnly (rotated_words side c above link x y) c c'

-- A double rotation

-- the words that a double rotation changes, of a node x, its child y on a side and that one's child g on
-- the other side
abbrev pub doubly_rotated_words : Side → Cells → ℕ → Field → ℕ → ℕ → ℕ → List (ℕ × List Field)
doubly_rotated_words side c above link x y g = (above, link ∷ []) ∷ (x, link_of side ∷ Parent ∷ Height ∷ [])
    ∷ (y, link_of (opposite side) ∷ Parent ∷ Height ∷ [])
    ∷ (g, link_of side ∷ link_of (opposite side) ∷ Parent ∷ Height ∷ [])
    ∷ (c g (link_of side), Parent ∷ []) ∷ (c g (link_of (opposite side)), Parent ∷ []) ∷ []

-- The child g of y on the other side, where y is the child of x on this side, took x's place below the
-- node above. On this side of g hangs y, with what hung there of g on its other side, and on the other
-- side of g hangs x, with what hung there of g on its side. The three nodes have some heights.
pub record IsDoublyRotated (side : Side) (c c' : Cells) (above : ℕ) (link : Field) (x y g : ℕ) : Type 0 where
  pub was_child : c x (link_of side) ≡ y
  pub some_child : y ≢ 0
  pub was_inner : c y (link_of (opposite side)) ≡ g
  pub some_inner : g ≢ 0
  pub linked : c' above link ≡ g
  pub near_linked : c' g (link_of side) ≡ y
  pub far_linked : c' g (link_of (opposite side)) ≡ x
  pub near_inner : c' y (link_of (opposite side)) ≡ c g (link_of side)
  pub far_inner : c' x (link_of side) ≡ c g (link_of (opposite side))
  pub parent_g : c' g Parent ≡ above
  pub parent_y : c' y Parent ≡ g
  pub parent_x : c' x Parent ≡ g
  pub near_parent : c g (link_of side) ≢ 0 → c' (c g (link_of side)) Parent ≡ y
  pub far_parent : c g (link_of (opposite side)) ≢ 0 → c' (c g (link_of (opposite side))) Parent ≡ x
  pub height_g : c' g Height < 2 ^ 62
  pub height_y : c' y Height < 2 ^ 62
  pub height_x : c' x Height < 2 ^ 62
  pub others : ChangesOnly (doubly_rotated_words side c above link x y g) c c'
