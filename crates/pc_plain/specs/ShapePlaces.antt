-- How the shape of a tree is taken from its nodes: a list of places, and a stack of the heights of sides.
use Rattle.std.specs.Prelude.{◌≡◌, ℕ, ◌+◌, List, [], ◌∷◌, ◌++◌, cond, ◌==◌}
use Rattle.pc_model.specs.Map.{Pairs}
use Rattle.pc_model.specs.Cells.{Cells}
use Rattle.pc_model.specs.Trees.{Tree, Empty, Fork, Kind, IsSearchTree}
use Rattle.pc_plain.specs.declared.tree_shape.Place.{Place}

-- the nodes of a tree whose root lies at a depth, each before those below it, the left ones first
abbrev pub places_of : ℕ → Tree → List Place
places_of depth Empty = []
places_of depth (Fork n l r) =
    record { node = n; depth = depth } ∷ (places_of (depth + 1) l ++ places_of (depth + 1) r)

-- these are the places of the search tree
pub record ArePlaces (slots : ℕ) (c : Cells) (places : List Place) : Type 0 where
  pub kind : Kind
  pub all : Pairs
  pub search : IsSearchTree kind slots c all
  pub whole : places ≡ places_of 1 search.tree

-- the place of the node at a link, if there is one
abbrev pub places_at : ℕ → ℕ → List Place
places_at link depth = cond (link == 0) [] (record { node = link; depth = depth } ∷ [])

-- the number that was put last
abbrev pub front_or : ℕ → List ℕ → ℕ
front_or d [] = d
front_or d (h ∷ hs) = h

abbrev pub without_front : List ℕ → List ℕ
without_front [] = []
without_front (h ∷ hs) = hs

-- the height of the side at a link, which a stack has in front, and the stack without it
abbrev pub side_height : ℕ → List ℕ → ℕ
side_height link heights = cond (link == 0) 0 (front_or 0 heights)

abbrev pub past_side : ℕ → List ℕ → List ℕ
past_side link heights = cond (link == 0) heights (without_front heights)
