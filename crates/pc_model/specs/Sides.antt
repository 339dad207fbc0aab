-- The two sides of a node, for what is said of both alike.
use Rattle.std.specs.Prelude.{ℕ, ◌<◌, [], ◌∷◌, ◌++◌}
use Rattle.pc_model.specs.declared.cell.Field.{Field}
use Rattle.pc_model.specs.declared.cell.Field.TheVariants.{Left, Right}
use Rattle.pc_model.specs.declared.cell.Side.{Side}
use Rattle.pc_model.specs.declared.cell.Side.TheVariants.{Left as left, Right as right}
use Rattle.pc_model.specs.Map.{Pairs}
use Rattle.pc_model.specs.Cells.{Cells}
use Rattle.pc_model.specs.Trees.{Tree, Fork, pair_of, pairs_of}

-- the link on this side
abbrev pub link_of : Side → Field
link_of left = Left
link_of right = Right

abbrev pub opposite : Side → Side
opposite left = right
opposite right = left

-- the fork with the first tree on this side, and the second on the other
abbrev pub fork_on : Side → ℕ → Tree → Tree → Tree
fork_on left n near far = Fork n near far
fork_on right n near far = Fork n far near

-- a key belongs on this side of a node's own key
abbrev pub IsToward : Side → ℕ → ℕ → Type 0
IsToward left k own = k < own
IsToward right k own = own < k

-- the pairs of a fork that come before those of its tree on this side
abbrev pub pairs_before : Side → Cells → ℕ → Tree → Pairs
pairs_before left c n far = []
pairs_before right c n far = pairs_of c far ++ (pair_of c n ∷ [])

-- the pairs of a fork that come after those of its tree on this side
abbrev pub pairs_behind : Side → Cells → ℕ → Tree → Pairs
pairs_behind left c n far = pair_of c n ∷ pairs_of c far
pairs_behind right c n far = []
