-- Small cases of reading a tree by turns and of its height, worked out by computing.
use Rattle.std.proofs.Common.{◌≡◌, ◌==◌, if◌then◌else◌, Some, None, [], ◌∷◌, refl, arith}
use Rattle.pc_model.specs.declared.cell.Field.TheVariants.{Version, Key, Value, Left, Right, Parent, Height, Spare}
use Rattle.pc_model.specs.Cells.{Cells, opening_fields}
use Rattle.pc_model.specs.Trees.{Tree, Empty, Fork, nodes_of, pairs_of}
use Rattle.pc_model.specs.Heights.{height_of, IsBalanced}
use Rattle.pc_model.specs.Readings.{read_tree}

-- below the sentinel the node 2, with 3 on its left, 4 on its right, and 5 on the left of 4
four_nodes : Cells
four_nodes n Version = 0
four_nodes n Key = if n == 2 then 50 else if n == 3 then 20 else if n == 4 then 90 else 70
four_nodes n Value = n
four_nodes n Left = if n == 1 then 2 else if n == 2 then 3 else if n == 4 then 5 else 0
four_nodes n Right = if n == 2 then 4 else 0
four_nodes n Parent = 0
four_nodes n Height = if n == 2 then 3 else if n == 4 then 2 else 1
four_nodes n Spare = 0

-- a node that is below itself
ring : Cells
ring n f = 2

four_tree : Tree
four_tree = Fork 2 (Fork 3 Empty Empty) (Fork 4 (Fork 5 Empty Empty) Empty)

nothing_is_empty : read_tree 0 opening_fields (opening_fields 1 Left) ≡ Some Empty
nothing_is_empty = refl

read_in_four_turns : read_tree 4 four_nodes (four_nodes 1 Left) ≡ Some four_tree
unfolding four_nodes four_tree
read_in_four_turns = refl

read_in_three_turns : read_tree 3 four_nodes (four_nodes 1 Left) ≡ Some four_tree
unfolding four_nodes four_tree
read_in_three_turns = refl

-- the node 5 is three steps down
not_read_in_two_turns : read_tree 2 four_nodes (four_nodes 1 Left) ≡ None
unfolding four_nodes
not_read_in_two_turns = refl

four_are_three_high : height_of four_tree ≡ 3
unfolding four_tree
four_are_three_high = refl

four_are_balanced : IsBalanced four_nodes four_tree
unfolding four_nodes four_tree
four_are_balanced = (
  refl,
  (omega arith, omega arith),
  (refl, (omega arith, omega arith), tt, tt),
  (refl, (omega arith, omega arith), (refl, (omega arith, omega arith), tt, tt), tt),
)

-- without the node 3 the node 2 has nothing on its left, and two steps on its right
three_are_not_balanced : (c : Cells) → IsBalanced c (Fork 2 Empty (Fork 4 (Fork 5 Empty Empty) Empty)) → ⊥
three_are_not_balanced c is = absurd (omega (arith, is.1.1))

four_in_order : nodes_of four_tree ≡ 3 ∷ 2 ∷ 5 ∷ 4 ∷ []
unfolding four_tree
four_in_order = refl

four_pairs : pairs_of four_nodes four_tree ≡ (20, 3) ∷ (50, 2) ∷ (70, 5) ∷ (90, 4) ∷ []
unfolding four_nodes four_tree
four_pairs = refl

ring_is_not_read : read_tree 5 ring (ring 1 Left) ≡ None
unfolding ring
ring_is_not_read = refl
