-- A removal on a balanced tree of two nodes, worked out: the upper node is unlinked, and its only child
-- hangs below the sentinel afterwards.
use Rattle.std.proofs.Common.{◌≡◌, ℕ, ◌%◌, inl, inr, ⊎_elim, [], ◌∷◌, None, refl, sym, subst, arith}
use Rattle.std.proofs.lemmas.Bool.{cases_eq}
use Rattle.pc_model.specs.declared.cell.Field.{Field}
use Rattle.pc_model.specs.declared.cell.Field.TheVariants.{Version, Key, Value, Left, Right, Parent, Height, Spare}
use Rattle.pc_model.specs.Cells.{Cells, opening_fields, with_node, written}
use Rattle.pc_model.specs.Exchanges.{Exchange, Stands, applied}
use Rattle.pc_model.specs.Trees.{Empty, Fork, balanced, IsSearchTree}
use Rattle.pc_model.proofs.Writes.{applied-else, applied-parity}
use Rattle.pc_model.proofs.Holes.{root_hole}
use Rattle.pc_model.proofs.Removal.{IsUnlinked, unlinked_right}

-- the fields of the upper node, with key 5, and of its right child, with key 9
abbrev upper_fields : Field → ℕ
upper_fields Version = 2
upper_fields Key = 5
upper_fields Value = 50
upper_fields Left = 0
upper_fields Right = 3
upper_fields Parent = 1
upper_fields Height = 2
upper_fields Spare = 0

abbrev lower_fields : Field → ℕ
lower_fields Version = 4
lower_fields Key = 9
lower_fields Value = 90
lower_fields Left = 0
lower_fields Right = 0
lower_fields Parent = 2
lower_fields Height = 1
lower_fields Spare = 0

abbrev two_nodes : Cells
two_nodes = written 1 Left 2 (with_node 2 upper_fields (with_node 3 lower_fields opening_fields))

two_node_tree : IsSearchTree balanced 2 two_nodes ((5, 50) ∷ (9, 90) ∷ [])
two_node_tree = record {
  tree = Fork 2 Empty (Fork 3 Empty Empty);
  spelled = (
    refl,
    record { slot = (omega arith, omega arith); unmarked = refl; of_kind = (refl, omega arith) },
    refl,
    (refl, record { slot = (omega arith, omega arith); unmarked = refl; of_kind = (refl, omega arith) }, refl, refl),
  );
  pairs = refl;
  rising = (omega arith, (omega arith, tt));
  small = (omega arith, omega arith, (omega arith, omega arith, tt));
  covered = λ n slot even. ⊎_elim (λ e. inl e) (λ ne. inr (inr (inl (omega arith)))) (cases_eq n 2);
  unmarked = refl;
  no_right = refl;
  no_parent = refl;
}

-- the upper node is unlinked
abbrev unlink : Exchange
unlink = record {
  visits = [];
  reads = [];
  changes = record { node = 1; field = Version; old = 0; new = 2 }
      ∷ record { node = 1; field = Left; old = 2; new = 3 }
      ∷ record { node = 3; field = Version; old = 4; new = 6 } ∷ record { node = 3; field = Parent; old = 2; new = 1 }
      ∷ record { node = 2; field = Version; old = 2; new = 3 } ∷ [];
  fresh = None;
}

it_stands : Stands unlink two_nodes
it_stands = record { visits = tt; reads = tt; changes = (refl, (refl, (refl, (refl, (refl, tt))))); fresh = tt }

is_unlinked : IsUnlinked balanced two_nodes (applied unlink two_nodes) 1 Left 2 3
is_unlinked = record {
  linked = refl;
  parent = λ _. refl;
  marked = refl;
  words = λ m f not_2 not_version not_link not_parent. applied-else unlink two_nodes m f
      ((λ _. not_version), (not_link, ((λ _. not_version), (not_parent, ((λ e. absurd (not_2 e)), tt))))) tt;
  parity = λ m not_2. applied-parity unlink two_nodes m (
    (λ e _. subst (λ (x : ℕ). 2 % 2 ≡ two_nodes x Version % 2) (sym e) refl),
    (
      (λ _ e. cc),
      (
        (λ e _. subst (λ (x : ℕ). 6 % 2 ≡ two_nodes x Version % 2) (sym e) refl),
        ((λ _ e. cc), ((λ e _. absurd (not_2 e)), tt)),
      ),
    ),
  ) tt;
}

one_node_is_left : IsSearchTree balanced 2 (applied unlink two_nodes) ((9, 90) ∷ [])
unfolding two_node_tree
one_node_is_left = unlinked_right balanced 2 two_nodes ((5, 50) ∷ (9, 90) ∷ []) two_node_tree 5 1 Left 2
    (Fork 3 Empty Empty) (applied unlink two_nodes)
    (root_hole balanced 2 two_nodes ((5, 50) ∷ (9, 90) ∷ []) two_node_tree 5) refl is_unlinked

hangs_below_the_sentinel : applied unlink two_nodes 3 Parent ≡ 1
hangs_below_the_sentinel = refl
