-- Two balanced trees of three nodes that lean to the left, worked out: the outer one is rotated once, the
-- inner one twice. Key 30 is in debt before, and afterwards each node is in balance.
use Rattle.std.proofs.Common.{◌≡◌, ℕ, ◌%◌, inl, inr, ⊎_elim, List, [], ◌∷◌, None, refl, sym, subst, arith}
use Rattle.std.proofs.lemmas.Bool.{cases_eq}
use Rattle.pc_model.specs.declared.cell.Field.{Field}
use Rattle.pc_model.specs.declared.cell.Field.TheVariants.{Version, Key, Value, Left, Right, Parent, Height, Spare}
use Rattle.pc_model.specs.declared.cell.Side.TheVariants.{Left as left}
use Rattle.pc_model.specs.Map.{Pairs}
use Rattle.pc_model.specs.Cells.{Cells, opening_fields, with_node, written}
use Rattle.pc_model.specs.Exchanges.{Changed, Exchange, Stands, applied}
use Rattle.pc_model.specs.Trees.{Empty, Fork, balanced, IsSearchTree}
use Rattle.pc_model.specs.TreeForms.{IsInBalance, InDebt}
use Rattle.pc_model.proofs.Writes.{applied-else, applied-parity}
use Rattle.pc_model.proofs.Holes.{root_hole}
use Rattle.pc_model.specs.Rotations.{IsRotated, IsDoublyRotated}
use Rattle.pc_model.proofs.Rotation.{rotated}
use Rattle.pc_model.proofs.DoubleRotation.{doubly_rotated}

-- a node at version 2 with this key, value 7, these links, this parent and this height
abbrev node : ℕ → ℕ → ℕ → ℕ → ℕ → Field → ℕ
node key l r above height Version = 2
node key l r above height Key = key
node key l r above height Value = 7
node key l r above height Left = l
node key l r above height Right = r
node key l r above height Parent = above
node key l r above height Height = height
node key l r above height Spare = 0

abbrev three_pairs : Pairs
three_pairs = (10, 7) ∷ (20, 7) ∷ (30, 7) ∷ []

abbrev changed : ℕ → Field → ℕ → ℕ → Changed
changed n f old new = record { node = n; field = f; old = old; new = new }

abbrev changing : List Changed → Exchange
changing changes = record { visits = []; reads = []; changes = changes; fresh = None }

-- The outer tree: key 10 below 20 below 30

abbrev outer : Cells
outer = written 1 Left 2 (with_node 2 (node 30 3 0 1 3) (with_node 3 (node 20 4 0 2 2)
    (with_node 4 (node 10 0 0 3 1) opening_fields)))

outer_tree : IsSearchTree balanced 3 outer three_pairs
outer_tree = record {
  tree = Fork 2 (Fork 3 (Fork 4 Empty Empty) Empty) Empty;
  spelled = (
    refl,
    record { slot = (omega arith, omega arith); unmarked = refl; of_kind = (refl, omega arith) },
    (
      refl,
      record { slot = (omega arith, omega arith); unmarked = refl; of_kind = (refl, omega arith) },
      (
        refl,
        record { slot = (omega arith, omega arith); unmarked = refl; of_kind = (refl, omega arith) },
        refl,
        refl,
      ),
      refl,
    ),
    refl,
  );
  pairs = refl;
  rising = (omega arith, (omega arith, (omega arith, tt)));
  small = (omega arith, omega arith, (omega arith, omega arith, (omega arith, omega arith, tt)));
  covered = λ n slot even. ⊎_elim (λ e. inl e) (λ not_2. ⊎_elim (λ e. inr (inl (inl e)))
      (λ not_3. inr (inl (inr (inl (inl (omega arith)))))) (cases_eq n 3)) (cases_eq n 2);
  unmarked = refl;
  no_right = refl;
  no_parent = refl;
}

in_debt_before : InDebt 3 outer 30
in_debt_before = record {
  node = 2;
  slot = (omega arith, omega arith);
  unmarked = refl;
  key = refl;
  out_of_balance = λ balance. absurd (omega (arith, balance.1.0));
}

-- node 3 takes the place of node 2
abbrev turn : Exchange
turn = changing (changed 1 Version 0 2 ∷ changed 1 Left 2 3
    ∷ changed 2 Version 2 4 ∷ changed 2 Left 3 0 ∷ changed 2 Parent 1 3 ∷ changed 2 Height 3 1
    ∷ changed 3 Version 2 4 ∷ changed 3 Right 0 2 ∷ changed 3 Parent 2 1 ∷ changed 3 Height 2 2 ∷ [])

turn_stands : Stands turn outer
turn_stands = record {
  visits = tt;
  reads = tt;
  changes = (refl, (refl, (refl, (refl, (refl, (refl, (refl, (refl, (refl, (refl, tt))))))))));
  fresh = tt;
}

version_to : (c : Cells) (n m v : ℕ) → v % 2 ≡ c n Version % 2 → m ≡ n → v % 2 ≡ c m Version % 2
version_to c n m v same e = subst (λ (x : ℕ). v % 2 ≡ c x Version % 2) (sym e) same

is_rotated : IsRotated left outer (applied turn outer) 1 Left 2 3
is_rotated = record {
  was = refl;
  some = λ e. absurd (omega (arith, e));
  linked = refl;
  upper_far = refl;
  lower_near = refl;
  upper_parent = refl;
  lower_parent = refl;
  middle_parent = λ some. absurd (some refl);
  upper_height = omega arith;
  lower_height = omega arith;
  others = record {
    words = λ m f not_version e. applied-else turn outer m f (
      (λ _. not_version),
      (
        (λ d. (e.0 d).0),
        (
          (λ _. not_version),
          (
            (λ d. (e.1.0 d).0),
            (
              (λ d. (e.1.0 d).1.0),
              (
                (λ d. (e.1.0 d).1.1.0),
                ((λ _. not_version), ((λ d. (e.1.1.0 d).0), ((λ d. (e.1.1.0 d).1.0), ((λ d. (e.1.1.0 d).1.1.0), tt)))),
              ),
            ),
          ),
        ),
      ),
    )
        tt;
    parity = λ m. applied-parity turn outer m (
      (λ e _. version_to outer 1 m 2 refl e),
      (
        (λ _ d. cc),
        (
          (λ e _. version_to outer 2 m 4 refl e),
          (
            (λ _ d. cc),
            (
              (λ _ d. cc),
              (
                (λ _ d. cc),
                ((λ e _. version_to outer 3 m 4 refl e), ((λ _ d. cc), ((λ _ d. cc), ((λ _ d. cc), tt)))),
              ),
            ),
          ),
        ),
      ),
    ) tt;
  };
}

turned_tree : IsSearchTree balanced 3 (applied turn outer) three_pairs
unfolding outer_tree
turned_tree = rotated 3 outer three_pairs outer_tree 30 1 Left 2 (Fork 3 (Fork 4 Empty Empty) Empty) Empty
    (root_hole balanced 3 outer three_pairs outer_tree 30) left 3 (applied turn outer) is_rotated

upper_in_balance : IsInBalance (applied turn outer) 3
upper_in_balance = (refl, (omega arith, omega arith))

lower_in_balance : IsInBalance (applied turn outer) 2
lower_in_balance = (refl, (omega arith, omega arith))

-- The inner tree: key 20 between 10 and 30, below both

abbrev inner : Cells
inner = written 1 Left 2 (with_node 2 (node 30 3 0 1 3) (with_node 3 (node 10 0 4 2 2)
    (with_node 4 (node 20 0 0 3 1) opening_fields)))

inner_tree : IsSearchTree balanced 3 inner three_pairs
inner_tree = record {
  tree = Fork 2 (Fork 3 Empty (Fork 4 Empty Empty)) Empty;
  spelled = (
    refl,
    record { slot = (omega arith, omega arith); unmarked = refl; of_kind = (refl, omega arith) },
    (
      refl,
      record { slot = (omega arith, omega arith); unmarked = refl; of_kind = (refl, omega arith) },
      refl,
      (
        refl,
        record { slot = (omega arith, omega arith); unmarked = refl; of_kind = (refl, omega arith) },
        refl,
        refl,
      ),
    ),
    refl,
  );
  pairs = refl;
  rising = (omega arith, (omega arith, (omega arith, tt)));
  small = (omega arith, omega arith, (omega arith, omega arith, (omega arith, omega arith, tt)));
  covered = λ n slot even. ⊎_elim (λ e. inl e) (λ not_2. ⊎_elim (λ e. inr (inl (inl e)))
      (λ not_3. inr (inl (inr (inr (inl (omega arith)))))) (cases_eq n 3)) (cases_eq n 2);
  unmarked = refl;
  no_right = refl;
  no_parent = refl;
}

-- node 4 takes the place of node 2, between the two others
abbrev turn_twice : Exchange
turn_twice = changing (changed 1 Version 0 2 ∷ changed 1 Left 2 4
    ∷ changed 2 Version 2 4 ∷ changed 2 Left 3 0 ∷ changed 2 Parent 1 4 ∷ changed 2 Height 3 1
    ∷ changed 3 Version 2 4 ∷ changed 3 Right 4 0 ∷ changed 3 Parent 2 4 ∷ changed 3 Height 2 1
    ∷ changed 4 Version 2 4 ∷ changed 4 Left 0 3 ∷ changed 4 Right 0 2 ∷ changed 4 Parent 3 1
    ∷ changed 4 Height 1 2 ∷ [])

is_doubly_rotated : IsDoublyRotated left inner (applied turn_twice inner) 1 Left 2 3 4
is_doubly_rotated = record {
  was_child = refl;
  some_child = λ e. absurd (omega (arith, e));
  was_inner = refl;
  some_inner = λ e. absurd (omega (arith, e));
  linked = refl;
  near_linked = refl;
  far_linked = refl;
  near_inner = refl;
  far_inner = refl;
  parent_g = refl;
  parent_y = refl;
  parent_x = refl;
  near_parent = λ some. absurd (some refl);
  far_parent = λ some. absurd (some refl);
  height_g = omega arith;
  height_y = omega arith;
  height_x = omega arith;
  others = record {
    words = λ m f not_version e. applied-else turn_twice inner m f (
      (λ _. not_version),
      (
        (λ d. (e.0 d).0),
        (
          (λ _. not_version),
          (
            (λ d. (e.1.0 d).0),
            (
              (λ d. (e.1.0 d).1.0),
              (
                (λ d. (e.1.0 d).1.1.0),
                (
                  (λ _. not_version),
                  (
                    (λ d. (e.1.1.0 d).0),
                    (
                      (λ d. (e.1.1.0 d).1.0),
                      (
                        (λ d. (e.1.1.0 d).1.1.0),
                        (
                          (λ _. not_version),
                          (
                            (λ d. (e.1.1.1.0 d).0),
                            (
                              (λ d. (e.1.1.1.0 d).1.0),
                              (
                                (λ d. (e.1.1.1.0 d).1.1.0),
                                ((λ d. (e.1.1.1.0 d).1.1.1.0), tt),
                              ),
                            ),
                          ),
                        ),
                      ),
                    ),
                  ),
                ),
              ),
            ),
          ),
        ),
      ),
    ) tt;
    parity = λ m. applied-parity turn_twice inner m (
      (λ e _. version_to inner 1 m 2 refl e),
      (
        (λ _ d. cc),
        (
          (λ e _. version_to inner 2 m 4 refl e),
          (
            (λ _ d. cc),
            (
              (λ _ d. cc),
              (
                (λ _ d. cc),
                (
                  (λ e _. version_to inner 3 m 4 refl e),
                  (
                    (λ _ d. cc),
                    (
                      (λ _ d. cc),
                      (
                        (λ _ d. cc),
                        (
                          (λ e _. version_to inner 4 m 4 refl e),
                          (
                            (λ _ d. cc),
                            (
                              (λ _ d. cc),
                              (
                                (λ _ d. cc),
                                (
                                  (λ _ d. cc),
                                  tt,
                                ),
                              ),
                            ),
                          ),
                        ),
                      ),
                    ),
                  ),
                ),
              ),
            ),
          ),
        ),
      ),
    ) tt;
  };
}

twice_turned_tree : IsSearchTree balanced 3 (applied turn_twice inner) three_pairs
unfolding inner_tree
twice_turned_tree = doubly_rotated 3 inner three_pairs inner_tree 30 1 Left 2
    (Fork 3 Empty (Fork 4 Empty Empty)) Empty
    (root_hole balanced 3 inner three_pairs inner_tree 30) left 3 4 (applied turn_twice inner) is_doubly_rotated

middle_in_balance : IsInBalance (applied turn_twice inner) 4
middle_in_balance = (refl, (omega arith, omega arith))

its_left_in_balance : IsInBalance (applied turn_twice inner) 3
its_left_in_balance = (refl, (omega arith, omega arith))

its_right_in_balance : IsInBalance (applied turn_twice inner) 2
its_right_in_balance = (refl, (omega arith, omega arith))
