-- The definitions of cells, exchanges, trees and histories on a worked case: a put of key 5 on the cells
-- that a tree of one slot opens with, and then a get of it.
use Rattle.std.proofs.Common.{◌≡◌, ℕ, ◌%◌, inl, List, [], ◌∷◌, Some, refl, sym, subst, arith}
use Rattle.pc_model.specs.declared.call.Call.TheVariants.{Put, Get}
use Rattle.pc_model.specs.declared.call.Reply.TheVariants.{New, Value as Found}
use Rattle.pc_model.specs.declared.call.Entry.{Entry}
use Rattle.pc_model.specs.declared.cell.Field.{Field}
use Rattle.pc_model.specs.declared.cell.Field.TheVariants.{Version, Key, Value, Left, Right, Parent, Height, Spare}
use Rattle.pc_model.specs.Replay.{fold_of, IsRight}
use Rattle.pc_model.specs.History.{IsHistoryOf}
use Rattle.pc_model.specs.Cells.{Cells, opening_fields}
use Rattle.pc_model.specs.Exchanges.{Exchange, Stands, applied}
use Rattle.pc_model.specs.Trees.{Empty, Fork, plain, pairs_of, IsSearchTree}
use Rattle.pc_model.specs.Map.{put}
use Rattle.pc_model.proofs.Histories.{one_client_history}
use Rattle.pc_model.proofs.Writes.{applied-else, applied-parity}
use Rattle.pc_model.proofs.Holes.{root_hole}
use Rattle.pc_model.proofs.Insertion.{IsHung, leaf_hung}

opening : Cells
opening = opening_fields

leaf_fields : Field → ℕ
leaf_fields Version = 2
leaf_fields Key = 5
leaf_fields Value = 50
leaf_fields Left = 0
leaf_fields Right = 0
leaf_fields Parent = 0
leaf_fields Height = 0
leaf_fields Spare = 0

-- the sentinel was visited, its left link read, and a leaf hangs there in slot 2
hang_leaf : Exchange
hang_leaf = record {
  visits = record { node = 1; version = 0 } ∷ [];
  reads = record { node = 1; field = Left; number = 0 } ∷ [];
  changes = record { node = 1; field = Version; old = 0; new = 2 }
      ∷ record { node = 1; field = Left; old = 0; new = 2 } ∷ [];
  fresh = Some (record { node = 2; fields = leaf_fields });
}

stands_at_the_opening : Stands hang_leaf opening
unfolding opening hang_leaf leaf_fields
stands_at_the_opening = record {
  visits = ((refl, refl), tt);
  reads = (refl, tt);
  changes = (refl, (refl, tt));
  fresh = (refl, refl);
}

with_leaf : Cells
unfolding opening hang_leaf leaf_fields
with_leaf = applied hang_leaf opening

version_raised : with_leaf 1 Version ≡ 2
unfolding with_leaf opening hang_leaf leaf_fields
version_raised = refl

link_changed : with_leaf 1 Left ≡ 2
unfolding with_leaf opening hang_leaf leaf_fields
link_changed = refl

other_words_stay : with_leaf 1 Key ≡ 4611686018427387903
unfolding with_leaf opening hang_leaf leaf_fields
other_words_stay = refl

-- the exchange doesn't stand a second time: the sentinel's version is another
not_twice_there : Stands hang_leaf with_leaf → ⊥
unfolding with_leaf opening hang_leaf leaf_fields
not_twice_there s = let e : ◌≡◌ {A = ℕ} 2 0 = s.visits.0.0 in absurd (omega (arith, e))

pairs_listed : pairs_of with_leaf (Fork 2 Empty Empty) ≡ (5, 50) ∷ []
unfolding with_leaf opening hang_leaf leaf_fields
pairs_listed = refl

-- the cells are a search tree before and after
empty_tree : IsSearchTree plain 1 opening []
unfolding opening
empty_tree = record {
  tree = Empty;
  spelled = refl;
  pairs = refl;
  rising = tt;
  small = tt;
  covered = λ n slot even. let two : n ≡ 2 = omega arith in let odd : ◌≡◌ {A = ℕ} 1 0 =
      subst (λ (x : ℕ). opening_fields x Version % 2 ≡ 0) two even in absurd (omega (arith, odd));
  unmarked = refl;
  no_right = refl;
  no_parent = refl;
}

one_leaf_tree : IsSearchTree plain 1 with_leaf ((5, 50) ∷ [])
unfolding with_leaf opening hang_leaf leaf_fields
one_leaf_tree = record {
  tree = Fork 2 Empty Empty;
  spelled = (refl, record { slot = (omega arith, omega arith); unmarked = refl; of_kind = (refl, refl) }, refl, refl);
  pairs = refl;
  rising = (omega arith, tt);
  small = (omega arith, omega arith, tt);
  covered = λ n slot even. inl (omega arith);
  unmarked = refl;
  no_right = refl;
  no_parent = refl;
}

-- the leaf hangs where it should, so the same follows from what holds of every leaf that does
leaf_is_hung : IsHung plain opening with_leaf 1 Left 2 5 50
unfolding with_leaf opening hang_leaf leaf_fields
leaf_is_hung = record {
  linked = refl;
  key = refl;
  value = refl;
  no_left = refl;
  no_right = refl;
  of_kind = (refl, refl);
  unmarked = refl;
  words = λ m f not_leaf not_version not_link. applied-else hang_leaf opening_fields m f
      ((λ _. not_version), (not_link, tt)) not_leaf;
  parity = λ m not_leaf. applied-parity hang_leaf opening_fields m (
    (λ e _. let one : m ≡ 1 = e in subst (λ (x : ℕ). 2 % 2 ≡ opening_fields x Version % 2) (sym one) refl),
    ((λ _ e. cc), tt),
  ) not_leaf;
}

leaf_tree_again : IsSearchTree plain 1 with_leaf (put 5 50 [])
unfolding opening empty_tree
leaf_tree_again = leaf_hung plain 1 opening [] empty_tree 5 50 1 Left (omega arith) (omega arith) 2 with_leaf
    (root_hole plain 1 opening [] empty_tree 5) (omega arith, omega arith) refl leaf_is_hung

two_entries : List Entry
two_entries = record { pass = 1; number = 1; call = Put 5 50; reply = New; stamp = 1 }
    ∷ record { pass = 1; number = 2; call = Get 5; reply = Found 50; stamp = 2 } ∷ []

is_right : IsRight two_entries
unfolding two_entries
is_right = (refl, (refl, tt))

folds_to : fold_of two_entries ≡ (5, 50) ∷ []
unfolding two_entries
folds_to = refl

is_history : IsHistoryOf ((Put 5 50 ∷ Get 5 ∷ []) ∷ []) two_entries
unfolding two_entries
is_history = one_client_history (Put 5 50 ∷ Get 5 ∷ []) two_entries (refl, (refl, tt)) (refl, (refl, tt)) refl
