-- What the map answers at a hole, and what its pairs are after a put or a removal there.
use Rattle.std.proofs.Common.{◌≡◌, ℕ, [], ◌∷◌, ◌++◌, Option, Some, None, ap, sym, ◌∙◌, subst}
use Rattle.pc_model.specs.declared.cell.Field.{Field}
use Rattle.pc_model.specs.declared.cell.Field.TheVariants.{Key, Value}
use Rattle.pc_model.specs.Map.{Pairs, IsRising, AreBelow, AreAbove, value_at, put, without, ceil_of, floor_of}
use Rattle.pc_model.specs.Map.{first_of, last_of, found_or}
use Rattle.pc_model.specs.Cells.{Cells}
use Rattle.pc_model.specs.Trees.{Tree, Empty, Fork, Kind, pair_of, pairs_of}
use Rattle.pc_model.proofs.SortedLists.{value_at-between, value_at-found, put-between, put-found, without-between}
use Rattle.pc_model.proofs.SortedLists.{without-same, ceil_of-between_both, ceil_of-here, floor_of-between}
use Rattle.pc_model.proofs.SortedLists.{floor_of-here}
use Rattle.pc_model.proofs.Framing.{Apart}
use Rattle.pc_model.proofs.Holes.{Hole, hole_apart}

module _ (kind : Kind) (slots : ℕ) (c : Cells) (ps : Pairs) (whole : Tree) (k above : ℕ) (side : Field) where
  -- the key stands at the root of the subtree
  pub value_at-hole : (n : ℕ) (l r : Tree) → IsRising ps → Hole kind slots c ps whole k above side (Fork n l r)
      → c n Key ≡ k → value_at k ps ≡ Some (c n Value)
  value_at-hole n l r rising h e =
      let a : Apart c n l r = hole_apart kind slots c ps whole k above side n l r rising h in
      let below : AreBelow k (pairs_of c l) = subst (λ (x : ℕ). AreBelow x (pairs_of c l)) e a.below in
      let beyond : AreAbove k (pairs_of c r) = subst (λ (x : ℕ). AreAbove x (pairs_of c r)) e a.above in
      let here : value_at k (pair_of c n ∷ []) ≡ Some (c n Value) = ap (λ (x : ℕ). value_at k ((x, c n Value) ∷ [])) e
      ∙ value_at-found k [] (c n Value) [] in
      ap (value_at k) h.pairs ∙ value_at-between k h.before (pairs_of c (Fork n l r)) h.after h.below h.beyond
      ∙ value_at-between k (pairs_of c l) (pair_of c n ∷ []) (pairs_of c r) below beyond ∙ here

  -- there is no such key
  pub value_at-empty_hole : Hole kind slots c ps whole k above side Empty → value_at k ps ≡ None
  value_at-empty_hole h = ap (value_at k) h.pairs ∙ value_at-between k h.before [] h.after h.below h.beyond

  pub put-hole : (v n : ℕ) (l r : Tree) → IsRising ps → (h : Hole kind slots c ps whole k above side (Fork n l r))
      → c n Key ≡ k
      → put k v ps ≡ h.before ++ ((pairs_of c l ++ ((k, v) ∷ pairs_of c r)) ++ h.after)
  put-hole v n l r rising h e =
      let a : Apart c n l r = hole_apart kind slots c ps whole k above side n l r rising h in
      let below : AreBelow k (pairs_of c l) = subst (λ (x : ℕ). AreBelow x (pairs_of c l)) e a.below in
      let beyond : AreAbove k (pairs_of c r) = subst (λ (x : ℕ). AreAbove x (pairs_of c r)) e a.above in
      let here : put k v (pair_of c n ∷ []) ≡ (k, v) ∷ [] = ap (λ (x : ℕ). put k v ((x, c n Value) ∷ [])) e
      ∙ put-found k v (c n Value) [] in
      let inner : put k v (pairs_of c (Fork n l r)) ≡ pairs_of c l ++ ((k, v) ∷ pairs_of c r) =
      put-between k v (pairs_of c l) (pair_of c n ∷ []) (pairs_of c r) below beyond
      ∙ ap (λ (x : Pairs). pairs_of c l ++ (x ++ pairs_of c r)) here in
      ap (put k v) h.pairs ∙ put-between k v h.before (pairs_of c (Fork n l r)) h.after h.below h.beyond
      ∙ ap (λ (x : Pairs). h.before ++ (x ++ h.after)) inner

  pub put-empty_hole : (v : ℕ) → (h : Hole kind slots c ps whole k above side Empty)
      → put k v ps ≡ h.before ++ (((k, v) ∷ []) ++ h.after)
  put-empty_hole v h = ap (put k v) h.pairs ∙ put-between k v h.before [] h.after h.below h.beyond

  -- the node's pair goes, and its sides close up
  pub without-hole : (n : ℕ) (l r : Tree) → IsRising ps → (h : Hole kind slots c ps whole k above side (Fork n l r))
      → c n Key ≡ k
      → without k ps ≡ h.before ++ ((pairs_of c l ++ pairs_of c r) ++ h.after)
  without-hole n l r rising h e =
      let a : Apart c n l r = hole_apart kind slots c ps whole k above side n l r rising h in
      let below : AreBelow k (pairs_of c l) = subst (λ (x : ℕ). AreBelow x (pairs_of c l)) e a.below in
      let beyond : AreAbove k (pairs_of c r) = subst (λ (x : ℕ). AreAbove x (pairs_of c r)) e a.above in
      let here : without k (pair_of c n ∷ []) ≡ [] = without-same k (pair_of c n) [] (sym e) in
      let inner : without k (pairs_of c (Fork n l r)) ≡ pairs_of c l ++ pairs_of c r =
      without-between k (pairs_of c l) (pair_of c n ∷ []) (pairs_of c r) below beyond
      ∙ ap (λ (x : Pairs). pairs_of c l ++ (x ++ pairs_of c r)) here in
      ap (without k) h.pairs ∙ without-between k h.before (pairs_of c (Fork n l r)) h.after h.below h.beyond
      ∙ ap (λ (x : Pairs). h.before ++ (x ++ h.after)) inner

  -- there is no such key to take out
  pub without-empty_hole : Hole kind slots c ps whole k above side Empty → without k ps ≡ ps
  without-empty_hole h = ap (without k) h.pairs ∙ without-between k h.before [] h.after h.below h.beyond ∙ sym h.pairs

  -- the nearest pair up from the key is in the subtree, or else the first one after it; at an empty hole
  -- the first one after
  pub ceil_of-any_hole : (sub : Tree) (h : Hole kind slots c ps whole k above side sub)
      → ceil_of k ps ≡ found_or (ceil_of k (pairs_of c sub)) (first_of h.after)
  ceil_of-any_hole sub h =
      ap (ceil_of k) h.pairs ∙ ceil_of-between_both k h.before (pairs_of c sub) h.after h.below h.beyond

  -- and the nearest one down from it in the subtree, or else the last one before it
  pub floor_of-any_hole : (sub : Tree) (h : Hole kind slots c ps whole k above side sub)
      → floor_of k ps ≡ found_or (floor_of k (pairs_of c sub)) (last_of h.before)
  floor_of-any_hole sub h =
      ap (floor_of k) h.pairs ∙ floor_of-between k h.before (pairs_of c sub) h.after h.below h.beyond

  -- where the node has the key, both are its own pair
  pub ceil_of-hole : (n : ℕ) (l r : Tree) → IsRising ps → Hole kind slots c ps whole k above side (Fork n l r)
      → c n Key ≡ k → ceil_of k ps ≡ Some (pair_of c n)
  ceil_of-hole n l r rising h e =
      let a : Apart c n l r = hole_apart kind slots c ps whole k above side n l r rising h in
      ceil_of-any_hole (Fork n l r) h ∙ ap (λ (o : Option (ℕ × ℕ)). found_or o (first_of h.after))
      (ceil_of-here k (pairs_of c l) (pair_of c n) (pairs_of c r) a.below (sym e))

  pub floor_of-hole : (n : ℕ) (l r : Tree) → IsRising ps → Hole kind slots c ps whole k above side (Fork n l r)
      → c n Key ≡ k → floor_of k ps ≡ Some (pair_of c n)
  floor_of-hole n l r rising h e =
      let a : Apart c n l r = hole_apart kind slots c ps whole k above side n l r rising h in
      floor_of-any_hole (Fork n l r) h ∙ ap (λ (o : Option (ℕ × ℕ)). found_or o (last_of h.before))
      (floor_of-here k (pairs_of c l) (pair_of c n) (pairs_of c r) a.below a.above (sym e))
