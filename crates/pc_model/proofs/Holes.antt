-- A walk from the root to a key, seen as a hole: the subtree at the link that the walk has come to, the
-- pairs before and after it, and how the whole tree is spelled again where only that subtree changes.
use Rattle.std.proofs.Common.{◌≡◌, ◌≢◌, ℕ, ◌%◌, ◌<◌, ◌⊎◌, inl, inr, ⊎_elim, [], ◌++◌, refl, sym, ap, ◌∙◌, subst}
use Rattle.std.proofs.Common.{append_assoc, arith}
use Rattle.std.proofs.lemmas.List.{append-nil}
use Rattle.std.proofs.lemmas.Bool.{cases_eq}
use Rattle.pc_model.specs.declared.cell.Field.{Field}
use Rattle.pc_model.specs.declared.cell.Field.TheVariants.{Version, Key, Value, Left, Right, Parent, Height}
use Rattle.pc_model.specs.Map.{Pairs, IsRising, AreSmall, AreBelow, AreAbove}
use Rattle.pc_model.specs.Cells.{Cells, IsEven, IsOdd, IsSlot, IsNode}
use Rattle.pc_model.specs.Trees.{Tree, Fork, Kind, Spells, IsIn, pair_of, pairs_of, IsSearchTree}
use Rattle.pc_model.specs.declared.cell.Side.{Side}
use Rattle.pc_model.specs.declared.cell.Side.TheVariants.{Left as left, Right as right}
use Rattle.pc_model.specs.Sides.{link_of, opposite, fork_on, IsToward, pairs_before, pairs_behind}
use Rattle.pc_model.proofs.SortedLists.{AreBelow-join, AreAbove-join, rising_front, rising_back}
use Rattle.pc_model.proofs.Framing.{is_in_or_not, tree_node_same, IsKept, spells_kept, pairs_kept, slot_in}
use Rattle.pc_model.proofs.Framing.{unmarked_in, Apart, apart_from_rising}
use Rattle.pc_model.proofs.Links.{IsLinkAlone, link_alone}
use Rattle.pc_model.proofs.Sides.{link_of-is_link, opposite_differs, SpellsOn, spells_on, spells_from_side, in_root}
use Rattle.pc_model.proofs.Sides.{in_near, in_far, in_which, pairs_on, pairs_before_same, pairs_behind_same, ApartOn}
use Rattle.pc_model.proofs.Sides.{apart_on}

-- the sentinel or a slot in use, outside of a subtree
pub record IsOutside (slots : ℕ) (c : Cells) (sub : Tree) (n : ℕ) : Type 0 where
  pub node : IsNode slots n
  pub unmarked : IsEven (c n Version)
  pub out : IsIn n sub → ⊥

-- outside a subtree, cells differ in one link of the node above it and in versions alone, and no node
-- goes out of use; slots that were out of use may differ in all
pub record Framed (slots : ℕ) (c c' : Cells) (above : ℕ) (side : Field) (sub : Tree) : Type 0 where
  pub words : (n : ℕ) (f : Field) → IsOutside slots c sub n → f ≢ Version → (n ≡ above → f ≢ side) → c' n f ≡ c n f
  pub unmarked : (n : ℕ) → IsOutside slots c sub n → IsEven (c' n Version)

-- the whole tree in the changed cells, with another subtree in its place
pub record Filled (kind : Kind) (slots : ℕ) (c' : Cells) (whole sub sub' : Tree) (before after : Pairs) : Type 0 where
  pub tree : Tree
  pub spelled : Spells kind slots c' tree 1 (c' 1 Left)
  pub pairs : pairs_of c' tree ≡ before ++ (pairs_of c' sub' ++ after)
  pub inside : (n : ℕ) → IsIn n sub' → IsIn n tree
  pub outside : (n : ℕ) → IsIn n whole → (IsIn n sub → ⊥) → IsIn n tree
  pub unmarked : IsEven (c' 1 Version)
  pub no_right : c' 1 Right ≡ 0
  pub no_parent : c' 1 Parent ≡ 0

-- the subtree at one link of a node, on the way to a key
pub record Hole (kind : Kind) (slots : ℕ) (c : Cells) (ps : Pairs) (whole : Tree) (k above : ℕ) (side : Field)
    (sub : Tree) : Type 0 where
  pub before : Pairs
  pub after : Pairs
  pub pairs : ps ≡ before ++ (pairs_of c sub ++ after)
  pub below : AreBelow k before
  pub beyond : AreAbove k after
  pub spelled : Spells kind slots c sub above (c above side)
  pub link : (side ≡ Left) ⊎ (side ≡ Right)
  pub node : IsNode slots above
  pub unmarked : IsEven (c above Version)
  pub apart : IsIn above sub → ⊥
  pub fill : (c' : Cells) (sub' : Tree) → Framed slots c c' above side sub
      → Spells kind slots c' sub' above (c' above side) → Filled kind slots c' whole sub sub' before after

-- two lists around a list within two others
regrouped : (b x m y a : Pairs) → b ++ ((x ++ (m ++ y)) ++ a) ≡ (b ++ x) ++ (m ++ (y ++ a))
regrouped b x m y a =
    ap (λ (z : Pairs). b ++ z) (append_assoc x (m ++ y) a ∙ ap (λ (z : Pairs). x ++ z) (append_assoc m y a))
    ∙ sym (append_assoc b x (m ++ (y ++ a)))

module _ (kind : Kind) (slots : ℕ) (c : Cells) (ps : Pairs) where
  -- the whole tree hangs at the sentinel's left link
  pub root_hole : (s : IsSearchTree kind slots c ps) (k : ℕ) → Hole kind slots c ps s.tree k 1 Left s.tree
  root_hole s k =
      let apart : IsIn 1 s.tree → ⊥ = λ h.
      let two : IsSlot slots 1 = slot_in kind slots c s.tree 1 (c 1 Left) 1 s.spelled h in absurd (omega arith) in
      let sentinel : IsOutside slots c s.tree 1 = record {
        node = (omega arith, omega arith);
        unmarked = s.unmarked;
        out = apart;
      } in
      record {
        before = [];
        after = [];
        pairs = sym s.pairs ∙ sym (append-nil (pairs_of c s.tree));
        below = tt;
        beyond = tt;
        spelled = s.spelled;
        link = inl refl;
        node = sentinel.node;
        unmarked = s.unmarked;
        apart = apart;
        fill = λ c' t' framed spelled. record {
          tree = t';
          spelled = spelled;
          pairs = sym (append-nil (pairs_of c' t'));
          inside = λ n h. h;
          outside = λ n h no. absurd (no h);
          unmarked = framed.unmarked 1 sentinel;
          no_right = framed.words 1 Right sentinel (λ e. cc) (λ _ e. cc) ∙ s.no_right;
          no_parent = framed.words 1 Parent sentinel (λ e. cc) (λ _ e. cc) ∙ s.no_parent;
        };
      }

  rising_sub : (before sub after : Pairs) → ps ≡ before ++ (sub ++ after) → IsRising ps → IsRising sub
  rising_sub before sub after e rising = rising_front sub after
      (rising_back before (sub ++ after) (subst IsRising e rising))

  -- the keys of the subtree at a hole rise
  pub hole_rising : (whole : Tree) (k above : ℕ) (side : Field) (sub : Tree) → IsRising ps
      → Hole kind slots c ps whole k above side sub → IsRising (pairs_of c sub)
  hole_rising whole k above side sub rising h = rising_sub h.before (pairs_of c sub) h.after h.pairs rising

  -- a fork at the hole: its sides lie apart
  pub hole_apart : (whole : Tree) (k above : ℕ) (side : Field) (n : ℕ) (l r : Tree) → IsRising ps
      → Hole kind slots c ps whole k above side (Fork n l r) → Apart c n l r
  hole_apart whole k above side n l r rising h =
      apart_from_rising c n l r (hole_rising whole k above side (Fork n l r) rising h)

  -- the node above the subtree is outside of it
  pub hole_outside : (whole : Tree) (k above : ℕ) (side : Field) (sub : Tree)
      → Hole kind slots c ps whole k above side sub → IsOutside slots c sub above
  hole_outside whole k above side sub h = record { node = h.node; unmarked = h.unmarked; out = h.apart }

  -- The walk goes on to the tree on one side of a node.
  module _ (whole : Tree) (k above : ℕ) (link : Field) (side : Side) (n : ℕ) (near far : Tree) (rising : IsRising ps)
      (h : Hole kind slots c ps whole k above link (fork_on side n near far)) where
    there : SpellsOn kind slots c side n near far above (c above link)
    there = spells_on kind slots c n near far above (c above link) side h.spelled

    apart_there : ApartOn c side n near far
    apart_there = apart_on side c n near far (hole_rising whole k above link (fork_on side n near far) rising h)

    node_outside : IsOutside slots c near n
    node_outside = record {
      node = let slot : IsSlot slots n = there.node.slot in (omega arith, omega arith);
      unmarked = there.node.unmarked;
      out = apart_there.not_near;
    }

    far_outside : (m : ℕ) → IsIn m far → IsOutside slots c near m
    far_outside m i =
        let slot : IsSlot slots m = slot_in kind slots c far n (c n (link_of (opposite side))) m there.far_spelled i in
        record {
          node = (omega arith, omega arith);
          unmarked = unmarked_in kind slots c far n (c n (link_of (opposite side))) m there.far_spelled i;
          out = λ j. apart_there.not_both m j i;
        }

    -- A change below the node's link, or in it, is one below the hole's own link.
    module _ (c' : Cells) (framed : Framed slots c c' n (link_of side) near) where
      outside_near : (m : ℕ) → IsOutside slots c (fork_on side n near far) m → IsOutside slots c near m
      outside_near m outside = record {
        node = outside.node;
        unmarked = outside.unmarked;
        out = λ i. outside.out (in_near m n near far side i);
      }

      above_same : (m : ℕ) (f : Field) → IsOutside slots c (fork_on side n near far) m → f ≢ Version → c' m f ≡ c m f
      above_same m f outside not_version = framed.words m f (outside_near m outside) not_version
          (λ e. absurd (outside.out (in_root m n near far side e)))

      framed_above : Framed slots c c' above link (fork_on side n near far)
      framed_above = record {
        words = λ m f outside not_version _. above_same m f outside not_version;
        unmarked = λ m outside. framed.unmarked m (outside_near m outside);
      }

      far_kept : IsKept c c' far
      far_kept = record {
        words = λ m f i not_version. framed.words m f (far_outside m i) not_version
            (λ e. absurd (apart_there.not_far (subst (λ (x : ℕ). IsIn x far) e i)));
        unmarked = λ m i. framed.unmarked m (far_outside m i);
      }

      own_same : (f : Field) → f ≢ Version → f ≢ link_of side → c' n f ≡ c n f
      own_same f not_version not_link = framed.words n f node_outside not_version (λ _. not_link)

      pair_same : pair_of c' n ≡ pair_of c n
      pair_same =
          let alone : IsLinkAlone (link_of side) = link_alone (link_of side) (link_of-is_link side) in
          let key : c' n Key ≡ c n Key = own_same Key (λ e. cc) alone.key in
          let value : c' n Value ≡ c n Value = own_same Value (λ e. cc) alone.value in
          λ i. (key i, value i)

      module _ (sub : Tree) (spelled : Spells kind slots c' sub n (c' n (link_of side))) where
        fork_spelled : Spells kind slots c' (fork_on side n sub far) above (c' above link)
        fork_spelled =
            let alone : IsLinkAlone (link_of side) = link_alone (link_of side) (link_of-is_link side) in
            let far_link : Field = link_of (opposite side) in
            let far_alone : IsLinkAlone far_link = link_alone far_link (link_of-is_link (opposite side)) in
            let not_version : far_link ≢ Version = λ e. far_alone.version (sym e) in
            let link_same : c' n far_link ≡ c n far_link = own_same far_link not_version (opposite_differs side) in
            let link_above : c' above link ≡ c above link =
            above_same above link (hole_outside whole k above link (fork_on side n near far) h)
            (λ e. (link_alone link h.link).version (sym e)) in
            spells_from_side kind slots c' n sub far above (c' above link) side (record {
              linked = link_above ∙ there.linked;
              node = tree_node_same kind slots c c' above n (framed.unmarked n node_outside)
                  (own_same Parent (λ e. cc) alone.parent) (own_same Height (λ e. cc) alone.height) there.node;
              near_spelled = spelled;
              far_spelled = rw link_same (spells_kept kind slots c c' far n (c n far_link) far_kept there.far_spelled);
            })

        fork_filled : Filled kind slots c' whole (fork_on side n near far) (fork_on side n sub far) h.before h.after
        fork_filled = h.fill c' (fork_on side n sub far) framed_above fork_spelled

        fork_pairs : pairs_of c' (fork_on side n sub far)
            ≡ pairs_before side c n far ++ (pairs_of c' sub ++ pairs_behind side c n far)
        fork_pairs =
            let far_same : pairs_of c' far ≡ pairs_of c far = pairs_kept c c' far far_kept in
            let front : pairs_before side c' n far ≡ pairs_before side c n far =
            pairs_before_same side c c' n far pair_same far_same in
            let back : pairs_behind side c' n far ≡ pairs_behind side c n far =
            pairs_behind_same side c c' n far pair_same far_same in
            pairs_on side c' n sub far ∙ (λ i. front i ++ (pairs_of c' sub ++ back i))

        still_outside : (m : ℕ) → IsIn m whole → (IsIn m near → ⊥) → IsIn m fork_filled.tree
        still_outside m i out = ⊎_elim
            (λ j. ⊎_elim (λ e. fork_filled.inside m (in_root m n sub far side e))
            (λ k. ⊎_elim (λ x. absurd (out x)) (λ x. fork_filled.inside m (in_far m n sub far side x)) k)
            (in_which m n near far side j))
            (λ j. fork_filled.outside m i j)
            (is_in_or_not m (fork_on side n near far))

        side_filled : Filled kind slots c' whole near sub (h.before ++ pairs_before side c n far)
            (pairs_behind side c n far ++ h.after)
        side_filled = record {
          tree = fork_filled.tree;
          spelled = fork_filled.spelled;
          pairs = fork_filled.pairs ∙ ap (λ (x : Pairs). h.before ++ (x ++ h.after)) fork_pairs
              ∙ regrouped h.before (pairs_before side c n far) (pairs_of c' sub) (pairs_behind side c n far) h.after;
          inside = λ m i. fork_filled.inside m (in_near m n sub far side i);
          outside = still_outside;
          unmarked = fork_filled.unmarked;
          no_right = fork_filled.no_right;
          no_parent = fork_filled.no_parent;
        }

    pub side_hole : IsToward side k (c n Key) → Hole kind slots c ps whole k n (link_of side) near
    side_hole toward = record {
      before = h.before ++ pairs_before side c n far;
      after = pairs_behind side c n far ++ h.after;
      pairs = h.pairs ∙ ap (λ (x : Pairs). h.before ++ (x ++ h.after)) (pairs_on side c n near far)
          ∙ regrouped h.before (pairs_before side c n far) (pairs_of c near) (pairs_behind side c n far) h.after;
      below = AreBelow-join k h.before (pairs_before side c n far) h.below (apart_there.before k toward);
      beyond = AreAbove-join k (pairs_behind side c n far) h.after (apart_there.behind k toward) h.beyond;
      spelled = there.near_spelled;
      link = link_of-is_link side;
      node = node_outside.node;
      unmarked = node_outside.unmarked;
      apart = node_outside.out;
      fill = λ c' sub framed spelled. side_filled c' framed sub spelled;
    }

  -- the walk goes left below a node with a greater key
  pub left_hole : (whole : Tree) (k above : ℕ) (side : Field) (n : ℕ) (l r : Tree) → IsRising ps → k < c n Key
      → Hole kind slots c ps whole k above side (Fork n l r) → Hole kind slots c ps whole k n Left l
  left_hole whole k above side n l r rising lt h = side_hole whole k above side left n l r rising h lt

  -- the walk goes right below a node with a smaller key
  pub right_hole : (whole : Tree) (k above : ℕ) (side : Field) (n : ℕ) (l r : Tree) → IsRising ps → c n Key < k
      → Hole kind slots c ps whole k above side (Fork n l r) → Hole kind slots c ps whole k n Right r
  right_hole whole k above side n l r rising lt h = side_hole whole k above side right n r l rising h lt

  even_or_odd : (n : ℕ) → IsEven n ⊎ (n % 2 ≡ 1)
  even_or_odd n = let below : n % 2 < 2 = omega arith in
      ⊎_elim (λ e. inl e) (λ ne. inr (omega arith)) (cases_eq (n % 2) 0)

  -- The changed cells are a search tree again: the hole is filled with a tree that has every unmarked
  -- slot that was in the old subtree or out of use.
  module _ (s : IsSearchTree kind slots c ps) (k above : ℕ) (side : Field) (sub sub' : Tree)
      (h : Hole kind slots c ps s.tree k above side sub) (c' : Cells) where
    pub refilled : (ps' : Pairs) → Framed slots c c' above side sub → Spells kind slots c' sub' above (c' above side)
        → h.before ++ (pairs_of c' sub' ++ h.after) ≡ ps' → IsRising ps' → AreSmall ps'
        → ((n : ℕ) → IsSlot slots n → IsEven (c' n Version) → IsIn n sub ⊎ (c n Version % 2 ≡ 1) → IsIn n sub')
        → IsSearchTree kind slots c' ps'
    refilled ps' framed spelled pairs rising small covers =
        let f : Filled kind slots c' s.tree sub sub' h.before h.after = h.fill c' sub' framed spelled in
        record {
          tree = f.tree;
          spelled = f.spelled;
          pairs = f.pairs ∙ pairs;
          rising = rising;
          small = small;
          covered = λ n slot even. ⊎_elim
              (λ was. ⊎_elim (λ i. f.inside n (covers n slot even (inl i)))
              (λ no. f.outside n (s.covered n slot was) no) (is_in_or_not n sub))
              (λ odd. f.inside n (covers n slot even (inr odd))) (even_or_odd (c n Version));
          unmarked = f.unmarked;
          no_right = f.no_right;
          no_parent = f.no_parent;
        }

    -- the pairs stay where the new tree has those of the old one, and its nodes, and no slot comes into use
    pub refilled_same : Framed slots c c' above side sub → Spells kind slots c' sub' above (c' above side)
        → pairs_of c' sub' ≡ pairs_of c sub
        → ((n : ℕ) → IsIn n sub → IsIn n sub')
        → ((n : ℕ) → IsSlot slots n → IsOdd (c n Version) → IsOdd (c' n Version)) → IsSearchTree kind slots c' ps
    refilled_same framed spelled same into stays_out =
        refilled ps framed spelled (ap (λ (x : Pairs). h.before ++ (x ++ h.after)) same ∙ sym h.pairs) s.rising s.small
        (λ n slot even was. ⊎_elim (λ i. into n i)
        (λ odd. let still : c' n Version % 2 ≡ 1 = stays_out n slot odd in absurd (omega arith)) was)
