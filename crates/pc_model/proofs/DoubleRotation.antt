-- A double rotation of a balanced tree: the child of a node's child, on the inner side, takes the node's
-- place, and both hang below it. The tree's pairs stay, and the debts that this may bring are those of the
-- three nodes and of the node above them.
use Rattle.std.proofs.Common.{◌≡◌, ◌≢◌, ℕ, ◌⊎◌, inl, inr, ⊎_elim, List, [], ◌∷◌, refl, sym, ◌∙◌, subst}
use Rattle.std.proofs.Common.{IsTrue, arith}
use Rattle.pc_model.specs.declared.cell.Field.{Field}
use Rattle.pc_model.specs.declared.cell.Field.TheVariants.{Version, Key, Value, Parent, Height}
use Rattle.pc_model.specs.declared.cell.Side.{Side}
use Rattle.pc_model.specs.Map.{Pairs}
use Rattle.pc_model.specs.Cells.{Cells, IsNode}
use Rattle.pc_model.specs.Debts.{has}
use Rattle.pc_model.specs.Trees.{Tree, Fork, balanced, Spells, IsIn, pairs_of, IsSearchTree}
use Rattle.pc_model.specs.Sides.{link_of, opposite, fork_on}
use Rattle.pc_model.specs.Rotations.{IsDoublyRotated}
use Rattle.pc_model.proofs.Framing.{IsKept, spells_kept, pairs_same, unmarked_in, IsRehung, spells_rehung}
use Rattle.pc_model.proofs.TreeNodes.{root_is_in}
use Rattle.pc_model.proofs.Holes.{Framed, Hole, hole_rising, refilled_same}
use Rattle.pc_model.proofs.Links.{IsLinkAlone, link_alone}
use Rattle.pc_model.proofs.Sides.{link_of-is_link, opposite_differs, SpellsOn, spells_on, spells_from_side, in_root}
use Rattle.pc_model.proofs.Sides.{in_near, in_far, in_which, ApartOn, apart_on}
use Rattle.pc_model.proofs.DebtsBrought.{IsAmong, IsConfinedTo, IsCharged, BringsOnly, brings_only, charged_still}
use Rattle.pc_model.proofs.Turning.{root_apart, ForkAt, fork_at, ChildOn, child_on, pairs_turned}
use Rattle.pc_model.proofs.Turning.{pairs_on_side}

module _ (slots : ℕ) (c : Cells) (ps : Pairs) (s : IsSearchTree balanced slots c ps) (k above : ℕ) (link : Field)
    (side : Side) (x y g : ℕ) (near near_in far_in far : Tree)
    (h : Hole balanced slots c ps s.tree k above link
    (fork_on side x (fork_on side y near (fork_on side g near_in far_in)) far)) (c' : Cells)
    (rot : IsDoublyRotated side c c' above link x y g) where
  abbrev near_link : Field
  near_link = link_of side

  abbrev far_link : Field
  far_link = link_of (opposite side)

  abbrev inner : Tree
  inner = fork_on side g near_in far_in

  -- seen from y its other side is the near one
  abbrev lower : Tree
  lower = fork_on side y near inner

  abbrev whole : Tree
  whole = fork_on side x lower far

  abbrev near_tree : Tree
  near_tree = fork_on side y near near_in

  abbrev far_tree : Tree
  far_tree = fork_on side x far_in far

  abbrev turned : Tree
  turned = fork_on side g near_tree far_tree

  -- Before the rotation

  alone : IsLinkAlone link
  alone = link_alone link h.link

  near_alone : IsLinkAlone near_link
  near_alone = link_alone near_link (link_of-is_link side)

  far_alone : IsLinkAlone far_link
  far_alone = link_alone far_link (link_of-is_link (opposite side))

  x_there : SpellsOn balanced slots c side x lower far above (c above link)
  x_there = spells_on balanced slots c x lower far above (c above link) side h.spelled

  y_there : SpellsOn balanced slots c side y near inner x (c x near_link)
  y_there = spells_on balanced slots c y near inner x (c x near_link) side x_there.near_spelled

  g_there : SpellsOn balanced slots c side g near_in far_in y (c y far_link)
  g_there = spells_on balanced slots c g near_in far_in y (c y far_link) side y_there.far_spelled

  x_apart : ApartOn c side x lower far
  x_apart = apart_on side c x lower far (hole_rising balanced slots c ps s.tree k above link whole s.rising h)

  y_apart : ApartOn c side y near inner
  y_apart = apart_on side c y near inner x_apart.near_rising

  g_apart : ApartOn c side g near_in far_in
  g_apart = apart_on side c g near_in far_in y_apart.far_rising

  g_in_inner : IsIn g inner
  g_in_inner = in_root g g near_in far_in side refl

  y_in_lower : IsIn y lower
  y_in_lower = in_root y y near inner side refl

  inner_in_lower : (m : ℕ) → IsIn m inner → IsIn m lower
  inner_in_lower m i = in_far m y near inner side i

  lower_in_whole : (m : ℕ) → IsIn m lower → IsIn m whole
  lower_in_whole m i = in_near m x lower far side i

  inner_in_whole : (m : ℕ) → IsIn m inner → IsIn m whole
  inner_in_whole m i = lower_in_whole m (inner_in_lower m i)

  x_in_whole : IsIn x whole
  x_in_whole = in_root x x lower far side refl

  y_in_whole : IsIn y whole
  y_in_whole = lower_in_whole y y_in_lower

  g_in_whole : IsIn g whole
  g_in_whole = inner_in_whole g g_in_inner

  not_above : (m : ℕ) → IsIn m whole → m ≢ above
  not_above m i e = h.apart (subst (λ (z : ℕ). IsIn z whole) e i)

  lower_not_x : (m : ℕ) → IsIn m lower → m ≢ x
  lower_not_x m i e = x_apart.not_near (subst (λ (z : ℕ). IsIn z lower) e i)

  inner_not_y : (m : ℕ) → IsIn m inner → m ≢ y
  inner_not_y m i e = y_apart.not_far (subst (λ (z : ℕ). IsIn z inner) e i)

  y_not_x : y ≢ x
  y_not_x = lower_not_x y y_in_lower

  g_not_x : g ≢ x
  g_not_x = lower_not_x g (inner_in_lower g g_in_inner)

  g_not_y : g ≢ y
  g_not_y = inner_not_y g g_in_inner

  -- a node of one of the four trees below is none of the three
  pub record IsBelow (m : ℕ) : Type 0 where
    pub in_whole : IsIn m whole
    pub not_x : m ≢ x
    pub not_y : m ≢ y
    pub not_g : m ≢ g

  below_near : (m : ℕ) → IsIn m near → IsBelow m
  below_near m i = let low : IsIn m lower = in_near m y near inner side i in record {
    in_whole = lower_in_whole m low;
    not_x = lower_not_x m low;
    not_y = λ e. y_apart.not_near (subst (λ (z : ℕ). IsIn z near) e i);
    not_g = λ e. y_apart.not_both g (subst (λ (z : ℕ). IsIn z near) e i) g_in_inner;
  }

  below_inner : (m : ℕ) → IsIn m near_in ⊎ IsIn m far_in → IsBelow m
  below_inner m i =
      let within : IsIn m inner = ⊎_elim (in_near m g near_in far_in side) (in_far m g near_in far_in side) i in
      record {
        in_whole = inner_in_whole m within;
        not_x = lower_not_x m (inner_in_lower m within);
        not_y = inner_not_y m within;
        not_g = λ e. ⊎_elim (λ j. g_apart.not_near (subst (λ (z : ℕ). IsIn z near_in) e j))
            (λ j. g_apart.not_far (subst (λ (z : ℕ). IsIn z far_in) e j)) i;
      }

  below_far : (m : ℕ) → IsIn m far → IsBelow m
  below_far m i = record {
    in_whole = in_far m x lower far side i;
    not_x = λ e. x_apart.not_far (subst (λ (z : ℕ). IsIn z far) e i);
    not_y = λ e. x_apart.not_both y y_in_lower (subst (λ (z : ℕ). IsIn z far) e i);
    not_g = λ e. x_apart.not_both g (inner_in_lower g g_in_inner) (subst (λ (z : ℕ). IsIn z far) e i);
  }

  -- What stays

  -- a word of a node that is none of the three
  other_word : (m : ℕ) (f : Field) → f ≢ Version → (m ≡ above → f ≢ link) → m ≢ x → m ≢ y → m ≢ g
      → (m ≡ c g near_link → f ≢ Parent) → (m ≡ c g far_link → f ≢ Parent) → c' m f ≡ c m f
  other_word m f not_version not_link not_x not_y not_g near_parent far_parent = rot.others.words m f not_version (
    (λ e. (not_link e, tt)),
    (
      (λ e. absurd (not_x e)),
      (
        (λ e. absurd (not_y e)),
        (
          (λ e. absurd (not_g e)),
          ((λ e. (near_parent e, tt)), ((λ e. (far_parent e, tt)), tt)),
        ),
      ),
    ),
  )

  below_word : (m : ℕ) (f : Field) → f ≢ Version → IsBelow m
      → (m ≡ c g near_link → f ≢ Parent) → (m ≡ c g far_link → f ≢ Parent) → c' m f ≡ c m f
  below_word m f not_version is = other_word m f not_version (λ e. absurd (not_above m is.in_whole e))
      is.not_x is.not_y is.not_g

  key_stays : (m : ℕ) → c' m Key ≡ c m Key
  key_stays m = rot.others.words m Key (λ e. cc) (
    (λ _. (alone.key, tt)),
    (
      (λ _. (near_alone.key, ((λ e. cc), ((λ e. cc), tt)))),
      (
        (λ _. (far_alone.key, ((λ e. cc), ((λ e. cc), tt)))),
        (
          (λ _. (near_alone.key, (far_alone.key, ((λ e. cc), ((λ e. cc), tt))))),
          ((λ _. ((λ e. cc), tt)), ((λ _. ((λ e. cc), tt)), tt)),
        ),
      ),
    ),
  )

  value_stays : (m : ℕ) → c' m Value ≡ c m Value
  value_stays m = rot.others.words m Value (λ e. cc) (
    (λ _. (alone.value, tt)),
    (
      (λ _. (near_alone.value, ((λ e. cc), ((λ e. cc), tt)))),
      (
        (λ _. (far_alone.value, ((λ e. cc), ((λ e. cc), tt)))),
        (
          (λ _. (near_alone.value, (far_alone.value, ((λ e. cc), ((λ e. cc), tt))))),
          ((λ _. ((λ e. cc), tt)), ((λ _. ((λ e. cc), tt)), tt)),
        ),
      ),
    ),
  )

  y_near_stays : c' y near_link ≡ c y near_link
  y_near_stays =
      let not_parent : near_link ≢ Parent = λ e. near_alone.parent (sym e) in
      rot.others.words y near_link (λ e. near_alone.version (sym e)) (
        (λ e. absurd (not_above y y_in_whole e)),
        (
          (λ e. absurd (y_not_x e)),
          (
            (λ _. ((λ e. opposite_differs side (sym e)), (not_parent, ((λ e. near_alone.height (sym e)), tt)))),
            ((λ e. absurd (g_not_y (sym e))), ((λ _. (not_parent, tt)), ((λ _. (not_parent, tt)), tt))),
          ),
        ),
      )

  x_far_stays : c' x far_link ≡ c x far_link
  x_far_stays =
      let not_parent : far_link ≢ Parent = λ e. far_alone.parent (sym e) in
      rot.others.words x far_link (λ e. far_alone.version (sym e)) (
        (λ e. absurd (not_above x x_in_whole e)),
        (
          (λ _. (opposite_differs side, (not_parent, ((λ e. far_alone.height (sym e)), tt)))),
          (
            (λ e. absurd (y_not_x (sym e))),
            (
              (λ e. absurd (g_not_x (sym e))),
              ((λ _. (not_parent, tt)), ((λ _. (not_parent, tt)), tt)),
            ),
          ),
        ),
      )

  -- the roots of the two inner trees are in no other tree below
  near_root_out : (t : Tree) (a start : ℕ) → Spells balanced slots c t a start
      → ((m : ℕ) → IsIn m near_in → IsIn m t → ⊥) → (m : ℕ) → IsIn m t → m ≢ c g near_link
  near_root_out t a start spelled apart m i e = root_apart balanced slots c near_in t g (c g near_link) a start
      g_there.near_spelled spelled apart (subst (λ (z : ℕ). IsIn z t) e i)

  far_root_out : (t : Tree) (a start : ℕ) → Spells balanced slots c t a start
      → ((m : ℕ) → IsIn m far_in → IsIn m t → ⊥) → (m : ℕ) → IsIn m t → m ≢ c g far_link
  far_root_out t a start spelled apart m i e = root_apart balanced slots c far_in t g (c g far_link) a start
      g_there.far_spelled spelled apart (subst (λ (z : ℕ). IsIn z t) e i)

  -- a tree below, apart from the two inner ones, is kept
  kept : (t : Tree) (a start : ℕ) → Spells balanced slots c t a start → ((m : ℕ) → IsIn m t → IsBelow m)
      → ((m : ℕ) → IsIn m near_in ⊎ IsIn m far_in → IsIn m t → ⊥) → IsKept c c' t
  kept t a start spelled below apart = record {
    words = λ m f i not_version. below_word m f not_version (below m i)
        (λ e. absurd (near_root_out t a start spelled (λ z j. apart z (inl j)) m i e))
        (λ e. absurd (far_root_out t a start spelled (λ z j. apart z (inr j)) m i e));
    unmarked = λ m i. rot.others.parity m ∙ unmarked_in balanced slots c t a start m spelled i;
  }

  near_kept : IsKept c c' near
  near_kept = kept near y (c y near_link) y_there.near_spelled below_near (λ m i j. y_apart.not_both m j
      (⊎_elim (in_near m g near_in far_in side) (in_far m g near_in far_in side) i))

  far_kept : IsKept c c' far
  far_kept = kept far x (c x far_link) x_there.far_spelled below_far (λ m i j. x_apart.not_both m (inner_in_lower m
      (⊎_elim (in_near m g near_in far_in side) (in_far m g near_in far_in side) i)) j)

  near_rehung : IsRehung balanced c c' near_in y (c g near_link)
  near_rehung = record {
    parent = rot.near_parent;
    words = λ m f i not_version not_parent. below_word m f not_version (below_inner m (inl i)) not_parent
        (λ e. absurd (far_root_out near_in g (c g near_link) g_there.near_spelled
        (λ z a b. g_apart.not_both z b a) m i e));
    unmarked = λ m i. rot.others.parity m
        ∙ unmarked_in balanced slots c near_in g (c g near_link) m g_there.near_spelled i;
  }

  far_rehung : IsRehung balanced c c' far_in x (c g far_link)
  far_rehung = record {
    parent = rot.far_parent;
    words = λ m f i not_version not_parent. below_word m f not_version (below_inner m (inr i))
        (λ e. absurd (near_root_out far_in g (c g far_link) g_there.far_spelled g_apart.not_both m i e)) not_parent;
    unmarked = λ m i. rot.others.parity m
        ∙ unmarked_in balanced slots c far_in g (c g far_link) m g_there.far_spelled i;
  }

  -- After the rotation

  -- a node outside is no root of an inner tree
  outside_not_root : (m : ℕ) (t : Tree) (start : ℕ) → IsNode slots m → (IsIn m whole → ⊥)
      → ((z : ℕ) → IsIn z t → IsIn z whole) → Spells balanced slots c t g start → m ≢ start
  outside_not_root m t start is_node out within spelled e = ⊎_elim
      (λ zero. let none : m ≡ 0 = e ∙ zero in absurd (omega arith))
      (λ i. out (within m (subst (λ (z : ℕ). IsIn z t) (sym e) i)))
      (root_is_in balanced slots c t g start spelled)

  framed : Framed slots c c' above link whole
  framed = record {
    words = λ m f outside not_version not_link. other_word m f not_version not_link
        (λ e. outside.out (in_root m x lower far side e))
        (λ e. outside.out (subst (λ (z : ℕ). IsIn z whole) (sym e) y_in_whole))
        (λ e. outside.out (subst (λ (z : ℕ). IsIn z whole) (sym e) g_in_whole))
        (λ e. absurd (outside_not_root m near_in (c g near_link) outside.node outside.out
        (λ z i. (below_inner z (inl i)).in_whole) g_there.near_spelled e))
        (λ e. absurd (outside_not_root m far_in (c g far_link) outside.node outside.out
        (λ z i. (below_inner z (inr i)).in_whole) g_there.far_spelled e));
    unmarked = λ m outside. rot.others.parity m ∙ outside.unmarked;
  }

  near_tree_spelled : Spells balanced slots c' near_tree g (c' g near_link)
  near_tree_spelled = spells_from_side balanced slots c' y near near_in g (c' g near_link) side (record {
    linked = rot.near_linked;
    node = record {
      slot = y_there.node.slot;
      unmarked = rot.others.parity y ∙ y_there.node.unmarked;
      of_kind = (rot.parent_y, rot.height_y);
    };
    near_spelled = rw y_near_stays
        (spells_kept balanced slots c c' near y (c y near_link) near_kept y_there.near_spelled);
    far_spelled = rw rot.near_inner (spells_rehung balanced slots c c' near_in g y (c g near_link) near_rehung
        g_apart.near_rising g_there.near_spelled);
  })

  far_tree_spelled : Spells balanced slots c' far_tree g (c' g far_link)
  far_tree_spelled = spells_from_side balanced slots c' x far_in far g (c' g far_link) side (record {
    linked = rot.far_linked;
    node = record {
      slot = x_there.node.slot;
      unmarked = rot.others.parity x ∙ x_there.node.unmarked;
      of_kind = (rot.parent_x, rot.height_x);
    };
    near_spelled = rw rot.far_inner (spells_rehung balanced slots c c' far_in g x (c g far_link) far_rehung
        g_apart.far_rising g_there.far_spelled);
    far_spelled = rw x_far_stays (spells_kept balanced slots c c' far x (c x far_link) far_kept x_there.far_spelled);
  })

  turned_spelled : Spells balanced slots c' turned above (c' above link)
  turned_spelled = spells_from_side balanced slots c' g near_tree far_tree above (c' above link) side (record {
    linked = rot.linked;
    node = record {
      slot = g_there.node.slot;
      unmarked = rot.others.parity g ∙ g_there.node.unmarked;
      of_kind = (rot.parent_g, rot.height_g);
    };
    near_spelled = near_tree_spelled;
    far_spelled = far_tree_spelled;
  })

  from_near_tree : (m : ℕ) → IsIn m near_tree → IsIn m turned
  from_near_tree m i = in_near m g near_tree far_tree side i

  from_far_tree : (m : ℕ) → IsIn m far_tree → IsIn m turned
  from_far_tree m i = in_far m g near_tree far_tree side i

  same_inner_nodes : (m : ℕ) → IsIn m inner → IsIn m turned
  same_inner_nodes m i = ⊎_elim
      (λ e. in_root m g near_tree far_tree side e)
      (λ j. ⊎_elim
      (λ i'. from_near_tree m (in_far m y near near_in side i'))
      (λ i'. from_far_tree m (in_near m x far_in far side i')) j)
      (in_which m g near_in far_in side i)

  same_lower_nodes : (m : ℕ) → IsIn m lower → IsIn m turned
  same_lower_nodes m i = ⊎_elim
      (λ e. from_near_tree m (in_root m y near near_in side e))
      (λ j. ⊎_elim (λ i'. from_near_tree m (in_near m y near near_in side i')) (same_inner_nodes m) j)
      (in_which m y near inner side i)

  same_nodes : (m : ℕ) → IsIn m whole → IsIn m turned
  same_nodes m i = ⊎_elim
      (λ e. from_far_tree m (in_root m x far_in far side e))
      (λ j. ⊎_elim (same_lower_nodes m) (λ i'. from_far_tree m (in_far m x far_in far side i')) j)
      (in_which m x lower far side i)

  -- a double rotation turns twice
  pairs_turned_twice : pairs_of c whole ≡ pairs_of c turned
  pairs_turned_twice = pairs_on_side side c x lower (fork_on side g near_tree far_in) far
      (sym (pairs_turned side c g y near near_in far_in))
      ∙ pairs_turned side c x g near_tree far_in far

  doubly_rotated_tree : IsSearchTree balanced slots c' ps
  doubly_rotated_tree =
      let pairs : pairs_of c' turned ≡ pairs_of c whole =
      pairs_same c c' turned (λ m _. let key = key_stays m in let value = value_stays m in λ i. (key i, value i))
      ∙ sym pairs_turned_twice in
      refilled_same balanced slots c ps s k above link whole turned h c' framed turned_spelled pairs same_nodes
      (λ m is odd. rot.others.parity m ∙ odd)

  -- Its debts

  confined : IsConfinedTo (above ∷ x ∷ y ∷ g ∷ []) slots c c'
  confined = record {
    words = λ m f out not_version not_parent _. other_word m f not_version (λ e. absurd (out (inl e)))
        (λ e. out (inr (inl e))) (λ e. out (inr (inr (inl e)))) (λ e. out (inr (inr (inr (inl e)))))
        (λ _. not_parent) (λ _. not_parent);
    parity = λ m _. rot.others.parity m;
    heights = λ m i is even. ⊎_elim
        (λ e. inl (other_word m Height (λ d. cc) (λ _. alone.height)
        (λ d. not_above x x_in_whole (sym d ∙ e)) (λ d. not_above y y_in_whole (sym d ∙ e))
        (λ d. not_above g g_in_whole (sym d ∙ e)) (λ _ d. cc) (λ _ d. cc)))
        (λ j. inr (⊎_elim
        (λ e. inl ((λ d. c (e d) Parent) ∙ x_there.node.of_kind.0))
        (λ j. ⊎_elim
        (λ e. inr (inl ((λ d. c (e d) Parent) ∙ y_there.node.of_kind.0)))
        (λ j. ⊎_elim
        (λ e. inr (inr (inl ((λ d. c (e d) Parent) ∙ g_there.node.of_kind.0)))) (λ no. absurd no) j) j) j)) i;
  }

  doubly_rotated_brings : (charged : List ℕ) → IsCharged charged c above → IsTrue (has (c x Key) charged)
      → IsTrue (has (c y Key) charged) → IsTrue (has (c g Key) charged) → BringsOnly charged slots c c'
  doubly_rotated_brings charged at_above at_x at_y at_g =
      let at : (m n : ℕ) → m ≡ n → IsTrue (has (c n Key) charged) → IsTrue (has (c m Key) charged) =
      λ m n e. subst (λ (z : ℕ). IsTrue (has (c z Key) charged)) (sym e) in
      let is : (m : ℕ) → IsAmong m (above ∷ x ∷ y ∷ g ∷ []) → IsCharged charged c m = λ m i not_1. ⊎_elim
      (λ e. subst (IsCharged charged c) (sym e) at_above not_1)
      (λ j. ⊎_elim (λ e. at m x e at_x)
      (λ j. ⊎_elim (λ e. at m y e at_y)
      (λ j. ⊎_elim (λ e. at m g e at_g) (λ no. absurd no) j) j) j) i in
      brings_only (above ∷ x ∷ y ∷ g ∷ []) slots c c' confined ps s charged
      (λ m i slot even. inr (charged_still charged slots c c' m (is m i) slot (key_stays m)))

-- The double rotation at a node, by what its look-ups say

module _ (slots : ℕ) (c : Cells) (ps : Pairs) (s : IsSearchTree balanced slots c ps) (k above : ℕ) (link : Field)
    (x : ℕ) (l r : Tree) (h : Hole balanced slots c ps s.tree k above link (Fork x l r)) (side : Side) (y g : ℕ)
    (c' : Cells) (rot : IsDoublyRotated side c c' above link x y g) where
  child : ChildOn balanced slots c ps s.tree k above link x side y
  child = child_on balanced slots c ps s.tree k above link x side l r y h rot.was_child rot.some_child

  fork : ForkAt side child.middle g
  fork =
      let upper : SpellsOn balanced slots c side x (fork_on side y child.near child.middle) child.far above
      (c above link) = spells_on balanced slots c x (fork_on side y child.near child.middle) child.far above
      (c above link) side child.hole.spelled in
      let lower : SpellsOn balanced slots c side y child.near child.middle x (c x (link_of side)) =
      spells_on balanced slots c y child.near child.middle x (c x (link_of side)) side upper.near_spelled in
      fork_at balanced slots c side child.middle y g
      (subst (Spells balanced slots c child.middle y) rot.was_inner lower.far_spelled) rot.some_inner

  hole : Hole balanced slots c ps s.tree k above link
      (fork_on side x (fork_on side y child.near (fork_on side g fork.near fork.far)) child.far)
  hole = subst (λ (t : Tree). Hole balanced slots c ps s.tree k above link
      (fork_on side x (fork_on side y child.near t) child.far)) fork.fork child.hole

  -- the tree's pairs stay
  pub doubly_rotated : IsSearchTree balanced slots c' ps
  doubly_rotated = doubly_rotated_tree slots c ps s k above link side x y g child.near fork.near fork.far child.far
      hole c' rot

  -- only the keys of the three nodes and of the node above them may come into debt
  pub doubly_rotated_brings_only : (charged : List ℕ) → IsCharged charged c above → IsTrue (has (c x Key) charged)
      → IsTrue (has (c y Key) charged) → IsTrue (has (c g Key) charged) → BringsOnly charged slots c c'
  doubly_rotated_brings_only = doubly_rotated_brings slots c ps s k above link side x y g child.near fork.near fork.far
      child.far hole c' rot
