-- A single rotation of a balanced tree: a node's child takes its place, and the node hangs below the
-- child. The tree's pairs stay, and the debts that this may bring are those of the two nodes and of the
-- node above them.
use Rattle.std.proofs.Common.{◌≡◌, ◌≢◌, ℕ, ◌⊎◌, inl, inr, ⊎_elim, List, [], ◌∷◌, refl, sym, ◌∙◌, subst}
use Rattle.std.proofs.Common.{IsTrue, arith}
use Rattle.pc_model.specs.declared.cell.Field.{Field}
use Rattle.pc_model.specs.declared.cell.Field.TheVariants.{Version, Key, Value, Parent, Height}
use Rattle.pc_model.specs.declared.cell.Side.{Side}
use Rattle.pc_model.specs.Map.{Pairs}
use Rattle.pc_model.specs.Cells.{Cells, IsNode}
use Rattle.pc_model.specs.Debts.{has}
use Rattle.pc_model.specs.Trees.{Tree, Fork, balanced, Spells, IsIn, pairs_of, IsSearchTree}
use Rattle.pc_model.specs.Sides.{link_of, opposite, fork_on}
use Rattle.pc_model.specs.Rotations.{IsRotated}
use Rattle.pc_model.proofs.Framing.{IsKept, spells_kept, pairs_same, unmarked_in, IsRehung, spells_rehung}
use Rattle.pc_model.proofs.TreeNodes.{root_is_in}
use Rattle.pc_model.proofs.Holes.{Framed, Hole, hole_rising, refilled_same}
use Rattle.pc_model.proofs.Links.{IsLinkAlone, link_alone}
use Rattle.pc_model.proofs.Sides.{link_of-is_link, opposite_differs, SpellsOn, spells_on, spells_from_side, in_root}
use Rattle.pc_model.proofs.Sides.{in_near, in_far, in_which, ApartOn, apart_on}
use Rattle.pc_model.proofs.DebtsBrought.{IsConfinedTo, IsCharged, BringsOnly, brings_only, charged_still}
use Rattle.pc_model.proofs.Turning.{root_apart, ChildOn, child_on, pairs_turned}

module _ (slots : ℕ) (c : Cells) (ps : Pairs) (s : IsSearchTree balanced slots c ps) (k above : ℕ) (link : Field)
    (side : Side) (x y : ℕ) (near middle far : Tree)
    (h : Hole balanced slots c ps s.tree k above link (fork_on side x (fork_on side y near middle) far)) (c' : Cells)
    (rot : IsRotated side c c' above link x y) where
  abbrev near_link : Field
  near_link = link_of side

  abbrev far_link : Field
  far_link = link_of (opposite side)

  abbrev lower : Tree
  lower = fork_on side y near middle

  abbrev whole : Tree
  whole = fork_on side x lower far

  abbrev turned : Tree
  turned = fork_on side y near (fork_on side x middle far)

  -- Before the rotation

  alone : IsLinkAlone link
  alone = link_alone link h.link

  near_alone : IsLinkAlone near_link
  near_alone = link_alone near_link (link_of-is_link side)

  far_alone : IsLinkAlone far_link
  far_alone = link_alone far_link (link_of-is_link (opposite side))

  upper_there : SpellsOn balanced slots c side x lower far above (c above link)
  upper_there = spells_on balanced slots c x lower far above (c above link) side h.spelled

  lower_there : SpellsOn balanced slots c side y near middle x (c x near_link)
  lower_there = spells_on balanced slots c y near middle x (c x near_link) side upper_there.near_spelled

  upper_apart : ApartOn c side x lower far
  upper_apart = apart_on side c x lower far (hole_rising balanced slots c ps s.tree k above link whole s.rising h)

  lower_apart : ApartOn c side y near middle
  lower_apart = apart_on side c y near middle upper_apart.near_rising

  y_in_lower : IsIn y lower
  y_in_lower = in_root y y near middle side refl

  in_lower : (m : ℕ) → IsIn m near ⊎ IsIn m middle → IsIn m lower
  in_lower m i = ⊎_elim (in_near m y near middle side) (in_far m y near middle side) i

  x_in_whole : IsIn x whole
  x_in_whole = in_root x x lower far side refl

  y_in_whole : IsIn y whole
  y_in_whole = in_near y x lower far side y_in_lower

  not_above : (m : ℕ) → IsIn m whole → m ≢ above
  not_above m i e = h.apart (subst (λ (z : ℕ). IsIn z whole) e i)

  y_not_x : y ≢ x
  y_not_x e = upper_apart.not_near (subst (λ (z : ℕ). IsIn z lower) e y_in_lower)

  -- a node of the lower trees is neither of the two, and a node of the far tree
  lower_not_x : (m : ℕ) → IsIn m near ⊎ IsIn m middle → m ≢ x
  lower_not_x m i e = upper_apart.not_near (subst (λ (z : ℕ). IsIn z lower) e (in_lower m i))

  lower_not_y : (m : ℕ) → IsIn m near ⊎ IsIn m middle → m ≢ y
  lower_not_y m i e = ⊎_elim (λ j. lower_apart.not_near (subst (λ (z : ℕ). IsIn z near) e j))
      (λ j. lower_apart.not_far (subst (λ (z : ℕ). IsIn z middle) e j)) i

  far_not_x : (m : ℕ) → IsIn m far → m ≢ x
  far_not_x m i e = upper_apart.not_far (subst (λ (z : ℕ). IsIn z far) e i)

  far_not_y : (m : ℕ) → IsIn m far → m ≢ y
  far_not_y m i e = upper_apart.not_both y y_in_lower (subst (λ (z : ℕ). IsIn z far) e i)

  -- What stays

  -- a word of a node that is neither of the two
  other_word : (m : ℕ) (f : Field) → f ≢ Version → (m ≡ above → f ≢ link) → m ≢ x → m ≢ y
      → (m ≡ c y far_link → f ≢ Parent) → c' m f ≡ c m f
  other_word m f not_version not_link not_x not_y not_parent = rot.others.words m f not_version
      ((λ e. (not_link e, tt)), ((λ e. absurd (not_x e)), ((λ e. absurd (not_y e)), ((λ e. (not_parent e, tt)), tt))))

  key_stays : (m : ℕ) → c' m Key ≡ c m Key
  key_stays m = rot.others.words m Key (λ e. cc) (
    (λ _. (alone.key, tt)),
    (
      (λ _. (near_alone.key, ((λ e. cc), ((λ e. cc), tt)))),
      ((λ _. (far_alone.key, ((λ e. cc), ((λ e. cc), tt)))), ((λ _. ((λ e. cc), tt)), tt)),
    ),
  )

  value_stays : (m : ℕ) → c' m Value ≡ c m Value
  value_stays m = rot.others.words m Value (λ e. cc) (
    (λ _. (alone.value, tt)),
    (
      (λ _. (near_alone.value, ((λ e. cc), ((λ e. cc), tt)))),
      ((λ _. (far_alone.value, ((λ e. cc), ((λ e. cc), tt)))), ((λ _. ((λ e. cc), tt)), tt)),
    ),
  )

  upper_near_stays : c' y near_link ≡ c y near_link
  upper_near_stays = rot.others.words y near_link (λ e. near_alone.version (sym e)) (
    (λ e. absurd (not_above y y_in_whole e)),
    (
      (λ e. absurd (y_not_x e)),
      (
        (λ _. (
          (λ e. opposite_differs side (sym e)),
          (
            (λ e. near_alone.parent (sym e)),
            ((λ e. near_alone.height (sym e)), tt),
          ),
        )),
        ((λ _. ((λ e. near_alone.parent (sym e)), tt)), tt),
      ),
    ),
  )

  lower_far_stays : c' x far_link ≡ c x far_link
  lower_far_stays = rot.others.words x far_link (λ e. far_alone.version (sym e)) (
    (λ e. absurd (not_above x x_in_whole e)),
    (
      (λ _. (
        opposite_differs side,
        (
          (λ e. far_alone.parent (sym e)),
          ((λ e. far_alone.height (sym e)), tt),
        ),
      )),
      (
        (λ e. absurd (y_not_x (sym e))),
        ((λ _. ((λ e. far_alone.parent (sym e)), tt)), tt),
      ),
    ),
  )

  -- the root of the middle tree is in neither of the other two
  middle_not_near : (m : ℕ) → IsIn m near → m ≢ c y far_link
  middle_not_near m i e = root_apart balanced slots c middle near y (c y far_link) y (c y near_link)
      lower_there.far_spelled lower_there.near_spelled (λ z a b. lower_apart.not_both z b a)
      (subst (λ (z : ℕ). IsIn z near) e i)

  middle_not_far : (m : ℕ) → IsIn m far → m ≢ c y far_link
  middle_not_far m i e = root_apart balanced slots c middle far y (c y far_link) x (c x far_link)
      lower_there.far_spelled upper_there.far_spelled (λ z a b. upper_apart.not_both z (in_lower z (inr a)) b)
      (subst (λ (z : ℕ). IsIn z far) e i)

  near_kept : IsKept c c' near
  near_kept = record {
    words = λ m f i not_version. other_word m f not_version
        (λ e. absurd (not_above m (in_near m x lower far side (in_lower m (inl i))) e))
        (lower_not_x m (inl i)) (lower_not_y m (inl i)) (λ e. absurd (middle_not_near m i e));
    unmarked = λ m i. rot.others.parity m
        ∙ unmarked_in balanced slots c near y (c y near_link) m lower_there.near_spelled i;
  }

  far_kept : IsKept c c' far
  far_kept = record {
    words = λ m f i not_version. other_word m f not_version
        (λ e. absurd (not_above m (in_far m x lower far side i) e))
        (far_not_x m i) (far_not_y m i) (λ e. absurd (middle_not_far m i e));
    unmarked = λ m i. rot.others.parity m
        ∙ unmarked_in balanced slots c far x (c x far_link) m upper_there.far_spelled i;
  }

  middle_rehung : IsRehung balanced c c' middle x (c y far_link)
  middle_rehung = record {
    parent = rot.middle_parent;
    words = λ m f i not_version not_parent. other_word m f not_version
        (λ e. absurd (not_above m (in_near m x lower far side (in_lower m (inr i))) e))
        (lower_not_x m (inr i)) (lower_not_y m (inr i)) not_parent;
    unmarked = λ m i. rot.others.parity m
        ∙ unmarked_in balanced slots c middle y (c y far_link) m lower_there.far_spelled i;
  }

  -- After the rotation

  framed : Framed slots c c' above link whole
  framed = record {
    words = λ m f outside not_version not_link. other_word m f not_version not_link
        (λ e. outside.out (in_root m x lower far side e))
        (λ e. outside.out (subst (λ (z : ℕ). IsIn z whole) (sym e) y_in_whole))
        (λ e. absurd (⊎_elim
        (λ zero. let is_node : IsNode slots m = outside.node in let none : m ≡ 0 = e ∙ zero in absurd (omega arith))
        (λ i. outside.out (in_near m x lower far side (in_lower m (inr (subst (λ (z : ℕ). IsIn z middle) (sym e) i)))))
        (root_is_in balanced slots c middle y (c y far_link) lower_there.far_spelled)));
    unmarked = λ m outside. rot.others.parity m ∙ outside.unmarked;
  }

  lower_spelled : Spells balanced slots c' (fork_on side x middle far) y (c' y far_link)
  lower_spelled = spells_from_side balanced slots c' x middle far y (c' y far_link) side (record {
    linked = rot.upper_far;
    node = record {
      slot = upper_there.node.slot;
      unmarked = rot.others.parity x ∙ upper_there.node.unmarked;
      of_kind = (rot.lower_parent, rot.lower_height);
    };
    near_spelled = rw rot.lower_near (spells_rehung balanced slots c c' middle y x (c y far_link) middle_rehung
        lower_apart.far_rising lower_there.far_spelled);
    far_spelled = rw lower_far_stays
        (spells_kept balanced slots c c' far x (c x far_link) far_kept upper_there.far_spelled);
  })

  turned_spelled : Spells balanced slots c' turned above (c' above link)
  turned_spelled = spells_from_side balanced slots c' y near (fork_on side x middle far) above (c' above link) side
      (record {
        linked = rot.linked;
        node = record {
          slot = lower_there.node.slot;
          unmarked = rot.others.parity y ∙ lower_there.node.unmarked;
          of_kind = (rot.upper_parent, rot.upper_height);
        };
        near_spelled = rw upper_near_stays
            (spells_kept balanced slots c c' near y (c y near_link) near_kept lower_there.near_spelled);
        far_spelled = lower_spelled;
      })

  same_nodes : (m : ℕ) → IsIn m whole → IsIn m turned
  same_nodes m i = ⊎_elim
      (λ e. in_far m y near (fork_on side x middle far) side (in_root m x middle far side e))
      (λ j. ⊎_elim
      (λ low. ⊎_elim
      (λ e. in_root m y near (fork_on side x middle far) side e)
      (λ j'. ⊎_elim
      (λ i'. in_near m y near (fork_on side x middle far) side i')
      (λ i'. in_far m y near (fork_on side x middle far) side (in_near m x middle far side i')) j')
      (in_which m y near middle side low))
      (λ i'. in_far m y near (fork_on side x middle far) side (in_far m x middle far side i')) j)
      (in_which m x lower far side i)

  rotated_tree : IsSearchTree balanced slots c' ps
  rotated_tree =
      let pairs : pairs_of c' turned ≡ pairs_of c whole =
      pairs_same c c' turned (λ m _. let key = key_stays m in let value = value_stays m in λ i. (key i, value i))
      ∙ sym (pairs_turned side c x y near middle far) in
      refilled_same balanced slots c ps s k above link whole turned h c' framed turned_spelled pairs same_nodes
      (λ m is odd. rot.others.parity m ∙ odd)

  -- Its debts

  confined : IsConfinedTo (above ∷ x ∷ y ∷ []) slots c c'
  confined = record {
    words = λ m f out not_version not_parent _. other_word m f not_version (λ e. absurd (out (inl e)))
        (λ e. out (inr (inl e))) (λ e. out (inr (inr (inl e)))) (λ _. not_parent);
    parity = λ m _. rot.others.parity m;
    heights = λ m i is even. ⊎_elim
        (λ e. inl (other_word m Height (λ d. cc) (λ _. alone.height)
        (λ d. not_above x x_in_whole (sym d ∙ e)) (λ d. not_above y y_in_whole (sym d ∙ e)) (λ _ d. cc)))
        (λ j. inr (⊎_elim
        (λ e. inl ((λ d. c (e d) Parent) ∙ upper_there.node.of_kind.0))
        (λ j'. ⊎_elim (λ e. inr (inl ((λ d. c (e d) Parent) ∙ lower_there.node.of_kind.0))) (λ no. absurd no) j')
        j)) i;
  }

  rotated_brings : (charged : List ℕ) → IsCharged charged c above → IsTrue (has (c x Key) charged)
      → IsTrue (has (c y Key) charged) → BringsOnly charged slots c c'
  rotated_brings charged at_above at_x at_y = brings_only (above ∷ x ∷ y ∷ []) slots c c' confined ps s charged
      (λ m i slot even.
      let is : IsCharged charged c m = λ not_1. ⊎_elim
      (λ e. subst (IsCharged charged c) (sym e) at_above not_1)
      (λ j. ⊎_elim
      (λ e. subst (λ (z : ℕ). IsTrue (has (c z Key) charged)) (sym e) at_x)
      (λ j'. ⊎_elim (λ e. subst (λ (z : ℕ). IsTrue (has (c z Key) charged)) (sym e) at_y) (λ no. absurd no) j') j) i in
      inr (charged_still charged slots c c' m is slot (key_stays m)))

-- The rotation at a node, by what its look-ups say

module _ (slots : ℕ) (c : Cells) (ps : Pairs) (s : IsSearchTree balanced slots c ps) (k above : ℕ) (link : Field)
    (x : ℕ) (l r : Tree) (h : Hole balanced slots c ps s.tree k above link (Fork x l r)) (side : Side) (y : ℕ)
    (c' : Cells) (rot : IsRotated side c c' above link x y) where
  trees : ChildOn balanced slots c ps s.tree k above link x side y
  trees = child_on balanced slots c ps s.tree k above link x side l r y h rot.was rot.some

  -- the tree's pairs stay
  pub rotated : IsSearchTree balanced slots c' ps
  rotated = rotated_tree slots c ps s k above link side x y trees.near trees.middle trees.far trees.hole c' rot

  -- only the keys of the two nodes and of the node above them may come into debt
  pub rotated_brings_only : (charged : List ℕ) → IsCharged charged c above → IsTrue (has (c x Key) charged)
      → IsTrue (has (c y Key) charged) → BringsOnly charged slots c c'
  rotated_brings_only = rotated_brings slots c ps s k above link side x y trees.near trees.middle trees.far trees.hole
      c' rot
