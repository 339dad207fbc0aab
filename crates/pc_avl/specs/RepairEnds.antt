-- The exchanges of a repair on a balanced tree that stands still: each ends right.
use Rattle.std.proofs.Common.{◌≡◌, ◌≢◌, ℕ, ◌+◌, ◌%◌, ◌^◌, ◌<◌, ◌==◌, if◌then◌else◌, inl, inr}
use Rattle.std.proofs.Common.{false, List, [], ◌∷◌, ◌++◌, None, refl, sym, ◌∙◌, subst}
use Rattle.std.specs.Prelude.{map}
use Rattle.std.proofs.lemmas.Bool.{eqb-false, cond-false, cond_both, ne_eqb}
use Rattle.pc_model.specs.declared.cell.Field.{Field}
use Rattle.pc_model.specs.declared.cell.Field.TheVariants.{Version as VersionField, Key as KeyField, Parent, Height}
use Rattle.pc_model.specs.declared.cell.Side.{Side}
use Rattle.pc_model.specs.declared.cell.Side.TheVariants.{Left, Right}
use Rattle.pc_model.specs.declared.call.Reply.TheVariants.{Was}
use Rattle.pc_model.specs.Map.{Pairs}
use Rattle.pc_model.specs.Cells.{Cells, field_number}
use Rattle.pc_model.specs.Debts.{has, AreDifferent}
use Rattle.pc_model.specs.Exchanges.{ChangesStand, applied}
use Rattle.pc_model.specs.Sides.{link_of, opposite}
use Rattle.pc_model.specs.Trees.{balanced, IsSearchTree}
use Rattle.pc_model.specs.TreeForms.{tree_form, height_at, height_over}
use Rattle.pc_model.proofs.DebtsBrought.{BringsOnly}
use Rattle.pc_model.specs.Rotations.{IsReheighted, IsRotated, IsDoublyRotated}
use Rattle.pc_model.proofs.Reheighting.{height_over-small}
use Rattle.pc_plan.specs.declared.walk.Above.{Above}
use Rattle.pc_plan.specs.NodeChanges.{NodeChange, adds_of, ByNodes, planned_by}
use Rattle.pc_plan.specs.Traces.{Event}
use Rattle.pc_plan.specs.Runs.{change_at, exchange_of, SettlesIn}
use Rattle.pc_plan.proofs.Courses.{IsRightEnd}
use Rattle.pc_plan.proofs.NodeWords.{not_among, looked_up, AreFields, IsAmong, HaveFields, nodes_in}
use Rattle.pc_plan.proofs.LawfulNodes.{applied_node, looked_up-here, HaveVersions, parity_by_nodes}
use Rattle.pc_plan.proofs.NodeStays.{Spares, word_stays}
use Rattle.pc_bst.specs.Kinds.{key_unless_sentinel}
use Rattle.pc_bst.specs.PutEnds.{link_field}
use Rattle.pc_bst.specs.Removes.{renumbered}
use Rattle.pc_avl.specs.declared.look.Looked.{Looked}
use Rattle.pc_avl.specs.declared.repair.Aim.{Aim}
use Rattle.pc_avl.specs.Looks.{looked_in, link_at}
use Rattle.pc_avl.specs.RepairChanges.{rehung, relinked, turned, turned_whole, reheighting, lower_height, rotating}
use Rattle.pc_avl.specs.RepairChanges.{rotating_twice}
use Rattle.pc_avl.specs.RepairTerms.{repair_terms, settles_by, lower_of}

-- What was told of a node that may be missing

-- this was told of what a link names
pub record IsLookedAt (c : Cells) (link : ℕ) (l : Looked) : Type 0 where
  pub node : l.node ≡ link
  pub version : link ≢ 0 → c link VersionField ≡ l.version
  pub parent : link ≢ 0 → c link Parent ≡ l.parent
  pub height : l.height ≡ height_at c link

pub looked_at_node : (c : Cells) (n : ℕ) → n ≢ 0 → IsLookedAt c n (looked_in c n)
looked_at_node c n some = record {
  node = refl;
  version = λ _. refl;
  parent = λ _. refl;
  height = sym (cond-false (n == 0) 0 (c n Height) (ne_eqb n 0 some));
}

-- The nodes that change where one comes to hang below another

module _ (above : ℕ) (l : Looked) where
  abbrev hung : NodeChange
  hung = record { node = l.node; version = l.version; fields = renumbered Parent l.parent above ∷ [] }

  rehung_both : (W : List NodeChange → Type 0) → W [] → (l.node ≢ 0 → W (hung ∷ [])) → W (rehung above l)
  rehung_both W none some = cond_both (l.node == 0) [] (hung ∷ []) W (λ _. none)
      (λ e. some (eqb-false l.node 0 e))

  rehung_spared : (m : ℕ) (f : Field) → (m ≡ l.node → f ≢ Parent) → Spares m f (rehung above l)
  rehung_spared m f ne = rehung_both (Spares m f) tt (λ _. (λ e. (ne e, tt), tt))

  rehung_fields : HaveFields (rehung above l)
  rehung_fields = rehung_both HaveFields tt (λ _. ((refl, tt), tt))

  rehung_versions : (c : Cells) (link : ℕ) → IsLookedAt c link l → HaveVersions c (rehung above l)
  rehung_versions c link is = rehung_both (HaveVersions c) tt (λ some.
      let at : c link VersionField ≡ l.version = is.version (λ e. some (is.node ∙ e)) in
      ((λ i. c (is.node i) VersionField) ∙ at, tt))

  rehung_out : (n : ℕ) → (l.node ≢ 0 → n ≢ l.node) → has n (nodes_in (rehung above l) None) ≡ false
  rehung_out n ne = rehung_both (λ (ws : List NodeChange). has n (nodes_in ws None) ≡ false) refl
      (λ some. not_among n l.node [] (ne some) refl)

  rehung_different : AreDifferent (nodes_in (rehung above l) None)
  rehung_different = rehung_both (λ (ws : List NodeChange). AreDifferent (nodes_in ws None)) tt (λ _. (refl, tt))

  rehung_stands : (slot : ℕ) (c : Cells) (link : ℕ) → IsLookedAt c link l
      → ChangesStand c (map (change_at slot) (adds_of (rehung above l) None))
  rehung_stands slot c link is = rehung_both
      (λ (ws : List NodeChange). ChangesStand c (map (change_at slot) (adds_of ws None))) tt (λ some.
      let there : link ≢ 0 = λ e. some (is.node ∙ e) in
      ((λ i. c (is.node i) VersionField) ∙ is.version there, ((λ i. c (is.node i) Parent) ∙ is.parent there, tt)))

  rehung_among : l.node ≢ 0 → IsAmong hung (rehung above l)
  rehung_among some = subst (IsAmong hung) (sym (cond-false (l.node == 0) [] (hung ∷ []) (ne_eqb l.node 0 some)))
      (inl refl)

-- The fields that change where a node is turned

pub link_at_in : (c : Cells) (n : ℕ) (s : Side) → c n (link_of s) ≡ link_at (looked_in c n) s
link_at_in c n Left = refl
link_at_in c n Right = refl

turned_fields : (s : Side) (a b p q h j : ℕ) → AreFields (renumbered (link_of s) a b ∷ renumbered Parent p q
    ∷ renumbered Height h j ∷ [])
turned_fields Left a b p q h j = (refl, (refl, (refl, tt)))
turned_fields Right a b p q h j = (refl, (refl, (refl, tt)))

turned_parent : (s : Side) (slot a b p q h j old : ℕ) → looked_up slot Parent (renumbered (link_of s) a b
    ∷ renumbered Parent p q ∷ renumbered Height h j ∷ []) old ≡ q
turned_parent Left slot a b p q h j old = refl
turned_parent Right slot a b p q h j old = refl

turned_height : (s : Side) (slot a b p q h j old : ℕ) → looked_up slot Height (renumbered (link_of s) a b
    ∷ renumbered Parent p q ∷ renumbered Height h j ∷ []) old ≡ j
turned_height Left slot a b p q h j old = refl
turned_height Right slot a b p q h j old = refl

whole_fields : (s : Side) (a b d e p q h j : ℕ) → AreFields (renumbered (link_of s) a b
    ∷ renumbered (link_of (opposite s)) d e ∷ renumbered Parent p q ∷ renumbered Height h j ∷ [])
whole_fields Left a b d e p q h j = (refl, (refl, (refl, (refl, tt))))
whole_fields Right a b d e p q h j = (refl, (refl, (refl, (refl, tt))))

whole_far : (s : Side) (slot a b d e p q h j old : ℕ) → looked_up slot (link_of (opposite s))
    (renumbered (link_of s) a b ∷ renumbered (link_of (opposite s)) d e ∷ renumbered Parent p q
    ∷ renumbered Height h j ∷ []) old ≡ e
whole_far Left slot a b d e p q h j old = refl
whole_far Right slot a b d e p q h j old = refl

whole_parent : (s : Side) (slot a b d e p q h j old : ℕ) → looked_up slot Parent
    (renumbered (link_of s) a b ∷ renumbered (link_of (opposite s)) d e ∷ renumbered Parent p q
    ∷ renumbered Height h j ∷ []) old ≡ q
whole_parent Left slot a b d e p q h j old = refl
whole_parent Right slot a b d e p q h j old = refl

whole_height : (s : Side) (slot a b d e p q h j old : ℕ) → looked_up slot Height
    (renumbered (link_of s) a b ∷ renumbered (link_of (opposite s)) d e ∷ renumbered Parent p q
    ∷ renumbered Height h j ∷ []) old ≡ j
whole_height Left slot a b d e p q h j old = refl
whole_height Right slot a b d e p q h j old = refl

-- the number that a field had or gets with its node's version
abbrev kept_or_raised : Cells → ℕ → Field → ℕ
kept_or_raised c n f = if field_number f == 0 then (c n VersionField + 2) % 2 ^ 64 else c n f

-- The ends

module _ (slots : ℕ) (c : Cells) (ps : Pairs) (aim : Aim) (k : ℕ) (past : List Event) (slot q : ℕ) (t : Side)
    (key : ℕ) where
  abbrev pub RightEnd : ByNodes → Type 0
  RightEnd b = IsRightEnd (tree_form balanced) slots c past ps (repair_terms aim k) (planned_by b) slot

  abbrev pub left_by : ByNodes → Cells
  left_by b = applied (exchange_of past (planned_by b) slot (c slot VersionField)) c

  abbrev pub above : Above
  above = record { node = q; side = t; version = c q VersionField }

  -- what is settled where a node was changed
  abbrev pub SettlesWas : ByNodes → ℕ → Type 0
  SettlesWas b x = SettlesIn (tree_form balanced) slots (left_by b) b.charged (lower_of aim k)
      (settles_by aim k (Was (c x KeyField)))

  -- A node gets another height.
  module _ (x height : ℕ) where
    abbrev pub reheighted_by : ByNodes
    reheighted_by = reheighting above key (looked_in c x) height

    pub is_reheighted : IsReheighted c (left_by reheighted_by) x height
    is_reheighted = record {
      stored = applied_node past reheighted_by slot (c slot VersionField) c (refl, tt) ((refl, tt), tt)
          (record { node = x; version = c x VersionField; fields = renumbered Height (c x Height) height ∷ [] })
          Height (inl refl) (λ some. absurd (cc));
      words = λ m f not_version not_height. word_stays past reheighted_by slot (c slot VersionField) c m f not_version
          (λ e. (not_height e, tt), tt) (λ some. absurd (cc));
      parity = λ m. parity_by_nodes past reheighted_by slot (c slot VersionField) c (refl, tt) ((refl, tt), tt)
          (refl, tt) m refl (λ some. absurd (cc));
    }

    pub reheight_end : IsSearchTree balanced slots (left_by reheighted_by) ps
        → BringsOnly (key_unless_sentinel q key) slots c (left_by reheighted_by) → SettlesWas reheighted_by x
        → RightEnd reheighted_by
    reheight_end leaves brings settles = record {
      changes = (refl, (refl, tt));
      taken = tt;
      leaves = leaves;
      charges = brings;
      settles = settles;
    }

  -- The child y of x on a side takes its place, and m hangs between them, or none.
  module _ (s : Side) (x y : ℕ) (sibling outer m : Looked) (q_x : q ≢ x) (q_y : q ≢ y) (y_x : y ≢ x)
      (m_q : m.node ≢ 0 → q ≢ m.node) (m_y : m.node ≢ 0 → y ≢ m.node) (m_x : m.node ≢ 0 → x ≢ m.node)
      (is_m : IsLookedAt c (c y (link_of (opposite s))) m) (hangs : c q (link_of t) ≡ x)
      (is_y : c x (link_of s) ≡ y) (some_y : y ≢ 0) where
    abbrev pub rotated_by : ByNodes
    rotated_by = rotating s above key (looked_in c x) (looked_in c y) sibling outer m

    abbrev link_change : NodeChange
    link_change = relinked above x y

    abbrev upper_change : NodeChange
    upper_change = turned (looked_in c y) (opposite s) x q (height_over outer.height (lower_height m sibling))

    abbrev lower_change : NodeChange
    lower_change = turned (looked_in c x) s m.node y (lower_height m sibling)

    different : AreDifferent (nodes_in rotated_by.nodes None)
    different = (
      not_among q y (x ∷ nodes_in (rehung x m) None) q_y (not_among q x (nodes_in (rehung x m) None) q_x
          (rehung_out x m q m_q)),
      (
        not_among y x (nodes_in (rehung x m) None) y_x (rehung_out x m y m_y),
        (rehung_out x m x m_x, rehung_different x m),
      ),
    )

    fields : HaveFields rotated_by.nodes
    fields = (
      (link_field t, tt),
      (
        turned_fields (opposite s) (link_at (looked_in c y) (opposite s)) x (c y Parent) q (c y Height)
            (height_over outer.height (lower_height m sibling)),
        (
          turned_fields s (link_at (looked_in c x) s) m.node (c x Parent) y (c x Height) (lower_height m sibling),
          rehung_fields x m,
        ),
      ),
    )

    at_node : (w : NodeChange) (f : Field) → IsAmong w rotated_by.nodes
        → left_by rotated_by w.node f ≡ looked_up slot f w.fields
        (if field_number f == 0 then (w.version + 2) % 2 ^ 64 else c w.node f)
    at_node w f among = applied_node past rotated_by slot (c slot VersionField) c different fields w f among
        (λ some. absurd (cc))

    pub rotated_lower : left_by rotated_by x Height ≡ lower_height m sibling
    rotated_lower = at_node lower_change Height (inr (inr (inl refl)))
        ∙ turned_height s slot (link_at (looked_in c x) s) m.node (c x Parent) y (c x Height) (lower_height m sibling)
        (kept_or_raised c x Height)

    pub rotated_upper : left_by rotated_by y Height ≡ height_over outer.height (lower_height m sibling)
    rotated_upper = at_node upper_change Height (inr (inl refl))
        ∙ turned_height (opposite s) slot (link_at (looked_in c y) (opposite s)) x (c y Parent) q (c y Height)
        (height_over outer.height (lower_height m sibling)) (kept_or_raised c y Height)

    pub is_rotated : IsRotated s c (left_by rotated_by) q (link_of t) x y
    is_rotated = record {
      was = is_y;
      some = some_y;
      linked = at_node link_change (link_of t) (inl refl)
          ∙ looked_up-here slot (renumbered (link_of t) x y) [] (kept_or_raised c q (link_of t));
      upper_far = at_node upper_change (link_of (opposite s)) (inr (inl refl))
          ∙ looked_up-here slot (renumbered (link_of (opposite s)) (link_at (looked_in c y) (opposite s)) x)
          (renumbered Parent (c y Parent) q
          ∷ renumbered Height (c y Height) (height_over outer.height (lower_height m sibling)) ∷ [])
          (kept_or_raised c y (link_of (opposite s)));
      lower_near = at_node lower_change (link_of s) (inr (inr (inl refl)))
          ∙ looked_up-here slot (renumbered (link_of s) (link_at (looked_in c x) s) m.node)
          (renumbered Parent (c x Parent) y ∷ renumbered Height (c x Height) (lower_height m sibling) ∷ [])
          (kept_or_raised c x (link_of s)) ∙ is_m.node;
      upper_parent = at_node upper_change Parent (inr (inl refl))
          ∙ turned_parent (opposite s) slot (link_at (looked_in c y) (opposite s)) x (c y Parent) q (c y Height)
          (height_over outer.height (lower_height m sibling)) (kept_or_raised c y Parent);
      lower_parent = at_node lower_change Parent (inr (inr (inl refl)))
          ∙ turned_parent s slot (link_at (looked_in c x) s) m.node (c x Parent) y (c x Height)
          (lower_height m sibling) (kept_or_raised c x Parent);
      middle_parent = λ some. subst (λ (n : ℕ). left_by rotated_by n Parent ≡ x) is_m.node
          (at_node (record { node = m.node; version = m.version; fields = renumbered Parent m.parent x ∷ [] }) Parent
          (inr (inr (inr (rehung_among x m (λ e. some (sym is_m.node ∙ e)))))));
      upper_height = subst (λ (h : ℕ). h < 2 ^ 62) (sym rotated_upper)
          (height_over-small outer.height (lower_height m sibling));
      lower_height = subst (λ (h : ℕ). h < 2 ^ 62) (sym rotated_lower) (height_over-small m.height sibling.height);
      others = record {
        words = λ n f not_version away. word_stays past rotated_by slot (c slot VersionField) c n f not_version
            (away.0, (away.1.1.0, (away.1.0, rehung_spared x m n f (λ e. (away.1.1.1.0 (e ∙ is_m.node)).0))))
            (λ some. absurd (cc));
        parity = λ n. parity_by_nodes past rotated_by slot (c slot VersionField) c different fields
            (refl, (refl, (refl, rehung_versions x m c (c y (link_of (opposite s))) is_m))) n refl
            (λ some. absurd (cc));
      };
    }

    pub rotate_end : IsSearchTree balanced slots (left_by rotated_by) ps
        → BringsOnly (c x KeyField ∷ c y KeyField ∷ key_unless_sentinel q key) slots c (left_by rotated_by)
        → SettlesWas rotated_by x → RightEnd rotated_by
    rotate_end leaves brings settles = record {
      changes = (
        refl,
        (
          hangs,
          (
            refl,
            (
              link_at_in c y (opposite s),
              (
                refl,
                (
                  refl,
                  (
                    refl,
                    (
                      link_at_in c x s,
                      (refl, (refl, rehung_stands x m slot c (c y (link_of (opposite s))) is_m)),
                    ),
                  ),
                ),
              ),
            ),
          ),
        ),
      );
      taken = tt;
      leaves = leaves;
      charges = brings;
      settles = settles;
    }

  -- The inner child g of the child y of x on a side takes the place of x, and what hung below it, or none,
  -- hangs below y and x.
  module _ (s : Side) (x y g : ℕ) (sibling outer near far : Looked) (q_g : q ≢ g) (q_y : q ≢ y) (q_x : q ≢ x)
      (g_y : g ≢ y) (g_x : g ≢ x) (y_x : y ≢ x)
      (near_out : near.node ≢ 0 → (q ≢ near.node) × (g ≢ near.node) × (y ≢ near.node) × (x ≢ near.node))
      (far_out : far.node ≢ 0 → (q ≢ far.node) × (g ≢ far.node) × (y ≢ far.node) × (x ≢ far.node))
      (near_far : near.node ≢ 0 → far.node ≢ 0 → near.node ≢ far.node)
      (is_near : IsLookedAt c (c g (link_of s)) near) (is_far : IsLookedAt c (c g (link_of (opposite s))) far)
      (hangs : c q (link_of t) ≡ x) (is_y : c x (link_of s) ≡ y) (some_y : y ≢ 0)
      (is_g : c y (link_of (opposite s)) ≡ g) (some_g : g ≢ 0) where
    abbrev pub turned_by : ByNodes
    turned_by = rotating_twice s above key (looked_in c x) (looked_in c y) (looked_in c g) sibling outer near far

    abbrev near_height : ℕ
    near_height = height_over outer.height near.height

    abbrev far_height : ℕ
    far_height = height_over far.height sibling.height

    abbrev top_height : ℕ
    top_height = height_over near_height far_height

    abbrev links_change : NodeChange
    links_change = relinked above x g

    abbrev top_change : NodeChange
    top_change = turned_whole (looked_in c g) s y x q top_height

    abbrev near_change : NodeChange
    near_change = turned (looked_in c y) (opposite s) near.node g near_height

    abbrev far_change : NodeChange
    far_change = turned (looked_in c x) s far.node g far_height

    abbrev below : List NodeChange
    below = rehung x far

    -- what holds of the nodes that come to hang elsewhere
    both_rehung : (W : List NodeChange → Type 0) → W below → (near.node ≢ 0 → W (hung y near ∷ below))
        → W (rehung y near ++ below)
    both_rehung W none some = cond_both (near.node == 0) [] (hung y near ∷ [])
        (λ (ws : List NodeChange). W (ws ++ below)) (λ _. none) (λ e. some (eqb-false near.node 0 e))

    rest_out : (n : ℕ) → (near.node ≢ 0 → n ≢ near.node) → (far.node ≢ 0 → n ≢ far.node)
        → has n (nodes_in (rehung y near ++ below) None) ≡ false
    rest_out n not_near not_far =
        both_rehung (λ (ws : List NodeChange). has n (nodes_in ws None) ≡ false) (rehung_out x far n not_far)
        (λ some. not_among n near.node (nodes_in below None) (not_near some) (rehung_out x far n not_far))

    rest_different : AreDifferent (nodes_in (rehung y near ++ below) None)
    rest_different = both_rehung (λ (ws : List NodeChange). AreDifferent (nodes_in ws None)) (rehung_different x far)
        (λ some. (rehung_out x far near.node (near_far some), rehung_different x far))

    twice_different : AreDifferent (nodes_in turned_by.nodes None)
    twice_different =
        let all : List ℕ = nodes_in (rehung y near ++ below) None in (
          not_among q g (y ∷ x ∷ all) q_g (not_among q y (x ∷ all) q_y (not_among q x all q_x
              (rest_out q (λ some. (near_out some).0) (λ some. (far_out some).0)))),
          (
            not_among g y (x ∷ all) g_y (not_among g x all g_x
                (rest_out g (λ some. (near_out some).1) (λ some. (far_out some).1))),
            (
              not_among y x all y_x (rest_out y (λ some. (near_out some).2) (λ some. (far_out some).2)),
              (rest_out x (λ some. (near_out some).3) (λ some. (far_out some).3), rest_different),
            ),
          ),
        )

    twice_fields : HaveFields turned_by.nodes
    twice_fields = (
      (link_field t, tt),
      (
        whole_fields s (link_at (looked_in c g) s) y (link_at (looked_in c g) (opposite s)) x (c g Parent) q
            (c g Height) top_height,
        (
          turned_fields (opposite s) (link_at (looked_in c y) (opposite s)) near.node (c y Parent) g (c y Height)
              near_height,
          (
            turned_fields s (link_at (looked_in c x) s) far.node (c x Parent) g (c x Height) far_height,
            both_rehung HaveFields (rehung_fields x far) (λ _. ((refl, tt), rehung_fields x far)),
          ),
        ),
      ),
    )

    twice_at : (w : NodeChange) (f : Field) → IsAmong w turned_by.nodes
        → left_by turned_by w.node f ≡ looked_up slot f w.fields
        (if field_number f == 0 then (w.version + 2) % 2 ^ 64 else c w.node f)
    twice_at w f among = applied_node past turned_by slot (c slot VersionField) c twice_different twice_fields w f among
        (λ some. absurd (cc))

    near_at : (f : Field) → left_by turned_by y f ≡ looked_up slot f near_change.fields (kept_or_raised c y f)
    near_at f = twice_at near_change f (inr (inr (inl refl)))

    far_at : (f : Field) → left_by turned_by x f ≡ looked_up slot f far_change.fields (kept_or_raised c x f)
    far_at f = twice_at far_change f (inr (inr (inr (inl refl))))

    top_at : (f : Field) → left_by turned_by g f ≡ looked_up slot f top_change.fields (kept_or_raised c g f)
    top_at f = twice_at top_change f (inr (inl refl))

    pub turned_near : left_by turned_by y Height ≡ near_height
    turned_near = near_at Height ∙ turned_height (opposite s) slot (link_at (looked_in c y) (opposite s)) near.node
        (c y Parent) g (c y Height) near_height (kept_or_raised c y Height)

    pub turned_far : left_by turned_by x Height ≡ far_height
    turned_far = far_at Height ∙ turned_height s slot (link_at (looked_in c x) s) far.node (c x Parent) g (c x Height)
        far_height (kept_or_raised c x Height)

    pub turned_top : left_by turned_by g Height ≡ top_height
    turned_top = top_at Height ∙ whole_height s slot (link_at (looked_in c g) s) y
        (link_at (looked_in c g) (opposite s)) x (c g Parent) q (c g Height) top_height (kept_or_raised c g Height)

    near_among : near.node ≢ 0 → IsAmong (hung y near) turned_by.nodes
    near_among some = inr (inr (inr (inr (subst (λ (ws : List NodeChange). IsAmong (hung y near) (ws ++ below))
        (sym (cond-false (near.node == 0) [] (hung y near ∷ []) (ne_eqb near.node 0 some))) (inl refl)))))

    far_among : far.node ≢ 0 → IsAmong (hung x far) turned_by.nodes
    far_among some = inr (inr (inr (inr (both_rehung (IsAmong (hung x far)) (rehung_among x far some)
        (λ _. inr (rehung_among x far some))))))

    pub is_doubly_rotated : IsDoublyRotated s c (left_by turned_by) q (link_of t) x y g
    is_doubly_rotated = record {
      was_child = is_y;
      some_child = some_y;
      was_inner = is_g;
      some_inner = some_g;
      linked = twice_at links_change (link_of t) (inl refl)
          ∙ looked_up-here slot (renumbered (link_of t) x g) [] (kept_or_raised c q (link_of t));
      near_linked = top_at (link_of s)
          ∙ looked_up-here slot (renumbered (link_of s) (link_at (looked_in c g) s) y)
          (renumbered (link_of (opposite s)) (link_at (looked_in c g) (opposite s)) x ∷ renumbered Parent (c g Parent) q
          ∷ renumbered Height (c g Height) top_height ∷ []) (kept_or_raised c g (link_of s));
      far_linked = top_at (link_of (opposite s)) ∙ whole_far s slot (link_at (looked_in c g) s) y
          (link_at (looked_in c g) (opposite s)) x (c g Parent) q (c g Height) top_height
          (kept_or_raised c g (link_of (opposite s)));
      near_inner = near_at (link_of (opposite s))
          ∙ looked_up-here slot (renumbered (link_of (opposite s)) (link_at (looked_in c y) (opposite s)) near.node)
          (renumbered Parent (c y Parent) g ∷ renumbered Height (c y Height) near_height ∷ [])
          (kept_or_raised c y (link_of (opposite s))) ∙ is_near.node;
      far_inner = far_at (link_of s)
          ∙ looked_up-here slot (renumbered (link_of s) (link_at (looked_in c x) s) far.node)
          (renumbered Parent (c x Parent) g ∷ renumbered Height (c x Height) far_height ∷ [])
          (kept_or_raised c x (link_of s)) ∙ is_far.node;
      parent_g = top_at Parent ∙ whole_parent s slot (link_at (looked_in c g) s) y
          (link_at (looked_in c g) (opposite s)) x (c g Parent) q (c g Height) top_height (kept_or_raised c g Parent);
      parent_y = near_at Parent ∙ turned_parent (opposite s) slot (link_at (looked_in c y) (opposite s)) near.node
          (c y Parent) g (c y Height) near_height (kept_or_raised c y Parent);
      parent_x = far_at Parent ∙ turned_parent s slot (link_at (looked_in c x) s) far.node (c x Parent) g (c x Height)
          far_height (kept_or_raised c x Parent);
      near_parent = λ some. subst (λ (n : ℕ). left_by turned_by n Parent ≡ y) is_near.node
          (twice_at (hung y near) Parent (near_among (λ e. some (sym is_near.node ∙ e))));
      far_parent = λ some. subst (λ (n : ℕ). left_by turned_by n Parent ≡ x) is_far.node
          (twice_at (hung x far) Parent (far_among (λ e. some (sym is_far.node ∙ e))));
      height_g = subst (λ (h : ℕ). h < 2 ^ 62) (sym turned_top) (height_over-small near_height far_height);
      height_y = subst (λ (h : ℕ). h < 2 ^ 62) (sym turned_near) (height_over-small outer.height near.height);
      height_x = subst (λ (h : ℕ). h < 2 ^ 62) (sym turned_far) (height_over-small far.height sibling.height);
      others = record {
        words = λ n f not_version away.
            let at_far : Spares n f below = rehung_spared x far n f
            (λ e. (away.1.1.1.1.1.0 (e ∙ is_far.node)).0) in
            word_stays past turned_by slot (c slot VersionField) c n f not_version (
              away.0,
              (
                away.1.1.1.0,
                (
                  away.1.1.0,
                  (
                    away.1.0,
                    both_rehung (Spares n f) at_far
                        (λ _. ((λ e. ((away.1.1.1.1.0 (e ∙ is_near.node)).0, tt)), at_far)),
                  ),
                ),
              ),
            )
            (λ some. absurd (cc));
        parity = λ n.
            let at_far : HaveVersions c below = rehung_versions x far c (c g (link_of (opposite s))) is_far in
            parity_by_nodes past turned_by slot (c slot VersionField) c twice_different twice_fields (
              refl,
              (
                refl,
                (
                  refl,
                  (
                    refl,
                    both_rehung (HaveVersions c) at_far
                        (λ some. (
                          (λ i. c (is_near.node i) VersionField) ∙ is_near.version (λ e. some (is_near.node ∙ e)),
                          at_far,
                        )),
                  ),
                ),
              ),
            ) n refl (λ some. absurd (cc));
      };
    }

    pub turn_twice_end : IsSearchTree balanced slots (left_by turned_by) ps
        → BringsOnly (c x KeyField ∷ c y KeyField ∷ c g KeyField ∷ key_unless_sentinel q key) slots c
        (left_by turned_by)
        → SettlesWas turned_by x → RightEnd turned_by
    turn_twice_end leaves brings settles =
        let at_far : ChangesStand c (map (change_at slot) (adds_of below None))
        = rehung_stands x far slot c (c g (link_of (opposite s))) is_far in
        let rest : ChangesStand c (map (change_at slot) (adds_of (rehung y near ++ below) None))
        = both_rehung (λ (ws : List NodeChange). ChangesStand c (map (change_at slot) (adds_of ws None))) at_far
        (λ some. let there : c g (link_of s) ≢ 0 = λ e. some (is_near.node ∙ e) in (
          (λ i. c (is_near.node i) VersionField) ∙ is_near.version there,
          ((λ i. c (is_near.node i) Parent) ∙ is_near.parent there, at_far),
        )) in
        record {
          changes = (
            refl,
            (
              hangs,
              (
                refl,
                (
                  link_at_in c g s,
                  (
                    link_at_in c g (opposite s),
                    (
                      refl,
                      (
                        refl,
                        (
                          refl,
                          (link_at_in c y (opposite s), (refl, (refl, (refl, (link_at_in c x s, (refl, (refl, rest))))))),
                        ),
                      ),
                    ),
                  ),
                ),
              ),
            ),
          );
          taken = tt;
          leaves = leaves;
          charges = brings;
          settles = settles;
        }
