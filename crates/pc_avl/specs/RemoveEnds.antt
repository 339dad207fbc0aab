-- The exchanges of a remove on a balanced tree that stands still: each ends right.
use Rattle.std.proofs.Common.{◌≡◌, ◌≢◌, ℕ, ◌+◌, ◌%◌, ◌^◌, ◌==◌, if◌then◌else◌, inl, inr, ⊎_elim, true, false}
use Rattle.std.proofs.Common.{List, []}
use Rattle.std.proofs.Common.{◌∷◌, Option, Some, None, refl, sym, ◌∙◌, subst}
use Rattle.std.specs.Prelude.{map, IsSome, IsTrue}
use Rattle.std.proofs.lemmas.Bool.{cases_Bool, eqb-true, eqb-false, ne_eqb, cond-true, cond-false}
use Rattle.pc_model.specs.declared.cell.Field.{Field}
use Rattle.pc_model.specs.declared.cell.Field.TheVariants.{Version as VersionField, Key as KeyField}
use Rattle.pc_model.specs.declared.cell.Field.TheVariants.{Value as ValueField, Right as RightLink, Parent}
use Rattle.pc_model.specs.declared.cell.Side.{Side}
use Rattle.pc_model.specs.declared.call.Call.TheVariants.{Remove}
use Rattle.pc_model.specs.declared.call.Reply.TheVariants.{Value}
use Rattle.pc_model.specs.Map.{Pairs, without}
use Rattle.pc_model.specs.Cells.{Cells, IsEven, IsOdd, field_number}
use Rattle.pc_model.specs.Debts.{has, AreDifferent}
use Rattle.pc_model.specs.Exchanges.{Visited, ChangesStand, applied}
use Rattle.pc_model.specs.Sides.{link_of}
use Rattle.pc_model.specs.Trees.{balanced, IsSearchTree}
use Rattle.pc_model.specs.TreeForms.{tree_form}
use Rattle.pc_model.proofs.DebtsBrought.{BringsOnly}
use Rattle.pc_model.proofs.Removal.{IsUnlinked, IsLifted}
use Rattle.pc_plan.specs.NodeChanges.{FieldChange, NodeChange, adds_of, ByNodes, planned_by}
use Rattle.pc_plan.specs.Terms.{map_terms}
use Rattle.pc_plan.specs.Traces.{Event}
use Rattle.pc_plan.specs.Runs.{change_at, exchange_of}
use Rattle.pc_plan.proofs.Courses.{IsRightEnd}
use Rattle.pc_plan.proofs.NodeWords.{not_among, looked_up, IsAmong, HaveFields, nodes_in, has_here, has_later}
use Rattle.pc_plan.proofs.LawfulNodes.{applied_node, applied_mark, looked_up-here, HaveVersions, parity_by_nodes}
use Rattle.pc_plan.proofs.NodeStays.{Spares, word_stays}
use Rattle.pc_bst.specs.Kinds.{key_unless_sentinel}
use Rattle.pc_bst.specs.PutEnds.{link_field}
use Rattle.pc_bst.specs.Removes.{renumbered}
use Rattle.pc_bst.specs.RemoveEnds.{lifted_fields_differ, link_looked_up, odd_after}
use Rattle.pc_avl.specs.declared.remove.Heir.{Heir}
use Rattle.pc_avl.specs.Removes.{heir_link, rehung, heir_nodes}

-- Heirs

-- the cells have what was told of an heir
abbrev pub IsHeirIn : Cells → Option Heir → Type 0
IsHeirIn c None = Unit {0}
IsHeirIn c (Some h) = (c h.node VersionField ≡ h.version) × (c h.node Parent ≡ h.parent)

-- the node isn't the heir
abbrev pub IsNoHeir : Option Heir → ℕ → Type 0
IsNoHeir None n = Unit {0}
IsNoHeir (Some h) n = n ≢ h.node

heir_spared : (q : ℕ) (heir : Option Heir) (m : ℕ) (f : Field) → (m ≡ heir_link heir → f ≢ Parent)
    → Spares m f (heir_nodes q heir)
heir_spared q None m f ne = tt
heir_spared q (Some h) m f ne = (λ e. (ne e, tt), tt)

heir_fields : (q : ℕ) (heir : Option Heir) → HaveFields (heir_nodes q heir)
heir_fields q None = tt
heir_fields q (Some h) = ((refl, tt), tt)

heir_versions : (c : Cells) (q : ℕ) (heir : Option Heir) → IsHeirIn c heir → HaveVersions c (heir_nodes q heir)
heir_versions c q None is = tt
heir_versions c q (Some h) is = (is.0, tt)

pub heir_out : (q : ℕ) (heir : Option Heir) (n : ℕ) (v : Visited) → IsNoHeir heir n → n ≢ v.node
    → has n (nodes_in (heir_nodes q heir) (Some v)) ≡ false
heir_out q None n v other ne = not_among n v.node [] ne refl
heir_out q (Some h) n v other ne = not_among n h.node (v.node ∷ []) other (not_among n v.node [] ne refl)

pub heir_different : (q : ℕ) (heir : Option Heir) (v : Visited) → IsNoHeir heir v.node
    → AreDifferent (nodes_in (heir_nodes q heir) (Some v))
heir_different q None v other = (refl, tt)
heir_different q (Some h) v other = (not_among h.node v.node [] (λ e. other (sym e)) refl, (refl, tt))

heir_stands : (slot : ℕ) (c : Cells) (q : ℕ) (heir : Option Heir) (v : Visited) → IsHeirIn c heir
    → c v.node VersionField ≡ v.version
    → ChangesStand c (map (change_at slot) (adds_of (heir_nodes q heir) (Some v)))
heir_stands slot c q None v is version = (version, tt)
heir_stands slot c q (Some h) v is version = (is.0, (is.1, (version, tt)))

heir_among : (q : ℕ) (heir : Option Heir) (h : Heir) → heir ≡ Some h → IsAmong (rehung q h) (heir_nodes q heir)
heir_among q heir h e = subst (λ (x : Option Heir). IsAmong (rehung q h) (heir_nodes q x)) (sym e) (inl refl)

-- an heir, if there is one, hangs below the node
heir_parent : (past : List Event) (b : ByNodes) (slot version : ℕ) (c : Cells) → AreDifferent (nodes_in b.nodes b.mark)
    → HaveFields b.nodes → (q : ℕ) (heir : Option Heir)
    → ((h : Heir) → heir ≡ Some h → IsAmong (rehung q h) b.nodes) → (IsSome b.fresh → ⊥) → heir_link heir ≢ 0
    → applied (exchange_of past (planned_by b) slot version) c (heir_link heir) Parent ≡ q
heir_parent past b slot version c different fields q None among stale ne = absurd (ne refl)
heir_parent past b slot version c different fields q (Some h) among stale ne = applied_node past b slot version c
    different fields (rehung q h) Parent (among h refl) (λ some. absurd (stale some))

-- the key that comes up is charged, and that of the node above the successor where that is another
pub lift_charged : (n q key x y : ℕ) → x ≡ y → q ≢ n → IsTrue (has y (key ∷ (if q == n then [] else x ∷ [])))
lift_charged n q key x y e ne =
    let rest : (if q == n then [] else x ∷ []) ≡ x ∷ [] = cond-false (q == n) [] (x ∷ []) (ne_eqb q n ne) in
    subst (λ (keys : List ℕ). IsTrue (has y (key ∷ keys))) (sym rest)
    (has_later y key (x ∷ []) (subst (λ (z : ℕ). has y (z ∷ []) ≡ true) (sym e) (has_here y [])))

module _ (slots : ℕ) (c : Cells) (ps : Pairs) (k : ℕ) (past : List Event) (slot : ℕ) where
  abbrev pub RightEnd : ByNodes → Type 0
  RightEnd b = IsRightEnd (tree_form balanced) slots c past (without k ps) (map_terms (Remove k)) (planned_by b) slot

  abbrev left_by : ByNodes → Cells
  left_by b = applied (exchange_of past (planned_by b) slot (c slot VersionField)) c

  -- A node leaves.
  module _ (q : ℕ) (s : Side) (n x : ℕ) (heir : Option Heir) (apart : q ≢ n) (even : IsEven (c n VersionField))
      (is : IsHeirIn c heir) (not_q : IsNoHeir heir q) (not_n : IsNoHeir heir n) where
    abbrev link_change : FieldChange
    link_change = renumbered (link_of s) n (heir_link heir)

    abbrev above_change : NodeChange
    above_change = record { node = q; version = c q VersionField; fields = link_change ∷ [] }

    abbrev mark : Visited
    mark = record { node = n; version = c n VersionField }

    abbrev pub leaving : ByNodes
    leaving = record {
      nodes = above_change ∷ heir_nodes q heir;
      mark = Some mark;
      fresh = None;
      charged = key_unless_sentinel q x;
      reply = Value (c n ValueField);
    }

    different : AreDifferent (q ∷ nodes_in (heir_nodes q heir) (Some mark))
    different = (heir_out q heir q mark not_q apart, heir_different q heir mark not_n)

    fields : HaveFields (above_change ∷ heir_nodes q heir)
    fields = ((link_field s, tt), heir_fields q heir)

    is_unlinked : IsUnlinked balanced c (left_by leaving) q (link_of s) n (heir_link heir)
    is_unlinked = record {
      linked = applied_node past leaving slot (c slot VersionField) c different fields above_change (link_of s)
          (inl refl) (λ some. absurd (cc))
          ∙ looked_up-here slot link_change [] (if field_number (link_of s) == 0 then (c q VersionField + 2) % 2 ^ 64
          else c q (link_of s));
      parent = heir_parent past leaving slot (c slot VersionField) c different fields q heir
          (λ h e. inr (heir_among q heir h e)) (λ some. absurd (cc));
      marked = subst IsOdd (sym (applied_mark past (above_change ∷ heir_nodes q heir) mark None leaving slot
          (c slot VersionField) c refl refl different)) (odd_after (c n VersionField) even);
      words = λ m f not_n not_version not_link not_parent. word_stays past leaving slot (c slot VersionField) c m f
          not_version (λ e. (not_link e, tt), heir_spared q heir m f not_parent) (λ some. absurd (cc));
      parity = λ m other. parity_by_nodes past leaving slot (c slot VersionField) c different fields
          (refl, heir_versions c q heir is) m (ne_eqb n m (λ e. other (sym e))) (λ some. absurd (cc));
    }

    pub unlink_end : c q (link_of s) ≡ n
        → ((c' : Cells) → IsUnlinked balanced c c' q (link_of s) n (heir_link heir)
        → IsSearchTree balanced slots c' (without k ps) × BringsOnly (key_unless_sentinel q x) slots c c')
        → RightEnd leaving
    unlink_end hangs leaves = record {
      changes = (refl, (hangs, heir_stands slot c q heir mark is refl));
      taken = tt;
      leaves = (leaves (left_by leaving) is_unlinked).0;
      charges = (leaves (left_by leaving) is_unlinked).1;
      settles = tt;
    }

  -- The successor m, which hangs at a link of q, comes up to n.
  module _ (n q : ℕ) (s : Side) (m x : ℕ) (heir : Option Heir) (m_not_n : m ≢ n) (m_not_q : m ≢ q)
      (even : IsEven (c m VersionField))
      (is : IsHeirIn c heir) (not_n : IsNoHeir heir n) (not_q : IsNoHeir heir q) (not_m : IsNoHeir heir m)
      (child : c m RightLink ≡ heir_link heir) where
    abbrev next_mark : Visited
    next_mark = record { node = m; version = c m VersionField }

    abbrev up : List FieldChange
    up = renumbered KeyField k (c m KeyField) ∷ renumbered ValueField (c n ValueField) (c m ValueField) ∷ []

    abbrev relink : FieldChange
    relink = renumbered (link_of s) m (heir_link heir)

    abbrev charges : List ℕ
    charges = c m KeyField ∷ (if q == n then [] else x ∷ [])

    abbrev by : List NodeChange → ByNodes
    by nodes = record {
      nodes = nodes;
      mark = Some next_mark;
      fresh = None;
      charged = charges;
      reply = Value (c n ValueField);
    }

    -- the heir's place is below q
    child_parent : (nodes : List NodeChange) → AreDifferent (nodes_in nodes (Some next_mark)) → HaveFields nodes
        → ((h : Heir) → heir ≡ Some h → IsAmong (rehung q h) nodes) → c m RightLink ≢ 0
        → left_by (by nodes) (c m RightLink) Parent ≡ q
    child_parent nodes different fields among ne = subst (λ (y : ℕ). left_by (by nodes) y Parent ≡ q) (sym child)
        (heir_parent past (by nodes) slot (c slot VersionField) c different fields q heir among (λ some. absurd (cc))
        (λ e. ne (child ∙ e)))

    child_spared : (y : ℕ) (f : Field) → (y ≡ c m RightLink → f ≢ Parent) → Spares y f (heir_nodes q heir)
    child_spared y f not_parent = heir_spared q heir y f (λ e. not_parent (e ∙ sym child))

    -- where q is n, all changes but those of the mark and the heir are of n
    abbrev one_change : NodeChange
    one_change = record {
      node = n;
      version = c n VersionField;
      fields = renumbered KeyField k (c m KeyField)
          ∷ renumbered ValueField (c n ValueField) (c m ValueField) ∷ relink ∷ [];
    }

    abbrev one_nodes : List NodeChange
    one_nodes = one_change ∷ heir_nodes q heir

    one_different : AreDifferent (n ∷ nodes_in (heir_nodes q heir) (Some next_mark))
    one_different = (
      heir_out q heir n next_mark not_n (λ e. m_not_n (sym e)),
      heir_different q heir next_mark not_m,
    )

    one_fields : HaveFields one_nodes
    one_fields = (
      lifted_fields_differ s k (c m KeyField) (c n ValueField) (c m ValueField) m (heir_link heir),
      heir_fields q heir,
    )

    one_at : (f : Field) → left_by (by one_nodes) n f ≡ looked_up slot f one_change.fields (if field_number f == 0 then
        (c n VersionField + 2) % 2 ^ 64 else c n f)
    one_at f = applied_node past (by one_nodes) slot (c slot VersionField) c one_different one_fields one_change f
        (inl refl) (λ some. absurd (cc))

    one_lifted : q ≡ n → IsLifted balanced c (left_by (by one_nodes)) n q (link_of s) m
    one_lifted same = record {
      key = one_at KeyField;
      value = one_at ValueField;
      linked = (λ i. left_by (by one_nodes) (same i) (link_of s)) ∙ one_at (link_of s)
          ∙ link_looked_up s slot k (c m KeyField) (c n ValueField) (c m ValueField) m (heir_link heir)
          (if field_number (link_of s) == 0 then (c n VersionField + 2) % 2 ^ 64 else c n (link_of s)) ∙ sym child;
      parent = child_parent one_nodes one_different one_fields (λ h e. inr (heir_among q heir h e));
      marked = subst IsOdd (sym (applied_mark past one_nodes next_mark None (by one_nodes) slot
          (c slot VersionField) c refl refl one_different)) (odd_after (c m VersionField) even);
      words = λ y f other not_version not_key not_value not_link not_parent. word_stays past (by one_nodes) slot
          (c slot VersionField) c y f not_version
          (λ e. (not_key e, (not_value e, (not_link (e ∙ sym same), tt))), child_spared y f not_parent)
          (λ some. absurd (cc));
      parity = λ y other. parity_by_nodes past (by one_nodes) slot (c slot VersionField) c one_different one_fields
          (refl, heir_versions c q heir is) y (ne_eqb m y (λ e. other (sym e))) (λ some. absurd (cc));
    }

    -- where q is another node, the link is of q
    abbrev upper_change : NodeChange
    upper_change = record { node = n; version = c n VersionField; fields = up }

    abbrev lower_change : NodeChange
    lower_change = record { node = q; version = c q VersionField; fields = relink ∷ [] }

    abbrev two_nodes : List NodeChange
    two_nodes = upper_change ∷ lower_change ∷ heir_nodes q heir

    module _ (apart : q ≢ n) where
      two_different : AreDifferent (n ∷ q ∷ nodes_in (heir_nodes q heir) (Some next_mark))
      two_different = (
        not_among n q (nodes_in (heir_nodes q heir) (Some next_mark)) (λ e. apart (sym e)) (heir_out q heir n next_mark
            not_n (λ e. m_not_n (sym e))),
        (heir_out q heir q next_mark not_q (λ e. m_not_q (sym e)), heir_different q heir next_mark not_m),
      )

      two_fields : HaveFields two_nodes
      two_fields = ((refl, (refl, tt)), ((link_field s, tt), heir_fields q heir))

      upper_at : (f : Field) → left_by (by two_nodes) n f ≡ looked_up slot f up (if field_number f == 0 then
          (c n VersionField + 2) % 2 ^ 64 else c n f)
      upper_at f = applied_node past (by two_nodes) slot (c slot VersionField) c two_different two_fields upper_change
          f (inl refl) (λ some. absurd (cc))

      two_lifted : IsLifted balanced c (left_by (by two_nodes)) n q (link_of s) m
      two_lifted = record {
        key = upper_at KeyField;
        value = upper_at ValueField;
        linked = applied_node past (by two_nodes) slot (c slot VersionField) c two_different two_fields lower_change
            (link_of s) (inr (inl refl)) (λ some. absurd (cc))
            ∙ looked_up-here slot relink [] (if field_number (link_of s) == 0 then (c q VersionField + 2) % 2 ^ 64 else
            c q (link_of s)) ∙ sym child;
        parent = child_parent two_nodes two_different two_fields (λ h e. inr (inr (heir_among q heir h e)));
        marked = subst IsOdd (sym (applied_mark past two_nodes next_mark None (by two_nodes) slot
            (c slot VersionField) c refl refl two_different)) (odd_after (c m VersionField) even);
        words = λ y f other not_version not_key not_value not_link not_parent. word_stays past (by two_nodes) slot
            (c slot VersionField) c y f not_version
            (λ e. (not_key e, (not_value e, tt)), (λ e. (not_link e, tt), child_spared y f not_parent))
            (λ some. absurd (cc));
        parity = λ y other. parity_by_nodes past (by two_nodes) slot (c slot VersionField) c two_different two_fields
            (refl, (refl, heir_versions c q heir is)) y (ne_eqb m y (λ e. other (sym e))) (λ some. absurd (cc));
      }

    -- the exchange of a lift, as the plan asks for it
    abbrev pub coming_up : ByNodes
    coming_up = by (if q == n then one_nodes else two_nodes)

    pub lift_end : c n KeyField ≡ k → c q (link_of s) ≡ m
        → ((c' : Cells) → IsLifted balanced c c' n q (link_of s) m
        → IsSearchTree balanced slots c' (without k ps) × BringsOnly charges slots c c') → RightEnd coming_up
    lift_end key hangs leaves =
        let By : List NodeChange → Type 0 = λ nodes. RightEnd (by nodes) in
        ⊎_elim
        (λ same. let e : q ≡ n = eqb-true q n same in
        subst By (sym (cond-true (q == n) one_nodes two_nodes same))
        (record {
          changes = (
            refl,
            (
              key,
              (
                refl,
                (
                  subst (λ (y : ℕ). c y (link_of s) ≡ m) e hangs,
                  heir_stands slot c q heir next_mark is refl,
                ),
              ),
            ),
          );
          taken = tt;
          leaves = (leaves (left_by (by one_nodes)) (one_lifted e)).0;
          charges = (leaves (left_by (by one_nodes)) (one_lifted e)).1;
          settles = tt;
        }))
        (λ differs. let apart : q ≢ n = eqb-false q n differs in
        subst By (sym (cond-false (q == n) one_nodes two_nodes differs))
        (record {
          changes = (refl, (key, (refl, (refl, (hangs, heir_stands slot c q heir next_mark is refl)))));
          taken = tt;
          leaves = (leaves (left_by (by two_nodes)) (two_lifted apart)).0;
          charges = (leaves (left_by (by two_nodes)) (two_lifted apart)).1;
          settles = tt;
        }))
        (cases_Bool (q == n))
