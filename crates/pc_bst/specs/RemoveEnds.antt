-- The exchanges of a remove on a search tree that stands still: each ends right.
use Rattle.std.proofs.Common.{◌≡◌, ◌≢◌, ℕ, ◌+◌, ◌%◌, ◌^◌, ◌==◌, if◌then◌else◌, inl, inr, ⊎_elim}
use Rattle.std.proofs.Common.{List, [], ◌∷◌, None, refl, sym, ◌∙◌, subst, arith}
use Rattle.std.proofs.lemmas.Bool.{eqb-true, eqb-false, ne_eqb, cond_both}
use Rattle.pc_model.specs.declared.cell.Field.{Field}
use Rattle.pc_model.specs.declared.cell.Field.TheVariants.{Version as VersionField, Key as KeyField}
use Rattle.pc_model.specs.declared.cell.Field.TheVariants.{Value as ValueField, Right as RightLink}
use Rattle.pc_model.specs.declared.cell.Field.TheVariants.{Parent}
use Rattle.pc_model.specs.declared.cell.Side.{Side}
use Rattle.pc_model.specs.declared.cell.Side.TheVariants.{Left, Right}
use Rattle.pc_model.specs.declared.call.Call.TheVariants.{Remove}
use Rattle.pc_model.specs.Map.{Pairs, without}
use Rattle.pc_model.specs.Cells.{Cells, IsEven, IsOdd, field_number}
use Rattle.pc_model.specs.Debts.{AreDifferent}
use Rattle.pc_model.specs.Exchanges.{Visited, applied}
use Rattle.pc_model.specs.Sides.{link_of}
use Rattle.pc_model.specs.Trees.{plain, IsSearchTree}
use Rattle.pc_model.specs.TreeForms.{tree_form}
use Rattle.pc_model.proofs.Links.{IsLinkAlone, link_alone}
use Rattle.pc_model.proofs.Sides.{link_of-is_link}
use Rattle.pc_model.proofs.Removal.{IsUnlinked, IsLifted}
use Rattle.pc_plan.specs.NodeChanges.{FieldChange, NodeChange, ByNodes, planned_by}
use Rattle.pc_plan.specs.Terms.{map_terms}
use Rattle.pc_plan.specs.Traces.{Event}
use Rattle.pc_plan.specs.Runs.{exchange_of}
use Rattle.pc_plan.proofs.Courses.{IsRightEnd}
use Rattle.pc_plan.proofs.NodeWords.{AreFields, not_among, looked_up, HaveFields}
use Rattle.pc_plan.proofs.WrittenWords.{applied_else_word}
use Rattle.pc_plan.proofs.LawfulNodes.{applied_node, applied_mark, looked_up-here, parity_by_nodes}
use Rattle.pc_bst.specs.Removes.{renumbered, removing}
use Rattle.pc_bst.specs.PutEnds.{link_field}

-- the key and the value of a node change, and a link of it
pub lifted_fields_differ : (s : Side) (a b x d e g : ℕ) → AreFields (renumbered KeyField a b ∷ renumbered ValueField x
    d ∷ renumbered (link_of s) e g ∷ [])
lifted_fields_differ Left a b x d e g = (refl, (refl, (refl, tt)))
lifted_fields_differ Right a b x d e g = (refl, (refl, (refl, tt)))

pub link_looked_up : (s : Side) (slot a b x d e g old : ℕ) → looked_up slot (link_of s) (renumbered KeyField a b
    ∷ renumbered ValueField x d ∷ renumbered (link_of s) e g ∷ []) old ≡ g
link_looked_up Left slot a b x d e g old = refl
link_looked_up Right slot a b x d e g old = refl

-- the version of a node that is marked goes from even to odd
pub odd_after : (v : ℕ) → IsEven v → IsOdd ((v + 1) % 2 ^ 64)
odd_after v even = let e : v % 2 ≡ 0 = even in omega (arith, e)

module _ (slots : ℕ) (c : Cells) (ps : Pairs) (k : ℕ) (past : List Event) (slot : ℕ) where
  abbrev pub RightEnd : ByNodes → Type 0
  RightEnd b = IsRightEnd (tree_form plain) slots c past (without k ps) (map_terms (Remove k)) (planned_by b) slot

  abbrev left_by : ByNodes → Cells
  left_by b = applied (exchange_of past (planned_by b) slot (c slot VersionField)) c

  -- A node is unlinked.
  module _ (q : ℕ) (s : Side) (n child : ℕ) (apart : q ≢ n) (even : IsEven (c n VersionField)) where
    abbrev link_change : FieldChange
    link_change = renumbered (link_of s) n child

    abbrev above_change : NodeChange
    above_change = record { node = q; version = c q VersionField; fields = link_change ∷ [] }

    abbrev mark : Visited
    mark = record { node = n; version = c n VersionField }

    abbrev pub unlinking : ByNodes
    unlinking = removing (above_change ∷ []) mark (c n ValueField)

    abbrev link : IsLinkAlone (link_of s)
    link = link_alone (link_of s) (link_of-is_link s)

    different : AreDifferent (q ∷ n ∷ [])
    different = (not_among q n [] apart refl, (refl, tt))

    fields : HaveFields (above_change ∷ [])
    fields = ((link_field s, tt), tt)

    word_stays : (m : ℕ) (f : Field) → f ≢ VersionField → (m ≡ q → f ≢ link_of s) → left_by unlinking m f ≡ c m f
    word_stays m f not_version not_link = applied_else_word past (planned_by unlinking) slot (c slot VersionField) c m
        f
        (λ d. ⊎_elim (λ e. not_version (sym e.1)) (λ d1. ⊎_elim (λ e. not_link (sym e.0) (sym e.1))
        (λ d2. ⊎_elim (λ e. not_version (sym e.1)) (λ x. x) d2) d1) d) (λ some. absurd (cc))

    is_unlinked : IsUnlinked plain c (left_by unlinking) q (link_of s) n child
    is_unlinked = record {
      linked = applied_node past unlinking slot (c slot VersionField) c different fields above_change (link_of s)
          (inl refl) (λ some. absurd (cc))
          ∙ looked_up-here slot link_change [] (if field_number (link_of s) == 0 then (c q VersionField + 2) % 2 ^ 64
          else c q (link_of s));
      parent = λ _. word_stays child Parent (λ e. absurd (cc)) (λ _ e. link.parent e);
      marked = subst IsOdd (sym (applied_mark past (above_change ∷ []) mark None unlinking slot (c slot VersionField) c
          refl refl different)) (odd_after (c n VersionField) even);
      words = λ m f not_n not_version not_link _. word_stays m f not_version not_link;
      parity = λ m not_n. parity_by_nodes past unlinking slot (c slot VersionField) c different fields (refl, tt) m
          (ne_eqb n m (λ e. not_n (sym e))) (λ some. absurd (cc));
    }

    pub unlink_end : c q (link_of s) ≡ n → ((c' : Cells) → IsUnlinked plain c c' q (link_of s) n child
        → IsSearchTree plain slots c' (without k ps)) → RightEnd unlinking
    unlink_end hangs leaves = record {
      changes = (refl, (hangs, (refl, tt)));
      taken = tt;
      leaves = leaves (left_by unlinking) is_unlinked;
      charges = λ j debt. absurd debt;
      settles = tt;
    }

  -- The successor m, which hangs at a link of q, comes up to n.
  module _ (n q : ℕ) (s : Side) (m : ℕ) (not_n : m ≢ n) (not_q : m ≢ q) (even : IsEven (c m VersionField)) where
    abbrev next_mark : Visited
    next_mark = record { node = m; version = c m VersionField }

    abbrev up : List FieldChange
    up = renumbered KeyField k (c m KeyField) ∷ renumbered ValueField (c n ValueField) (c m ValueField) ∷ []

    abbrev relink : FieldChange
    relink = renumbered (link_of s) m (c m RightLink)

    abbrev next_link : IsLinkAlone (link_of s)
    next_link = link_alone (link_of s) (link_of-is_link s)

    -- where q is n, all changes but the mark are of n
    abbrev one_change : NodeChange
    one_change = record {
      node = n;
      version = c n VersionField;
      fields = renumbered KeyField k (c m KeyField)
          ∷ renumbered ValueField (c n ValueField) (c m ValueField) ∷ relink ∷ [];
    }

    abbrev pub lifting_one : ByNodes
    lifting_one = removing (one_change ∷ []) next_mark (c n ValueField)

    one_different : AreDifferent (n ∷ m ∷ [])
    one_different = (not_among n m [] (λ e. not_n (sym e)) refl, (refl, tt))

    one_fields : HaveFields (one_change ∷ [])
    one_fields = (lifted_fields_differ s k (c m KeyField) (c n ValueField) (c m ValueField) m (c m RightLink), tt)

    one_stays : (x : ℕ) (f : Field) → f ≢ VersionField → (x ≡ n → f ≢ KeyField) → (x ≡ n → f ≢ ValueField)
        → (x ≡ n → f ≢ link_of s) → left_by lifting_one x f ≡ c x f
    one_stays x f not_version not_key not_value not_link = applied_else_word past (planned_by lifting_one) slot
        (c slot VersionField) c x f
        (λ d. ⊎_elim (λ e. not_version (sym e.1)) (λ d1. ⊎_elim (λ e. not_key (sym e.0) (sym e.1))
        (λ d2. ⊎_elim (λ e. not_value (sym e.0) (sym e.1))
        (λ d3. ⊎_elim (λ e. not_link (sym e.0) (sym e.1)) (λ d4. ⊎_elim (λ e. not_version (sym e.1)) (λ y. y) d4) d3)
        d2) d1) d) (λ some. absurd (cc))

    one_at : (f : Field) → left_by lifting_one n f ≡ looked_up slot f one_change.fields (if field_number f == 0 then
        (c n VersionField + 2) % 2 ^ 64 else c n f)
    one_at f = applied_node past lifting_one slot (c slot VersionField) c one_different one_fields one_change f
        (inl refl) (λ some. absurd (cc))

    one_lifted : IsLifted plain c (left_by lifting_one) n n (link_of s) m
    one_lifted = record {
      key = one_at KeyField;
      value = one_at ValueField;
      linked = one_at (link_of s) ∙ link_looked_up s slot k (c m KeyField) (c n ValueField) (c m ValueField) m
          (c m RightLink) (if field_number (link_of s) == 0 then (c n VersionField + 2) % 2 ^ 64 else c n (link_of s));
      parent = λ _. one_stays (c m RightLink) Parent (λ e. absurd (cc)) (λ _ e. absurd (cc)) (λ _ e. absurd (cc))
          (λ _ e. next_link.parent e);
      marked = subst IsOdd (sym (applied_mark past (one_change ∷ []) next_mark None lifting_one slot
          (c slot VersionField) c refl refl one_different)) (odd_after (c m VersionField) even);
      words = λ x f not_m not_version not_key not_value not_link _. one_stays x f not_version not_key not_value
          not_link;
      parity = λ x not_m. parity_by_nodes past lifting_one slot (c slot VersionField) c one_different one_fields
          (refl, tt) x (ne_eqb m x (λ e. not_m (sym e))) (λ some. absurd (cc));
    }

    -- where q is another node, the link is of q
    abbrev upper_change : NodeChange
    upper_change = record { node = n; version = c n VersionField; fields = up }

    abbrev lower_change : NodeChange
    lower_change = record { node = q; version = c q VersionField; fields = relink ∷ [] }

    abbrev pub lifting_two : ByNodes
    lifting_two = removing (upper_change ∷ lower_change ∷ []) next_mark (c n ValueField)

    module _ (apart : q ≢ n) where
      two_different : AreDifferent (n ∷ q ∷ m ∷ [])
      two_different = (
        not_among n q (m ∷ []) (λ e. apart (sym e)) (not_among n m [] (λ e. not_n (sym e)) refl),
        (not_among q m [] (λ e. not_q (sym e)) refl, (refl, tt)),
      )

      two_fields : HaveFields (upper_change ∷ lower_change ∷ [])
      two_fields = ((refl, (refl, tt)), ((link_field s, tt), tt))

      two_stays : (x : ℕ) (f : Field) → f ≢ VersionField → (x ≡ n → f ≢ KeyField) → (x ≡ n → f ≢ ValueField)
          → (x ≡ q → f ≢ link_of s) → left_by lifting_two x f ≡ c x f
      two_stays x f not_version not_key not_value not_link = applied_else_word past (planned_by lifting_two) slot
          (c slot VersionField) c x f
          (λ d. ⊎_elim (λ e. not_version (sym e.1)) (λ d1. ⊎_elim (λ e. not_key (sym e.0) (sym e.1))
          (λ d2. ⊎_elim (λ e. not_value (sym e.0) (sym e.1))
          (λ d3. ⊎_elim (λ e. not_version (sym e.1)) (λ d4. ⊎_elim (λ e. not_link (sym e.0) (sym e.1))
          (λ d5. ⊎_elim (λ e. not_version (sym e.1)) (λ y. y) d5) d4) d3) d2) d1) d) (λ some. absurd (cc))

      upper_at : (f : Field) → left_by lifting_two n f ≡ looked_up slot f up (if field_number f == 0 then
          (c n VersionField + 2) % 2 ^ 64 else c n f)
      upper_at f = applied_node past lifting_two slot (c slot VersionField) c two_different two_fields upper_change f
          (inl refl) (λ some. absurd (cc))

      two_lifted : IsLifted plain c (left_by lifting_two) n q (link_of s) m
      two_lifted = record {
        key = upper_at KeyField;
        value = upper_at ValueField;
        linked = applied_node past lifting_two slot (c slot VersionField) c two_different two_fields lower_change
            (link_of s) (inr (inl refl)) (λ some. absurd (cc))
            ∙ looked_up-here slot relink [] (if field_number (link_of s) == 0 then (c q VersionField + 2) % 2 ^ 64 else
            c q (link_of s));
        parent = λ _. two_stays (c m RightLink) Parent (λ e. absurd (cc)) (λ _ e. absurd (cc)) (λ _ e. absurd (cc))
            (λ _ e. next_link.parent e);
        marked = subst IsOdd (sym (applied_mark past (upper_change ∷ lower_change ∷ []) next_mark None lifting_two slot
            (c slot VersionField) c refl refl two_different)) (odd_after (c m VersionField) even);
        words = λ x f not_m not_version not_key not_value not_link _. two_stays x f not_version not_key not_value
            not_link;
        parity = λ x not_m. parity_by_nodes past lifting_two slot (c slot VersionField) c two_different two_fields
            (refl, (refl, tt)) x (ne_eqb m x (λ e. not_m (sym e))) (λ some. absurd (cc));
      }

    -- the exchange of a lift, as the plan asks for it
    abbrev pub lifting : ByNodes
    lifting = removing (if q == n then one_change ∷ [] else upper_change ∷ lower_change ∷ []) next_mark
        (c n ValueField)

    pub lift_end : c n KeyField ≡ k → c q (link_of s) ≡ m → ((c' : Cells) → IsLifted plain c c' n q (link_of s) m
        → IsSearchTree plain slots c' (without k ps)) → RightEnd lifting
    lift_end key hangs leaves =
        let By : List NodeChange → Type 0 = λ nodes. RightEnd (removing nodes next_mark (c n ValueField)) in
        cond_both (q == n) (one_change ∷ []) (upper_change ∷ lower_change ∷ []) By
        (λ same. let e : q ≡ n = eqb-true q n same in
        record {
          changes = (refl, (key, (refl, (subst (λ (x : ℕ). c x (link_of s) ≡ m) e hangs, (refl, tt)))));
          taken = tt;
          leaves = leaves (left_by lifting_one) (subst (λ (x : ℕ). IsLifted plain c (left_by lifting_one) n x
              (link_of s) m) (sym e) one_lifted);
          charges = λ j debt. absurd debt;
          settles = tt;
        })
        (λ differs. let apart : q ≢ n = eqb-false q n differs in
        record {
          changes = (refl, (key, (refl, (refl, (hangs, (refl, tt))))));
          taken = tt;
          leaves = leaves (left_by lifting_two) (two_lifted apart);
          charges = λ j debt. absurd debt;
          settles = tt;
        })
