-- The two exchanges of a put on a search tree that stands still, of either kind: each ends right.
use Rattle.std.proofs.Common.{◌≡◌, ◌≢◌, ℕ, ◌+◌, ◌%◌, ◌^◌, ◌≤◌, ◌==◌, if◌then◌else◌, inl, ⊎_elim, false, List}
use Rattle.std.proofs.lemmas.Bool.{ne_eqb, cond-false}
use Rattle.std.proofs.Common.{[], ◌∷◌, refl, sym, ◌∙◌, subst, arith}
use Rattle.std.specs.Prelude.{IsTrue, ◌⊎◌}
use Rattle.pc_model.specs.declared.cell.Field.{Field}
use Rattle.pc_model.specs.declared.cell.Field.TheVariants.{Version as VersionField, Key as KeyField}
use Rattle.pc_model.specs.declared.cell.Field.TheVariants.{Value as ValueField, Left as LeftLink, Right as RightLink}
use Rattle.pc_model.specs.declared.cell.Field.TheVariants.{Parent, Height}
use Rattle.pc_model.specs.declared.cell.Side.{Side}
use Rattle.pc_model.specs.declared.cell.Side.TheVariants.{Left, Right}
use Rattle.pc_model.specs.declared.call.Call.TheVariants.{Put}
use Rattle.pc_model.specs.Map.{Pairs, put}
use Rattle.pc_model.specs.Cells.{Cells, IsEven, IsOdd, IsSlot, field_number}
use Rattle.pc_model.specs.Debts.{has}
use Rattle.pc_model.specs.Exchanges.{applied}
use Rattle.pc_model.specs.Sides.{link_of}
use Rattle.pc_model.specs.Trees.{Tree, Empty, Fork, IsOfKind, IsSearchTree}
use Rattle.pc_model.specs.TreeForms.{in_debt_of, tree_form}
use Rattle.pc_model.proofs.DebtsBrought.{IsCharged}
use Rattle.pc_model.proofs.Holes.{Hole}
use Rattle.pc_model.proofs.Insertion.{IsHung, IsRevalued, leaf_hung, value_changed as value_changes}
use Rattle.pc_model.proofs.InsertionDebts.{leaf_brings_only, value_brings_nothing}
use Rattle.pc_plan.specs.declared.change.Fresh.{Fresh}
use Rattle.pc_plan.specs.declared.walk.Above.{Above}
use Rattle.pc_plan.specs.declared.walk.Awaited.{Awaited}
use Rattle.pc_plan.specs.declared.walk.Awaited.TheVariants.{Choice, Link}
use Rattle.pc_plan.specs.declared.walk.Walk.{Walk}
use Rattle.pc_plan.specs.declared.change.To.TheVariants.{Number as ToNumber, Fresh as ToFresh}
use Rattle.pc_plan.specs.NodeChanges.{FieldChange, NodeChange, ByNodes, planned_by}
use Rattle.pc_plan.specs.Terms.{map_terms}
use Rattle.pc_plan.specs.Traces.{Event}
use Rattle.pc_plan.specs.Runs.{fresh_fields, exchange_of}
use Rattle.pc_plan.proofs.Courses.{IsRightEnd}
use Rattle.pc_plan.proofs.NodeWords.{AreFields, not_among, has_here}
use Rattle.pc_plan.proofs.WrittenWords.{applied_else_word}
use Rattle.pc_plan.proofs.LawfulNodes.{applied_node, applied_fresh, looked_up-here, parity_by_nodes}
use Rattle.pc_plan.proofs.WalkKeys.{IsKeyOf}
use Rattle.pc_bst.specs.declared.kind.NodeKind.{NodeKind}
use Rattle.pc_bst.specs.declared.kind.NodeKind.TheVariants.{Plain, Balanced}
use Rattle.pc_bst.specs.declared.tree_put.PutPhase.TheVariants.{Walking}
use Rattle.pc_bst.specs.Kinds.{kind_of, leaf_parent, leaf_height, key_unless_sentinel, leaf_charges}
use Rattle.pc_bst.specs.Puts.{value_changed, leaf_added, put_at}

-- the link on a side is a field that may change
pub link_field : (s : Side) → has (field_number (link_of s)) (0 ∷ []) ≡ false
link_field Left = refl
link_field Right = refl

-- where the kept key is a node's, that key is charged, unless the node is the sentinel
pub key_is_charged : (c : Cells) (n x : ℕ) → IsKeyOf c n x → IsCharged (key_unless_sentinel n x) c n
key_is_charged c n x is ne =
    let e : x ≡ c n KeyField = is ne in
    subst (λ (keys : List ℕ). IsTrue (has (c n KeyField) keys))
    (sym (cond-false (n == 1) [] (x ∷ []) (ne_eqb n 1 ne)))
    (subst (λ (y : ℕ). IsTrue (has (c n KeyField) (y ∷ []))) (sym e) (has_here (c n KeyField) []))

-- another value brings no debts
value_charges : (kind : NodeKind) (slots : ℕ) (c : Cells) (ps : Pairs)
    → IsSearchTree (kind_of kind) slots c ps → (c' : Cells) (n v : ℕ) → IsRevalued c c' n v → (k : ℕ)
    → in_debt_of (kind_of kind) slots c' k → in_debt_of (kind_of kind) slots c k ⊎ IsTrue (has k [])
value_charges Plain slots c ps tree c' n v changed k debt = absurd debt
value_charges Balanced slots c ps tree c' n v changed k debt = value_brings_nothing slots c ps tree n v c' changed k
    debt

-- a leaf is of its tree's kind
leaf_is_of_kind : (kind : NodeKind) (c : Cells) (above leaf : ℕ) → c leaf Parent ≡ leaf_parent kind above
    → c leaf Height ≡ leaf_height kind → IsOfKind (kind_of kind) c above leaf
leaf_is_of_kind Plain c above leaf parent height = (parent, height)
leaf_is_of_kind Balanced c above leaf parent height = (parent, omega (arith, height))

module _ (slots : ℕ) (c : Cells) (ps : Pairs) (k value q : ℕ) (s : Side) where
  -- and brings only debts that are charged
  leaf_charged : (kind : NodeKind) (tree : IsSearchTree (kind_of kind) slots c ps) (x slot : ℕ) (c' : Cells)
      → Hole (kind_of kind) slots c ps tree.tree k q (link_of s) Empty → IsOdd (c slot VersionField)
      → IsHung (kind_of kind) c c' q (link_of s) slot k value → IsKeyOf c q x → c' slot Height ≡ leaf_height kind
      → (j : ℕ) → in_debt_of (kind_of kind) slots c' j
      → in_debt_of (kind_of kind) slots c j ⊎ IsTrue (has j (leaf_charges kind q x))
  leaf_charged Plain tree x slot c' h odd hung is height j debt = absurd debt
  leaf_charged Balanced tree x slot c' h odd hung is height j debt =
      leaf_brings_only slots c ps tree k value q (link_of s) slot c' h odd hung (key_unless_sentinel q x) height
      (key_is_charged c q x is) j debt

module _ (kind : NodeKind) (slots : ℕ) (c : Cells) (ps : Pairs) (k value : ℕ)
    (tree : IsSearchTree (kind_of kind) slots c ps)
    (small_key : k ≤ 999999999999999999) (small_value : value ≤ 999999999999999999)
    (q : ℕ) (s : Side) (past : List Event) (slot : ℕ) where
  abbrev RightEnd : ByNodes → Type 0
  RightEnd b = IsRightEnd (tree_form (kind_of kind)) slots c past (put k value ps) (map_terms (Put k value))
      (planned_by b) slot

  -- a walk that has come to a node in these cells
  abbrev walk_in : Above → ℕ → Awaited → Walk
  walk_in a n awaited = record { key = k; node = n; awaited = awaited; version = c n VersionField; above = a }

  -- The value of the node that the walk has come to changes.
  module _ (a : Above) (n : ℕ) (l r : Tree) (h : Hole (kind_of kind) slots c ps tree.tree k q (link_of s) (Fork n l r))
      (key : c n KeyField ≡ k) where
    abbrev changed : ByNodes
    changed = value_changed (walk_in a n Choice) (c n ValueField) value

    abbrev change_left : Cells
    change_left = applied (exchange_of past (planned_by changed) slot (c slot VersionField)) c

    revalued : IsRevalued c change_left n value
    revalued = record {
      value = applied_node past changed slot (c slot VersionField) c (refl, tt) ((refl, tt), tt)
          (record {
            node = n;
            version = c n VersionField;
            fields = record {
              field = ValueField;
              old = c n ValueField;
              new = ToNumber value;
            } ∷ [];
          }) ValueField (inl refl) (λ some. absurd (cc));
      words = λ m f not_version not_value. applied_else_word past (planned_by changed) slot (c slot VersionField) c m f
          (λ d. ⊎_elim (λ e. not_version (sym e.1)) (λ d1. ⊎_elim (λ e. not_value (sym e.0) (sym e.1)) (λ x. x) d1) d)
          (λ some. absurd (cc));
      parity = λ m. parity_by_nodes past changed slot (c slot VersionField) c (refl, tt) ((refl, tt), tt) (refl, tt) m
          refl (λ some. absurd (cc));
    }

    pub value_end : RightEnd changed
    value_end = record {
      changes = (refl, (refl, tt));
      taken = tt;
      leaves = value_changes (kind_of kind) slots c ps tree k value q (link_of s) small_key small_value n l r
          change_left h key revalued;
      charges = value_charges kind slots c ps tree change_left n value revalued;
      settles = tt;
    }

  -- A leaf hangs at the link where the walk has ended.
  module _ (a : Above) (x : ℕ) (is_key : IsKeyOf c q x)
      (h : Hole (kind_of kind) slots c ps tree.tree k q (link_of s) Empty) (is_slot : IsSlot slots slot)
      (odd : IsOdd (c slot VersionField)) where
    abbrev leaf : Fresh
    leaf = record { key = k; value = value; parent = leaf_parent kind q; height = leaf_height kind }

    abbrev hung : ByNodes
    hung = leaf_added (put_at kind (walk_in a q (Link s)) value x Walking) s (c q (link_of s))

    abbrev leaf_left : Cells
    leaf_left = applied (exchange_of past (planned_by hung) slot (c slot VersionField)) c

    not_leaf : q ≢ slot
    not_leaf e = let even : c slot VersionField % 2 ≡ 0 = subst (λ (x : ℕ). IsEven (c x VersionField)) e h.unmarked in
        absurd (omega arith)

    abbrev link_change : FieldChange
    link_change = record { field = link_of s; old = c q (link_of s); new = ToFresh }

    abbrev above_change : NodeChange
    above_change = record { node = q; version = c q VersionField; fields = link_change ∷ [] }

    fields : AreFields (link_change ∷ [])
    fields = (link_field s, tt)

    leaf_field : (f : Field) → leaf_left slot f ≡ fresh_fields (c slot VersionField) leaf f
    leaf_field f = applied_fresh past hung slot (c slot VersionField) c (refl, tt) (fields, tt) leaf f refl
        (not_among slot q [] (λ e. not_leaf (sym e)) refl)

    is_hung : IsHung (kind_of kind) c leaf_left q (link_of s) slot k value
    is_hung = record {
      linked = applied_node past hung slot (c slot VersionField) c (refl, tt) (fields, tt) above_change (link_of s)
          (inl refl) (λ _. not_leaf)
          ∙ looked_up-here slot link_change [] (if field_number (link_of s) == 0 then (c q VersionField + 2) % 2 ^ 64
          else c q (link_of s));
      key = leaf_field KeyField;
      value = leaf_field ValueField;
      no_left = leaf_field LeftLink;
      no_right = leaf_field RightLink;
      of_kind = leaf_is_of_kind kind leaf_left q slot (leaf_field Parent) (leaf_field Height);
      unmarked = let e : leaf_left slot VersionField ≡ c slot VersionField + 1 = leaf_field VersionField in
          let one : c slot VersionField % 2 ≡ 1 = odd in omega (arith, e, one);
      words = λ m f not_slot not_version not_link. applied_else_word past (planned_by hung) slot (c slot VersionField)
          c m f
          (λ d. ⊎_elim (λ e. not_version (sym e.1)) (λ d1. ⊎_elim (λ e. not_link (sym e.0) (sym e.1)) (λ x. x) d1) d)
          (λ _. not_slot);
      parity = λ m not_slot. parity_by_nodes past hung slot (c slot VersionField) c (refl, tt) (fields, tt) (refl, tt)
          m refl (λ _. not_slot);
    }

    pub leaf_end : RightEnd hung
    leaf_end = record {
      changes = (refl, (refl, tt));
      taken = (odd, refl);
      leaves = leaf_hung (kind_of kind) slots c ps tree k value q (link_of s) small_key small_value slot
          leaf_left h is_slot odd is_hung;
      charges = leaf_charged slots c ps k value q s kind tree x slot leaf_left h odd is_hung is_key
          (leaf_field Height);
      settles = tt;
    }
