-- The laws of a put into a search tree of either kind: its course on sound cells, and what it keeps whatever it
-- is told.
use Rattle.std.proofs.Common.{◌≡◌, ℕ, ◌+◌, ◌*◌, ◌^◌, ◌<◌, ◌≤◌, ◌==◌, inl, inr, List, [], ◌∷◌}
use Rattle.std.proofs.Common.{Some, None, refl, sym, ap, subst, arith}
use Rattle.std.specs.Prelude.{IsSome, length, ◌⊎◌}
use Rattle.std.proofs.lemmas.Bool.{eq-eqb, ne_eqb, cond-true, cond-false, cond_both}
use Rattle.pc_model.specs.declared.cell.Field.TheVariants.{Key as KeyField, Value as ValueField}
use Rattle.pc_model.specs.declared.cell.Side.{Side}
use Rattle.pc_model.specs.declared.call.Call.TheVariants.{Put}
use Rattle.pc_model.specs.Map.{Pairs, IsPair, value_at, was_or_new}
use Rattle.pc_model.specs.Cells.{Cells, IsSlot}
use Rattle.pc_model.specs.Sides.{link_of}
use Rattle.pc_model.specs.Trees.{IsTreeNode, IsSearchTree}
use Rattle.pc_model.specs.TreeForms.{tree_form}
use Rattle.pc_model.proofs.HolePairs.{value_at-hole, value_at-empty_hole}
use Rattle.pc_model.proofs.TreeFormLaws.{tree_form_laws}
use Rattle.pc_plan.specs.declared.plan.Ask.{Ask}
use Rattle.pc_plan.specs.declared.plan.Ask.TheVariants.{Read as AskRead}
use Rattle.pc_plan.specs.declared.plan.Told.{Told}
use Rattle.pc_plan.specs.declared.plan.Told.TheVariants.{Begin, Version, Number}
use Rattle.pc_plan.specs.declared.walk.Walk.{Walk}
use Rattle.pc_plan.specs.declared.walk.Step.{Step}
use Rattle.pc_plan.specs.declared.walk.Step.TheVariants.{Visit, Read, Here, Missing, Astray}
use Rattle.pc_plan.specs.declared.walk.Awaited.TheVariants.{Choice}
use Rattle.pc_plan.specs.NodeChanges.{planned_by}
use Rattle.pc_plan.specs.Terms.{Terms, map_terms}
use Rattle.pc_plan.specs.Traces.{Event, found, learned, learned_along, version_seen, number_seen}
use Rattle.pc_plan.specs.Traces.{reads_since_visit}
use Rattle.pc_plan.specs.Runs.{Runs, IsReady, reached}
use Rattle.pc_plan.specs.Lawful.{IsWord, IsLawfulAsk, IsLawfulChange, IsLawful}
use Rattle.pc_plan.specs.Laws.{PlanLaws}
use Rattle.pc_plan.specs.Walks.{walk_step}
use Rattle.pc_plan.proofs.Courses.{Course, EndsRight, runs_by_course, changes_by_course, change_or_answer}
use Rattle.pc_plan.proofs.Learning.{kept_along, is_some-seen, number_seen-here}
use Rattle.pc_plan.proofs.LawfulNodes.{lawful_by_nodes}
use Rattle.pc_plan.proofs.WalkCourses.{left_node, walk_at}
use Rattle.pc_plan.proofs.WalkKeys.{walk_to_key_below}
use Rattle.pc_plan.proofs.WalkLawful.{HasCome, StepStands, Waits, walk_stands, waits_lawful, goes_on, walk_keeps_key}
use Rattle.pc_bst.specs.declared.kind.NodeKind.{NodeKind}
use Rattle.pc_bst.specs.declared.kind.NodeKind.TheVariants.{Plain, Balanced}
use Rattle.pc_bst.specs.declared.tree_put.PutPhase.{PutPhase}
use Rattle.pc_bst.specs.declared.tree_put.PutPhase.TheVariants.{Walking, Reading, Ended}
use Rattle.pc_bst.specs.declared.tree_put.TreePut.{TreePut}
use Rattle.pc_bst.specs.Kinds.{kind_of, leaf_parent, leaf_height, leaf_charges}
use Rattle.pc_plan.specs.EndLaws.{IsChange, EndsInChange}
use Rattle.pc_bst.specs.Puts.{value_changed, leaf_added, put_at, put_of, with_walk, in_phase, put_passes, put_reads}
use Rattle.pc_bst.specs.Puts.{put_walked, put_told, put_moves}
use Rattle.pc_bst.specs.PutEnds.{link_field, value_end, leaf_end}

-- On sound cells: the course of a put, which ends in a right exchange.

abbrev put_terms : ℕ × ℕ → Terms
put_terms p = map_terms (Put p.0 p.1)

abbrev pub PutsRight : NodeKind → ℕ → Cells → Pairs → ℕ × ℕ → List Event → Ask → Type 0
PutsRight kind slots c ps call past a = EndsRight (tree_form (kind_of kind)) slots c ps (put_terms call) past a
    × IsChange a

module _ (kind : NodeKind) (slots : ℕ) (c : Cells) (ps : Pairs) (call : ℕ × ℕ)
    (ready : IsReady (tree_form (kind_of kind)) slots c ps) (pair : IsPair call) where
  tree : IsSearchTree (kind_of kind) slots c ps
  tree = ready.is_sound

  abbrev k : ℕ
  k = call.0

  abbrev Goes : ℕ → List Event → TreePut × Ask → Type 0
  Goes turns past s = Course slots c put_moves (PutsRight kind slots c ps call) s.1 turns past s.0

  abbrev walking : ℕ → Walk → TreePut
  walking x w = put_at kind w call.1 x Walking

  abbrev walked : ℕ → Walk → Step → TreePut × Ask
  walked x w s = put_walked (walking x w) w s

  put_course : Goes (6 * slots + (1 + 3)) [] (put_moves (put_of kind call) Begin)
  put_course = walk_to_key_below slots c (kind_of kind) ps ready.few tree k put_moves (PutsRight kind slots c ps call)
      walking walked
      (λ x w t. refl) (λ x w n. refl) (λ x w n f. refl)
      (λ x w y ne. cond-false (y == w.key) (put_reads (walking x w) w) (put_passes (walking x w) w y)
      (ne_eqb y w.key (λ e. ne (sym e))))
      1 (λ l r. 1) (λ l r. omega arith)
      (λ x q s n l r h is_key e past unseen_l unseen_r.
      let w : Walk = walk_at slots c (kind_of kind) ps ready.few tree k (left_node slots c (kind_of kind) ps ready.few
      tree k q s) n Choice in
      let node : IsTreeNode (kind_of kind) slots c q n = h.spelled.1 in
      let slot : IsSlot slots n = node.slot in
      let there : value_at k ps ≡ Some (c n ValueField) = value_at-hole (kind_of kind) slots c ps tree.tree k q
      (link_of s) n l r tree.rising h (sym e) in
      let next : walked x w (Here (c n KeyField)) ≡ put_reads (walking x w) w
      = cond-true (c n KeyField == k) (put_reads (walking x w) w) (put_passes (walking x w) w (c n KeyField))
      (eq-eqb (c n KeyField) k (sym e)) in
      let past1 : List Event = found n ValueField (c n ValueField) ∷ past in
      subst (Goes 1 past) (sym next) (
        (omega arith, omega arith),
        (
          (
            sym (ap was_or_new there),
            λ slot takes. value_end kind slots c ps k call.1 tree pair.0 pair.1 q s past1 slot w.above n l r h
                (sym e),
          ),
          tt,
        ),
      ))
      (λ x q s a h is_key past.
      let missing : value_at k ps ≡ None = value_at-empty_hole (kind_of kind) slots c ps tree.tree k q (link_of s)
      h in (
        (
          sym (ap was_or_new missing),
          λ slot takes. leaf_end kind slots c ps k call.1 tree pair.0 pair.1 q s past slot a x is_key h takes.0
              takes.1,
        ),
        tt,
      ))

put_runs : (kind : NodeKind) → Runs (put_of kind) put_moves IsPair put_terms (tree_form (kind_of kind))
put_runs kind = runs_by_course (put_of kind) put_moves IsPair put_terms (tree_form (kind_of kind)) (PutsRight kind)
    (λ slots c ps call past a h. h.0)
    (λ slots. 6 * slots + (1 + 3)) (λ slots. omega arith)
    (λ slots c ps call ready pair. put_course kind slots c ps call ready pair)

-- on sound cells a put never answers: it ends in an exchange
pub put_ends : (kind : NodeKind)
    → EndsInChange (put_of kind) put_moves IsPair (tree_form (kind_of kind)) (λ call ps. Unit {0})
put_ends kind = changes_by_course (put_of kind) put_moves IsPair put_terms (tree_form (kind_of kind)) (PutsRight kind)
    (λ slots c ps call past a h. h.0) (λ slots. 6 * slots + (1 + 3)) (λ slots. omega arith)
    (λ slots c ps call ready pair. put_course kind slots c ps call ready pair)
    (λ call ps. Unit {0}) (λ slots c ps call past a such h. change_or_answer a h.1)

-- Whatever it is told.

-- the key and the value fit
abbrev ArePutNumbers : TreePut → Type 0
ArePutNumbers p = (p.walk.key < 2 ^ 62) × (p.value < 2 ^ 62)

abbrev PutStands : List Event → TreePut → Ask → PutPhase → Type 0
PutStands past p a Walking = ArePutNumbers p × Waits past p.walk a
PutStands past p a Reading = ArePutNumbers p × (a ≡ AskRead p.walk.node ValueField) × HasCome past p.walk
    × (reads_since_visit past ≡ 1)
PutStands past p a Ended = IsLawfulAsk past a

abbrev PutKeeps : List Event → TreePut × Ask → Type 0
PutKeeps past s = PutStands past s.0 s.1 s.0.phase

value_lawful : (past : List Event) (w : Walk) (old value : ℕ) → HasCome past w → value < 2 ^ 62
    → IsLawfulChange (found w.node ValueField old ∷ past) (planned_by (value_changed w old value))
value_lawful past w old value come fits = lawful_by_nodes (found w.node ValueField old ∷ past)
    (value_changed w old value) (record {
      some = λ e. absurd (cc);
      few = omega arith;
      nodes = (
        record {
          seen = come.seen;
          small = come.small;
          told = (
            (
              number_seen-here w.node ValueField old past,
              fits,
              λ e. absurd (cc),
            ),
            tt,
          );
          fields = (refl, tt);
        },
        tt,
      );
      mark = tt;
      different = (refl, tt);
      fresh = tt;
      few_charges = omega arith;
    })

few_leaf_charges : (kind : NodeKind) (n x : ℕ) → length (leaf_charges kind n x) ≤ 4
few_leaf_charges Plain n x = omega arith
few_leaf_charges Balanced n x = cond_both (n == 1) [] (x ∷ []) (λ (keys : List ℕ). length keys ≤ 4) (λ _. omega arith)
    (λ _. omega arith)

small_height : (kind : NodeKind) → leaf_height kind < 2 ^ 62
small_height Plain = omega arith
small_height Balanced = omega arith

-- the leaf names no node above it, or one that was visited
parent_told : (kind : NodeKind) (past : List Event) (n v : ℕ) → version_seen n past ≡ Some v
    → (leaf_parent kind n ≡ 0) ⊎ IsSome (version_seen (leaf_parent kind n) past)
parent_told Plain past n v seen = inl refl
parent_told Balanced past n v seen = inr (is_some-seen n v past seen)

leaf_lawful : (past : List Event) (p : TreePut) (s : Side) (link : ℕ) → HasCome past p.walk
    → number_seen p.walk.node (link_of s) past ≡ Some link → ArePutNumbers p
    → IsLawfulChange past (planned_by (leaf_added p s link))
leaf_lawful past p s link come told numbers = lawful_by_nodes past (leaf_added p s link) (record {
  some = λ e. absurd (cc);
  few = omega arith;
  nodes = (
    record {
      seen = come.seen;
      small = come.small;
      told = ((told, tt, λ e. refl), tt);
      fields = (link_field s, tt);
    },
    tt,
  );
  mark = tt;
  different = (refl, tt);
  fresh = record {
    key = numbers.0;
    value = numbers.1;
    height = small_height p.kind;
    parent = parent_told p.kind past p.walk.node p.walk.version come.seen;
  };
  few_charges = few_leaf_charges p.kind p.walk.node p.above_key;
})

walked_keeps : (past : List Event) (p : TreePut) (w : Walk) (s : Step) → ArePutNumbers (with_walk p w)
    → StepStands past w s → PutKeeps past (put_walked (in_phase p Walking) w s)
walked_keeps past p w (Visit n) numbers h = (numbers, h)
walked_keeps past p w (Read n f) numbers h = (numbers, h)
walked_keeps past p w (Here x) numbers h =
    let one : reads_since_visit past ≡ 1 = h.2 in
    let at : TreePut = in_phase p Walking in
    cond_both (x == w.key) (put_reads at w) (put_passes at w x) (PutKeeps past)
    (λ _. (numbers, refl, h.0.come, one))
    (λ _. (numbers, goes_on past w x h.0.come (omega arith)))
walked_keeps past p w (Missing s link) numbers h = leaf_lawful past (in_phase (with_walk p w) Walking) s link h.0 h.1
    numbers
walked_keeps past p w Astray numbers h = tt

put_keeps : (past : List Event) (p : TreePut) (a : Ask) (phase : PutPhase) (t : Told) → IsWord t
    → PutStands past p a phase
    → PutKeeps (learned a t past) (put_told (in_phase p phase) phase t)
put_keeps past p a Walking t word h =
    let key : (walk_step p.walk t).0.key < 2 ^ 62 = subst (λ (x : ℕ). x < 2 ^ 62) (sym (walk_keeps_key p.walk t))
    h.0.0 in
    walked_keeps (learned a t past) p (walk_step p.walk t).0 (walk_step p.walk t).1 (key, h.0.1)
    (walk_stands past p.walk a t word h.1)
put_keeps past p a Reading Begin word h = tt
put_keeps past p a Reading (Version v) word h = tt
put_keeps past p a Reading (Number old) word h =
    subst (λ (x : Ask). PutKeeps (learned x (Number old) past) (put_told (in_phase p Reading) Reading (Number old)))
    (sym h.1)
    (value_lawful past p.walk old p.value h.2 h.0.1)
put_keeps past p a Ended t word h = tt

put_stands : (past : List Event) (p : TreePut) (a : Ask) (phase : PutPhase) → PutStands past p a phase
    → IsLawfulAsk past a
put_stands past p a Walking h = waits_lawful past p.walk a h.1
put_stands past p a Reading h =
    let one : reads_since_visit past ≡ 1 = h.3 in
    let lawful : IsLawfulAsk past (AskRead p.walk.node ValueField) = (
      is_some-seen p.walk.node p.walk.version past
          h.2.seen,
      omega arith,
    ) in
    subst (IsLawfulAsk past) (sym h.1) lawful
put_stands past p a Ended h = h

put_lawful : (kind : NodeKind) → IsLawful (put_of kind) put_moves IsPair
put_lawful kind = record {
  first = λ call pair. refl;
  asks = λ call ts pair words.
      let s : TreePut × Ask = reached (put_of kind) put_moves call ts in
      put_stands (learned_along put_moves [] (put_moves (put_of kind call) Begin) ts) s.0 s.1 s.0.phase
      (kept_along put_moves PutKeeps (λ past s t word h. put_keeps past s.0 s.1 s.0.phase t word h) ts []
      (put_moves (put_of kind call) Begin) words
      ((omega (arith, pair.0), omega (arith, pair.1)), (refl, refl, inl refl)));
}

pub put_laws : (kind : NodeKind)
    → PlanLaws (put_of kind) put_moves IsPair (λ p. map_terms (Put p.0 p.1)) (tree_form (kind_of kind))
put_laws kind = record {
  runs = put_runs kind;
  lawful = put_lawful kind;
  form_laws = tree_form_laws (kind_of kind);
  settles_nothing = λ call reply some. refl;
}
