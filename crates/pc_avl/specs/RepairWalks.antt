-- The course of the repair of a key on a balanced tree that stands still: its walk, and the course from its
-- node on.
use Rattle.std.proofs.Common.{◌≡◌, ◌≢◌, ℕ, suc, ◌+◌, ◌*◌, ◌≤◌, ◌==◌, ⊎_elim, inl, inr, List, [], ◌∷◌, None, refl, sym}
use Rattle.std.proofs.Common.{subst, arith}
use Rattle.std.proofs.lemmas.Bool.{eq-eqb, ne_eqb, cond-true, cond-false}
use Rattle.pc_model.specs.declared.cell.Field.TheVariants.{Key as KeyField, Left as LeftLink}
use Rattle.pc_model.specs.declared.cell.Field.TheVariants.{Right as RightLink, Parent, Height}
use Rattle.pc_model.specs.declared.cell.Side.{Side}
use Rattle.pc_model.specs.declared.cell.Side.TheVariants.{Left as OnLeft, Right as OnRight}
use Rattle.pc_model.specs.Map.{Pairs, value_at}
use Rattle.pc_model.specs.Cells.{Cells, IsSlot, IsNode}
use Rattle.pc_model.specs.Sides.{link_of, opposite}
use Rattle.pc_model.specs.Trees.{Tree, Empty, Fork, balanced, IsTreeNode, Spells, IsIn, size_of}
use Rattle.pc_model.specs.Trees.{IsSearchTree}
use Rattle.pc_model.specs.TreeForms.{tree_form}
use Rattle.pc_model.proofs.Framing.{Apart}
use Rattle.pc_model.proofs.Holes.{Hole, hole_apart}
use Rattle.pc_model.proofs.TreeNodes.{zero_outside}
use Rattle.pc_model.proofs.HolePairs.{value_at-empty_hole}
use Rattle.pc_model.proofs.NodeKeys.{absent_not_in_debt}
use Rattle.pc_plan.specs.declared.plan.Ask.{Ask}
use Rattle.pc_plan.specs.declared.plan.Told.TheVariants.{Begin}
use Rattle.pc_plan.specs.declared.walk.Walk.{Walk}
use Rattle.pc_plan.specs.declared.walk.Step.{Step}
use Rattle.pc_plan.specs.declared.walk.Step.TheVariants.{Here}
use Rattle.pc_plan.specs.declared.walk.Awaited.TheVariants.{Choice}
use Rattle.pc_plan.specs.Traces.{Event, found}
use Rattle.pc_plan.specs.Runs.{IsReady}
use Rattle.pc_plan.proofs.Unseen.{IsUnseen}
use Rattle.pc_plan.proofs.WalkCourses.{left_node, walk_at}
use Rattle.pc_plan.proofs.WalkKeys.{IsKeyOf, walk_to_key_below}
use Rattle.pc_avl.specs.declared.look.Looked.{Looked}
use Rattle.pc_avl.specs.declared.repair.Aim.TheVariants.{Exact}
use Rattle.pc_avl.specs.declared.repair.Place.TheVariants.{Node}
use Rattle.pc_avl.specs.declared.repair.Repair.{Repair}
use Rattle.pc_avl.specs.declared.repair.RepairPhase.TheVariants.{Looking}
use Rattle.pc_avl.specs.Looks.{missing, looked_in}
use Rattle.pc_avl.specs.Repairs.{nowhere, repair_of, repair_moves, walked, walks_on, arrives, placed}
use Rattle.pc_avl.specs.RepairLooks.{IsDue, anywhere, done_at, reads_on}
use Rattle.pc_avl.specs.RepairBelow.{tree_on, tree_on_in, InnerDue, ChildDue}
use Rattle.pc_avl.specs.RepairCourses.{Goes as GoesOn, MendsRight, seeks_left_goes}

-- The turns that are due where nothing was visited

abbrev pub due_of : Tree → ℕ
due_of Empty = 0
due_of (Fork n a b) = 6

-- for the child's child on a side, and for the inner child's child
abbrev pub due_on : Side → Tree → ℕ
due_on s Empty = 0
due_on s (Fork n a b) = due_of (tree_on s a b)

abbrev pub due_within : Side → Side → Tree → ℕ
due_within s t Empty = 0
due_within s t (Fork n a b) = due_on t (tree_on (opposite s) a b)

pub few_due : (t : Tree) → due_of t ≤ 6 * size_of t
few_due Empty = omega arith
few_due (Fork n a b) = omega arith

pub few_due_on : (t : Tree) → due_of t + (due_on OnLeft t + due_on OnRight t) ≤ 6 * size_of t
few_due_on Empty = omega arith
few_due_on (Fork n a b) = let x : due_of a ≤ 6 * size_of a = few_due a in
    let y : due_of b ≤ 6 * size_of b = few_due b in omega arith

-- all turns that may be due in a child's tree
abbrev pub due_in : Side → Tree → ℕ
due_in s t = due_of t + (due_on s t + (due_on (opposite s) t + (due_within s s t + due_within s (opposite s) t)))

pub few_due_in : (s : Side) (t : Tree) → due_in s t ≤ 6 * size_of t
few_due_in OnLeft Empty = omega arith
few_due_in OnRight Empty = omega arith
few_due_in OnLeft (Fork n a b) = let x : due_of a ≤ 6 * size_of a = few_due a in
    let y : due_of b + (due_on OnLeft b + due_on OnRight b) ≤ 6 * size_of b = few_due_on b in omega arith
few_due_in OnRight (Fork n a b) = let x : due_of b ≤ 6 * size_of b = few_due b in
    let y : due_of a + (due_on OnLeft a + due_on OnRight a) ≤ 6 * size_of a = few_due_on a in omega arith

-- what stands at a place is no node of a tree
abbrev pub IsNotOf : Looked → Tree → Type 0
IsNotOf l u = (n : ℕ) → IsIn n u → l.node ≢ n

pub missing_not_of : (slots : ℕ) (c : Cells) (u : Tree) (w v : ℕ) → Spells balanced slots c u w v → IsNotOf missing u
missing_not_of slots c u w v spelled n i e = zero_outside balanced slots c u w v n spelled (sym e) i

not_of_on : (s : Side) (l : Looked) (n : ℕ) (a b : Tree) → IsNotOf l (Fork n a b) → IsNotOf l (tree_on s a b)
not_of_on s l n a b out m i = out m (tree_on_in s m n a b i)

-- a root that wasn't visited is due at a place where another node stands, or none
module _ (c : Cells) (past : List Event) where
  pub due_unseen : (u : Tree) (l : Looked) (due : ℕ) → IsNotOf l u → due_of u ≤ due → IsUnseen u past → IsDue c past u l due
  due_unseen Empty l due out enough unseen = tt
  due_unseen (Fork i a b) l due out enough unseen =
      inr (out i (inl refl), unseen i (inl refl), omega (arith, enough))

  unseen_on : (s : Side) (n : ℕ) (a b : Tree) → IsUnseen (Fork n a b) past → IsUnseen (tree_on s a b) past
  unseen_on s n a b unseen m i = unseen m (tree_on_in s m n a b i)

  inner_unseen : (s : Side) (u : Tree) (near far : Looked) (near_turns far_turns : ℕ) → IsNotOf near u → IsNotOf far u
      → due_on s u ≤ near_turns → due_on (opposite s) u ≤ far_turns → IsUnseen u past → InnerDue s c past u near far near_turns far_turns
  inner_unseen s Empty near far near_turns far_turns no_near no_far for_near for_far unseen = tt
  inner_unseen s (Fork g a b) near far near_turns far_turns no_near no_far for_near for_far unseen = (
    due_unseen (tree_on s a b) near near_turns (not_of_on s near g a b no_near) for_near (unseen_on s g a b unseen),
    due_unseen (tree_on (opposite s) a b) far far_turns (not_of_on (opposite s) far g a b no_far) for_far
        (unseen_on (opposite s) g a b unseen),
  )

  pub child_unseen : (s : Side) (u : Tree) (outer inner near far : Looked) (outer_turns inner_turns near_turns far_turns : ℕ) → IsNotOf outer u
      → IsNotOf inner u → IsNotOf near u → IsNotOf far u → due_on s u ≤ outer_turns → due_on (opposite s) u ≤ inner_turns
      → due_within s s u ≤ near_turns → due_within s (opposite s) u ≤ far_turns → IsUnseen u past
      → ChildDue s c past u outer inner near far outer_turns inner_turns near_turns far_turns
  child_unseen s Empty outer inner near far outer_turns inner_turns near_turns far_turns no_o no_i no_n no_f for_o for_i for_n for_f unseen = tt
  child_unseen s (Fork y a b) outer inner near far outer_turns inner_turns near_turns far_turns no_o no_i no_n no_f for_o for_i for_n for_f unseen = (
    due_unseen (tree_on s a b) outer outer_turns (not_of_on s outer y a b no_o) for_o (unseen_on s y a b unseen),
    due_unseen (tree_on (opposite s) a b) inner inner_turns (not_of_on (opposite s) inner y a b no_i) for_i
        (unseen_on (opposite s) y a b unseen),
    inner_unseen s (tree_on (opposite s) a b) near far near_turns far_turns (not_of_on (opposite s) near y a b no_n)
        (not_of_on (opposite s) far y a b no_f) for_n for_f (unseen_on (opposite s) y a b unseen),
  )

-- all turns that may be due where nothing is known below a node
module _ (l r : Tree) where
  abbrev pub on_outer : ℕ
  on_outer = due_on OnLeft l + due_on OnRight r

  abbrev pub on_inner : ℕ
  on_inner = due_on OnRight l + due_on OnLeft r

  abbrev pub on_near : ℕ
  on_near = due_within OnLeft OnLeft l + due_within OnRight OnRight r

  abbrev pub on_far : ℕ
  on_far = due_within OnLeft OnRight l + due_within OnRight OnLeft r

  abbrev pub all_due : ℕ
  all_due = due_of l + (due_of r + (on_outer + (on_inner + (on_near + (on_far + 0)))))

  pub few_all_due : all_due ≤ 6 * (size_of l + size_of r)
  few_all_due =
      let a : due_in OnLeft l ≤ 6 * size_of l = few_due_in OnLeft l in
      let b : due_in OnRight r ≤ 6 * size_of r = few_due_in OnRight r in
      omega arith

module _ (slots : ℕ) (c : Cells) (ps : Pairs) (k : ℕ) (ready : IsReady (tree_form balanced) slots c ps) where
  abbrev tree : IsSearchTree balanced slots c ps
  tree = ready.is_sound

  abbrev Goes : ℕ → List Event → Repair × Ask → Type 0
  Goes turns past s = GoesOn slots c ps Exact k ready turns past s

  abbrev walking : ℕ → Walk → Repair
  walking x w = record (repair_of Exact k) { walk = w; above = record { above = nowhere.above; key = x } }

  abbrev steps : ℕ → Walk → Step → Repair × Ask
  steps x w s = walked (walking x w) w s

  -- at the node with the key
  at_key : (x q : ℕ) (s : Side) (n : ℕ) (l r : Tree) → (h : Hole balanced slots c ps tree.tree k q (link_of s)
      (Fork n l r)) → IsKeyOf c q x → k ≡ c n KeyField → (past : List Event) → IsUnseen l past → IsUnseen r past
      → Goes (suc (suc (suc (suc (all_due l r))))) past
      (steps x (walk_at slots c balanced ps ready.few tree k (left_node slots c balanced ps ready.few tree k q s) n
      Choice) (Here (c n KeyField)))
  at_key x q s n l r h is_key e past unseen_l unseen_r =
      let w : Walk = walk_at slots c balanced ps ready.few tree k
      (left_node slots c balanced ps ready.few tree k q s) n Choice in
      let node : IsTreeNode balanced slots c q n = h.spelled.1 in
      let slot : IsSlot slots n = node.slot in
      let is_n : IsNode slots n = (omega arith, omega arith) in
      let apart : Apart c n l r = hole_apart balanced slots c ps tree.tree k q (link_of s) n l r tree.rising h in
      let r' : Repair = record (walking x w) { above = record { above = w.above; key = x } } in
      let here : steps x w (Here (c n KeyField)) ≡ arrives (walking x w) w (c n KeyField)
      = cond-true (c n KeyField == k) (arrives (walking x w) w (c n KeyField))
      (walks_on (walking x w) w (c n KeyField)) (eq-eqb (c n KeyField) k (sym e)) in
      let no_l : IsNotOf missing l = missing_not_of slots c l n (c n LeftLink) h.spelled.2 in
      let no_r : IsNotOf missing r = missing_not_of slots c r n (c n RightLink) h.spelled.3 in
      let past1 : List Event = found n LeftLink (c n LeftLink) ∷ past in
      let past2 : List Event = found n RightLink (c n RightLink) ∷ past1 in
      let past3 : List Event = found n Parent (c n Parent) ∷ past2 in
      let past4 : List Event = found n Height (c n Height) ∷ past3 in
      subst (Goes (suc (suc (suc (suc (all_due l r))))) past) (sym here)
      (reads_on slots c ready.few (MendsRight slots c ps Exact k ready) r' Node n (all_due l r) past is_n
      (seeks_left_goes slots c ps Exact k ready q s n x l r h is_key (sym e) 0 (on_outer l r) (on_inner l r)
      (on_near l r) (on_far l r) (placed (anywhere r' (done_at c n) (Looking Node)) Node (looked_in c n)) past4
      (due_of l) (due_of r)
      (record { aims = refl; above = refl; node = refl })
      (due_unseen c past4 l missing (due_of l) no_l (omega arith) unseen_l)
      (due_unseen c past4 r missing (due_of r) no_r (omega arith) unseen_r)
      (record {
        left = child_unseen c past4 OnLeft l missing missing missing missing (on_outer l r) (on_inner l r) (on_near l r)
            (on_far l r) no_l no_l no_l no_l (omega arith) (omega arith) (omega arith)
            (omega arith) unseen_l;
        right = child_unseen c past4 OnRight r missing missing missing missing (on_outer l r) (on_inner l r)
            (on_near l r) (on_far l r) no_r no_r no_r no_r (omega arith) (omega arith)
            (omega arith) (omega arith) unseen_r;
      }) (
        inl refl,
        (
          inr (inr (λ i. h.apart (inr i))),
          (
            inr (inr (λ i. ⊎_elim apart.not_left apart.not_right i)),
            (inl refl, (inl refl, (inl refl, (inl refl, (inl refl, (inl refl, tt)))))),
          ),
        ),
      )))

  -- the whole course
  pub repair_course : Goes (6 * slots + (4 + 3)) [] (repair_moves (repair_of Exact k) Begin)
  repair_course = walk_to_key_below slots c balanced ps ready.few tree k repair_moves
      (MendsRight slots c ps Exact k ready) walking steps
      (λ x w t. refl) (λ x w n. refl) (λ x w n f. refl)
      (λ x w y ne. cond-false (y == w.key) (arrives (walking x w) w y) (walks_on (walking x w) w y)
      (ne_eqb y w.key (λ e. ne (sym e))))
      4 (λ l r. suc (suc (suc (suc (all_due l r)))))
      (λ l r. let few : all_due l r ≤ 6 * (size_of l + size_of r) = few_all_due l r in omega arith)
      (λ x q s n l r h is_key e past unseen_l unseen_r. at_key x q s n l r h is_key e past unseen_l unseen_r)
      (λ x q s a h is_key past.
      let absent : value_at k ps ≡ None = value_at-empty_hole balanced slots c ps tree.tree k q (link_of s) h in
      ((tt, refl, inr (absent_not_in_debt slots c ps tree k absent)), inl (absent, refl)))
