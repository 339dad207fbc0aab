-- The course of a walk to a key on a search tree that stands still, for a plan that keeps the key of the
-- node above the one that it has come to, and stops at its key: what it does there, and at the walk's end.
use Rattle.std.proofs.Common.{◌≡◌, ◌≢◌, ℕ, suc, ◌+◌, ◌*◌, ◌≤◌, ⊎_elim, List, [], refl, sym, ap, ◌∙◌, subst, arith}
use Rattle.std.proofs.lemmas.Bool.{cases_order}
use Rattle.pc_model.specs.declared.cell.Field.{Field}
use Rattle.pc_model.specs.declared.cell.Field.TheVariants.{Key as KeyField}
use Rattle.pc_model.specs.declared.cell.Side.{Side}
use Rattle.pc_model.specs.declared.cell.Side.TheVariants.{Left, Right}
use Rattle.pc_model.specs.Map.{Pairs}
use Rattle.pc_model.specs.Cells.{Cells}
use Rattle.pc_model.specs.Sides.{link_of}
use Rattle.pc_model.specs.Trees.{Tree, Empty, Fork, Kind, size_of, IsSearchTree}
use Rattle.pc_plan.specs.declared.plan.Ask.{Ask}
use Rattle.pc_plan.specs.declared.plan.Ask.TheVariants.{Visit as AskVisit, Read as AskRead}
use Rattle.pc_plan.specs.declared.plan.Told.{Told}
use Rattle.pc_plan.specs.declared.plan.Told.TheVariants.{Begin}
use Rattle.pc_plan.specs.declared.walk.Above.{Above}
use Rattle.pc_plan.specs.declared.walk.Awaited.{Awaited}
use Rattle.pc_plan.specs.declared.walk.Awaited.TheVariants.{Choice, Link}
use Rattle.pc_plan.specs.declared.walk.Walk.{Walk}
use Rattle.pc_plan.specs.declared.walk.Step.{Step}
use Rattle.pc_plan.specs.declared.walk.Step.TheVariants.{Visit, Read, Here, Missing}
use Rattle.pc_plan.specs.Traces.{Event}
use Rattle.pc_plan.specs.Walks.{walk_of, on_way, way, walk_step}
use Rattle.pc_plan.proofs.Courses.{Course, more_turns}
use Rattle.pc_plan.proofs.Unseen.{IsUnseen}
use Rattle.pc_plan.proofs.WalkCourses.{HoleAt, left_node, walk_at, toward_left, toward_right, walk_course}

-- the kept key is that of a node, or the node is the sentinel
abbrev pub IsKeyOf : Cells → ℕ → ℕ → Type 0
IsKeyOf c n x = n ≢ 1 → x ≡ c n KeyField

module _ (slots : ℕ) (c : Cells) (kind : Kind) (ps : Pairs) (few : slots ≤ 61000) (tree : IsSearchTree kind slots c ps)
    (k : ℕ) where
  abbrev below : ℕ → Side → ℕ → Awaited → Walk
  below q s n a = walk_at slots c kind ps few tree k (left_node slots c kind ps few tree k q s) n a

  abbrev HoleHere : ℕ → Side → Tree → Type 0
  HoleHere q s t = HoleAt slots c kind ps few tree k q s t

  module _ {P : Type 0} (moves : P → Told → P × Ask) (Wanted : List Event → Ask → Type 0) (walking : ℕ → Walk → P)
      (walked : ℕ → Walk → Step → P × Ask)
      (moved : (x : ℕ) (w : Walk) (t : Told) → moves (walking x w) t ≡ walked x (walk_step w t).0 (walk_step w t).1)
      (visits : (x : ℕ) (w : Walk) (n : ℕ) → walked x w (Visit n) ≡ (walking x w, AskVisit n))
      (reads : (x : ℕ) (w : Walk) (n : ℕ) (f : Field) → walked x w (Read n f) ≡ (walking x w, AskRead n f))
      (passes : (x : ℕ) (w : Walk) (y : ℕ) → w.key ≢ y
      → walked x w (Here y) ≡ (walking y (on_way w y), AskRead w.node (way w y)))
      -- so many turns come after it, and at its key so many
      (after : ℕ) (turns_at : Tree → Tree → ℕ)
      (enough : (l r : Tree) → turns_at l r ≤ 6 * (size_of l + size_of r) + after) where
    abbrev To : ℕ → List Event → P × Ask → Type 0
    To turns past s = Course slots c moves Wanted s.1 turns past s.0

    module _
        (at_key : (x q : ℕ) (s : Side) (n : ℕ) (l r : Tree) → HoleHere q s (Fork n l r) → IsKeyOf c q x
        → k ≡ c n KeyField → (past : List Event) → IsUnseen l past → IsUnseen r past
        → To (turns_at l r) past (walked x (below q s n Choice) (Here (c n KeyField))))
        (at_end : (x q : ℕ) (s : Side) (a : Above) → HoleHere q s Empty → IsKeyOf c q x → (past : List Event)
        → To after past (walked x (walk_at slots c kind ps few tree k a q (Link s)) (Missing s (c q (link_of s)))))
      where
        -- from a node with another key it goes on
        goes_on : (x q : ℕ) (s : Side) (n : ℕ) (to : Side) (past : List Event) (turns : ℕ) → k ≢ c n KeyField
            → way (below q s n Choice) (c n KeyField) ≡ link_of to
            → on_way (below q s n Choice) (c n KeyField) ≡ below q s n (Link to)
            → To turns past (walking (c n KeyField) (below q s n (Link to)), AskRead n (link_of to))
            → To (suc (suc (suc turns))) past (walked x (below q s n Choice) (Here (c n KeyField)))
        goes_on x q s n to past turns other field walk go =
            let y : ℕ = c n KeyField in
            let next : walked x (below q s n Choice) (Here y) ≡ (
              walking y (below q s n (Link to)),
              AskRead n (link_of to),
            ) = passes x (below q s n Choice) y other ∙ (λ i. (walking y (walk i), AskRead n (field i))) in
            subst (To (suc (suc (suc turns))) past) (sym next)
            (more_turns slots c moves Wanted turns (suc (suc (suc turns))) (AskRead n (link_of to)) past
            (walking y (below q s n (Link to))) (omega arith) go)

        pub walk_to_key_below : To (6 * slots + (after + 3)) [] (moves (walking 0 (walk_of k)) Begin)
        walk_to_key_below = walk_course slots c kind ps few tree k moves Wanted walking walked moved visits reads
            (λ x q s t h. IsKeyOf c q x) after
            (λ x q s n l r h good past turns le unseen_l unseen_r to_left to_right.
            let w : Walk = below q s n Choice in
            let y : ℕ = c n KeyField in
            ⊎_elim
            (λ e. let most : turns_at l r ≤ 6 * (size_of l + size_of r) + after = enough l r in
            more_turns slots c moves Wanted (turns_at l r) (suc (suc (suc turns))) (walked x w (Here y)).1 past
            (walked x w (Here y)).0 (omega arith)
            (at_key x q s n l r h good e past unseen_l unseen_r))
            (λ sides. ⊎_elim
            (λ less. goes_on x q s n Left past turns (λ e. absurd (omega arith)) (ap link_of (toward_left k y less))
            (λ i. below q s n (Link (toward_left k y less i)))
            (to_left y less past (λ _. refl) unseen_l))
            (λ more. let le : y ≤ k = omega arith in
            goes_on x q s n Right past turns (λ e. absurd (omega arith)) (ap link_of (toward_right k y le))
            (λ i. below q s n (Link (toward_right k y le i)))
            (to_right y more past (λ _. refl) unseen_r))
            sides) (cases_order k y))
            (λ x q s a h good past. at_end x q s a h good past) 0 (λ ne. absurd (ne refl))
