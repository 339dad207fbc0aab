-- The course of a search on a tree that stands still: at each link the nearest pair is in the subtree
-- there, or else it is the one that is remembered.
use Rattle.std.proofs.Common.{◌≡◌, ◌≢◌, ℕ, suc, ◌+◌, ◌*◌, ◌<◌, ◌≤◌, ◌==◌, ⊎_elim, List, [], ◌∷◌, Option, Some, None}
use Rattle.std.proofs.Common.{refl, sym, ap, ◌∙◌, subst, arith}
use Rattle.std.proofs.lemmas.Bool.{cases_order, eqb-true, eqb-false, cond-true, cond-false, cond_both}
use Rattle.pc_model.specs.declared.call.Reply.TheVariants.{Pair}
use Rattle.pc_model.specs.declared.cell.Field.TheVariants.{Key as KeyField, Value as ValueField}
use Rattle.pc_model.specs.declared.cell.Side.{Side}
use Rattle.pc_model.specs.declared.cell.Side.TheVariants.{Left, Right}
use Rattle.pc_model.specs.Map.{Pairs, found_or, pair_or_nothing}
use Rattle.pc_model.specs.Cells.{Cells, IsSlot, IsNode}
use Rattle.pc_model.specs.Sides.{link_of}
use Rattle.pc_model.specs.Trees.{Tree, Fork, Kind, IsTreeNode, pair_of, pairs_of, IsSearchTree}
use Rattle.pc_model.specs.TreeForms.{ordered_form}
use Rattle.pc_model.proofs.Framing.{Apart}
use Rattle.pc_model.proofs.Holes.{hole_apart}
use Rattle.pc_model.proofs.SortedLists.{found_or-None}
use Rattle.pc_plan.specs.declared.plan.Ask.{Ask}
use Rattle.pc_plan.specs.declared.plan.Ask.TheVariants.{Read as AskRead}
use Rattle.pc_plan.specs.declared.plan.Told.TheVariants.{Begin}
use Rattle.pc_plan.specs.declared.walk.Awaited.{Awaited}
use Rattle.pc_plan.specs.declared.walk.Awaited.TheVariants.{Choice, Link}
use Rattle.pc_plan.specs.declared.walk.Walk.{Walk}
use Rattle.pc_plan.specs.declared.walk.Step.TheVariants.{Here}
use Rattle.pc_plan.specs.Terms.{map_terms}
use Rattle.pc_plan.specs.Traces.{Event, found}
use Rattle.pc_plan.proofs.Courses.{Course, more_turns, EndsRight}
use Rattle.pc_plan.proofs.Unseen.{IsUnseen}
use Rattle.pc_plan.proofs.WalkCourses.{HoleAt, left_node, walk_at, toward_left, toward_right, walk_course}
use Rattle.pc_order.specs.declared.search.Search.{Search}
use Rattle.pc_order.specs.declared.search.SearchPhase.TheVariants.{Walking}
use Rattle.pc_order.specs.Searches.{call_on, is_on, search_at, search_of, ended, going_on, reading_value, walked}
use Rattle.pc_order.specs.Searches.{remembered, search_moves}
use Rattle.pc_order.specs.Nearest.{nearest_on, kept_on, nearest-reply, nearest-stays, nearest-none, off_differs}
use Rattle.pc_order.specs.Nearest.{nearest-hole, nearest-before, nearest-behind}

-- the key that a search met last, and the pair that it remembers
abbrev pub Recalled : Type 0
Recalled = ℕ × Option (ℕ × ℕ)

module _ (side : Side) (slots : ℕ) (c : Cells) (kind : Kind) (ps : Pairs) (few : slots ≤ 61000)
    (tree : IsSearchTree kind slots c ps) (k : ℕ) where
  abbrev pub Wanted : List Event → Ask → Type 0
  Wanted past a = EndsRight ordered_form slots c ps (map_terms (call_on side k)) past a

  abbrev pub Goes : ℕ → List Event → Search × Ask → Type 0
  Goes turns past s = Course slots c search_moves Wanted s.1 turns past s.0

  abbrev HoleHere : ℕ → Side → Tree → Type 0
  HoleHere q s t = HoleAt slots c kind ps few tree k q s t

  more : (m n : ℕ) (past : List Event) (s : Search × Ask) → m ≤ n → Goes m past s → Goes n past s
  more m n past s le go = more_turns slots c search_moves Wanted m n s.1 past s.0 le go

  answers : (turns : ℕ) (past : List Event) (s : Search) (o : Option (ℕ × ℕ)) → nearest_on side k ps ≡ o
      → Goes turns past (ended s (pair_or_nothing o))
  answers turns past s o e = (ap pair_or_nothing (sym e) ∙ nearest-reply side k ps, nearest-stays side k ps, tt)

  -- the nearest pair is in the subtree, or else it is this one
  abbrev IsInOr : Tree → Option (ℕ × ℕ) → Type 0
  IsInOr t o = nearest_on side k ps ≡ found_or (nearest_on side k (pairs_of c t)) o

  abbrev walking : Recalled → Walk → Search
  walking d w = search_at side w Walking d.0 d.1

  -- a search whose walk has come to a node below a link of another one, and one that reads a link there
  abbrev below : Recalled → ℕ → Side → ℕ → Awaited → Search
  below d q s n a = walking d (walk_at slots c kind ps few tree k (left_node slots c kind ps few tree k q s) n a)

  abbrev on_link : Recalled → ℕ → Side → ℕ → Side → Search × Ask
  on_link d q s n t = (below d q s n (Link t), AskRead n (link_of t))

  -- At a node whose key was told.
  module _ (q : ℕ) (s : Side) (n : ℕ) (l r : Tree) (h : HoleHere q s (Fork n l r)) (turns : ℕ)
      (to_left : (d : Recalled) → k < c n KeyField → (past : List Event) → IsInOr l d.1 → IsUnseen l past
      → Goes turns past (on_link d q s n Left))
      (to_right : (d : Recalled) → c n KeyField < k → (past : List Event) → IsInOr r d.1 → IsUnseen r past
      → Goes turns past (on_link d q s n Right)) where
    abbrev key : ℕ
    key = c n KeyField

    node : IsNode slots n
    node = let tree_node : IsTreeNode kind slots c q n = h.spelled.1 in
        let slot : IsSlot slots n = tree_node.slot in (omega arith, omega arith)

    apart : Apart c n l r
    apart = hole_apart kind slots c ps tree.tree k q (link_of s) n l r tree.rising h

    -- a search that remembers what it met so far goes on toward its key
    goes_on : (d : Recalled) (past : List Event) (o : Option (ℕ × ℕ)) → key ≢ k → IsInOr (Fork n l r) o
        → kept_on side k (pair_of c n) o ≡ d.1 → IsUnseen l past → IsUnseen r past
        → Goes turns past (going_on (below d q s n Choice) key)
    goes_on d past o other near kept unseen_l unseen_r = ⊎_elim (λ same. absurd (other (sym same))) (λ sides. ⊎_elim
        (λ less. let near_l : IsInOr l d.1
        = near ∙ nearest-before k (pairs_of c l) (pair_of c n) (pairs_of c r) o side apart.above less
        ∙ ap (found_or (nearest_on side k (pairs_of c l))) kept in
        subst (λ (x : Side). Goes turns past (on_link d q s n x)) (sym (toward_left k key less))
        (to_left d less past near_l unseen_l))
        (λ more. let near_r : IsInOr r d.1
        = near ∙ nearest-behind k (pairs_of c l) (pair_of c n) (pairs_of c r) o side apart.below more
        ∙ ap (found_or (nearest_on side k (pairs_of c r))) kept in
        subst (λ (x : Side). Goes turns past (on_link d q s n x)) (sym (toward_right k key (omega arith)))
        (to_right d more past near_r unseen_r))
        sides) (cases_order k key)

    -- the pair is remembered where it lies on the side; where it has the key the search ends
    meets : (d : Recalled) (past : List Event) → IsInOr (Fork n l r) d.1 → IsUnseen l past → IsUnseen r past
        → Goes (suc turns) past (walked (below d q s n Choice) (Here key))
    meets d past near unseen_l unseen_r =
        let here : Search = below d q s n Choice in
        let v : ℕ = c n ValueField in
        let kept : Search = remembered (reading_value here key).0 v in
        let past1 : List Event = found n ValueField v ∷ past in
        cond_both (is_on side k key) (reading_value here key) (going_on here key) (Goes (suc turns) past)
        (λ on. (
          node,
          cond_both (key == k) (ended kept (Pair key v)) (going_on kept key) (Goes turns past1)
              (λ same. answers turns past1 kept (Some (pair_of c n))
              (nearest-hole side kind slots c ps tree.tree k q (link_of s) n l r tree.rising h (eqb-true key k same)))
              (λ other. goes_on (key, Some (pair_of c n)) past1 d.1 (eqb-false key k other) near
              (cond-true (is_on side k key) (Some (pair_of c n)) d.1 on) unseen_l unseen_r),
        ))
        (λ off. more turns (suc turns) past (going_on here key) (omega arith)
        (goes_on d past d.1 (off_differs side k key off) near
        (cond-false (is_on side k key) (Some (pair_of c n)) d.1 off) unseen_l unseen_r))

  -- the whole search
  pub search_course : Goes (6 * slots + 3) [] (search_moves (search_of side k) Begin)
  search_course = walk_course slots c kind ps few tree k search_moves Wanted walking (λ d w s. walked (walking d w) s)
      (λ d w t. refl) (λ d w n. refl) (λ d w n f. refl) (λ d q s t h. IsInOr t d.1) 0
      (λ d q s n l r h near past turns le unseen_l unseen_r to_left to_right.
      more (suc turns) (suc (suc (suc turns))) past (walked (below d q s n Choice) (Here (c n KeyField))) (omega arith)
      (meets q s n l r h turns to_left to_right d past near unseen_l unseen_r))
      (λ d q s a h near past. answers 0 past (walking d (walk_at slots c kind ps few tree k a q (Link s))) d.1
      (near ∙ ap (λ (o : Option (ℕ × ℕ)). found_or o d.1) (nearest-none side k)))
      (0, None) (ap (nearest_on side k) (sym tree.pairs) ∙ found_or-None (nearest_on side k (pairs_of c tree.tree)))
