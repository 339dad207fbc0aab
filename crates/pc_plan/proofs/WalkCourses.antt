-- The course of a walk on a search tree that stands still, for every plan that begins with one. What the
-- plan keeps on the way is a parameter, with what is good of it at each hole; so are its steps at a node
-- whose key it was told, and at a link that names no node.
use Rattle.std.proofs.Common.{◌≡◌, ◌≢◌, ℕ, suc, ◌+◌, ◌*◌, ◌<◌, ◌≤◌, ◌==◌, inl, ⊎_elim, false, List, [], ◌∷◌, Some}
use Rattle.std.proofs.Common.{None, refl, sym, ap, ◌∙◌, subst, arith}
use Rattle.std.proofs.lemmas.Bool.{ne_eqb, cases_order, lt-ltb, le-ltb, cond-true, cond-false}
use Rattle.std.specs.Prelude.{nat_lt}
use Rattle.pc_model.specs.declared.cell.Field.{Field}
use Rattle.pc_model.specs.declared.cell.Field.TheVariants.{Version as VersionField, Key as KeyField, Left as LeftLink}
use Rattle.pc_model.specs.declared.cell.Field.TheVariants.{Right as RightLink}
use Rattle.pc_model.specs.Map.{Pairs}
use Rattle.pc_model.specs.Cells.{Cells, IsSlot, node_at}
use Rattle.pc_model.specs.Debts.{has}
use Rattle.pc_model.specs.Trees.{Tree, Empty, Fork, Kind, IsTreeNode, size_of, IsSearchTree}
use Rattle.pc_model.proofs.Framing.{Apart}
use Rattle.pc_model.proofs.Holes.{Hole, root_hole, hole_apart, left_hole, right_hole}
use Rattle.pc_model.proofs.Links.{node_at-node}
use Rattle.pc_model.proofs.Soundness.{search_tree_size}
use Rattle.pc_plan.specs.declared.plan.Ask.{Ask}
use Rattle.pc_plan.specs.declared.plan.Ask.TheVariants.{Visit as AskVisit, Read as AskRead}
use Rattle.pc_plan.specs.declared.plan.Told.{Told}
use Rattle.pc_plan.specs.declared.plan.Told.TheVariants.{Begin, Version, Number}
use Rattle.pc_model.specs.declared.cell.Side.{Side}
use Rattle.pc_model.specs.declared.cell.Side.TheVariants.{Left, Right}
use Rattle.pc_plan.specs.declared.walk.Above.{Above}
use Rattle.pc_plan.specs.declared.walk.Awaited.{Awaited}
use Rattle.pc_plan.specs.declared.walk.Awaited.TheVariants.{Version as AVersion, Key as AKey, Choice, Link}
use Rattle.pc_plan.specs.declared.walk.Walk.{Walk}
use Rattle.pc_plan.specs.declared.walk.Step.{Step}
use Rattle.pc_plan.specs.declared.walk.Step.TheVariants.{Visit, Read, Here, Missing, Astray}
use Rattle.pc_plan.specs.Traces.{Event, visited, found}
use Rattle.pc_model.specs.Sides.{link_of}
use Rattle.pc_plan.specs.Walks.{side_toward, walk_of, at_version, reading_link, following, on_way, way, walk_step}
use Rattle.pc_plan.proofs.Courses.{Course, more_turns}
use Rattle.pc_plan.proofs.Unseen.{IsUnseen, unseen_left, unseen_right, unseen_whole}

-- a node that was met neither here nor at the sentinel doesn't lead back
pub not_back : (n q : ℕ) → n ≢ q → n ≢ 1 → has n (q ∷ 1 ∷ []) ≡ false
not_back n q not_q not_1 =
    let a : (q == n) ≡ false = ne_eqb q n (λ e. not_q (sym e)) in
    let b : (1 == n) ≡ false = ne_eqb 1 n (λ e. not_1 (sym e)) in
    rw (a, b)

pub toward_left : (k x : ℕ) → k < x → side_toward k x ≡ Left
toward_left k x less = cond-true (nat_lt k x) Left Right (lt-ltb k x less)

pub toward_right : (k x : ℕ) → x ≤ k → side_toward k x ≡ Right
toward_right k x more = cond-false (nat_lt k x) Left Right (le-ltb k x more)

-- the node above the sentinel: none
abbrev pub nowhere : Above
nowhere = record { node = 0; side = Left; version = 0 }

module _ (slots : ℕ) (c : Cells) (kind : Kind) (ps : Pairs) (few : slots ≤ 61000) (tree : IsSearchTree kind slots c ps)
    (k : ℕ) where
  -- the hole at a link of a node, where the walk to the key passes
  abbrev pub HoleAt : ℕ → Side → Tree → Type 0
  HoleAt q s t = Hole kind slots c ps tree.tree k q (link_of s) t

  -- a node of these cells that is left by a link
  abbrev pub left_node : ℕ → Side → Above
  left_node q s = record { node = q; side = s; version = c q VersionField }

  -- a walk in these cells that has come to a node below another one
  abbrev pub walk_at : Above → ℕ → Awaited → Walk
  walk_at a n aw = record { key = k; node = n; awaited = aw; version = c n VersionField; above = a }

  pub left_of : (q : ℕ) (s : Side) (n : ℕ) (l r : Tree) → HoleAt q s (Fork n l r) → k < c n KeyField → HoleAt n Left l
  left_of q s n l r h less = left_hole kind slots c ps tree.tree k q (link_of s) n l r tree.rising less h

  pub right_of : (q : ℕ) (s : Side) (n : ℕ) (l r : Tree) → HoleAt q s (Fork n l r) → c n KeyField < k
      → HoleAt n Right r
  right_of q s n l r h more = right_hole kind slots c ps tree.tree k q (link_of s) n l r tree.rising more h

  -- the turns of a walk below a link, where so many come after it: six for each node that lies there
  abbrev pub walk_turns : ℕ → Tree → ℕ
  walk_turns after Empty = suc after
  walk_turns after (Fork n l r) = suc (suc (suc (suc (suc (suc (walk_turns after l + 6 * size_of r))))))

  walk_turns_are : (after : ℕ) (t : Tree) → walk_turns after t ≡ 6 * size_of t + suc after
  walk_turns_are after Empty = omega arith
  walk_turns_are after (Fork n l r) =
      let a : walk_turns after l ≡ 6 * size_of l + suc after = walk_turns_are after l in
      omega arith

  module _ {P D : Type 0} (moves : P → Told → P × Ask) (Wanted : List Event → Ask → Type 0)
      (walking : D → Walk → P) (walked : D → Walk → Step → P × Ask)
      (moved : (d : D) (w : Walk) (t : Told) → moves (walking d w) t ≡ walked d (walk_step w t).0 (walk_step w t).1)
      (visits : (d : D) (w : Walk) (n : ℕ) → walked d w (Visit n) ≡ (walking d w, AskVisit n))
      (reads : (d : D) (w : Walk) (n : ℕ) (f : Field) → walked d w (Read n f) ≡ (walking d w, AskRead n f))
      (Good : (d : D) (q : ℕ) (s : Side) (t : Tree) → HoleAt q s t → Type 0) (after : ℕ) where
    abbrev pub Goes : ℕ → List Event → P × Ask → Type 0
    Goes turns past s = Course slots c moves Wanted s.1 turns past s.0

    -- how the walk goes on from a node to one of its sides, with what the plan keeps then
    abbrev pub GoesLeft : ℕ → (q : ℕ) (s : Side) (n : ℕ) (l r : Tree) → HoleAt q s (Fork n l r) → Type 0
    GoesLeft turns q s n l r h = (d : D) (less : k < c n KeyField) (past : List Event)
        → Good d n Left l (left_of q s n l r h less) → IsUnseen l past
        → Goes turns past (walking d (walk_at (left_node q s) n (Link Left)), AskRead n LeftLink)

    abbrev pub GoesRight : ℕ → (q : ℕ) (s : Side) (n : ℕ) (l r : Tree) → HoleAt q s (Fork n l r) → Type 0
    GoesRight turns q s n l r h = (d : D) (more : c n KeyField < k) (past : List Event)
        → Good d n Right r (right_of q s n l r h more) → IsUnseen r past
        → Goes turns past (walking d (walk_at (left_node q s) n (Link Right)), AskRead n RightLink)

    module _
        -- what the plan does at a node whose key it was told, with at most three more reads there
        (at_node : (d : D) (q : ℕ) (s : Side) (n : ℕ) (l r : Tree) (h : HoleAt q s (Fork n l r))
        → Good d q s (Fork n l r) h
        → (past : List Event) (turns : ℕ) → 6 * (size_of l + size_of r) + after ≤ turns
        → IsUnseen l past → IsUnseen r past
        → GoesLeft turns q s n l r h → GoesRight turns q s n l r h
        → Goes (suc (suc (suc turns))) past (walked d (walk_at (left_node q s) n Choice) (Here (c n KeyField))))
        -- and at a link that names no node
        (at_end : (d : D) (q : ℕ) (s : Side) (a : Above) (h : HoleAt q s Empty) → Good d q s Empty h
        → (past : List Event)
        → Goes after past (walked d (walk_at a q (Link s)) (Missing s (c q (link_of s))))) where
      -- below a link of a node that it has come to
      walk_on : (t : Tree) (d : D) (q : ℕ) (s : Side) (a : Above) (past : List Event) (h : HoleAt q s t)
          → Good d q s t h
          → IsUnseen t past → Goes (walk_turns after t) past (walking d (walk_at a q (Link s)), AskRead q (link_of s))
      walk_on Empty d q s a past h good unseen =
          let w : Walk = walk_at a q (Link s) in
          let x : ℕ = c q (link_of s) in
          let none : node_at x ≡ None = ap node_at h.spelled in
          let step : walk_step w (Number x) ≡ (w, Missing s x) = ap (following w s x) none in
          let next : moves (walking d w) (Number x) ≡ walked d w (Missing s x)
          = moved d w (Number x) ∙ ap (λ (y : Walk × Step). walked d y.0 y.1) step in
          let last : Goes after (found q (link_of s) x ∷ past) (moves (walking d w) (Number x))
          = subst (Goes after (found q (link_of s) x ∷ past)) (sym next) (at_end d q s a h good
          (found q (link_of s) x ∷ past)) in
          (h.node, last)
      walk_on (Fork n l r) d q s a past h good unseen =
          let f : Field = link_of s in
          let w : Walk = walk_at a q (Link s) in
          let x : ℕ = c q f in
          let b : Above = left_node q s in
          let w1 : Walk = record { key = k; node = n; awaited = AVersion; version = c q VersionField; above = b } in
          let w2 : Walk = walk_at b n AKey in
          let w3 : Walk = walk_at b n Choice in
          let v : ℕ = c n VersionField in
          let key : ℕ = c n KeyField in
          let past1 : List Event = found q f x ∷ past in
          let past2 : List Event = visited n v ∷ past1 in
          let past3 : List Event = found n KeyField key ∷ past2 in
          let node : IsTreeNode kind slots c q n = h.spelled.1 in
          let slot : IsSlot slots n = node.slot in
          let not_q : n ≢ q = λ e. h.apart (inl (sym e)) in
          let not_1 : n ≢ 1 = λ e. absurd (omega arith) in
          let named : node_at x ≡ Some n = ap node_at h.spelled.0 ∙ node_at-node n (omega arith) (omega arith) in
          let rest : ℕ = walk_turns after l + 6 * size_of r in
          let turns_l : walk_turns after l ≡ 6 * size_of l + suc after = walk_turns_are after l in
          let turns_r : walk_turns after r ≡ 6 * size_of r + suc after = walk_turns_are after r in
          let step1 : walk_step w (Number x) ≡ (w1, Visit n)
          = ap (following w s x) named ∙ cond-false (has n (q ∷ 1 ∷ [])) (w, Astray) (w1, Visit n)
          (not_back n q not_q not_1) in
          let next1 : moves (walking d w) (Number x) ≡ (walking d w1, AskVisit n)
          = moved d w (Number x) ∙ ap (λ (y : Walk × Step). walked d y.0 y.1) step1 ∙ visits d w1 n in
          let step2 : walk_step w1 (Version v) ≡ (w2, Read n KeyField)
          = cond-false (n == 1) (reading_link (at_version w1 v w1.awaited) Left) (w2, Read n KeyField)
          (ne_eqb n 1 not_1) in
          let next2 : moves (walking d w1) (Version v) ≡ (walking d w2, AskRead n KeyField)
          = moved d w1 (Version v) ∙ ap (λ (y : Walk × Step). walked d y.0 y.1) step2 ∙ reads d w2 n KeyField in
          let next3 : moves (walking d w2) (Number key) ≡ walked d w3 (Here key) = moved d w2 (Number key) in
          let apart : Apart c n l r = hole_apart kind slots c ps tree.tree k q f n l r tree.rising h in
          let unseen_l : IsUnseen l past3 = unseen_left c n l r apart v past1 unseen in
          let unseen_r : IsUnseen r past3 = unseen_right c n l r apart v past1 unseen in
          let to_left : GoesLeft rest q s n l r h
          = λ d' less past' good' unseen'. (
          let go : Goes (walk_turns after l) past' (walking d' (walk_at b n (Link Left)), AskRead n LeftLink)
          = walk_on l d' n Left b past' (left_of q s n l r h less) good' unseen' in
          more_turns slots c moves Wanted (walk_turns after l) rest (AskRead n LeftLink) past'
          (walking d' (walk_at b n (Link Left))) (omega arith) go) in
          let to_right : GoesRight rest q s n l r h
          = λ d' more past' good' unseen'. (
          let go : Goes (walk_turns after r) past' (walking d' (walk_at b n (Link Right)), AskRead n RightLink)
          = walk_on r d' n Right b past' (right_of q s n l r h more) good' unseen' in
          more_turns slots c moves Wanted (walk_turns after r) rest (AskRead n RightLink) past'
          (walking d' (walk_at b n (Link Right))) (omega arith) go) in
          let go3 : Goes (suc (suc (suc rest))) past3 (moves (walking d w2) (Number key))
          = subst (Goes (suc (suc (suc rest))) past3) (sym next3)
          (at_node d q s n l r h good past3 rest (omega arith) unseen_l unseen_r to_left to_right) in
          let go2 : Goes (suc (suc (suc (suc rest)))) past2 (moves (walking d w1) (Version v))
          = subst (Goes (suc (suc (suc (suc rest)))) past2) (sym next2) ((omega arith, omega arith), go3) in
          let go1 : Goes (suc (suc (suc (suc (suc rest))))) past1 (moves (walking d w) (Number x))
          = subst (Goes (suc (suc (suc (suc (suc rest))))) past1) (sym next1)
          (((omega arith, omega arith), node.unmarked, unseen n (inl refl)), go2) in
          (h.node, go1)

      -- the whole walk, from the beginning on
      pub walk_course : (d : D) → Good d 1 Left tree.tree (root_hole kind slots c ps tree k)
          → Goes (6 * slots + (after + 3)) [] (moves (walking d (walk_of k)) Begin)
      walk_course d good =
          let w0 : Walk = walk_of k in
          let w1 : Walk = record { key = k; node = 1; awaited = AVersion; version = 0; above = nowhere } in
          let w2 : Walk = walk_at nowhere 1 (Link Left) in
          let v : ℕ = c 1 VersionField in
          let t : Tree = tree.tree in
          let past1 : List Event = visited 1 v ∷ [] in
          let next1 : moves (walking d w0) Begin ≡ (walking d w1, AskVisit 1) = moved d w0 Begin ∙ visits d w1 1 in
          let next2 : moves (walking d w1) (Version v) ≡ (walking d w2, AskRead 1 LeftLink)
          = moved d w1 (Version v) ∙ reads d w2 1 LeftLink in
          let unseen : IsUnseen t past1 = unseen_whole kind slots c t v tree.spelled in
          let go : Goes (walk_turns after t) past1 (walking d w2, AskRead 1 LeftLink)
          = walk_on t d 1 Left nowhere past1 (root_hole kind slots c ps tree k) good unseen in
          let go2 : Goes (walk_turns after t) past1 (moves (walking d w1) (Version v))
          = subst (Goes (walk_turns after t) past1) (sym next2) go in
          let go1 : Goes (suc (walk_turns after t)) [] (moves (walking d w0) Begin)
          = subst (Goes (suc (walk_turns after t)) []) (sym next1) (
            ((omega arith, omega arith), tree.unmarked, refl),
            go2,
          ) in
          let few_turns : walk_turns after t ≡ 6 * size_of t + suc after = walk_turns_are after t in
          let size : size_of t ≤ slots = search_tree_size kind slots c ps tree in
          more_turns slots c moves Wanted (suc (walk_turns after t)) (6 * slots + (after + 3))
          (moves (walking d w0) Begin).1 []
          (moves (walking d w0) Begin).0 (omega arith) go1

  -- For a plan that keeps nothing on its way and stops at its key: what it does there, and at the walk's end.
  module _ {P : Type 0} (moves : P → Told → P × Ask) (Wanted : List Event → Ask → Type 0)
      (walking : Walk → P) (walked : Walk → Step → P × Ask)
      (moved : (w : Walk) (t : Told) → moves (walking w) t ≡ walked (walk_step w t).0 (walk_step w t).1)
      (visits : (w : Walk) (n : ℕ) → walked w (Visit n) ≡ (walking w, AskVisit n))
      (reads : (w : Walk) (n : ℕ) (f : Field) → walked w (Read n f) ≡ (walking w, AskRead n f))
      (passes : (w : Walk) (x : ℕ) → w.key ≢ x → walked w (Here x) ≡ (walking (on_way w x), AskRead w.node (way w x)))
      (after : ℕ)
      (at_key : (q : ℕ) (s : Side) (n : ℕ) (l r : Tree) → HoleAt q s (Fork n l r) → k ≡ c n KeyField
      → (past : List Event)
      → IsUnseen l past → IsUnseen r past
      → Course slots c moves Wanted (walked (walk_at (left_node q s) n Choice) (Here (c n KeyField))).1 after past
      (walked (walk_at (left_node q s) n Choice) (Here (c n KeyField))).0)
      (at_end : (q : ℕ) (s : Side) (a : Above) → HoleAt q s Empty → (past : List Event)
      → Course slots c moves Wanted (walked (walk_at a q (Link s)) (Missing s (c q (link_of s)))).1 after past
      (walked (walk_at a q (Link s)) (Missing s (c q (link_of s)))).0) where
    abbrev To : ℕ → List Event → P × Ask → Type 0
    To turns past s = Course slots c moves Wanted s.1 turns past s.0

    abbrev Nothing : (d : Unit {0}) (q : ℕ) (s : Side) (t : Tree) → HoleAt q s t → Type 0
    Nothing d q s t h = Unit {0}

    -- from a node with another key the walk goes on by a link
    goes_on_by : (q : ℕ) (s : Side) (n : ℕ) (past : List Event) (turns : ℕ) (side : Side) → k ≢ c n KeyField
        → side_toward k (c n KeyField) ≡ side
        → To turns past (walking (walk_at (left_node q s) n (Link side)), AskRead n (link_of side))
        → To (suc (suc (suc turns))) past (walked (walk_at (left_node q s) n Choice) (Here (c n KeyField)))
    goes_on_by q s n past turns side other toward on =
        let to : Side → P × Ask = λ t. (walking (walk_at (left_node q s) n (Link t)), AskRead n (link_of t)) in
        let next : walked (walk_at (left_node q s) n Choice) (Here (c n KeyField)) ≡ to side
        = passes (walk_at (left_node q s) n Choice) (c n KeyField) other ∙ ap to toward in
        subst (To (suc (suc (suc turns))) past) (sym next)
        (more_turns slots c moves Wanted turns (suc (suc (suc turns))) (AskRead n (link_of side)) past
        (walking (walk_at (left_node q s) n (Link side))) (omega arith) on)

    pub walk_to_key : Course slots c moves Wanted (moves (walking (walk_of k)) Begin).1 (6 * slots + (after + 3)) []
        (moves (walking (walk_of k)) Begin).0
    walk_to_key = walk_course moves Wanted (λ d w. walking w) (λ d w s. walked w s) (λ d w t. moved w t)
        (λ d w n. visits w n) (λ d w n f. reads w n f)
        Nothing after
        (λ d q s n l r h good past turns le unseen_l unseen_r to_left to_right.
        let w : Walk = walk_at (left_node q s) n Choice in
        let x : ℕ = c n KeyField in
        ⊎_elim
        (λ e. more_turns slots c moves Wanted after (suc (suc (suc turns))) (walked w (Here x)).1 past
        (walked w (Here x)).0 (omega arith)
        (at_key q s n l r h e past unseen_l unseen_r))
        (λ apart. ⊎_elim
        (λ less. goes_on_by q s n past turns Left (λ e. absurd (omega arith)) (toward_left k x less)
        (to_left tt less past tt unseen_l))
        (λ more. let le : x ≤ k = omega arith in
        goes_on_by q s n past turns Right (λ e. absurd (omega arith)) (toward_right k x le)
        (to_right tt more past tt unseen_r))
        apart) (cases_order k x))
        (λ d q s a h good past. at_end q s a h past) tt tt
