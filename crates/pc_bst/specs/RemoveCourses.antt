-- The course of a remove on a search tree that stands still.
use Rattle.std.proofs.Common.{◌≡◌, ◌≢◌, ℕ, suc, ◌+◌, ◌*◌, ◌≤◌, ◌==◌, ◌⊎◌, inl, inr, List}
use Rattle.std.proofs.Common.{[], ◌∷◌, Option, Some, None, IsSome, refl, sym, ap, ◌∙◌, subst, arith}
use Rattle.std.proofs.lemmas.Bool.{eq-eqb, ne_eqb, cond-true, cond-false}
use Rattle.pc_model.specs.declared.cell.Field.TheVariants.{Version as VersionField, Key as KeyField}
use Rattle.pc_model.specs.declared.cell.Field.TheVariants.{Value as ValueField, Left as LeftLink, Right as RightLink}
use Rattle.pc_model.specs.declared.cell.Side.{Side}
use Rattle.pc_model.specs.declared.cell.Side.TheVariants.{Left, Right}
use Rattle.pc_model.specs.declared.call.Call.TheVariants.{Remove}
use Rattle.pc_model.specs.declared.call.Reply.TheVariants.{Value}
use Rattle.pc_model.specs.Map.{Pairs, IsRising, value_at, value_or_nothing}
use Rattle.pc_model.specs.Cells.{Cells, IsEven, IsSlot, IsNode, node_at}
use Rattle.pc_model.specs.Debts.{has}
use Rattle.pc_model.specs.Sides.{link_of}
use Rattle.pc_model.specs.Trees.{Tree, Empty, Fork, plain, IsTreeNode, Spells, IsIn, size_of, pairs_of, IsSearchTree}
use Rattle.pc_model.specs.TreeForms.{tree_form}
use Rattle.pc_model.proofs.Links.{node_at-node}
use Rattle.pc_model.proofs.Counting.{size-le-slots}
use Rattle.pc_model.proofs.Framing.{Apart, apart_from_rising}
use Rattle.pc_model.proofs.Holes.{Hole, hole_apart}
use Rattle.pc_model.proofs.HolePairs.{value_at-hole, value_at-empty_hole, without-empty_hole}
use Rattle.pc_model.proofs.Removal.{IsFirst, unlinked_left, unlinked_right, lifted as lifted_tree}
use Rattle.pc_plan.specs.declared.plan.Ask.{Ask}
use Rattle.pc_plan.specs.declared.plan.Ask.TheVariants.{Visit as AskVisit, Read as AskRead}
use Rattle.pc_plan.specs.declared.plan.Told.TheVariants.{Begin}
use Rattle.pc_plan.specs.declared.walk.Above.{Above}
use Rattle.pc_plan.specs.declared.walk.Walk.{Walk}
use Rattle.pc_plan.specs.declared.walk.Step.{Step}
use Rattle.pc_plan.specs.declared.walk.Step.TheVariants.{Here}
use Rattle.pc_plan.specs.declared.walk.Awaited.TheVariants.{Choice}
use Rattle.pc_plan.specs.Terms.{Terms, map_terms}
use Rattle.pc_plan.specs.Traces.{Event, visited, found}
use Rattle.pc_plan.specs.Runs.{IsReady}
use Rattle.pc_plan.specs.Walks.{on_way, way}
use Rattle.pc_plan.proofs.Courses.{Course, more_turns, EndsRight}
use Rattle.pc_plan.proofs.NodeWords.{not_among}
use Rattle.pc_plan.proofs.Unseen.{IsUnseen, unseen_left}
use Rattle.pc_plan.proofs.WalkCourses.{left_node, walk_at, walk_to_key}
use Rattle.pc_bst.specs.declared.remove.RemovePhase.{RemovePhase}
use Rattle.pc_bst.specs.declared.remove.RemovePhase.TheVariants.{ReadingLeft, ReadingValue, Visiting}
use Rattle.pc_bst.specs.declared.remove.RemovePhase.TheVariants.{ReadingNext, ReadingNextKey}
use Rattle.pc_bst.specs.declared.remove.Next.{Next}
use Rattle.pc_bst.specs.declared.remove.BstRemove.{BstRemove}
use Rattle.pc_plan.specs.EndLaws.{IsAnswer, IsChange}
use Rattle.pc_bst.specs.Removes.{nothing_next, remove_of, with_walk, remove_reads, remove_gives_up, remove_ends}
use Rattle.pc_bst.specs.Removes.{unlinked, visiting_below, going_below, chosen, following, remove_walked, remove_moves}
use Rattle.pc_bst.specs.RemoveEnds.{unlink_end, lift_end}

abbrev pub remove_terms : ℕ → Terms
remove_terms k = map_terms (Remove k)

-- the end is right, and it is an exchange where the key is there, and an answer where it isn't
abbrev pub RemovesRight : ℕ → Cells → Pairs → ℕ → List Event → Ask → Type 0
RemovesRight slots c ps k past a = EndsRight (tree_form plain) slots c ps (remove_terms k) past a
    × ((IsChange a × IsSome (value_at k ps)) ⊎ (IsAnswer a × (value_at k ps ≡ None)))

-- a link to another node than these is followed
goes_below : (r : BstRemove) (a : Above) (n : ℕ) → n ≢ r.walk.node → n ≢ a.node
    → going_below r a n ≡ (visiting_below r a n, AskVisit n)
goes_below r a n not_target not_above = cond-false (has n (r.walk.node ∷ a.node ∷ [])) (remove_gives_up r)
    (visiting_below r a n, AskVisit n)
    (not_among n r.walk.node (a.node ∷ []) not_target (not_among n a.node [] not_above refl))

-- the turns from the root of a tree with this left side to its first node, and for its reads there
abbrev turns_to_first : Tree → ℕ
turns_to_first Empty = 5
turns_to_first (Fork m a b) = suc (suc (turns_to_first a))

few_turns : (a : Tree) → turns_to_first a ≤ 2 * size_of a + 5
few_turns Empty = omega arith
few_turns (Fork m a b) = let ih : turns_to_first a ≤ 2 * size_of a + 5 = few_turns a in omega arith

module _ (slots : ℕ) (c : Cells) (ps : Pairs) (k : ℕ) (ready : IsReady (tree_form plain) slots c ps) where
  abbrev tree : IsSearchTree plain slots c ps
  tree = ready.is_sound

  -- the course of a remove goes on from here
  abbrev Goes : ℕ → List Event → BstRemove × Ask → Type 0
  Goes turns past s = Course slots c remove_moves (RemovesRight slots c ps k) s.1 turns past s.0

  abbrev below : ℕ → Side → Above
  below q s = left_node slots c plain ps ready.few tree k q s

  module _ (above : ℕ) (side : Side) (n : ℕ) (l r : Tree) (h : Hole plain slots c ps tree.tree k above (link_of side)
      (Fork n l r)) (key : c n KeyField ≡ k) where
    node : IsTreeNode plain slots c above n
    node = h.spelled.1

    apart : Apart c n l r
    apart = hole_apart plain slots c ps tree.tree k above (link_of side) n l r tree.rising h

    -- a remove that has read the node with the key
    abbrev target : Next → RemovePhase → BstRemove
    target next phase = record {
      walk = walk_at slots c plain ps ready.few tree k (below above side) n Choice;
      left = c n LeftLink;
      right = c n RightLink;
      value = c n ValueField;
      next = next;
      phase = phase;
    }

    there : value_at k ps ≡ Some (c n ValueField)
    there = value_at-hole plain slots c ps tree.tree k above (link_of side) n l r tree.rising h key

    is_there : IsSome (value_at k ps)
    is_there = subst (λ (o : Option ℕ). IsSome o) (sym there) refl

    -- the old value is the map's reply
    right_reply : Value (c n ValueField) ≡ value_or_nothing (value_at k ps)
    right_reply = sym (ap value_or_nothing there)

    -- a node on the way to the successor, before it is visited
    abbrev on_way_to : Next → ℕ → ℕ → Side → Next
    on_way_to x m q s = record x { node = m; above = below q s }

    -- and once it is visited
    abbrev visited_next : Next → ℕ → ℕ → Side → Next
    visited_next x m q s = record x { node = m; version = c m VersionField; above = below q s }

    -- from a visit of a node on the way to the successor on
    descend : (m : ℕ) (a b : Tree) (q : ℕ) (s : Side) (x : Next) (past : List Event) → IsNode slots q
        → IsEven (c q VersionField)
        → Spells plain slots c (Fork m a b) q (c q (link_of s)) → IsRising (pairs_of c (Fork m a b))
        → (IsIn n (Fork m a b) → ⊥) → (IsIn q (Fork m a b) → ⊥) → IsUnseen (Fork m a b) past
        → ((y : ℕ) (f : Side) (z : ℕ) (rs : Tree) → IsFirst q (link_of s) (Fork m a b) y (link_of f) z rs
        → IsFirst n RightLink r y (link_of f) z rs)
        → Goes (turns_to_first a) past (target (on_way_to x m q s) Visiting, AskVisit m)
    descend m Empty b q s x past is_q even_q spelled rising no_n no_q unseen first =
        let here : IsTreeNode plain slots c q m = spelled.1 in
        let is : IsSlot slots m = here.slot in
        let is_m : IsNode slots m = (omega arith, omega arith) in
        let y : Next = visited_next x m q s in
        let ends : following (target y ReadingNext) (node_at (c m LeftLink)) ≡ (
          target y ReadingNextKey,
          AskRead m
              KeyField,
        ) = ap (λ (z : ℕ). following (target y ReadingNext) (node_at z)) spelled.2 in
        let past2 : List Event = found m LeftLink (c m LeftLink) ∷ visited m (c m VersionField) ∷ past in
        let go : Goes 3 past2 (target y ReadingNextKey, AskRead m KeyField) = (
          is_m,
          (
            is_m,
            (
              is_m,
              (
                (
                  right_reply,
                  λ slot takes.
                      lift_end slots c ps k _ slot n q s m (λ e. no_n (inl (sym e))) (λ e. no_q (inl (sym e)))
                      here.unmarked key spelled.0
                      (λ c' up. lifted_tree plain slots c ps tree k above (link_of side) n l r q (link_of s) m b c' h
                      (first q s m b (refl, refl, refl, refl)) up key),
                ),
                inl (tt, is_there),
              ),
            ),
          ),
        ) in
        ((is_m, here.unmarked, unseen m (inl refl)), (is_m, subst (Goes 3 past2) (sym ends) go))
    descend m (Fork i a b') b q s x past is_q even_q spelled rising no_n no_q unseen first =
        let here : IsTreeNode plain slots c q m = spelled.1 in
        let is : IsSlot slots m = here.slot in
        let is_m : IsNode slots m = (omega arith, omega arith) in
        let lower : IsTreeNode plain slots c m i = spelled.2.1 in
        let is_i : IsSlot slots i = lower.slot in
        let sides : Apart c m (Fork i a b') b = apart_from_rising c m (Fork i a b') b rising in
        let y : Next = visited_next x m q s in
        let few : slots ≤ 61000 = ready.few in
        let named : node_at (c m LeftLink) ≡ Some i = ap node_at spelled.2.0 ∙ node_at-node i (omega arith)
        (omega arith) in
        let goes : following (target y ReadingNext) (node_at (c m LeftLink)) ≡ (
          target (on_way_to y i m Left) Visiting,
          AskVisit i,
        )
        = ap (following (target y ReadingNext)) named ∙ goes_below (target y ReadingNext) (below m Left) i
        (λ e. no_n (inr (inl (inl (sym e))))) (λ e. sides.not_left (inl (sym e))) in
        let past1 : List Event = visited m (c m VersionField) ∷ past in
        let past2 : List Event = found m LeftLink (c m LeftLink) ∷ past1 in
        let unseen' : IsUnseen (Fork i a b') past2 = unseen_left c m (Fork i a b') b sides (c m VersionField) past
        unseen in
        let go : Goes (turns_to_first a) past2 (target (on_way_to y i m Left) Visiting, AskVisit i)
        = descend i a b' m Left y past2 is_m here.unmarked spelled.2 sides.left (λ j. no_n (inr (inl j)))
        sides.not_left unseen' (λ y' f z rs is_first. first y' f z rs is_first) in
        ((is_m, here.unmarked, unseen m (inl refl)), (is_m, subst (Goes (turns_to_first a) past2) (sym goes) go))

  -- once the node's links and its value are read
  chosen_goes : (l r : Tree) (above : ℕ) (side : Side) (n : ℕ) (x : Next) (past : List Event) (h : Hole plain slots c
      ps tree.tree k above (link_of side) (Fork n l r)) (key : c n KeyField ≡ k) → IsUnseen r past
      → Goes (2 * slots + 3) past (chosen (target above side n l r h key x ReadingValue) (node_at (c n LeftLink))
      (node_at (c n RightLink)))
  chosen_goes Empty r above side n x past h key unseen =
      let t : BstRemove = target above side n Empty r h key x ReadingValue in
      let is : IsTreeNode plain slots c above n = h.spelled.1 in
      let e : chosen t (node_at (c n LeftLink)) (node_at (c n RightLink)) ≡ remove_ends t (unlinked t (c n RightLink))
      = ap (λ (z : ℕ). chosen t (node_at z) (node_at (c n RightLink))) h.spelled.2 in
      subst (Goes (2 * slots + 3) past) (sym e) (
        (
          right_reply above side n Empty r h key,
          λ slot takes. unlink_end slots c ps k past slot above side n (c n RightLink) (λ d. h.apart (inl d))
              is.unmarked h.spelled.0
              (λ c' un. unlinked_right plain slots c ps tree k above (link_of side) n r c' h key un),
        ),
        inl (tt, is_there above side n Empty r h key),
      )
  chosen_goes (Fork m a b) Empty above side n x past h key unseen =
      let t : BstRemove = target above side n (Fork m a b) Empty h key x ReadingValue in
      let is : IsTreeNode plain slots c above n = h.spelled.1 in
      let is_m : IsSlot slots m = h.spelled.2.1.slot in
      let few : slots ≤ 61000 = ready.few in
      let named : node_at (c n LeftLink) ≡ Some m = ap node_at h.spelled.2.0 ∙ node_at-node m (omega arith)
      (omega arith) in
      let none : node_at (c n RightLink) ≡ None = ap node_at h.spelled.3 in
      let e : chosen t (node_at (c n LeftLink)) (node_at (c n RightLink)) ≡ remove_ends t (unlinked t (c n LeftLink))
      = (λ i. chosen t (named i) (none i)) in
      subst (Goes (2 * slots + 3) past) (sym e) (
        (
          right_reply above side n (Fork m a b) Empty h key,
          λ slot takes. unlink_end slots c ps k past slot above side n (c n LeftLink) (λ d. h.apart (inl d))
              is.unmarked h.spelled.0
              (λ c' un. unlinked_left plain slots c ps tree k above (link_of side) n (Fork m a b) c' h key un),
        ),
        inl (tt, is_there above side n (Fork m a b) Empty h key),
      )
  chosen_goes (Fork m a b) (Fork i d e) above side n x past h key unseen =
      let l : Tree = Fork m a b in
      let r : Tree = Fork i d e in
      let t : BstRemove = target above side n l r h key x ReadingValue in
      let is : IsSlot slots n = h.spelled.1.slot in
      let is_m : IsSlot slots m = h.spelled.2.1.slot in
      let is_i : IsSlot slots i = h.spelled.3.1.slot in
      let few : slots ≤ 61000 = ready.few in
      let sides : Apart c n l r = hole_apart plain slots c ps tree.tree k above (link_of side) n l r tree.rising h in
      let named_l : node_at (c n LeftLink) ≡ Some m = ap node_at h.spelled.2.0 ∙ node_at-node m (omega arith)
      (omega arith) in
      let named_r : node_at (c n RightLink) ≡ Some i = ap node_at h.spelled.3.0 ∙ node_at-node i (omega arith)
      (omega arith) in
      let not_n : i ≢ n = λ y. sides.not_right (inl (sym y)) in
      let to : BstRemove × Ask = (
        target above side n l r h key (on_way_to above side n l r h key x i n Right)
            Visiting,
        AskVisit i,
      ) in
      let goes : chosen t (node_at (c n LeftLink)) (node_at (c n RightLink)) ≡ to = (λ j. chosen t (named_l j)
      (named_r j)) ∙ goes_below t (below n Right) i not_n not_n in
      let few_nodes : size_of r ≤ slots = size-le-slots plain slots c r n (c n RightLink) h.spelled.3 sides.right in
      let enough : turns_to_first d ≤ 2 * size_of d + 5 = few_turns d in
      let go : Goes (turns_to_first d) past to
      = descend above side n l r h key i d e n Right x past (omega arith, omega arith) h.spelled.1.unmarked h.spelled.3
      sides.right sides.not_right sides.not_right unseen (λ y f z rs is_first. is_first) in
      let all : Goes (2 * slots + 3) past to
      = more_turns slots c remove_moves (RemovesRight slots c ps k) (turns_to_first d) (2 * slots + 3) to.1 past to.0
      (omega arith) go in
      subst (Goes (2 * slots + 3) past) (sym goes) all

  abbrev start : BstRemove
  start = remove_of k

  abbrev walked : Walk → Step → BstRemove × Ask
  walked w s = remove_walked (with_walk start w) w s

  pub remove_course : Goes (6 * slots + (suc (suc (suc (2 * slots + 3))) + 3)) [] (remove_moves (remove_of k) Begin)
  remove_course = walk_to_key slots c plain ps ready.few tree k remove_moves (RemovesRight slots c ps k)
      (with_walk start) walked
      (λ w t. refl) (λ w n. refl) (λ w n f. refl)
      (λ w x ne. cond-false (x == w.key) (remove_reads (with_walk start w) ReadingLeft w.node LeftLink)
      (with_walk start (on_way w x), AskRead w.node (way w x)) (ne_eqb x w.key (λ e. ne (sym e))))
      (suc (suc (suc (2 * slots + 3))))
      (λ q s n l r h e past unseen_l unseen_r.
      let w : Walk = walk_at slots c plain ps ready.few tree k (below q s) n Choice in
      let node : IsTreeNode plain slots c q n = h.spelled.1 in
      let slot : IsSlot slots n = node.slot in
      let is_n : IsNode slots n = (omega arith, omega arith) in
      let reading : BstRemove × Ask = remove_reads (with_walk start w) ReadingLeft n LeftLink in
      let next : walked w (Here (c n KeyField)) ≡ reading
      = cond-true (c n KeyField == k) reading (
        with_walk start (on_way w (c n KeyField)),
        AskRead n
            (way w (c n KeyField)),
      ) (eq-eqb (c n KeyField) k (sym e)) in
      let past3 : List Event = found n ValueField (c n ValueField) ∷ found n RightLink (c n RightLink) ∷ found n
      LeftLink (c n LeftLink) ∷ past in
      subst (Goes (suc (suc (suc (2 * slots + 3)))) past) (sym next)
      (is_n, (is_n, (is_n, chosen_goes l r q s n nothing_next past3 h (sym e) unseen_r))))
      (λ q s a h past.
      let missing : value_at k ps ≡ None = value_at-empty_hole plain slots c ps tree.tree k q (link_of s) h in (
        (sym (ap value_or_nothing missing), without-empty_hole plain slots c ps tree.tree k q (link_of s) h, tt),
        inr (tt, missing),
      ))
