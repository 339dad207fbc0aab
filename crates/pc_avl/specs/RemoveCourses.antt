-- The course of a remove on a balanced tree that stands still.
use Rattle.std.proofs.Common.{◌≡◌, ◌≢◌, ℕ, suc, ◌+◌, ◌*◌, ◌≤◌, ◌==◌, ◌⊎◌, inl, inr, if◌then◌else◌, false, List}
use Rattle.std.proofs.Common.{[], ◌∷◌, Option, Some, None, IsSome, refl, sym, ap, ◌∙◌, subst, arith}
use Rattle.std.proofs.lemmas.Bool.{eq-eqb, ne_eqb, cond-true, cond-false}
use Rattle.pc_model.specs.declared.cell.Field.TheVariants.{Version as VersionField, Key as KeyField, Parent}
use Rattle.pc_model.specs.declared.cell.Field.TheVariants.{Value as ValueField, Left as LeftLink, Right as RightLink}
use Rattle.pc_model.specs.declared.cell.Side.{Side}
use Rattle.pc_model.specs.declared.cell.Side.TheVariants.{Left, Right}
use Rattle.pc_model.specs.declared.call.Call.TheVariants.{Remove}
use Rattle.pc_model.specs.declared.call.Reply.TheVariants.{Value}
use Rattle.pc_model.specs.Map.{Pairs, IsRising, without, value_at, value_or_nothing}
use Rattle.pc_model.specs.Cells.{Cells, IsSlot, IsNode, node_at}
use Rattle.pc_model.specs.Debts.{has}
use Rattle.pc_model.specs.Sides.{link_of}
use Rattle.pc_model.specs.Trees.{Tree, Empty, Fork, balanced, IsTreeNode, Spells, IsIn, size_of, pairs_of}
use Rattle.pc_model.specs.Trees.{IsSearchTree}
use Rattle.pc_model.specs.TreeForms.{tree_form}
use Rattle.pc_model.proofs.Links.{node_at-node}
use Rattle.pc_model.proofs.Counting.{size-le-slots}
use Rattle.pc_model.proofs.Framing.{Apart, apart_from_rising}
use Rattle.pc_model.proofs.Holes.{Hole, hole_apart}
use Rattle.pc_model.proofs.HolePairs.{value_at-hole, value_at-empty_hole, without-empty_hole}
use Rattle.pc_model.proofs.Removal.{IsUnlinked, IsFirst, unlinked_left, unlinked_right, lifted as lifted_tree}
use Rattle.pc_model.proofs.RemovalDebts.{unlinked_brings_only, lifted_brings_only}
use Rattle.pc_plan.specs.declared.plan.Ask.{Ask}
use Rattle.pc_plan.specs.declared.plan.Ask.TheVariants.{Visit as AskVisit, Read as AskRead, Change}
use Rattle.pc_plan.specs.declared.plan.Told.TheVariants.{Begin}
use Rattle.pc_plan.specs.declared.walk.Above.{Above}
use Rattle.pc_plan.specs.declared.walk.Walk.{Walk}
use Rattle.pc_plan.specs.declared.walk.Step.{Step}
use Rattle.pc_plan.specs.declared.walk.Step.TheVariants.{Here}
use Rattle.pc_plan.specs.declared.walk.Awaited.TheVariants.{Choice}
use Rattle.pc_plan.specs.EndLaws.{IsChange, IsAnswer}
use Rattle.pc_plan.specs.NodeChanges.{planned_by}
use Rattle.pc_plan.specs.Terms.{Terms, map_terms}
use Rattle.pc_plan.specs.Traces.{Event, visited, found, version_seen}
use Rattle.pc_plan.specs.Runs.{IsReady}
use Rattle.pc_plan.proofs.Courses.{Course, more_turns, EndsRight}
use Rattle.pc_plan.proofs.NodeWords.{not_among, has_here}
use Rattle.pc_plan.proofs.Unseen.{IsUnseen, unseen_left, unseen_right}
use Rattle.pc_plan.proofs.WalkCourses.{left_node, walk_at}
use Rattle.pc_plan.proofs.WalkKeys.{IsKeyOf, walk_to_key_below}
use Rattle.pc_bst.specs.Kinds.{key_unless_sentinel}
use Rattle.pc_bst.specs.PutEnds.{key_is_charged}
use Rattle.pc_avl.specs.declared.remove.Leaving.{Leaving}
use Rattle.pc_avl.specs.declared.remove.Leaving.TheVariants.{Target, Next as Successor}
use Rattle.pc_avl.specs.declared.remove.Heir.{Heir}
use Rattle.pc_avl.specs.declared.remove.RemovePhase.{RemovePhase}
use Rattle.pc_avl.specs.declared.remove.RemovePhase.TheVariants.{ReadingLeft, ReadingValue, Visiting}
use Rattle.pc_avl.specs.declared.remove.RemovePhase.TheVariants.{ReadingNext, ReadingNextValue, ReadingNextRight}
use Rattle.pc_avl.specs.declared.remove.RemovePhase.TheVariants.{VisitingHeir}
use Rattle.pc_avl.specs.declared.remove.Next.{Next}
use Rattle.pc_avl.specs.declared.remove.AvlRemove.{AvlRemove}
use Rattle.pc_avl.specs.Removes.{nothing_next, remove_of, in_phase, remove_reads, remove_gives_up}
use Rattle.pc_avl.specs.Removes.{remove_passes, removal, visiting_below, going_below, visiting_heir, unlinking, chosen}
use Rattle.pc_avl.specs.Removes.{lifting, following, remove_walked, remove_moves}
use Rattle.pc_avl.specs.RemoveEnds.{lift_charged, unlink_end, lift_end}

abbrev pub remove_terms : ℕ → Terms
remove_terms k = map_terms (Remove k)

-- the end is right, and it is an exchange where the key is there, and an answer where it isn't
abbrev pub RemovesRight : ℕ → Cells → Pairs → ℕ → List Event → Ask → Type 0
RemovesRight slots c ps k past a = EndsRight (tree_form balanced) slots c ps (remove_terms k) past a
    × ((IsChange a × IsSome (value_at k ps)) ⊎ (IsAnswer a × (value_at k ps ≡ None)))

-- a link to another node than these is followed
goes_below : (r : AvlRemove) (a : Above) (x n : ℕ) → n ≢ r.walk.node → n ≢ a.node
    → going_below r a x n ≡ (visiting_below r a x n, AskVisit n)
goes_below r a x n not_target not_above = cond-false (has n (r.walk.node ∷ a.node ∷ [])) (remove_gives_up r)
    (visiting_below r a x n, AskVisit n)
    (not_among n r.walk.node (a.node ∷ []) not_target (not_among n a.node [] not_above refl))

-- the turns from the root of a tree with this left side to its first node, for its reads there, and for its heir
abbrev turns_to_first : Tree → ℕ
turns_to_first Empty = 7
turns_to_first (Fork m a b) = suc (suc (suc (turns_to_first a)))

few_turns : (a : Tree) → turns_to_first a ≤ 3 * size_of a + 7
few_turns Empty = omega arith
few_turns (Fork m a b) = let ih : turns_to_first a ≤ 3 * size_of a + 7 = few_turns a in omega arith

module _ (slots : ℕ) (c : Cells) (ps : Pairs) (k : ℕ) (ready : IsReady (tree_form balanced) slots c ps) where
  abbrev tree : IsSearchTree balanced slots c ps
  tree = ready.is_sound

  -- the course of a remove goes on from here
  abbrev Goes : ℕ → List Event → AvlRemove × Ask → Type 0
  Goes turns past s = Course slots c remove_moves (RemovesRight slots c ps k) s.1 turns past s.0

  abbrev below : ℕ → Side → Above
  below q s = left_node slots c balanced ps ready.few tree k q s

  -- an heir in these cells
  abbrev heir_in : ℕ → Heir
  heir_in i = record { node = i; version = c i VersionField; parent = c i Parent }

  -- the node that a link to a tree names
  named : (i n link : ℕ) → link ≡ i → IsTreeNode balanced slots c n i → node_at link ≡ Some i
  named i n link hangs node =
      let is : IsSlot slots i = node.slot in
      let few : slots ≤ 61000 = ready.few in
      ap node_at hangs ∙ node_at-node i (omega arith) (omega arith)

  -- once the heir is visited and its parent is read, it ends
  heir_goes : (r : AvlRemove) (leaving : Leaving) (i above : ℕ) (met : List ℕ) (past : List Event)
      → has i met ≡ false → IsTreeNode balanced slots c above i → version_seen i past ≡ None
      → RemovesRight slots c ps k (found i Parent (c i Parent) ∷ visited i (c i VersionField) ∷ past)
      (Change (planned_by (removal r leaving (Some (heir_in i)))))
      → Goes 2 past (visiting_heir r leaving i met)
  heir_goes r leaving i above met past other node unseen ends =
      let is : IsSlot slots i = node.slot in
      let is_node : IsNode slots i = (omega arith, omega arith) in
      subst (Goes 2 past) (sym (cond-false (has i met) (remove_gives_up r) (
        in_phase r (VisitingHeir leaving i),
        AskVisit i,
      ) other)) ((is_node, node.unmarked, unseen), (is_node, ends))

  module _ (above : ℕ) (side : Side) (n : ℕ) (l r : Tree) (h : Hole balanced slots c ps tree.tree k above
      (link_of side) (Fork n l r)) (key : c n KeyField ≡ k) (x : ℕ) (is_key : IsKeyOf c above x) where
    node : IsTreeNode balanced slots c above n
    node = h.spelled.1

    apart : Apart c n l r
    apart = hole_apart balanced slots c ps tree.tree k above (link_of side) n l r tree.rising h

    -- a remove that has read the node with the key
    abbrev target : Next → RemovePhase → AvlRemove
    target next phase = record {
      walk = walk_at slots c balanced ps ready.few tree k (below above side) n Choice;
      above_key = x;
      left = c n LeftLink;
      right = c n RightLink;
      value = c n ValueField;
      next = next;
      phase = phase;
    }

    there : value_at k ps ≡ Some (c n ValueField)
    there = value_at-hole balanced slots c ps tree.tree k above (link_of side) n l r tree.rising h key

    is_there : IsSome (value_at k ps)
    is_there = subst (λ (o : Option ℕ). IsSome o) (sym there) refl

    -- the old value is the map's reply
    right_reply : Value (c n ValueField) ≡ value_or_nothing (value_at k ps)
    right_reply = sym (ap value_or_nothing there)

    -- The node with the key leaves, and its heir is the root of this tree.

    unlinks : (t : Tree) (link : ℕ) (nx : Next) (past : List Event) → Spells balanced slots c t n link
        → (IsIn n t → ⊥) → (IsIn above t → ⊥) → IsUnseen t past
        → ((c' : Cells) → IsUnlinked balanced c c' above (link_of side) n link
        → IsSearchTree balanced slots c' (without k ps))
        → Goes 2 past (unlinking (target nx ReadingValue) (node_at link))
    unlinks Empty link nx past spelled no_n no_above unseen leaves =
        subst (λ (o : Option ℕ). Goes 2 past (unlinking (target nx ReadingValue) o)) (sym (ap node_at spelled)) (
          (
            right_reply,
            λ slot takes. unlink_end slots c ps k past slot above side n x None (λ e. h.apart (inl e)) node.unmarked tt
                tt tt h.spelled.0
                (λ c' un. (
                  leaves c' (subst (λ (y : ℕ). IsUnlinked balanced c c' above (link_of side) n y) (sym spelled) un),
                  unlinked_brings_only slots c ps tree k above (link_of side) n l r h 0 c' un
                      (key_unless_sentinel above x) (key_is_charged c above x is_key),
                )),
          ),
          inl (tt, is_there),
        )
    unlinks (Fork i a b) link nx past spelled no_n no_above unseen leaves =
        let t : AvlRemove = target nx ReadingValue in
        let other : has i (n ∷ above ∷ []) ≡ false = not_among i n (above ∷ []) (λ e. no_n (inl (sym e)))
        (not_among i above [] (λ e. no_above (inl (sym e))) refl) in
        subst (λ (o : Option ℕ). Goes 2 past (unlinking t o)) (sym (named i n link spelled.0 spelled.1))
        (heir_goes t Target i n (n ∷ above ∷ []) past other spelled.1 (unseen i (inl refl)) (
          (
            right_reply,
            λ slot takes. unlink_end slots c ps k _ slot above side n x (Some (heir_in i)) (λ e. h.apart (inl e))
                node.unmarked (refl, refl) (λ e. no_above (inl e)) (λ e. no_n (inl e)) h.spelled.0
                (λ c' un. (
                  leaves c' (subst (λ (y : ℕ). IsUnlinked balanced c c' above (link_of side) n y) (sym spelled.0) un),
                  unlinked_brings_only slots c ps tree k above (link_of side) n l r h i c' un
                      (key_unless_sentinel above x) (key_is_charged c above x is_key),
                )),
          ),
          inl (tt, is_there),
        ))

    -- The successor m leaves, which hangs at a link of q, and its heir is the root of its right tree.
    module _ (q : ℕ) (s : Side) (m : ℕ) (b : Tree) (y : ℕ) (is_y : y ≡ c q KeyField)
        (here : IsTreeNode balanced slots c q m) (hangs : c q (link_of s) ≡ m) (m_not_n : m ≢ n) (m_not_q : m ≢ q)
        (first : IsFirst n RightLink r q (link_of s) m b) where
      abbrev successor : Next
      successor = record {
        node = m;
        version = c m VersionField;
        above = below q s;
        above_key = y;
        key = c m KeyField;
        value = c m ValueField;
      }

      abbrev charges : List ℕ
      charges = c m KeyField ∷ (if q == n then [] else y ∷ [])

      lifts : (t : Tree) (past : List Event) → Spells balanced slots c t m (c m RightLink) → (IsIn n t → ⊥)
          → (IsIn q t → ⊥) → (IsIn m t → ⊥) → IsUnseen t past
          → Goes 2 past (lifting (target successor ReadingNextRight) (node_at (c m RightLink)))
      lifts Empty past spelled no_n no_q no_m unseen =
          subst (λ (o : Option ℕ). Goes 2 past (lifting (target successor ReadingNextRight) o))
          (sym (ap node_at spelled)) (
            (
              right_reply,
              λ slot takes. lift_end slots c ps k past slot n q s m y None m_not_n m_not_q here.unmarked tt tt tt tt
                  spelled key hangs
                  (λ c' up. (
                    lifted_tree balanced slots c ps tree k above (link_of side) n l r q (link_of s) m b c' h first up
                        key,
                    lifted_brings_only slots c ps tree k above (link_of side) n l r h q (link_of s) m b c' first up
                        charges (has_here (c m KeyField) (if q == n then [] else y ∷ []))
                        (lift_charged n q (c m KeyField) y (c q KeyField) is_y),
                  )),
            ),
            inl (tt, is_there),
          )
      lifts (Fork i d e) past spelled no_n no_q no_m unseen =
          let t : AvlRemove = target successor ReadingNextRight in
          let other : has i (n ∷ m ∷ q ∷ []) ≡ false = not_among i n (m ∷ q ∷ []) (λ z. no_n (inl (sym z)))
          (not_among i m (q ∷ []) (λ z. no_m (inl (sym z))) (not_among i q [] (λ z. no_q (inl (sym z))) refl)) in
          subst (λ (o : Option ℕ). Goes 2 past (lifting t o)) (sym (named i m (c m RightLink) spelled.0 spelled.1))
          (heir_goes t Successor i m (n ∷ m ∷ q ∷ []) past other spelled.1 (unseen i (inl refl)) (
            (
              right_reply,
              λ slot takes. lift_end slots c ps k _ slot n q s m y (Some (heir_in i)) m_not_n m_not_q here.unmarked
                  (refl, refl) (λ z. no_n (inl z)) (λ z. no_q (inl z)) (λ z. no_m (inl z)) spelled.0 key hangs
                  (λ c' up. (
                    lifted_tree balanced slots c ps tree k above (link_of side) n l r q (link_of s) m b c' h first up
                        key,
                    lifted_brings_only slots c ps tree k above (link_of side) n l r h q (link_of s) m b c' first up
                        charges (has_here (c m KeyField) (if q == n then [] else y ∷ []))
                        (lift_charged n q (c m KeyField) y (c q KeyField) is_y),
                  )),
            ),
            inl (tt, is_there),
          ))

    -- a node on the way to the successor, before it is visited
    abbrev on_way_to : Next → ℕ → ℕ → Side → ℕ → Next
    on_way_to nx m q s y = record nx { node = m; above = below q s; above_key = y }

    -- from a visit of a node on the way to the successor on
    descend : (m : ℕ) (a b : Tree) (q : ℕ) (s : Side) (y : ℕ) (nx : Next) (past : List Event) → y ≡ c q KeyField
        → Spells balanced slots c (Fork m a b) q (c q (link_of s)) → IsRising (pairs_of c (Fork m a b))
        → (IsIn n (Fork m a b) → ⊥) → (IsIn q (Fork m a b) → ⊥) → IsUnseen (Fork m a b) past
        → ((z : ℕ) (f : Side) (i : ℕ) (rs : Tree) → IsFirst q (link_of s) (Fork m a b) z (link_of f) i rs
        → IsFirst n RightLink r z (link_of f) i rs)
        → Goes (turns_to_first a) past (target (on_way_to nx m q s y) Visiting, AskVisit m)
    descend m Empty b q s y nx past is_y spelled rising no_n no_q unseen first =
        let here : IsTreeNode balanced slots c q m = spelled.1 in
        let is : IsSlot slots m = here.slot in
        let is_m : IsNode slots m = (omega arith, omega arith) in
        let sides : Apart c m Empty b = apart_from_rising c m Empty b rising in
        let v : ℕ = c m VersionField in
        let past1 : List Event = visited m v ∷ past in
        let past3 : List Event = found m LeftLink (c m LeftLink) ∷ found m KeyField (c m KeyField) ∷ past1 in
        let past5 : List Event = found m RightLink (c m RightLink) ∷ found m ValueField (c m ValueField) ∷ past3 in
        let nx3 : Next = record {
          node = m;
          version = v;
          above = below q s;
          above_key = y;
          key = c m KeyField;
          value = nx.value;
        } in
        let ends : following (target nx3 ReadingNext) (node_at (c m LeftLink)) ≡ (
          target nx3 ReadingNextValue,
          AskRead m ValueField,
        ) = ap (λ (z : ℕ). following (target nx3 ReadingNext) (node_at z)) spelled.2 in
        let unseen_b : IsUnseen b past5 = unseen_right c m Empty b sides v past unseen in
        let go : Goes 4 past3 (target nx3 ReadingNextValue, AskRead m ValueField) = (
          is_m,
          (
            is_m,
            lifts q s m b y is_y here spelled.0 (λ e. no_n (inl (sym e))) (λ e. no_q (inl (sym e)))
                (first q s m b (refl, refl, refl, refl)) b past5 spelled.3 (λ i. no_n (inr (inr i)))
                (λ i. no_q (inr (inr i))) sides.not_right unseen_b,
          ),
        ) in
        ((is_m, here.unmarked, unseen m (inl refl)), (is_m, (is_m, subst (Goes 4 past3) (sym ends) go)))
    descend m (Fork i a b') b q s y nx past is_y spelled rising no_n no_q unseen first =
        let here : IsTreeNode balanced slots c q m = spelled.1 in
        let is : IsSlot slots m = here.slot in
        let is_m : IsNode slots m = (omega arith, omega arith) in
        let sides : Apart c m (Fork i a b') b = apart_from_rising c m (Fork i a b') b rising in
        let v : ℕ = c m VersionField in
        let past1 : List Event = visited m v ∷ past in
        let past3 : List Event = found m LeftLink (c m LeftLink) ∷ found m KeyField (c m KeyField) ∷ past1 in
        let nx3 : Next = record {
          node = m;
          version = v;
          above = below q s;
          above_key = y;
          key = c m KeyField;
          value = nx.value;
        } in
        let goes : following (target nx3 ReadingNext) (node_at (c m LeftLink)) ≡ (
          target (on_way_to nx3 i m Left (c m KeyField)) Visiting,
          AskVisit i,
        )
        = ap (following (target nx3 ReadingNext)) (named i m (c m LeftLink) spelled.2.0 spelled.2.1)
        ∙ goes_below (target nx3 ReadingNext) (below m Left) (c m KeyField) i
        (λ e. no_n (inr (inl (inl (sym e))))) (λ e. sides.not_left (inl (sym e))) in
        let unseen' : IsUnseen (Fork i a b') past3 = unseen_left c m (Fork i a b') b sides v past unseen in
        let go : Goes (turns_to_first a) past3 (target (on_way_to nx3 i m Left (c m KeyField)) Visiting, AskVisit i)
        = descend i a b' m Left (c m KeyField) nx3 past3 refl spelled.2 sides.left (λ j. no_n (inr (inl j)))
        sides.not_left unseen' (λ z f j rs is_first. first z f j rs is_first) in (
          (is_m, here.unmarked, unseen m (inl refl)),
          (is_m, (is_m, subst (Goes (turns_to_first a) past3) (sym goes) go)),
        )

  -- once the node's links and its value are read
  chosen_goes : (l r : Tree) (above : ℕ) (side : Side) (n x : ℕ) (nx : Next) (past : List Event)
      (h : Hole balanced slots c ps tree.tree k above (link_of side) (Fork n l r)) (key : c n KeyField ≡ k)
      (is_key : IsKeyOf c above x) → IsUnseen l past → IsUnseen r past
      → Goes (3 * slots + 4) past (chosen (target above side n l r h key x is_key nx ReadingValue)
      (node_at (c n LeftLink)) (node_at (c n RightLink)))
  chosen_goes Empty r above side n x nx past h key is_key unseen_l unseen_r =
      let t : AvlRemove = target above side n Empty r h key x is_key nx ReadingValue in
      let sides : Apart c n Empty r = apart above side n Empty r h key x is_key in
      let to : AvlRemove × Ask = unlinking t (node_at (c n RightLink)) in
      let e : chosen t (node_at (c n LeftLink)) (node_at (c n RightLink)) ≡ to
      = ap (λ (z : ℕ). chosen t (node_at z) (node_at (c n RightLink))) h.spelled.2 in
      let go : Goes 2 past to = unlinks above side n Empty r h key x is_key r (c n RightLink) nx past h.spelled.3
      sides.not_right (λ i. h.apart (inr (inr i))) unseen_r
      (λ c' un. unlinked_right balanced slots c ps tree k above (link_of side) n r c' h key un) in
      subst (Goes (3 * slots + 4) past) (sym e) (more_turns slots c remove_moves (RemovesRight slots c ps k) 2
      (3 * slots + 4) to.1 past to.0 (omega arith) go)
  chosen_goes (Fork m a b) Empty above side n x nx past h key is_key unseen_l unseen_r =
      let l : Tree = Fork m a b in
      let t : AvlRemove = target above side n l Empty h key x is_key nx ReadingValue in
      let sides : Apart c n l Empty = apart above side n l Empty h key x is_key in
      let to : AvlRemove × Ask = unlinking t (node_at (c n LeftLink)) in
      let named_l : node_at (c n LeftLink) ≡ Some m = named m n (c n LeftLink) h.spelled.2.0 h.spelled.2.1 in
      let none : node_at (c n RightLink) ≡ None = ap node_at h.spelled.3 in
      let e : chosen t (node_at (c n LeftLink)) (node_at (c n RightLink)) ≡ to
      = (λ i. chosen t (named_l i) (none i)) ∙ ap (unlinking t) (sym named_l) in
      let go : Goes 2 past to = unlinks above side n l Empty h key x is_key l (c n LeftLink) nx past h.spelled.2
      sides.not_left (λ i. h.apart (inr (inl i))) unseen_l
      (λ c' un. unlinked_left balanced slots c ps tree k above (link_of side) n l c' h key un) in
      subst (Goes (3 * slots + 4) past) (sym e) (more_turns slots c remove_moves (RemovesRight slots c ps k) 2
      (3 * slots + 4) to.1 past to.0 (omega arith) go)
  chosen_goes (Fork m a b) (Fork i d e) above side n x nx past h key is_key unseen_l unseen_r =
      let l : Tree = Fork m a b in
      let r : Tree = Fork i d e in
      let t : AvlRemove = target above side n l r h key x is_key nx ReadingValue in
      let sides : Apart c n l r = apart above side n l r h key x is_key in
      let named_l : node_at (c n LeftLink) ≡ Some m = named m n (c n LeftLink) h.spelled.2.0 h.spelled.2.1 in
      let named_r : node_at (c n RightLink) ≡ Some i = named i n (c n RightLink) h.spelled.3.0 h.spelled.3.1 in
      let not_n : i ≢ n = λ z. sides.not_right (inl (sym z)) in
      let to : AvlRemove × Ask = (
        target above side n l r h key x is_key (on_way_to above side n l r h key x is_key nx i n Right k) Visiting,
        AskVisit i,
      ) in
      let goes : chosen t (node_at (c n LeftLink)) (node_at (c n RightLink)) ≡ to = (λ j. chosen t (named_l j)
      (named_r j)) ∙ goes_below t (below n Right) k i not_n not_n in
      let few_nodes : size_of r ≤ slots = size-le-slots balanced slots c r n (c n RightLink) h.spelled.3 sides.right in
      let enough : turns_to_first d ≤ 3 * size_of d + 7 = few_turns d in
      let go : Goes (turns_to_first d) past to
      = descend above side n l r h key x is_key i d e n Right k nx past (sym key) h.spelled.3 sides.right
      sides.not_right sides.not_right unseen_r (λ z f j rs is_first. is_first) in
      subst (Goes (3 * slots + 4) past) (sym goes) (more_turns slots c remove_moves (RemovesRight slots c ps k)
      (turns_to_first d) (3 * slots + 4) to.1 past to.0 (omega arith) go)

  abbrev walking : ℕ → Walk → AvlRemove
  walking x w = record (remove_of k) { walk = w; above_key = x }

  abbrev walked : ℕ → Walk → Step → AvlRemove × Ask
  walked x w s = remove_walked (walking x w) w s

  pub remove_course : Goes (6 * slots + (suc (suc (suc (3 * slots + 4))) + 3)) [] (remove_moves (remove_of k) Begin)
  remove_course = walk_to_key_below slots c balanced ps ready.few tree k remove_moves (RemovesRight slots c ps k)
      walking walked
      (λ x w t. refl) (λ x w n. refl) (λ x w n f. refl)
      (λ x w y ne. cond-false (y == w.key) (remove_reads (walking x w) ReadingLeft w.node LeftLink)
      (remove_passes (walking x w) w y) (ne_eqb y w.key (λ e. ne (sym e))))
      (suc (suc (suc (3 * slots + 4)))) (λ l r. suc (suc (suc (3 * slots + 4)))) (λ l r. omega arith)
      (λ x q s n l r h is_key e past unseen_l unseen_r.
      let w : Walk = walk_at slots c balanced ps ready.few tree k (below q s) n Choice in
      let node : IsTreeNode balanced slots c q n = h.spelled.1 in
      let slot : IsSlot slots n = node.slot in
      let is_n : IsNode slots n = (omega arith, omega arith) in
      let next : walked x w (Here (c n KeyField)) ≡ remove_reads (walking x w) ReadingLeft n LeftLink
      = cond-true (c n KeyField == k) (remove_reads (walking x w) ReadingLeft n LeftLink)
      (remove_passes (walking x w) w (c n KeyField)) (eq-eqb (c n KeyField) k (sym e)) in
      let past3 : List Event = found n ValueField (c n ValueField) ∷ found n RightLink (c n RightLink) ∷ found n
      LeftLink (c n LeftLink) ∷ past in
      subst (Goes (suc (suc (suc (3 * slots + 4)))) past) (sym next)
      (is_n, (is_n, (is_n, chosen_goes l r q s n x nothing_next past3 h (sym e) is_key unseen_l unseen_r))))
      (λ x q s a h is_key past.
      let missing : value_at k ps ≡ None = value_at-empty_hole balanced slots c ps tree.tree k q (link_of s) h in (
        (sym (ap value_or_nothing missing), without-empty_hole balanced slots c ps tree.tree k q (link_of s) h, tt),
        inr (tt, missing),
      ))
