-- The course of the repair of the nearest key from a number up, on a balanced tree that stands still: its search,
-- and the course from the node on that it found.
use Rattle.std.proofs.Common.{◌≡◌, ℕ, suc, ◌+◌, ◌*◌, ◌≤◌, ◌<◌, ◌==◌, ◌⊎◌, ⊎_elim, inl, inr, if◌then◌else◌, List}
use Rattle.std.proofs.Common.{true, false, [], ◌∷◌, Option, Some, None, refl, sym, ap, ◌∙◌, subst, arith}
use Rattle.std.specs.Prelude.{nat_lt}
use Rattle.std.proofs.lemmas.Bool.{cases_order, eq-eqb, ne_eqb, lt-ltb, le-ltb, cond-true, cond-false}
use Rattle.pc_model.specs.declared.cell.Field.TheVariants.{Version as VersionField, Key as KeyField, Left as LeftLink}
use Rattle.pc_model.specs.declared.cell.Field.TheVariants.{Right as RightLink}
use Rattle.pc_model.specs.declared.cell.Side.{Side}
use Rattle.pc_model.specs.declared.cell.Side.TheVariants.{Left as OnLeft, Right as OnRight}
use Rattle.pc_model.specs.Map.{Pairs, IsRising, ceil_of, found_or}
use Rattle.pc_model.specs.Cells.{Cells, IsEven, IsSlot, IsNode, node_at}
use Rattle.pc_model.specs.Debts.{has}
use Rattle.pc_model.specs.Sides.{link_of}
use Rattle.pc_model.specs.Trees.{Tree, Empty, Fork, balanced, IsTreeNode, IsIn, size_of, pair_of, pairs_of}
use Rattle.pc_model.specs.Trees.{IsSearchTree}
use Rattle.pc_model.specs.TreeForms.{tree_form}
use Rattle.pc_model.proofs.Counting.{size-le-slots}
use Rattle.pc_model.proofs.Framing.{Apart, apart_from_rising}
use Rattle.pc_model.proofs.Holes.{Hole, hole_apart, left_hole, right_hole, root_hole}
use Rattle.pc_model.proofs.HolePairs.{ceil_of-hole}
use Rattle.pc_model.proofs.NodeKeys.{none_in_debt_from}
use Rattle.pc_model.specs.declared.call.Reply.TheVariants.{None as Nothing}
use Rattle.pc_model.proofs.SortedLists.{ceil_of-front, ceil_of-back, found_or-None}
use Rattle.pc_plan.specs.declared.plan.Ask.{Ask}
use Rattle.pc_plan.specs.declared.plan.Ask.TheVariants.{Visit as AskVisit}
use Rattle.pc_plan.specs.declared.plan.Told.TheVariants.{Begin}
use Rattle.pc_plan.specs.Traces.{Event, version_seen}
use Rattle.pc_plan.specs.Runs.{IsReady}
use Rattle.pc_plan.proofs.Learning.{version_seen-else}
use Rattle.pc_plan.proofs.Unseen.{IsUnseen, unseen_left, unseen_right, unseen_whole}
use Rattle.pc_avl.specs.declared.look.Look.{Look}
use Rattle.pc_avl.specs.declared.look.Looked.{Looked}
use Rattle.pc_avl.specs.declared.repair.Aim.TheVariants.{Nearest}
use Rattle.pc_avl.specs.declared.repair.Repair.{Repair}
use Rattle.pc_avl.specs.declared.repair.RepairPhase.TheVariants.{Searching}
use Rattle.pc_avl.specs.declared.repair.Upper.{Upper}
use Rattle.pc_avl.specs.Looks.{missing, looked_in, look_for}
use Rattle.pc_avl.specs.Repairs.{nowhere, repair_of, repair_moves, answers, met, upper, going_down, going_to, finds}
use Rattle.pc_avl.specs.Repairs.{keeps_below, passes, seeks_left}
use Rattle.pc_avl.specs.RepairLooks.{node_of_looked, IsSeen, AreSeen, unseen_not_met, looked_past, seen_here}
use Rattle.pc_avl.specs.RepairLooks.{all_seen_still, IsDue, done_at, named, more}
use Rattle.pc_avl.specs.RepairBelow.{ChildDue}
use Rattle.pc_avl.specs.RepairCourses.{Goes as GoesOn, MendsRight, seeks_left_goes}
use Rattle.pc_avl.specs.RepairWalks.{due_of, due_on, due_within, few_due, due_in, few_due_in, due_unseen, child_unseen}
use Rattle.pc_avl.specs.RepairWalks.{IsNotOf, missing_not_of}
use Rattle.pc_avl.specs.RepairWalks.{on_outer, on_inner, on_near, on_far, all_due, few_all_due}

-- what was visited is seen, also where more is out of the way
seen_or_out : (out : ℕ → Type 0) (past : List Event) (ns : List ℕ) → AreSeen (λ n. ⊥) past ns → AreSeen out past ns
seen_or_out out past [] seen = tt
seen_or_out out past (n ∷ ns) seen = (
  ⊎_elim (λ zero. inl zero) (λ rest. ⊎_elim (λ was. inr (inl was)) (λ no. absurd no) rest) seen.0,
  seen_or_out out past ns seen.1,
)

-- a tree that the looked-at node isn't in stays unseen
unseen_still : (c : Cells) (i : ℕ) (t : Tree) (past : List Event) → (IsIn i t → ⊥) → IsUnseen t past
    → IsUnseen t (looked_past c i past)
unseen_still c i t past out unseen m j =
    version_seen-else m i (c i VersionField) past (λ e. out (subst (λ (n : ℕ). IsIn n t) (sym e) j)) ∙ unseen m j

found_twice : (o : Option (ℕ × ℕ)) (p : ℕ × ℕ) (other : Option (ℕ × ℕ))
    → found_or (found_or o (Some p)) other ≡ found_or o (Some p)
found_twice None p other = refl
found_twice (Some q) p other = refl

-- The nodes that a search keeps below the nearest one so far, and the trees beside them. The tree u is the one
-- that it comes to, and l that on the left of the nearest one; so many turns are due for the outer child of the
-- left child, and for that of its inner child.
module _ (c : Cells) (past : List Event) where
  abbrev KeptNone : Tree → Tree → Looked → Looked → Looked → Type 0
  KeptNone u l left inner far = (l ≡ u) × (left ≡ missing) × (inner ≡ missing) × (far ≡ missing)

  abbrev KeptOne : Tree → Tree → Looked → Looked → Looked → ℕ → Type 0
  KeptOne u l left inner far da = (d : ℕ) × (a : Tree) × (l ≡ Fork d a u) × (left ≡ looked_in c d) × (inner ≡ missing)
      × (far ≡ missing) × IsUnseen a past × (due_of a ≤ da)

  abbrev KeptTwo : Tree → Tree → Looked → Looked → Looked → ℕ → ℕ → Type 0
  KeptTwo u l left inner far da db = (d : ℕ) × (a : Tree) × (e : ℕ) × (b : Tree) × (l ≡ Fork d a (Fork e b u))
      × (left ≡ looked_in c d) × (inner ≡ looked_in c e) × (far ≡ missing) × IsUnseen a past × (due_of a ≤ da)
      × IsUnseen b past × (due_of b ≤ db)

  abbrev KeptThree : Tree → Tree → Looked → Looked → Looked → ℕ → ℕ → Type 0
  KeptThree u l left inner far da db = (d : ℕ) × (a : Tree) × (e : ℕ) × (b : Tree) × (f : ℕ) × (b' z : Tree)
      × (l ≡ Fork d a (Fork e b (Fork f b' z))) × (left ≡ looked_in c d) × (inner ≡ looked_in c e)
      × (far ≡ looked_in c f) × IsUnseen a past × (due_of a ≤ da) × IsUnseen b past × (due_of b ≤ db)
      × ((n : ℕ) → IsIn n u → IsIn n z)

  abbrev Kept : Tree → Tree → Looked → Looked → Looked → ℕ → ℕ → Type 0
  Kept u l left inner far da db = KeptNone u l left inner far ⊎ (KeptOne u l left inner far da
      ⊎ (KeptTwo u l left inner far da db ⊎ KeptThree u l left inner far da db))

-- what lies beside a tree has none of its nodes
beside_out : (c : Cells) (d : ℕ) (a u : Tree) → IsRising (pairs_of c (Fork d a u)) → (n : ℕ) → IsIn n u → IsIn n a → ⊥
beside_out c d a u rising n in_u in_a = (apart_from_rising c d a u rising).not_both n in_a in_u

right_rising : (c : Cells) (d : ℕ) (a u : Tree) → IsRising (pairs_of c (Fork d a u)) → IsRising (pairs_of c u)
right_rising c d a u rising = (apart_from_rising c d a u rising).right

-- At the end of the search below the nearest one: its left child is known, or there is none, and what is due below.
module _ (c : Cells) (past : List Event) (l : Tree) (left inner far : Looked) (da db outer_turns inner_turns near_turns far_turns : ℕ)
    (not_l : IsNotOf missing l) (for_o : da ≤ outer_turns) (for_n : db ≤ near_turns) where
  abbrev KeptDue : Tree → Type 0
  KeptDue t = IsDue c past t left 0 × ChildDue OnLeft c past t missing inner missing far outer_turns inner_turns near_turns far_turns

  kept_due : Kept c past Empty l left inner far da db → KeptDue l
  kept_due kept = ⊎_elim
      (λ none. subst KeptDue (sym none.0) (tt, tt))
      (λ more. ⊎_elim
      (λ one. let d : ℕ = one.0 in
      let a : Tree = one.1 in
      let is : l ≡ Fork d a Empty = one.2 in
      let not_fork : IsNotOf missing (Fork d a Empty) = subst (IsNotOf missing) is not_l in
      subst KeptDue (sym is) (
        inl one.3,
        (
          due_unseen c past a missing outer_turns (λ n i. not_fork n (inr (inl i))) (omega (arith, one.7)) one.6,
          tt,
          tt,
        ),
      ))
      (λ more'. ⊎_elim
      (λ two. let d : ℕ = two.0 in
      let a : Tree = two.1 in
      let e : ℕ = two.2 in
      let b : Tree = two.3 in
      let is : l ≡ Fork d a (Fork e b Empty) = two.4 in
      let not_fork : IsNotOf missing (Fork d a (Fork e b Empty)) = subst (IsNotOf missing) is not_l in
      subst KeptDue (sym is) (
        inl two.5,
        (
          due_unseen c past a missing outer_turns (λ n i. not_fork n (inr (inl i))) (omega (arith, two.9)) two.8,
          inl two.6,
          (
            due_unseen c past b missing near_turns (λ n i. not_fork n (inr (inr (inr (inl i))))) (omega (arith, two.11)) two.10,
            tt,
          ),
        ),
      ))
      (λ three. let d : ℕ = three.0 in
      let a : Tree = three.1 in
      let e : ℕ = three.2 in
      let b : Tree = three.3 in
      let f : ℕ = three.4 in
      let is : l ≡ Fork d a (Fork e b (Fork f three.5 three.6)) = three.7 in
      let not_fork : IsNotOf missing (Fork d a (Fork e b (Fork f three.5 three.6))) = subst (IsNotOf missing) is not_l in
      subst KeptDue (sym is) (
        inl three.8,
        (
          due_unseen c past a missing outer_turns (λ n i. not_fork n (inr (inl i))) (omega (arith, three.12)) three.11,
          inl three.9,
          (
            due_unseen c past b missing near_turns (λ n i. not_fork n (inr (inr (inr (inl i))))) (omega (arith, three.14)) three.13,
            inl three.10,
          ),
        ),
      ))
      more') more) kept

-- the nodes that are kept lie on the left of the nearest one, so none is on its right
kept_beside : (c : Cells) (past : List Event) (u l r : Tree) (left inner far : Looked) (da db : ℕ) → IsNotOf missing r
    → ((n : ℕ) → IsIn n l → IsIn n r → ⊥) → Kept c past u l left inner far da db → IsNotOf inner r × IsNotOf far r
kept_beside c past u l r left inner far da db not_r apart kept = ⊎_elim
    (λ none. (
      subst (λ (z : Looked). IsNotOf z r) (sym none.2) not_r,
      subst (λ (z : Looked). IsNotOf z r) (sym none.3)
          not_r,
    ))
    (λ more. ⊎_elim
    (λ one. (
      subst (λ (z : Looked). IsNotOf z r) (sym one.4) not_r,
      subst (λ (z : Looked). IsNotOf z r) (sym one.5)
          not_r,
    ))
    (λ more'. ⊎_elim
    (λ two. let out : (n : ℕ) → IsIn n (Fork two.0 two.1 (Fork two.2 two.3 u)) → IsIn n r → ⊥
    = subst (λ (t : Tree). (n : ℕ) → IsIn n t → IsIn n r → ⊥) two.4 apart in (
      subst (λ (z : Looked). IsNotOf z r) (sym two.6) (λ n i e. out n (inr (inr (inl (sym e)))) i),
      subst (λ (z : Looked). IsNotOf z r) (sym two.7) not_r,
    ))
    (λ three. let out : (n : ℕ) → IsIn n (Fork three.0 three.1 (Fork three.2 three.3 (Fork three.4 three.5 three.6)))
    → IsIn n r → ⊥ = subst (λ (t : Tree). (n : ℕ) → IsIn n t → IsIn n r → ⊥) three.7 apart in (
      subst (λ (z : Looked). IsNotOf z r) (sym three.9) (λ n i e. out n (inr (inr (inl (sym e)))) i),
      subst (λ (z : Looked). IsNotOf z r) (sym three.10) (λ n i e. out n (inr (inr (inr (inr (inl (sym e)))))) i),
    ))
    more') more) kept

module _ (slots : ℕ) (c : Cells) (ps : Pairs) (k : ℕ) (ready : IsReady (tree_form balanced) slots c ps) where
  abbrev tree : IsSearchTree balanced slots c ps
  tree = ready.is_sound

  abbrev Goes : ℕ → List Event → Repair × Ask → Type 0
  Goes turns past s = GoesOn slots c ps Nearest k ready turns past s

  abbrev Wanted : List Event → Ask → Type 0
  Wanted past a = MendsRight slots c ps Nearest k ready past a

  -- a search that left this node last
  abbrev state : Upper → Upper → Looked → Looked → Looked → Looked → Look → Repair
  state last above node left inner far look = record (repair_of Nearest k) {
    last = last;
    above = above;
    node = node;
    left = left;
    inner = inner;
    far = far;
    look = look;
    phase = Searching;
  }

  abbrev upper_at : ℕ → Side → Upper
  upper_at w s = upper (looked_in c w) s

  abbrev HoleAt : ℕ → Side → Tree → Type 0
  HoleAt w s u = Hole balanced slots c ps tree.tree k w (link_of s) u

  abbrev Seen : List Event → Repair → Type 0
  Seen past r = AreSeen (λ n. ⊥) past (met r)

  -- a look on the way
  looks_on : (last above : Upper) (node left inner far : Looked) (i turns : ℕ) (past : List Event) → IsNode slots i
      → IsEven (c i VersionField) → version_seen i past ≡ None
      → Goes turns (looked_past c i past) (passes (state last above node left inner far (done_at c i)) (looked_in c i))
      → Goes (suc (suc (suc (suc (suc (suc turns)))))) past
      (state last above node left inner far (look_for i), AskVisit i)
  looks_on last above node left inner far i turns past is even unseen goes =
      ((is, even, unseen), (is, (is, (is, (is, (is, goes))))))

  -- The search has found a node whose key is the number itself.
  at_number : (w : ℕ) (s : Side) (i : ℕ) (a b : Tree) → HoleAt w s (Fork i a b) → (look : Look) (past : List Event)
      → IsUnseen a past → IsUnseen b past → Seen past (state (upper_at w s) (upper_at w s) (looked_in c i) missing missing
      missing look) → ceil_of k ps ≡ Some (pair_of c i)
      → Goes (6 * (size_of a + size_of b)) past
      (seeks_left (state (upper_at w s) (upper_at w s) (looked_in c i) missing missing missing look))
  at_number w s i a b h look past unseen_a unseen_b seen nearest =
      let r' : Repair = state (upper_at w s) (upper_at w s) (looked_in c i) missing missing missing look in
      let no_a : IsNotOf missing a = missing_not_of slots c a i (c i LeftLink) h.spelled.2 in
      let no_b : IsNotOf missing b = missing_not_of slots c b i (c i RightLink) h.spelled.3 in
      more slots c ready.few Wanted (all_due a b) (6 * (size_of a + size_of b)) past (seeks_left r') (few_all_due a b)
      (seeks_left_goes slots c ps Nearest k ready w s i (c w KeyField) a b h (λ _. refl) nearest 0 (on_outer a b)
      (on_inner a b) (on_near a b) (on_far a b) r' past (due_of a) (due_of b)
      (record { aims = refl; above = refl; node = refl })
      (due_unseen c past a missing (due_of a) no_a (omega arith) unseen_a)
      (due_unseen c past b missing (due_of b) no_b (omega arith) unseen_b)
      (record {
        left = child_unseen c past OnLeft a missing missing missing missing (on_outer a b) (on_inner a b) (on_near a b)
            (on_far a b) no_a no_a no_a no_a (omega arith) (omega arith) (omega arith) (omega arith) unseen_a;
        right = child_unseen c past OnRight b missing missing missing missing (on_outer a b) (on_inner a b)
            (on_near a b) (on_far a b) no_b no_b no_b no_b (omega arith) (omega arith) (omega arith) (omega arith)
            unseen_b;
      })
      (seen_or_out (λ n. (IsIn n a ⊎ IsIn n b) → ⊥) past (met r') seen))

  -- What is known of a search that comes to the tree u.

  -- it has found no node yet
  record NotYet (u : Tree) (above : Upper) (node left inner far : Looked) : Type 0 where
    no_above : above ≡ nowhere
    no_node : node ≡ missing
    no_left : left ≡ missing
    no_inner : inner ≡ missing
    no_far : far ≡ missing
    nearest : ceil_of k ps ≡ found_or (ceil_of k (pairs_of c u)) None

  -- x is the nearest one so far
  record Found (u : Tree) (past : List Event) (above : Upper) (node left inner far : Looked) (rest : ℕ) : Type 0 where
    q : ℕ
    t : Side
    x : ℕ
    l : Tree
    r : Tree
    hole : HoleAt q t (Fork x l r)
    above_is : above ≡ upper_at q t
    node_is : node ≡ looked_in c x
    da : ℕ
    db : ℕ
    kept : Kept c past u l left inner far da db
    beside : IsUnseen r past
    enough : due_in OnRight r + (da + db) ≤ rest
    nearest : ceil_of k ps ≡ found_or (ceil_of k (pairs_of c u)) (Some (pair_of c x))
    within : (n : ℕ) → IsIn n u → IsIn n l

  -- the search ends below the node that it found
  found_ends : (last above : Upper) (node left inner far : Looked) (look : Look) (past : List Event) (rest : ℕ)
      → Found Empty past above node left inner far rest → Seen past (state last above node left inner far look)
      → Goes rest past (seeks_left (state last above node left inner far look))
  found_ends last above node left inner far look past rest f seen =
      let r' : Repair = state last above node left inner far look in
      let apart : Apart c f.x f.l f.r = hole_apart balanced slots c ps tree.tree k f.q (link_of f.t) f.x f.l f.r
      tree.rising f.hole in
      let not_l : IsNotOf missing f.l = missing_not_of slots c f.l f.x (c f.x LeftLink) f.hole.spelled.2 in
      let not_r : IsNotOf missing f.r = missing_not_of slots c f.r f.x (c f.x RightLink) f.hole.spelled.3 in
      let outer_turns : ℕ = f.da + due_on OnRight f.r in
      let inner_turns : ℕ = due_on OnLeft f.r in
      let near_turns : ℕ = f.db + due_within OnRight OnRight f.r in
      let far_turns : ℕ = due_within OnRight OnLeft f.r in
      let below : IsDue c past f.l left 0 × ChildDue OnLeft c past f.l missing inner missing far outer_turns inner_turns near_turns far_turns
      = kept_due c past f.l left inner far f.da f.db outer_turns inner_turns near_turns far_turns not_l (omega arith) (omega arith) f.kept in
      let enough : due_in OnRight f.r + (f.da + f.db) ≤ rest = f.enough in
      let beside : (IsNotOf inner f.r) × (IsNotOf far f.r)
      = kept_beside c past Empty f.l f.r left inner far f.da f.db not_r apart.not_both f.kept in
      more slots c ready.few Wanted (0 + (due_of f.r + (outer_turns + (inner_turns + (near_turns + (far_turns + 0)))))) rest past (seeks_left r')
      (omega arith)
      (seeks_left_goes slots c ps Nearest k ready f.q f.t f.x (c f.q KeyField) f.l f.r f.hole (λ _. refl) f.nearest 0 outer_turns
      inner_turns near_turns far_turns r' past 0 (due_of f.r)
      (record { aims = refl; above = f.above_is; node = f.node_is })
      below.0
      (due_unseen c past f.r missing (due_of f.r) not_r (omega arith) f.beside)
      (record {
        left = below.1;
        right = child_unseen c past OnRight f.r missing inner missing far outer_turns inner_turns near_turns far_turns not_r beside.0 not_r beside.1
            (omega arith) (omega arith) (omega arith) (omega arith) f.beside;
      })
      (seen_or_out (λ n. (IsIn n f.l ⊎ IsIn n f.r) → ⊥) past (met r') seen))

  -- what is known once a node with a smaller key was looked at
  record Advanced (i : ℕ) (a b : Tree) (past : List Event) (last above : Upper) (node left inner far : Looked) (look : Look)
      (rest : ℕ) : Type 0 where
    left' : Looked
    inner' : Looked
    far' : Looked
    keeps : keeps_below (state last above node left inner far look) (looked_in c i)
        ≡ state last above node left' inner' far' look
    found : Found b (looked_past c i past) above node left' inner' far' (rest + 6 * size_of a)
    seen_left : IsSeen (λ n. ⊥) (looked_past c i past) left'.node
    seen_inner : IsSeen (λ n. ⊥) (looked_past c i past) inner'.node
    seen_far : IsSeen (λ n. ⊥) (looked_past c i past) far'.node

  module _ (i : ℕ) (a b : Tree) (past : List Event) (last above : Upper) (node left inner far : Looked) (look : Look)
      (rest : ℕ) (f : Found (Fork i a b) past above node left inner far rest)
      (unseen : IsUnseen (Fork i a b) past) (below_i : Apart c i a b) (less : c i KeyField < k)
      (seen : Seen past (state last above node left inner far look)) where
    apart_x : Apart c f.x f.l f.r
    apart_x = hole_apart balanced slots c ps tree.tree k f.q (link_of f.t) f.x f.l f.r tree.rising f.hole

    some_node : (node.node == 0) ≡ false
    some_node =
        let slot : IsSlot slots f.x = f.hole.spelled.1.slot in
        let e : node.node ≡ f.x = ap node_of_looked f.node_is in
        ne_eqb node.node 0 (λ zero. let z : f.x ≡ 0 = sym e ∙ zero in absurd (omega arith))

    -- a node on the left is one
    some_left : (n : ℕ) (z : Looked) → z ≡ looked_in c n → IsIn n f.l → (z.node == 0) ≡ false
    some_left n z is inside = ne_eqb z.node 0 (λ e. missing_not_of slots c f.l f.x (c f.x LeftLink) f.hole.spelled.2 n
        inside (sym e ∙ ap node_of_looked is))

    blank : (z : Looked) → z ≡ missing → (z.node == 0) ≡ true
    blank z is = eq-eqb z.node 0 (ap node_of_looked is)

    abbrev here : Repair
    here = state last above node left inner far look

    -- what it found, with what is kept now
    found_now : (left' inner' far' : Looked) (da db : ℕ) → Kept c (looked_past c i past) b f.l left' inner' far' da db
        → da + db ≤ f.da + (f.db + 6 * size_of a)
        → Found b (looked_past c i past) above node left' inner' far' (rest + 6 * size_of a)
    found_now left' inner' far' da db kept few = record {
      q = f.q;
      t = f.t;
      x = f.x;
      l = f.l;
      r = f.r;
      hole = f.hole;
      above_is = f.above_is;
      node_is = f.node_is;
      da = da;
      db = db;
      kept = kept;
      beside = unseen_still c i f.r past (λ j. apart_x.not_both i (f.within i (inl refl)) j) f.beside;
      enough = let e : due_in OnRight f.r + (f.da + f.db) ≤ rest = f.enough in omega (arith, e, few);
      nearest = f.nearest ∙ ap (λ (o : Option (ℕ × ℕ)). found_or o (Some (pair_of c f.x)))
          (ceil_of-back k (pairs_of c a) (pair_of c i) (pairs_of c b) below_i.below less);
      within = λ n j. f.within n (inr (inr j));
    }

    -- keeping it, by which place is free
    abbrev keeps_far : Repair
    keeps_far = if far.node == 0 then state last above node left inner (looked_in c i) look else here

    abbrev keeps_inner : Repair
    keeps_inner = if inner.node == 0 then state last above node left (looked_in c i) far look else keeps_far

    abbrev keeps_left : Repair
    keeps_left = if left.node == 0 then state last above node (looked_in c i) inner far look else keeps_inner

    unseen_a : IsUnseen a (looked_past c i past)
    unseen_a = unseen_left c i a b below_i (c i VersionField) past unseen

    -- a tree beside the one that it comes to stays unseen
    beside_still : (d : ℕ) (t u : Tree) → IsRising (pairs_of c (Fork d t u)) → IsIn i u → IsUnseen t past
        → IsUnseen t (looked_past c i past)
    beside_still d t u rising inside = unseen_still c i t past (beside_out c d t u rising i inside)

    seen_looked : IsSeen (λ n. ⊥) (looked_past c i past) i
    seen_looked = inr (inl (seen_here c i past))

    seen_all : Seen (looked_past c i past) (state last above node left inner far look)
    seen_all = all_seen_still (λ n. ⊥) c i past (met (state last above node left inner far look)) seen

    advance : Advanced i a b past last above node left inner far look rest
    advance = ⊎_elim
        (λ none. record {
          left' = looked_in c i;
          inner' = inner;
          far' = far;
          keeps = cond-false (node.node == 0) here keeps_left some_node
              ∙ cond-true (left.node == 0) (state last above node (looked_in c i) inner far look) keeps_inner
              (blank left none.1);
          found = found_now (looked_in c i) inner far (due_of a) f.db
              (inr (inl (i, a, none.0, refl, none.2, none.3, unseen_a, omega arith)))
              (let few : due_of a ≤ 6 * size_of a = few_due a in omega arith);
          seen_left = seen_looked;
          seen_inner = seen_all.1.1.1.1.1.1.0;
          seen_far = seen_all.1.1.1.1.1.1.1.1.0;
        })
        (λ more. ⊎_elim
        (λ one. let d : ℕ = one.0 in
        let t : Tree = one.1 in
        let is : f.l ≡ Fork d t (Fork i a b) = one.2 in
        let rising : IsRising (pairs_of c (Fork d t (Fork i a b)))
        = subst (λ (z : Tree). IsRising (pairs_of c z)) is apart_x.left in
        let d_in : IsIn d f.l = subst (IsIn d) (sym is) (inl refl) in
        record {
          left' = left;
          inner' = looked_in c i;
          far' = far;
          keeps = cond-false (node.node == 0) here keeps_left some_node
              ∙ cond-false (left.node == 0) (state last above node (looked_in c i) inner far look) keeps_inner
              (some_left d left one.3 d_in)
              ∙ cond-true (inner.node == 0) (state last above node left (looked_in c i) far look) keeps_far
              (blank inner one.4);
          found = found_now left (looked_in c i) far f.da (f.db + due_of a)
              (inr (inr (inl (
                d,
                t,
                i,
                a,
                is,
                one.3,
                refl,
                one.5,
                beside_still d t (Fork i a b) rising (inl refl) one.6,
                one.7,
                unseen_a,
                omega arith,
              ))))
              (let few : due_of a ≤ 6 * size_of a = few_due a in omega arith);
          seen_left = seen_all.1.1.1.0;
          seen_inner = seen_looked;
          seen_far = seen_all.1.1.1.1.1.1.1.1.0;
        })
        (λ more'. ⊎_elim
        (λ two. let d : ℕ = two.0 in
        let t : Tree = two.1 in
        let e : ℕ = two.2 in
        let z : Tree = two.3 in
        let is : f.l ≡ Fork d t (Fork e z (Fork i a b)) = two.4 in
        let rising : IsRising (pairs_of c (Fork d t (Fork e z (Fork i a b))))
        = subst (λ (y : Tree). IsRising (pairs_of c y)) is apart_x.left in
        let d_in : IsIn d f.l = subst (IsIn d) (sym is) (inl refl) in
        let e_in : IsIn e f.l = subst (IsIn e) (sym is) (inr (inr (inl refl))) in
        record {
          left' = left;
          inner' = inner;
          far' = looked_in c i;
          keeps = cond-false (node.node == 0) here keeps_left some_node
              ∙ cond-false (left.node == 0) (state last above node (looked_in c i) inner far look) keeps_inner
              (some_left d left two.5 d_in)
              ∙ cond-false (inner.node == 0) (state last above node left (looked_in c i) far look) keeps_far
              (some_left e inner two.6 e_in)
              ∙ cond-true (far.node == 0) (state last above node left inner (looked_in c i) look) here
              (blank far two.7);
          found = found_now left inner (looked_in c i) f.da f.db
              (inr (inr (inr (
                d,
                t,
                e,
                z,
                i,
                a,
                b,
                is,
                two.5,
                two.6,
                refl,
                beside_still d t (Fork e z (Fork i a b)) rising (inr (inr (inl refl))) two.8,
                two.9,
                beside_still e z (Fork i a b) (right_rising c d t (Fork e z (Fork i a b)) rising) (inl refl) two.10,
                two.11,
                λ n j. j,
              ))))
              (omega arith);
          seen_left = seen_all.1.1.1.0;
          seen_inner = seen_all.1.1.1.1.1.1.0;
          seen_far = seen_looked;
        })
        (λ three. let d : ℕ = three.0 in
        let t : Tree = three.1 in
        let e : ℕ = three.2 in
        let z : Tree = three.3 in
        let g : ℕ = three.4 in
        let u : Tree = three.5 in
        let v : Tree = three.6 in
        let is : f.l ≡ Fork d t (Fork e z (Fork g u v)) = three.7 in
        let inside : IsIn i v = three.15 i (inl refl) in
        let rising : IsRising (pairs_of c (Fork d t (Fork e z (Fork g u v))))
        = subst (λ (y : Tree). IsRising (pairs_of c y)) is apart_x.left in
        let d_in : IsIn d f.l = subst (IsIn d) (sym is) (inl refl) in
        let e_in : IsIn e f.l = subst (IsIn e) (sym is) (inr (inr (inl refl))) in
        let g_in : IsIn g f.l = subst (IsIn g) (sym is) (inr (inr (inr (inr (inl refl))))) in
        record {
          left' = left;
          inner' = inner;
          far' = far;
          keeps = cond-false (node.node == 0) here keeps_left some_node
              ∙ cond-false (left.node == 0) (state last above node (looked_in c i) inner far look) keeps_inner
              (some_left d left three.8 d_in)
              ∙ cond-false (inner.node == 0) (state last above node left (looked_in c i) far look) keeps_far
              (some_left e inner three.9 e_in)
              ∙ cond-false (far.node == 0) (state last above node left inner (looked_in c i) look) here
              (some_left g far three.10 g_in);
          found = found_now left inner far f.da f.db
              (inr (inr (inr (
                d,
                t,
                e,
                z,
                g,
                u,
                v,
                is,
                three.8,
                three.9,
                three.10,
                beside_still d t (Fork e z (Fork g u v)) rising (inr (inr (inr (inr inside)))) three.11,
                three.12,
                beside_still e z (Fork g u v) (right_rising c d t (Fork e z (Fork g u v)) rising) (inr (inr inside))
                    three.13,
                three.14,
                λ n j. three.15 n (inr (inr j)),
              ))))
              (omega arith);
          seen_left = seen_all.1.1.1.0;
          seen_inner = seen_all.1.1.1.1.1.1.0;
          seen_far = seen_all.1.1.1.1.1.1.1.1.0;
        })
        more') more) f.kept

  -- what is known of a search that comes to a tree, with so many turns left over
  abbrev Down : Tree → List Event → Upper → Looked → Looked → Looked → Looked → ℕ → Type 0
  Down u past above node left inner far rest = NotYet u above node left inner far
      ⊎ Found u past above node left inner far rest

  -- it goes down from a node by a link
  goes_down : (u : Tree) (w : ℕ) (s : Side) → HoleAt w s u → (past : List Event) (above : Upper)
      (node left inner far : Looked) (look : Look) (rest : ℕ) → Down u past above node left inner far rest
      → IsUnseen u past → Seen past (state (upper_at w s) above node left inner far look)
      → Goes (6 * size_of u + rest) past
      (going_down (state (upper_at w s) above node left inner far look) (node_at (c w (link_of s))))
  goes_down Empty w s h past above node left inner far look rest down unseen seen =
      let r' : Repair = state (upper_at w s) above node left inner far look in
      subst (λ (o : Option ℕ). Goes (6 * 0 + rest) past (going_down r' o)) (sym (ap node_at h.spelled)) (⊎_elim
      (λ not_yet.
      let none : ceil_of k ps ≡ None = not_yet.nearest in
      subst (Goes (6 * 0 + rest) past) (sym (cond-true (node.node == 0) (answers r' Nothing) (seeks_left r')
      (eq-eqb node.node 0 (ap node_of_looked not_yet.no_node))))
      ((tt, refl, λ j low end. inr (none_in_debt_from slots c ps tree k none j low)), inl (none, refl)))
      (λ f.
      let slot : IsSlot slots f.x = f.hole.spelled.1.slot in
      let e : node.node ≡ f.x = ap node_of_looked f.node_is in
      let some : (node.node == 0) ≡ false = ne_eqb node.node 0
      (λ zero. let z : f.x ≡ 0 = sym e ∙ zero in absurd (omega arith)) in
      subst (Goes (6 * 0 + rest) past) (sym (cond-false (node.node == 0) (answers r' Nothing) (seeks_left r') some))
      (more slots c ready.few Wanted rest (6 * 0 + rest) past (seeks_left r') (omega arith)
      (found_ends (upper_at w s) above node left inner far look past rest f seen)))
      down)
  goes_down (Fork i a b) w s h past above node left inner far look rest down unseen seen =
      let r' : Repair = state (upper_at w s) above node left inner far look in
      let r1 : Repair = state (upper_at w s) above node left inner far (done_at c i) in
      let l1 : Looked = looked_in c i in
      let key : ℕ = c i KeyField in
      let past1 : List Event = looked_past c i past in
      let is : IsTreeNode balanced slots c w i = h.spelled.1 in
      let slot : IsSlot slots i = is.slot in
      let is_node : IsNode slots i = (omega arith, omega arith) in
      let apart : Apart c i a b = hole_apart balanced slots c ps tree.tree k w (link_of s) i a b tree.rising h in
      let unseen_i : version_seen i past ≡ None = unseen i (inl refl) in
      let unseen_a : IsUnseen a past1 = unseen_left c i a b apart (c i VersionField) past unseen in
      let unseen_b : IsUnseen b past1 = unseen_right c i a b apart (c i VersionField) past unseen in
      let all_seen : Seen past1 r' = all_seen_still (λ n. ⊥) c i past (met r') seen in
      let seen_i : IsSeen (λ n. ⊥) past1 i = inr (inl (seen_here c i past)) in
      let turns : ℕ = 6 * (size_of a + size_of b) + rest in
      let not_met : has i (met r') ≡ false = unseen_not_met (λ n. ⊥) past i (met r') (λ e. absurd (omega arith)) (λ no. no)
      unseen_i seen in
      let at_one : Repair × Ask = going_to r1 l1 OnLeft in
      let at_same : Repair × Ask = seeks_left (finds r1 l1) in
      let at_greater : Repair × Ask = going_to (finds r1 l1) l1 OnLeft in
      let at_smaller : Repair × Ask = going_to (keeps_below r1 l1) l1 OnRight in
      let or_smaller : Repair × Ask = if nat_lt k key then at_greater else at_smaller in
      let or_greater : Repair × Ask = if k == key then at_same else or_smaller in
      let not_one : passes r1 l1 ≡ or_greater = cond-false (i == 1) at_one or_greater
      (ne_eqb i 1 (λ e. absurd (omega arith))) in
      let found_seen : (z : Upper) → IsSeen (λ n. ⊥) past1 z.above.node
      → Seen past1 (state z (upper_at w s) l1 missing missing missing (done_at c i))
      = λ z at_z. (
        at_z,
        (
          all_seen.0,
          (
            seen_i,
            (
              inl refl,
              (
                inl refl,
                (
                  inl refl,
                  (
                    inl refl,
                    (
                      inl refl,
                      (
                        inl refl,
                        tt,
                      ),
                    ),
                  ),
                ),
              ),
            ),
          ),
        ),
      ) in
      let goes : Goes turns past1 (passes r1 l1) = ⊎_elim
      (λ same.
      let to : passes r1 l1 ≡ at_same = not_one ∙ cond-true (k == key) at_same or_smaller (eq-eqb k key same) in
      subst (Goes turns past1) (sym to)
      (more slots c ready.few Wanted (6 * (size_of a + size_of b)) turns past1 at_same (omega arith)
      (at_number w s i a b h (done_at c i) past1 unseen_a unseen_b (found_seen (upper_at w s) all_seen.0)
      (ceil_of-hole balanced slots c ps tree.tree k w (link_of s) i a b tree.rising h (sym same)))))
      (λ sides. ⊎_elim
      (λ less.
      let to : passes r1 l1 ≡ at_greater = not_one
      ∙ cond-false (k == key) at_same or_smaller (ne_eqb k key (λ e. absurd (omega arith)))
      ∙ cond-true (nat_lt k key) at_greater at_smaller (lt-ltb k key less) in
      let few : due_in OnRight b ≤ 6 * size_of b = few_due_in OnRight b in
      let front : ceil_of k (pairs_of c (Fork i a b)) ≡ found_or (ceil_of k (pairs_of c a)) (Some (pair_of c i))
      = ceil_of-front k (pairs_of c a) (pair_of c i) (pairs_of c b) (omega arith) in
      let near : ceil_of k ps ≡ found_or (ceil_of k (pairs_of c a)) (Some (pair_of c i)) = ⊎_elim
      (λ not_yet. not_yet.nearest ∙ ap (λ (o : Option (ℕ × ℕ)). found_or o None) front
      ∙ found_twice (ceil_of k (pairs_of c a)) (pair_of c i) None)
      (λ f. f.nearest ∙ ap (λ (o : Option (ℕ × ℕ)). found_or o (Some (pair_of c f.x))) front
      ∙ found_twice (ceil_of k (pairs_of c a)) (pair_of c i) (Some (pair_of c f.x))) down in
      subst (Goes turns past1) (sym to)
      (more slots c ready.few Wanted (6 * size_of a + 6 * size_of b) turns past1 at_greater (omega arith)
      (goes_down a i OnLeft (left_hole balanced slots c ps tree.tree k w (link_of s) i a b tree.rising less h) past1
      (upper_at w s) l1 missing missing missing (done_at c i) (6 * size_of b)
      (inr (record {
        q = w;
        t = s;
        x = i;
        l = a;
        r = b;
        hole = h;
        above_is = refl;
        node_is = refl;
        da = 0;
        db = 0;
        kept = inl (refl, refl, refl, refl);
        beside = unseen_b;
        enough = omega arith;
        nearest = near;
        within = λ n j. j;
      }))
      unseen_a (found_seen (upper_at i OnLeft) seen_i))))
      (λ greater.
      let to : passes r1 l1 ≡ at_smaller = not_one
      ∙ cond-false (k == key) at_same or_smaller (ne_eqb k key (λ e. absurd (omega arith)))
      ∙ cond-false (nat_lt k key) at_greater at_smaller (le-ltb k key (omega arith)) in
      let right : HoleAt i OnRight b
      = right_hole balanced slots c ps tree.tree k w (link_of s) i a b tree.rising greater h in
      subst (Goes turns past1) (sym to) (⊎_elim
      (λ not_yet.
      let keeps : keeps_below r1 l1 ≡ r1 = cond-true (node.node == 0) r1
      (if left.node == 0 then state (upper_at w s) above node l1 inner far (done_at c i)
      else if inner.node == 0 then state (upper_at w s) above node left l1 far (done_at c i)
      else if far.node == 0 then state (upper_at w s) above node left inner l1 (done_at c i) else r1)
      (eq-eqb node.node 0 (ap node_of_looked not_yet.no_node)) in
      subst (λ (z : Repair). Goes turns past1 (going_to z l1 OnRight)) (sym keeps)
      (more slots c ready.few Wanted (6 * size_of b + rest) turns past1 (going_to r1 l1 OnRight) (omega arith)
      (goes_down b i OnRight right past1 above node left inner far (done_at c i) rest
      (inl (record {
        no_above = not_yet.no_above;
        no_node = not_yet.no_node;
        no_left = not_yet.no_left;
        no_inner = not_yet.no_inner;
        no_far = not_yet.no_far;
        nearest = not_yet.nearest ∙ ap (λ (o : Option (ℕ × ℕ)). found_or o None)
            (ceil_of-back k (pairs_of c a) (pair_of c i) (pairs_of c b) apart.below greater);
      }))
      unseen_b (seen_i, all_seen.1))))
      (λ f.
      let adv : Advanced i a b past (upper_at w s) above node left inner far (done_at c i) rest
      = advance i a b past (upper_at w s) above node left inner far (done_at c i) rest f unseen apart greater seen in
      subst (λ (z : Repair). Goes turns past1 (going_to z l1 OnRight)) (sym adv.keeps)
      (more slots c ready.few Wanted (6 * size_of b + (rest + 6 * size_of a)) turns past1
      (going_to (state (upper_at w s) above node adv.left' adv.inner' adv.far' (done_at c i)) l1 OnRight) (omega arith)
      (goes_down b i OnRight right past1 above node adv.left' adv.inner' adv.far' (done_at c i) (rest + 6 * size_of a)
      (inr adv.found) unseen_b (
        seen_i,
        (
          all_seen.1.0,
          (
            all_seen.1.1.0,
            (
              adv.seen_left,
              (
                inl refl,
                (
                  inl refl,
                  (
                    adv.seen_inner,
                    (
                      inl refl,
                      (adv.seen_far, tt),
                    ),
                  ),
                ),
              ),
            ),
          ),
        ),
      )))) down))
      sides) (cases_order k key) in
      subst (λ (o : Option ℕ). Goes (6 * size_of (Fork i a b) + rest) past (going_down r' o))
      (sym (named slots c ready.few Wanted i w (c w (link_of s)) h.spelled.0 is))
      (subst (Goes (6 * size_of (Fork i a b) + rest) past)
      (sym (cond-false (has i (met r')) (answers r' Nothing) (
        state (upper_at w s) above node left inner far (look_for i),
        AskVisit i,
      ) not_met))
      (more slots c ready.few Wanted (suc (suc (suc (suc (suc (suc turns)))))) (6 * size_of (Fork i a b) + rest) past
      (state (upper_at w s) above node left inner far (look_for i), AskVisit i) (omega arith)
      (looks_on (upper_at w s) above node left inner far i turns past is_node is.unmarked unseen_i goes)))

  -- the whole course
  pub search_course : Goes (6 * slots + (4 + 3)) [] (repair_moves (repair_of Nearest k) Begin)
  search_course =
      let t : Tree = tree.tree in
      let few : size_of t ≤ slots = size-le-slots balanced slots c t 1 (c 1 LeftLink) tree.spelled
      (subst IsRising (sym tree.pairs) tree.rising) in
      let turns : ℕ = 6 * size_of t + 0 in
      more slots c ready.few Wanted (suc (suc (suc (suc (suc (suc turns)))))) (6 * slots + (4 + 3)) []
      (repair_moves (repair_of Nearest k) Begin) (omega arith)
      (looks_on nowhere nowhere missing missing missing missing 1 turns [] (omega arith, omega arith) tree.unmarked refl
      (goes_down t 1 OnLeft (root_hole balanced slots c ps tree k) (looked_past c 1 []) nowhere missing missing missing
      missing (done_at c 1) 0
      (inl (record {
        no_above = refl;
        no_node = refl;
        no_left = refl;
        no_inner = refl;
        no_far = refl;
        nearest = ap (ceil_of k) (sym tree.pairs) ∙ found_or-None (ceil_of k (pairs_of c t));
      }))
      (unseen_whole balanced slots c t (c 1 VersionField) tree.spelled) (
        inr (inl (seen_here c 1 [])),
        (
          inl refl,
          (
            inl refl,
            (
              inl refl,
              (
                inl refl,
                (
                  inl refl,
                  (
                    inl refl,
                    (
                      inl refl,
                      (inl refl, tt),
                    ),
                  ),
                ),
              ),
            ),
          ),
        ),
      )))
