-- The course of a repair from its node on, on a balanced tree that stands still.
use Rattle.std.proofs.Common.{◌≡◌, ◌≢◌, ℕ, ◌+◌, ◌^◌, ◌≤◌, ◌<◌, ◌==◌, ◌⊎◌, inl, inr, ⊎_elim}
use Rattle.std.proofs.Common.{if◌then◌else◌, List, [], ◌∷◌, ◌++◌, refl, sym, ap, ◌∙◌, subst, arith}
use Rattle.std.specs.Prelude.{IsTrue, nat_le}
use Rattle.std.proofs.lemmas.Bool.{cond_both, cond-true, cond-false, eqb-true, eqb-false, leb-true, leb-false, le-leb, lt-leb}
use Rattle.pc_model.specs.declared.cell.Field.TheVariants.{Version as VersionField, Key as KeyField, Left as LeftLink}
use Rattle.pc_model.specs.declared.cell.Field.TheVariants.{Right as RightLink, Height}
use Rattle.pc_model.specs.declared.cell.Side.{Side}
use Rattle.pc_model.specs.declared.cell.Side.TheVariants.{Left as OnLeft, Right as OnRight}
use Rattle.pc_model.specs.declared.call.Reply.{Reply}
use Rattle.pc_model.specs.declared.call.Reply.TheVariants.{Value}
use Rattle.pc_model.specs.Map.{Pairs, IsRising}
use Rattle.pc_model.specs.Cells.{Cells, IsSlot}
use Rattle.pc_model.specs.Debts.{has}
use Rattle.pc_model.specs.Sides.{link_of, opposite, fork_on}
use Rattle.pc_model.specs.Trees.{Tree, Empty, Fork, balanced, IsTreeNode, Spells, IsIn, pairs_of}
use Rattle.pc_model.specs.Trees.{IsSearchTree}
use Rattle.pc_model.specs.TreeForms.{tree_form, height_at, height_over, AreClose, IsInBalance}
use Rattle.pc_model.proofs.Framing.{Apart}
use Rattle.pc_model.proofs.DebtsBrought.{IsCharged}
use Rattle.pc_model.proofs.Holes.{Hole, hole_apart}
use Rattle.pc_model.proofs.Sides.{SpellsOn, spells_on, ApartOn, apart_on, in_root, in_near, in_far}
use Rattle.pc_model.proofs.NodeKeys.{in_balance_not_in_debt}
use Rattle.pc_model.specs.Rotations.{IsReheighted, height_asked, IsRotated, IsDoublyRotated}
use Rattle.pc_model.proofs.Reheighting.{reheighted, reheighted_in_balance, reheighted_brings_only}
use Rattle.pc_model.proofs.Reheighting.{height_over-small}
use Rattle.pc_model.proofs.Rotation.{rotated, rotated_brings_only}
use Rattle.pc_model.proofs.DoubleRotation.{doubly_rotated, doubly_rotated_brings_only}
use Rattle.pc_plan.specs.declared.plan.Ask.{Ask}
use Rattle.pc_plan.specs.declared.plan.Ask.TheVariants.{Change, Answer}
use Rattle.pc_plan.specs.NodeChanges.{ByNodes, planned_by}
use Rattle.pc_plan.specs.Traces.{Event}
use Rattle.pc_plan.specs.Runs.{IsReady}
use Rattle.pc_plan.proofs.Courses.{EndsRight}
use Rattle.pc_plan.proofs.NodeWords.{has_here, has_later}
use Rattle.pc_plan.proofs.WalkKeys.{IsKeyOf}
use Rattle.pc_bst.specs.Kinds.{key_unless_sentinel}
use Rattle.pc_bst.specs.PutEnds.{key_is_charged}
use Rattle.pc_avl.specs.declared.look.Look.{Look}
use Rattle.pc_avl.specs.declared.look.Looked.{Looked}
use Rattle.pc_avl.specs.declared.repair.Aim.{Aim}
use Rattle.pc_avl.specs.declared.repair.Place.{Place}
use Rattle.pc_avl.specs.declared.repair.Place.TheVariants.{Node, Left, Right, Outer, Inner, Near, Far}
use Rattle.pc_avl.specs.declared.repair.Repair.{Repair}
use Rattle.pc_avl.specs.declared.repair.RepairPhase.{RepairPhase}
use Rattle.pc_avl.specs.declared.repair.Upper.{Upper}
use Rattle.pc_avl.specs.Balances.{are_close, is_in_balance, heavier_side}
use Rattle.pc_avl.specs.BalanceTests.{close_is, not_close, told_balance, told_imbalance}
use Rattle.pc_avl.specs.Looks.{looked_in, link_at}
use Rattle.pc_avl.specs.Repairs.{answers, ends, seeks, child, sibling}
use Rattle.pc_avl.specs.Repairs.{balanced_reply, child_on, leans, met, turns_twice, seeks_far, seeks_near}
use Rattle.pc_avl.specs.Repairs.{turns, seeks_inner, seeks_outer, weighs, seeks_right, seeks_left, placed}
use Rattle.pc_avl.specs.RepairChanges.{reheighting, rotating, rotating_twice}
use Rattle.pc_avl.specs.RepairTerms.{repair_terms}
use Rattle.pc_avl.specs.RepairCases.{IsAimed, IsTooHighOn, IsInnerHigher, EndsRepair, EndsAsRepair, IsNodeBelow}
use Rattle.pc_avl.specs.RepairEnds.{IsLookedAt, link_at_in, left_by, reheighted_by, is_reheighted, reheight_end}
use Rattle.pc_avl.specs.RepairEnds.{is_rotated, rotated_lower, rotated_upper, rotate_end}
use Rattle.pc_avl.specs.RepairEnds.{is_doubly_rotated, turned_near, turned_far, turned_top, turn_twice_end}
use Rattle.pc_avl.specs.RepairLooks.{at_tree, AreSeen, IsDue, anywhere, Goes as GoesBy, seeks_goes}
use Rattle.pc_avl.specs.RepairBelow.{looked_at_tree, root_differs, roots_differ, root_in, due_still}
use Rattle.pc_avl.specs.RepairBelow.{settles_first, settles_was, settles_balanced, charged_key, height_told}
use Rattle.pc_avl.specs.RepairBelow.{left_told, right_told, tree_on, tree_on_in, tree_on_sides, fork_seen}
use Rattle.pc_avl.specs.RepairBelow.{root_on, child_is, InnerDue, ChildDue, below_in, root_not_below}
use Rattle.pc_avl.specs.RepairBelow.{inner_due_still, child_due_still}

module _ (slots : ℕ) (c : Cells) (ps : Pairs) (aim : Aim) (k : ℕ) (ready : IsReady (tree_form balanced) slots c ps) where
  abbrev pub tree : IsSearchTree balanced slots c ps
  tree = ready.is_sound

  -- the end is right, and it is as a repair is to end
  abbrev pub MendsRight : List Event → Ask → Type 0
  MendsRight past a = EndsRight (tree_form balanced) slots c ps (repair_terms aim k) past a
      × EndsAsRepair aim k slots c ps past a

  abbrev pub Goes : ℕ → List Event → Repair × Ask → Type 0
  Goes turns past s = GoesBy slots c ready.few MendsRight turns past s

  -- At the node x, which hangs below q.
  module _ (q : ℕ) (t : Side) (x key : ℕ) (l r : Tree) (h : Hole balanced slots c ps tree.tree k q (link_of t)
      (Fork x l r)) (is_key : IsKeyOf c q key) (aimed : IsAimed aim k c ps x) where
    node : IsTreeNode balanced slots c q x
    node = h.spelled.1

    apart : Apart c x l r
    apart = hole_apart balanced slots c ps tree.tree k q (link_of t) x l r tree.rising h

    is_below : IsNodeBelow slots c q (link_of t) x
    is_below = record { hangs = h.spelled.0; node = node }

    -- which nodes are out of the way: those that aren't below x
    abbrev pub IsOut : ℕ → Type 0
    IsOut n = (IsIn n l ⊎ IsIn n r) → ⊥

    abbrev pub Seen : List Event → List ℕ → Type 0
    Seen past ns = AreSeen IsOut past ns

    as_repair : (past : List Event) (a : Ask) → EndsRepair aim slots c q (link_of t) x past a
        → EndsAsRepair aim k slots c ps past a
    as_repair past a e = inr (q, link_of t, x, is_below, aimed, e)

    abbrev upper_here : Upper
    upper_here = record { above = record { node = q; side = t; version = c q VersionField }; key = key }

    -- the repair has come to the node
    pub record IsHere (r' : Repair) : Type 0 where
      pub aims : r'.aim ≡ aim
      pub above : r'.above ≡ upper_here
      pub node : r'.node ≡ looked_in c x

    -- and stays there whatever becomes known below it
    here_still : (r' : Repair) → IsHere r' → {look : Look} {phase : RepairPhase} {left right outer inner near far : Looked}
        {side : Side} → IsHere (record r' {
          look = look;
          phase = phase;
          left = left;
          right = right;
          outer = outer;
          inner = inner;
          near = near;
          far = far;
          side = side;
        })
    here_still r' here = record { aims = here.aims; above = here.above; node = here.node }

    balanced_goes : (r' : Repair) (turns : ℕ) (past : List Event) → IsHere r' → IsInBalance c x
        → Goes turns past (answers r' (balanced_reply r'.aim r'.node.key))
    balanced_goes r' turns past here balance =
        subst (λ (reply : Reply). MendsRight past (Answer reply))
        (sym (λ i. balanced_reply (here.aims i) (here.node i).key)) (
          (tt, refl, settles_balanced slots c ps tree aim k x node.slot node.unmarked aimed balance),
          as_repair past (Answer (balanced_reply aim (c x KeyField))) (inl (balance, refl)),
        )

    module _ (height : ℕ) (past : List Event) (slot : ℕ) where
      abbrev raised_cells : Cells
      raised_cells = left_by slots c ps aim k past slot q t key (reheighted_by slots c ps aim k past slot q t key x height)

      raising : IsReheighted c raised_cells x height
      raising = is_reheighted slots c ps aim k past slot q t key x height

    abbrev asked_height : ℕ
    asked_height = height_asked c x

    mends_height : (past : List Event) → AreClose (height_at c (c x LeftLink)) (height_at c (c x RightLink))
        → (IsInBalance c x → ⊥)
        → MendsRight past (Change (planned_by (reheighting upper_here.above key (looked_in c x) asked_height)))
    mends_height past close out =
        let small : asked_height < 2 ^ 62 = height_over-small (height_at c (c x LeftLink)) (height_at c (c x RightLink)) in (
          (
            tt,
            λ slot takes.
                let c' : Cells = raised_cells asked_height past slot in
                let re : IsReheighted c c' x asked_height = raising asked_height past slot in
                let leaves : IsSearchTree balanced slots c' ps
                = reheighted slots c ps tree k q (link_of t) x l r h asked_height c' re small in
                let balance : IsInBalance c' x
                = reheighted_in_balance slots c ps tree k q (link_of t) x l r h asked_height c' re refl close in
                let same_key : c' x KeyField ≡ c x KeyField = re.words x KeyField (λ e. cc) (λ _ e. cc) in
                reheight_end slots c ps aim k past slot q t key x asked_height leaves
                (reheighted_brings_only slots c ps tree k q (link_of t) x l r h asked_height c' re
                (key_unless_sentinel q key) balance (key_is_charged c q key is_key))
                (settles_was slots c c' ps aim k x (key_unless_sentinel q key) aimed
                (inr (in_balance_not_in_debt slots c' ps leaves x (c x KeyField) node.slot
                (re.parity x ∙ node.unmarked) same_key balance))),
          ),
          as_repair past (Change (planned_by (reheighting upper_here.above key (looked_in c x) asked_height))) (
            refl,
            λ slot. inl (record {
              close = close;
              out_of_balance = out;
              height = raising asked_height past slot;
              charges = charged_key c q key is_key;
            }),
          ),
        )

    -- the repair has come to the node, which leans to a side, and knows both children
    pub record IsLeaning (s : Side) (r' : Repair) : Type 0 where
      pub here : IsHere r'
      pub side : r'.side ≡ s
      pub left : r'.left ≡ at_tree c l
      pub right : r'.right ≡ at_tree c r

    -- where another node comes to a place below the children, it is still there
    abbrev IsBelowChildren : Place → Type 0
    IsBelowChildren Node = ⊥
    IsBelowChildren Left = ⊥
    IsBelowChildren Right = ⊥
    IsBelowChildren Outer = Unit {0}
    IsBelowChildren Inner = Unit {0}
    IsBelowChildren Near = Unit {0}
    IsBelowChildren Far = Unit {0}

    leaning_still : (s : Side) (r' : Repair) → IsLeaning s r' → (look : Look) (phase : RepairPhase) (p : Place)
        (at : Looked) → IsBelowChildren p → IsLeaning s (placed (anywhere r' look phase) p at)
    leaning_still s r' lean look phase Node at below = absurd below
    leaning_still s r' lean look phase Left at below = absurd below
    leaning_still s r' lean look phase Right at below = absurd below
    leaning_still s r' lean look phase Outer at below = record {
      here = record { aims = lean.here.aims; above = lean.here.above; node = lean.here.node };
      side = lean.side;
      left = lean.left;
      right = lean.right;
    }
    leaning_still s r' lean look phase Inner at below = record {
      here = record { aims = lean.here.aims; above = lean.here.above; node = lean.here.node };
      side = lean.side;
      left = lean.left;
      right = lean.right;
    }
    leaning_still s r' lean look phase Near at below = record {
      here = record { aims = lean.here.aims; above = lean.here.above; node = lean.here.node };
      side = lean.side;
      left = lean.left;
      right = lean.right;
    }
    leaning_still s r' lean look phase Far at below = record {
      here = record { aims = lean.here.aims; above = lean.here.above; node = lean.here.node };
      side = lean.side;
      left = lean.left;
      right = lean.right;
    }

    -- The child y of x on a side, with the trees o and m on its outer and its inner side.
    module _ (s : Side) (y : ℕ) (o m : Tree) (is_fork : tree_on s l r ≡ fork_on s y o m) where
      abbrev sibling_tree : Tree
      sibling_tree = tree_on (opposite s) l r

      spelled_on : (side : Side) → Spells balanced slots c (tree_on side l r) x (c x (link_of side))
      spelled_on OnLeft = h.spelled.2
      spelled_on OnRight = h.spelled.3

      rising_on : (side : Side) → IsRising (pairs_of c (tree_on side l r))
      rising_on OnLeft = apart.left
      rising_on OnRight = apart.right

      child_spelled : SpellsOn balanced slots c s y o m x (c x (link_of s))
      child_spelled = spells_on balanced slots c y o m x (c x (link_of s)) s
          (subst (λ (u : Tree). Spells balanced slots c u x (c x (link_of s))) is_fork (spelled_on s))

      child_apart : ApartOn c s y o m
      child_apart = apart_on s c y o m (subst (λ (u : Tree). IsRising (pairs_of c u)) is_fork (rising_on s))

      some_child : y ≢ 0
      some_child = let slot : IsSlot slots y = child_spelled.node.slot in λ e. absurd (omega arith)

      not_in_side : (side : Side) → IsIn x (tree_on side l r) → ⊥
      not_in_side OnLeft i = apart.not_left i
      not_in_side OnRight i = apart.not_right i

      -- what lies in the child's tree
      in_child : (n : ℕ) → IsIn n (fork_on s y o m) → IsIn n (Fork x l r)
      in_child n i = tree_on_in s n x l r (subst (IsIn n) (sym is_fork) i)

      in_sides : (n : ℕ) → IsIn n (fork_on s y o m) → IsIn n l ⊎ IsIn n r
      in_sides n i = tree_on_sides s n l r (subst (IsIn n) (sym is_fork) i)

      not_x : (n : ℕ) → IsIn n (fork_on s y o m) → x ≢ n
      not_x n i e = not_in_side s (subst (λ (j : ℕ). IsIn j (tree_on s l r)) (sym e) (subst (IsIn n) (sym is_fork) i))

      not_q : (n : ℕ) → IsIn n (fork_on s y o m) → q ≢ n
      not_q n i e = h.apart (subst (λ (j : ℕ). IsIn j (Fork x l r)) (sym e) (in_child n i))

      child_in_tree : IsIn y (fork_on s y o m)
      child_in_tree = in_root y y o m s refl

      outer_looked : IsLookedAt c (c y (link_of s)) (at_tree c o)
      outer_looked = looked_at_tree slots c o y (c y (link_of s)) child_spelled.near_spelled

      inner_looked : IsLookedAt c (c y (link_of (opposite s))) (at_tree c m)
      inner_looked = looked_at_tree slots c m y (c y (link_of (opposite s))) child_spelled.far_spelled

      sibling_looked : IsLookedAt c (c x (link_of (opposite s))) (at_tree c sibling_tree)
      sibling_looked = looked_at_tree slots c sibling_tree x (c x (link_of (opposite s))) (spelled_on (opposite s))

      charged_above : (charged : List ℕ) → IsCharged (charged ++ key_unless_sentinel q key) c q
      charged_above [] not_1 = key_is_charged c q key is_key not_1
      charged_above (j ∷ js) not_1 = has_later (c q KeyField) j (js ++ key_unless_sentinel q key)
          (charged_above js not_1)

      kid : (r' : Repair) → IsLeaning s r' → child r' ≡ looked_in c y
      kid r' lean = ap (child_on r') lean.side ∙ child_is s c r' l r lean.left lean.right ∙ ap (at_tree c) is_fork
          ∙ root_on s c y o m

      other_kid : (r' : Repair) → IsLeaning s r' → sibling r' ≡ at_tree c sibling_tree
      other_kid r' lean = (λ i. child_on r' (opposite (lean.side i)))
          ∙ child_is (opposite s) c r' l r lean.left lean.right

      module _ (high : IsTooHighOn s c x) where
        -- the child comes first
        mends_child_first : (past : List Event) → (IsInBalance c y → ⊥) → MendsRight past (Answer (Value (c y KeyField)))
        mends_child_first past out = (
          (tt, refl, settles_first slots c aim k (c y KeyField)),
          as_repair past (Answer (Value (c y KeyField))) (inr (s, high, (y, child_spelled.linked, inl (out, refl)))),
        )

        -- the child takes the node's place
        abbrev once : ByNodes
        once = rotating s upper_here.above key (looked_in c x) (looked_in c y) (at_tree c sibling_tree) (at_tree c o)
            (at_tree c m)

        module _ (past : List Event) (slot : ℕ) where
          abbrev rotated_cells : Cells
          rotated_cells = left_by slots c ps aim k past slot q t key once

          q_not_middle : (at_tree c m).node ≢ 0 → q ≢ (at_tree c m).node
          q_not_middle = root_differs c q m (λ i. h.apart (in_child q (in_far q y o m s i)))

          y_not_middle : (at_tree c m).node ≢ 0 → y ≢ (at_tree c m).node
          y_not_middle = root_differs c y m child_apart.not_far

          x_not_middle : (at_tree c m).node ≢ 0 → x ≢ (at_tree c m).node
          x_not_middle = root_differs c x m (λ i. not_x x (in_far x y o m s i) refl)

          q_not_node : q ≢ x
          q_not_node e = h.apart (inl e)

          turned_once : IsRotated s c rotated_cells q (link_of t) x y
          turned_once = is_rotated slots c ps aim k past slot q t key s x y (at_tree c sibling_tree) (at_tree c o)
              (at_tree c m) q_not_node (not_q y child_in_tree) (λ e. not_x y child_in_tree (sym e)) q_not_middle
              y_not_middle x_not_middle inner_looked h.spelled.0 child_spelled.linked some_child

        lower_once : (past : List Event) (slot : ℕ)
            → rotated_cells past slot x Height ≡ height_over (at_tree c m).height (at_tree c sibling_tree).height
        lower_once past slot = rotated_lower slots c ps aim k past slot q t key s x y (at_tree c sibling_tree)
            (at_tree c o) (at_tree c m) (q_not_node past slot) (not_q y child_in_tree)
            (λ e. not_x y child_in_tree (sym e)) (q_not_middle past slot) (y_not_middle past slot)
            (x_not_middle past slot) inner_looked h.spelled.0 child_spelled.linked some_child

        upper_once : (past : List Event) (slot : ℕ) → rotated_cells past slot y Height
            ≡ height_over (at_tree c o).height (height_over (at_tree c m).height (at_tree c sibling_tree).height)
        upper_once past slot = rotated_upper slots c ps aim k past slot q t key s x y (at_tree c sibling_tree)
            (at_tree c o) (at_tree c m) (q_not_node past slot) (not_q y child_in_tree)
            (λ e. not_x y child_in_tree (sym e)) (q_not_middle past slot) (y_not_middle past slot)
            (x_not_middle past slot) inner_looked h.spelled.0 child_spelled.linked some_child

        abbrev once_charges : List ℕ
        once_charges = c x KeyField ∷ c y KeyField ∷ key_unless_sentinel q key

        mends_once : (past : List Event) → IsInBalance c y
            → height_at c (c y (link_of (opposite s))) ≤ height_at c (c y (link_of s))
            → MendsRight past (Change (planned_by once))
        mends_once past balance higher = (
          (
            tt,
            λ slot takes.
                let c' : Cells = rotated_cells past slot in
                let rot : IsRotated s c c' q (link_of t) x y = turned_once past slot in
                let at_x : IsTrue (has (c x KeyField) once_charges)
                = has_here (c x KeyField) (c y KeyField ∷ key_unless_sentinel q key) in
                let at_y : IsTrue (has (c y KeyField) once_charges) = has_later (c y KeyField) (c x KeyField)
                (c y KeyField ∷ key_unless_sentinel q key) (has_here (c y KeyField) (key_unless_sentinel q key)) in
                rotate_end slots c ps aim k past slot q t key s x y (at_tree c sibling_tree) (at_tree c o) (at_tree c m)
                (q_not_node past slot) (not_q y child_in_tree) (λ e. not_x y child_in_tree (sym e))
                (q_not_middle past slot) (y_not_middle past slot) (x_not_middle past slot) inner_looked h.spelled.0
                child_spelled.linked some_child
                (rotated slots c ps tree k q (link_of t) x l r h s y c' rot)
                (rotated_brings_only slots c ps tree k q (link_of t) x l r h s y c' rot once_charges
                (charged_above (c x KeyField ∷ c y KeyField ∷ [])) at_x at_y)
                (settles_was slots c c' ps aim k x once_charges aimed (inl at_x)),
          ),
          as_repair past (Change (planned_by once)) (
            refl,
            λ slot. inr (
              s,
              y,
              inl (record {
                high = high;
                child = balance;
                outer = higher;
                rotated = turned_once past slot;
                lower = lower_once past slot ∙ (λ i. height_over (inner_looked.height i) (sibling_looked.height i));
                upper = upper_once past slot
                    ∙ (λ i. height_over (outer_looked.height i) (sym (lower_once past slot) i));
                charges = ap (λ (js : List ℕ). c x KeyField ∷ c y KeyField ∷ js) (charged_key c q key is_key);
              }),
            ),
          ),
        )

        -- The inner child g, with the trees near and far.
        module _ (g : ℕ) (near far : Tree) (is_inner : m ≡ fork_on s g near far) where
          inner_spelled : SpellsOn balanced slots c s g near far y (c y (link_of (opposite s)))
          inner_spelled = spells_on balanced slots c g near far y (c y (link_of (opposite s))) s
              (subst (λ (u : Tree). Spells balanced slots c u y (c y (link_of (opposite s)))) is_inner
              child_spelled.far_spelled)

          inner_apart : ApartOn c s g near far
          inner_apart = apart_on s c g near far
              (subst (λ (u : Tree). IsRising (pairs_of c u)) is_inner child_apart.far_rising)

          some_inner : g ≢ 0
          some_inner = let slot : IsSlot slots g = inner_spelled.node.slot in λ e. absurd (omega arith)

          in_inner : (n : ℕ) → IsIn n (fork_on s g near far) → IsIn n m
          in_inner n i = subst (IsIn n) (sym is_inner) i

          in_fork : (n : ℕ) → IsIn n (fork_on s g near far) → IsIn n (fork_on s y o m)
          in_fork n i = in_far n y o m s (in_inner n i)

          y_differs : (n : ℕ) → IsIn n (fork_on s g near far) → y ≢ n
          y_differs n i e = child_apart.not_far (subst (λ (j : ℕ). IsIn j m) (sym e) (in_inner n i))

          inner_in_tree : IsIn g (fork_on s g near far)
          inner_in_tree = in_root g g near far s refl

          near_looked : IsLookedAt c (c g (link_of s)) (at_tree c near)
          near_looked = looked_at_tree slots c near g (c g (link_of s)) inner_spelled.near_spelled

          far_looked : IsLookedAt c (c g (link_of (opposite s))) (at_tree c far)
          far_looked = looked_at_tree slots c far g (c g (link_of (opposite s))) inner_spelled.far_spelled

          -- the inner child comes first
          mends_inner_first : (past : List Event) → IsInBalance c y → IsInnerHigher s c y → (IsInBalance c g → ⊥)
              → MendsRight past (Answer (Value (c g KeyField)))
          mends_inner_first past balance higher out = (
            (tt, refl, settles_first slots c aim k (c g KeyField)),
            as_repair past (Answer (Value (c g KeyField))) (inr (
              s,
              high,
              (
                y,
                child_spelled.linked,
                inr (
                  g,
                  inner_spelled.linked,
                  balance,
                  higher,
                  out,
                  refl,
                ),
              ),
            )),
          )

          -- the inner child takes the node's place
          abbrev twice : ByNodes
          twice = rotating_twice s upper_here.above key (looked_in c x) (looked_in c y) (looked_in c g)
              (at_tree c sibling_tree) (at_tree c o) (at_tree c near) (at_tree c far)

          abbrev twice_charges : List ℕ
          twice_charges = c x KeyField ∷ c y KeyField ∷ c g KeyField ∷ key_unless_sentinel q key

          -- a tree within the inner one
          outside : (u : Tree) → ((n : ℕ) → IsIn n u → IsIn n (fork_on s g near far)) → (IsIn g u → ⊥)
              → (at_tree c u).node ≢ 0 → (q ≢ (at_tree c u).node) × (g ≢ (at_tree c u).node)
              × (y ≢ (at_tree c u).node) × (x ≢ (at_tree c u).node)
          outside u within not_g some = (
            root_differs c q u (λ i. not_q q (in_fork q (within q i)) refl) some,
            root_differs c g u not_g some,
            root_differs c y u (λ i. y_differs y (within y i) refl) some,
            root_differs c x u (λ i. not_x x (in_fork x (within x i)) refl) some,
          )

          near_outside : (at_tree c near).node ≢ 0 → (q ≢ (at_tree c near).node) × (g ≢ (at_tree c near).node)
              × (y ≢ (at_tree c near).node) × (x ≢ (at_tree c near).node)
          near_outside = outside near (λ n i. in_near n g near far s i) inner_apart.not_near

          far_outside : (at_tree c far).node ≢ 0 → (q ≢ (at_tree c far).node) × (g ≢ (at_tree c far).node)
              × (y ≢ (at_tree c far).node) × (x ≢ (at_tree c far).node)
          far_outside = outside far (λ n i. in_far n g near far s i) inner_apart.not_far

          q_not_node' : q ≢ x
          q_not_node' e = h.apart (inl e)

          module _ (past : List Event) (slot : ℕ) where
            abbrev twice_cells : Cells
            twice_cells = left_by slots c ps aim k past slot q t key twice

            turned_twice : IsDoublyRotated s c twice_cells q (link_of t) x y g
            turned_twice = is_doubly_rotated slots c ps aim k past slot q t key s x y g (at_tree c sibling_tree)
                (at_tree c o) (at_tree c near) (at_tree c far) (not_q g (in_fork g inner_in_tree))
                (not_q y child_in_tree) q_not_node' (λ e. y_differs g inner_in_tree (sym e))
                (λ e. not_x g (in_fork g inner_in_tree) (sym e)) (λ e. not_x y child_in_tree (sym e)) near_outside
                far_outside (roots_differ c near far inner_apart.not_both) near_looked far_looked h.spelled.0
                child_spelled.linked some_child inner_spelled.linked some_inner

            near_twice : twice_cells y Height ≡ height_over (at_tree c o).height (at_tree c near).height
            near_twice = turned_near slots c ps aim k past slot q t key s x y g (at_tree c sibling_tree)
                (at_tree c o) (at_tree c near) (at_tree c far) (not_q g (in_fork g inner_in_tree))
                (not_q y child_in_tree) q_not_node' (λ e. y_differs g inner_in_tree (sym e))
                (λ e. not_x g (in_fork g inner_in_tree) (sym e)) (λ e. not_x y child_in_tree (sym e)) near_outside
                far_outside (roots_differ c near far inner_apart.not_both) near_looked far_looked h.spelled.0
                child_spelled.linked some_child inner_spelled.linked some_inner

            far_twice : twice_cells x Height ≡ height_over (at_tree c far).height (at_tree c sibling_tree).height
            far_twice = turned_far slots c ps aim k past slot q t key s x y g (at_tree c sibling_tree)
                (at_tree c o) (at_tree c near) (at_tree c far) (not_q g (in_fork g inner_in_tree))
                (not_q y child_in_tree) q_not_node' (λ e. y_differs g inner_in_tree (sym e))
                (λ e. not_x g (in_fork g inner_in_tree) (sym e)) (λ e. not_x y child_in_tree (sym e)) near_outside
                far_outside (roots_differ c near far inner_apart.not_both) near_looked far_looked h.spelled.0
                child_spelled.linked some_child inner_spelled.linked some_inner

            top_twice : twice_cells g Height
                ≡ height_over (height_over (at_tree c o).height (at_tree c near).height)
                (height_over (at_tree c far).height (at_tree c sibling_tree).height)
            top_twice = turned_top slots c ps aim k past slot q t key s x y g (at_tree c sibling_tree)
                (at_tree c o) (at_tree c near) (at_tree c far) (not_q g (in_fork g inner_in_tree))
                (not_q y child_in_tree) q_not_node' (λ e. y_differs g inner_in_tree (sym e))
                (λ e. not_x g (in_fork g inner_in_tree) (sym e)) (λ e. not_x y child_in_tree (sym e)) near_outside
                far_outside (roots_differ c near far inner_apart.not_both) near_looked far_looked h.spelled.0
                child_spelled.linked some_child inner_spelled.linked some_inner

          mends_twice : (past : List Event) → IsInBalance c y → IsInnerHigher s c y → IsInBalance c g
              → MendsRight past (Change (planned_by twice))
          mends_twice past balance higher inner_balance = (
            (
              tt,
              λ slot takes.
                  let c' : Cells = twice_cells past slot in
                  let rot : IsDoublyRotated s c c' q (link_of t) x y g = turned_twice past slot in
                  let above_charges : List ℕ = key_unless_sentinel q key in
                  let at_x : IsTrue (has (c x KeyField) twice_charges)
                  = has_here (c x KeyField) (c y KeyField ∷ c g KeyField ∷ above_charges) in
                  let at_y : IsTrue (has (c y KeyField) twice_charges) = has_later (c y KeyField) (c x KeyField)
                  (c y KeyField ∷ c g KeyField ∷ above_charges)
                  (has_here (c y KeyField) (c g KeyField ∷ above_charges)) in
                  let at_g : IsTrue (has (c g KeyField) twice_charges) = has_later (c g KeyField) (c x KeyField)
                  (c y KeyField ∷ c g KeyField ∷ above_charges)
                  (has_later (c g KeyField) (c y KeyField) (c g KeyField ∷ above_charges)
                  (has_here (c g KeyField) above_charges)) in
                  turn_twice_end slots c ps aim k past slot q t key s x y g (at_tree c sibling_tree)
                  (at_tree c o) (at_tree c near) (at_tree c far) (not_q g (in_fork g inner_in_tree))
                  (not_q y child_in_tree) q_not_node' (λ e. y_differs g inner_in_tree (sym e))
                  (λ e. not_x g (in_fork g inner_in_tree) (sym e)) (λ e. not_x y child_in_tree (sym e)) near_outside
                  far_outside (roots_differ c near far inner_apart.not_both) near_looked far_looked h.spelled.0
                  child_spelled.linked some_child inner_spelled.linked some_inner
                  (doubly_rotated slots c ps tree k q (link_of t) x l r h s y g c' rot)
                  (doubly_rotated_brings_only slots c ps tree k q (link_of t) x l r h s y g c' rot twice_charges
                  (charged_above (c x KeyField ∷ c y KeyField ∷ c g KeyField ∷ [])) at_x at_y at_g)
                  (settles_was slots c c' ps aim k x twice_charges aimed (inl at_x)),
            ),
            as_repair past (Change (planned_by twice)) (
              refl,
              λ slot. inr (
                s,
                y,
                inr (
                  g,
                  record {
                    high = high;
                    child = balance;
                    inner = higher;
                    inner_balanced = inner_balance;
                    rotated = turned_twice past slot;
                    near = near_twice past slot ∙ (λ i. height_over (outer_looked.height i) (near_looked.height i));
                    far = far_twice past slot ∙ (λ i. height_over (far_looked.height i) (sibling_looked.height i));
                    upper = top_twice past slot
                        ∙ (λ i. height_over (sym (near_twice past slot) i) (sym (far_twice past slot) i));
                    charges = ap (λ (js : List ℕ). c x KeyField ∷ c y KeyField ∷ c g KeyField ∷ js)
                        (charged_key c q key is_key);
                  },
                ),
              ),
            ),
          )

          -- once all is known below the inner child
          module _ (turns : ℕ) (balance : IsInBalance c y) (higher : IsInnerHigher s c y) where
            turns_twice_goes : (r' : Repair) (past : List Event) → IsLeaning s r' → r'.outer ≡ at_tree c o
                → r'.inner ≡ looked_in c g → r'.near ≡ at_tree c near → r'.far ≡ at_tree c far
                → Goes turns past (turns_twice r')
            turns_twice_goes r' past lean outer inner at_near at_far =
                let by : rotating_twice r'.side r'.above.above r'.above.key r'.node (child r') r'.inner (sibling r')
                r'.outer r'.near r'.far ≡ twice
                = λ i. rotating_twice (lean.side i) (lean.here.above i).above (lean.here.above i).key
                (lean.here.node i) (kid r' lean i) (inner i) (other_kid r' lean i) (outer i) (at_near i) (at_far i) in
                cond_both (is_in_balance r'.near.height r'.far.height r'.inner.height)
                (ends r' (rotating_twice r'.side r'.above.above r'.above.key r'.node (child r') r'.inner (sibling r')
                r'.outer r'.near r'.far))
                (answers r' (Value r'.inner.key)) (Goes turns past)
                (λ e. subst (λ (b : ByNodes). MendsRight past (Change (planned_by b))) (sym by)
                (mends_twice past balance higher (told_balance s c g r'.near.height r'.far.height r'.inner.height
                (ap height_told at_near ∙ near_looked.height) (ap height_told at_far ∙ far_looked.height)
                (ap height_told inner) e)))
                (λ e. subst (λ (l : Looked). MendsRight past (Answer (Value l.key))) (sym inner)
                (mends_inner_first past balance higher (told_imbalance s c g r'.near.height r'.far.height
                r'.inner.height (ap height_told at_near ∙ near_looked.height)
                (ap height_told at_far ∙ far_looked.height) (ap height_told inner) e)))

            seeks_far_goes : (r' : Repair) (past : List Event) (far_turns : ℕ) → IsLeaning s r' → r'.outer ≡ at_tree c o
                → r'.inner ≡ looked_in c g → r'.near ≡ at_tree c near → IsDue c past far r'.far far_turns
                → Seen past (met r') → Goes (far_turns + turns) past (seeks_far r')
            seeks_far_goes r' past far_turns lean outer inner at_near due seen =
                let link : c g (link_of (opposite s)) ≡ link_at r'.inner (opposite r'.side)
                = link_at_in c g (opposite s) ∙ (λ i. link_at (sym inner i) (opposite (sym lean.side i))) in
                subst (λ (v : ℕ). Goes (far_turns + turns) past (seeks turns_twice r' Far v)) link
                (seeks_goes slots c ready.few MendsRight Far turns_twice (λ z. refl) r' turns far_turns IsOut far g
                (c g (link_of (opposite s))) past inner_spelled.far_spelled due
                (λ n at out. out (in_sides n (in_fork n (in_far n g near far s (root_in n far at))))) seen
                (λ look phase past' seen' still. turns_twice_goes (placed (anywhere r' look phase) Far (at_tree c far))
                past' (leaning_still s r' lean look phase Far (at_tree c far) tt) outer inner at_near refl))

            seeks_near_goes : (r' : Repair) (past : List Event) (near_turns far_turns : ℕ) → IsLeaning s r' → r'.outer ≡ at_tree c o
                → r'.inner ≡ looked_in c g → IsDue c past near r'.near near_turns → IsDue c past far r'.far far_turns
                → Seen past (met r') → Goes (near_turns + (far_turns + turns)) past (seeks_near r')
            seeks_near_goes r' past near_turns far_turns lean outer inner due_n due_f seen =
                let link : c g (link_of s) ≡ link_at r'.inner r'.side
                = link_at_in c g s ∙ (λ i. link_at (sym inner i) (sym lean.side i)) in
                subst (λ (v : ℕ). Goes (near_turns + (far_turns + turns)) past (seeks seeks_far r' Near v)) link
                (seeks_goes slots c ready.few MendsRight Near seeks_far (λ z. refl) r' (far_turns + turns) near_turns IsOut near g
                (c g (link_of s)) past inner_spelled.near_spelled due_n
                (λ n at out. out (in_sides n (in_fork n (in_near n g near far s (root_in n near at))))) seen
                (λ look phase past' seen' still. seeks_far_goes (placed (anywhere r' look phase) Near (at_tree c near))
                past' far_turns (leaning_still s r' lean look phase Near (at_tree c near) tt) outer inner refl
                (due_still c past past' far near r'.far far_turns
                (λ i j j'. inner_apart.not_both i (root_in i near j') (root_in i far j)) still due_f) seen'))

        -- the inner child is the higher one, so there is one
        inner_goes : (u : Tree) → m ≡ u → (r' : Repair) (past : List Event) (turns_left near_turns far_turns : ℕ) → IsInBalance c y
            → IsInnerHigher s c y → r'.outer.height < r'.inner.height → IsLeaning s r' → r'.outer ≡ at_tree c o
            → r'.inner ≡ at_tree c m → InnerDue s c past u r'.near r'.far near_turns far_turns → Seen past (met r')
            → Goes (near_turns + (far_turns + turns_left)) past (seeks_near r')
        inner_goes Empty is r' past turns_left near_turns far_turns balance higher lt lean outer inner due seen =
            let none : r'.inner.height ≡ 0 = ap height_told (inner ∙ ap (at_tree c) is) in absurd (omega arith)
        inner_goes (Fork g a b) is r' past turns_left near_turns far_turns balance higher lt lean outer inner due seen =
            seeks_near_goes g (tree_on s a b) (tree_on (opposite s) a b) (is ∙ fork_seen s g a b) turns_left balance
            higher r' past near_turns far_turns lean outer (inner ∙ ap (at_tree c) is) due.0 due.1 seen

        -- once the child's children are known
        turns_goes : (r' : Repair) (past : List Event) (turns_left near_turns far_turns : ℕ) → IsLeaning s r'
            → r'.outer ≡ at_tree c o → r'.inner ≡ at_tree c m → InnerDue s c past m r'.near r'.far near_turns far_turns
            → Seen past (met r') → Goes (near_turns + (far_turns + turns_left)) past (turns r')
        turns_goes r' past turns_left near_turns far_turns lean outer inner due seen =
            let left_over : ℕ = near_turns + (far_turns + turns_left) in
            let outer_height : r'.outer.height ≡ height_at c (c y (link_of s)) = ap height_told outer
            ∙ outer_looked.height in
            let inner_height : r'.inner.height ≡ height_at c (c y (link_of (opposite s))) = ap height_told inner
            ∙ inner_looked.height in
            let own_height : (child r').height ≡ c y Height = ap height_told (kid r' lean) in
            let by : rotating r'.side r'.above.above r'.above.key r'.node (child r') (sibling r') r'.outer r'.inner
            ≡ once = λ i. rotating (lean.side i) (lean.here.above i).above (lean.here.above i).key (lean.here.node i)
            (kid r' lean i) (other_kid r' lean i) (outer i) (inner i) in
            let in_turn : Repair × Ask = if nat_le r'.inner.height r'.outer.height
            then ends r' (rotating r'.side r'.above.above r'.above.key r'.node (child r') (sibling r') r'.outer r'.inner)
            else seeks_near r' in
            cond_both (is_in_balance r'.outer.height r'.inner.height (child r').height) in_turn
            (answers r' (Value (child r').key)) (Goes left_over past)
            (λ e. let balance : IsInBalance c y = told_balance s c y r'.outer.height r'.inner.height (child r').height
            outer_height inner_height own_height e in
            cond_both (nat_le r'.inner.height r'.outer.height)
            (ends r' (rotating r'.side r'.above.above r'.above.key r'.node (child r') (sibling r') r'.outer r'.inner))
            (seeks_near r') (Goes left_over past)
            (λ low. let le : r'.inner.height ≤ r'.outer.height = leb-true r'.inner.height r'.outer.height low in
            subst (λ (b : ByNodes). MendsRight past (Change (planned_by b))) (sym by)
            (mends_once past balance (subst (λ (z : ℕ). z ≤ height_at c (c y (link_of s))) inner_height
            (subst (λ (z : ℕ). r'.inner.height ≤ z) outer_height le))))
            (λ high'. let lt : r'.outer.height < r'.inner.height
            = leb-false r'.inner.height r'.outer.height high' in
            let higher : IsInnerHigher s c y = subst (λ (z : ℕ). z < height_at c (c y (link_of (opposite s))))
            outer_height (subst (λ (z : ℕ). r'.outer.height < z) inner_height lt) in
            inner_goes m refl r' past turns_left near_turns far_turns balance higher lt lean outer inner due seen))
            (λ e. subst (λ (l' : Looked). MendsRight past (Answer (Value l'.key))) (sym (kid r' lean))
            (mends_child_first past (told_imbalance s c y r'.outer.height r'.inner.height (child r').height
            outer_height inner_height own_height e)))

        -- the child's inner child is to be known
        seeks_inner_goes : (r' : Repair) (past : List Event) (turns_left inner_turns near_turns far_turns : ℕ) → IsLeaning s r'
            → r'.outer ≡ at_tree c o → IsDue c past m r'.inner inner_turns → InnerDue s c past m r'.near r'.far near_turns far_turns
            → Seen past (met r') → Goes (inner_turns + (near_turns + (far_turns + turns_left))) past (seeks_inner r')
        seeks_inner_goes r' past turns_left inner_turns near_turns far_turns lean outer due_i due seen =
            let left_over : ℕ = near_turns + (far_turns + turns_left) in
            let link : c y (link_of (opposite s)) ≡ link_at (child r') (opposite r'.side)
            = link_at_in c y (opposite s) ∙ (λ i. link_at (sym (kid r' lean) i) (opposite (sym lean.side i))) in
            subst (λ (v : ℕ). Goes (inner_turns + left_over) past (seeks turns r' Inner v)) link
            (seeks_goes slots c ready.few MendsRight Inner turns (λ z. refl) r' left_over inner_turns IsOut m y
            (c y (link_of (opposite s))) past child_spelled.far_spelled due_i
            (λ n at out. out (in_sides n (in_far n y o m s (root_in n m at)))) seen
            (λ look phase past' seen' still. turns_goes (placed (anywhere r' look phase) Inner (at_tree c m)) past'
            turns_left near_turns far_turns (leaning_still s r' lean look phase Inner (at_tree c m) tt) outer refl
            (inner_due_still s c past past' m still m r'.near r'.far near_turns far_turns
            (root_not_below c m child_apart.far_rising) due) seen'))

        -- and the outer one
        seeks_outer_goes : (r' : Repair) (past : List Event) (turns_left outer_turns inner_turns near_turns far_turns : ℕ) → IsLeaning s r'
            → IsDue c past o r'.outer outer_turns → IsDue c past m r'.inner inner_turns → InnerDue s c past m r'.near r'.far near_turns far_turns
            → Seen past (met r') → Goes (outer_turns + (inner_turns + (near_turns + (far_turns + turns_left)))) past (seeks_outer r')
        seeks_outer_goes r' past turns_left outer_turns inner_turns near_turns far_turns lean due_o due_i due seen =
            let left_over : ℕ = inner_turns + (near_turns + (far_turns + turns_left)) in
            let link : c y (link_of s) ≡ link_at (child r') r'.side
            = link_at_in c y s ∙ (λ i. link_at (sym (kid r' lean) i) (sym lean.side i)) in
            subst (λ (v : ℕ). Goes (outer_turns + left_over) past (seeks seeks_inner r' Outer v)) link
            (seeks_goes slots c ready.few MendsRight Outer seeks_inner (λ z. refl) r' left_over outer_turns IsOut o y
            (c y (link_of s)) past child_spelled.near_spelled due_o
            (λ n at out. out (in_sides n (in_near n y o m s (root_in n o at)))) seen
            (λ look phase past' seen' still. seeks_inner_goes (placed (anywhere r' look phase) Outer (at_tree c o)) past'
            turns_left inner_turns near_turns far_turns (leaning_still s r' lean look phase Outer (at_tree c o) tt) refl
            (due_still c past past' m o r'.inner inner_turns
            (λ i at_m at_o. child_apart.not_both i (root_in i o at_o) (root_in i m at_m)) still due_i)
            (inner_due_still s c past past' o still m r'.near r'.far near_turns far_turns
            (λ i at_o below. child_apart.not_both i (root_in i o at_o) (below_in i m below)) due) seen'))

    -- The stored heights of both children

    side_height : (s : Side) → (at_tree c (tree_on s l r)).height ≡ height_at c (c x (link_of s))
    side_height OnLeft = (looked_at_tree slots c l x (c x LeftLink) h.spelled.2).height
    side_height OnRight = (looked_at_tree slots c r x (c x RightLink) h.spelled.3).height

    -- the node leans to a side, whose child is too high, so there is one
    leans_goes : (s : Side) (u : Tree) → tree_on s l r ≡ u → (r' : Repair) (past : List Event)
        (turns_left outer_turns inner_turns near_turns far_turns : ℕ) → IsTooHighOn s c x → IsLeaning s r' → ChildDue s c past u r'.outer r'.inner r'.near r'.far outer_turns inner_turns near_turns far_turns
        → Seen past (met r') → Goes (outer_turns + (inner_turns + (near_turns + (far_turns + turns_left)))) past (seeks_outer r')
    leans_goes s Empty is r' past turns_left outer_turns inner_turns near_turns far_turns high lean due seen =
        let none : height_at c (c x (link_of s)) ≡ 0 = sym (side_height s) ∙ ap height_told (ap (at_tree c) is) in
        absurd (omega arith)
    leans_goes s (Fork y a b) is r' past turns_left outer_turns inner_turns near_turns far_turns high lean due seen =
        seeks_outer_goes s y (tree_on s a b) (tree_on (opposite s) a b) (is ∙ fork_seen s y a b) high r' past turns_left
        outer_turns inner_turns near_turns far_turns lean due.0 due.1 due.2 seen

    module _ (turns_left outer_turns inner_turns near_turns far_turns : ℕ) where
      abbrev below_turns : ℕ
      below_turns = outer_turns + (inner_turns + (near_turns + (far_turns + turns_left)))

      -- what is due below both children
      pub record AreDue (past : List Event) (r' : Repair) : Type 0 where
        pub left : ChildDue OnLeft c past l r'.outer r'.inner r'.near r'.far outer_turns inner_turns near_turns far_turns
        pub right : ChildDue OnRight c past r r'.outer r'.inner r'.near r'.far outer_turns inner_turns near_turns far_turns

      -- which side it leans to
      abbrev IsHeavier : Side → Repair → Type 0
      IsHeavier s r' = heavier_side r'.left.height r'.right.height ≡ s

      weighs_goes : (r' : Repair) (past : List Event) → IsHere r' → r'.left ≡ at_tree c l → r'.right ≡ at_tree c r
          → AreDue past r' → Seen past (met r') → Goes below_turns past (weighs r')
      weighs_goes r' past here left right due seen =
          let hl : ℕ = r'.left.height in
          let hr : ℕ = r'.right.height in
          let left_is : hl ≡ height_at c (c x LeftLink) = ap height_told left ∙ side_height OnLeft in
          let right_is : hr ≡ height_at c (c x RightLink) = ap height_told right ∙ side_height OnRight in
          let own_is : r'.node.height ≡ c x Height = ap height_told here.node in
          let over : height_over hl hr ≡ asked_height = λ i. height_over (left_is i) (right_is i) in
          let reply : Repair × Ask = answers r' (balanced_reply r'.aim r'.node.key) in
          let change : Repair × Ask = ends r' (reheighting r'.above.above r'.above.key r'.node (height_over hl hr)) in
          let by : reheighting r'.above.above r'.above.key r'.node (height_over hl hr)
          ≡ reheighting upper_here.above key (looked_in c x) asked_height
          = λ i. reheighting (here.above i).above (here.above i).key (here.node i) (over i) in
          cond_both (are_close hl hr) (if r'.node.height == height_over hl hr then reply else change)
          (seeks_outer (leans r')) (Goes below_turns past)
          (λ near. let close : AreClose (height_at c (c x LeftLink)) (height_at c (c x RightLink))
          = subst (λ (z : ℕ). AreClose z (height_at c (c x RightLink))) left_is
          (subst (λ (z : ℕ). AreClose hl z) right_is (close_is hl hr near)) in
          cond_both (r'.node.height == height_over hl hr) reply change (Goes below_turns past)
          (λ same. let own : c x Height ≡ asked_height
          = sym own_is ∙ eqb-true r'.node.height (height_over hl hr) same ∙ over in
          balanced_goes r' below_turns past here (own, close))
          (λ other. subst (λ (b : ByNodes). MendsRight past (Change (planned_by b))) (sym by)
          (mends_height past close (λ balance. eqb-false r'.node.height (height_over hl hr) other
          (own_is ∙ balance.0 ∙ sym over)))))
          (λ far. ⊎_elim
          (λ left_high. let side : IsHeavier OnLeft r' = cond-false (nat_le hl hr) OnRight OnLeft
          (lt-leb hl hr (omega arith)) in
          let high : IsTooHighOn OnLeft c x = subst (λ (z : ℕ). z + 2 ≤ height_at c (c x LeftLink)) right_is
          (subst (λ (z : ℕ). hr + 2 ≤ z) left_is left_high) in
          leans_goes OnLeft l refl (leans r') past turns_left outer_turns inner_turns near_turns far_turns high
          (record { here = here_still r' here; side = side; left = left; right = right }) due.left seen)
          (λ right_high. let side : IsHeavier OnRight r' = cond-true (nat_le hl hr) OnRight OnLeft
          (le-leb hl hr (omega arith)) in
          let high : IsTooHighOn OnRight c x = subst (λ (z : ℕ). z + 2 ≤ height_at c (c x RightLink)) left_is
          (subst (λ (z : ℕ). hl + 2 ≤ z) right_is right_high) in
          leans_goes OnRight r refl (leans r') past turns_left outer_turns inner_turns near_turns far_turns high
          (record { here = here_still r' here; side = side; left = left; right = right }) due.right seen)
          (not_close hl hr far))

      seeks_right_goes : (r' : Repair) (past : List Event) (right_turns : ℕ) → IsHere r' → r'.left ≡ at_tree c l
          → IsDue c past r r'.right right_turns → AreDue past r' → Seen past (met r')
          → Goes (right_turns + below_turns) past (seeks_right r')
      seeks_right_goes r' past right_turns here left due_r due seen =
          subst (λ (v : ℕ). Goes (right_turns + below_turns) past (seeks weighs r' Right v))
          (ap right_told (sym here.node))
          (seeks_goes slots c ready.few MendsRight Right weighs (λ z. refl) r' below_turns right_turns IsOut r x (c x RightLink) past
          h.spelled.3 due_r (λ n at out. out (inr (root_in n r at))) seen
          (λ look phase past' seen' still. weighs_goes (placed (anywhere r' look phase) Right (at_tree c r)) past'
          (here_still r' here) left refl
          (record {
            left = child_due_still OnLeft c past past' r still l r'.outer r'.inner r'.near r'.far outer_turns inner_turns near_turns far_turns
                (λ i at_r below. apart.not_both i (below_in i l below) (root_in i r at_r)) due.left;
            right = child_due_still OnRight c past past' r still r r'.outer r'.inner r'.near r'.far outer_turns inner_turns near_turns far_turns
                (root_not_below c r apart.right) due.right;
          }) seen'))

      -- the whole course from the node on, where so many turns are due for its two children
      pub seeks_left_goes : (r' : Repair) (past : List Event) (left_turns right_turns : ℕ) → IsHere r' → IsDue c past l r'.left left_turns
          → IsDue c past r r'.right right_turns → AreDue past r' → Seen past (met r')
          → Goes (left_turns + (right_turns + below_turns)) past (seeks_left r')
      seeks_left_goes r' past left_turns right_turns here due_l due_r due seen =
          subst (λ (v : ℕ). Goes (left_turns + (right_turns + below_turns)) past (seeks seeks_right r' Left v))
          (ap left_told (sym here.node))
          (seeks_goes slots c ready.few MendsRight Left seeks_right (λ z. refl) r' (right_turns + below_turns) left_turns IsOut l x
          (c x LeftLink) past h.spelled.2 due_l (λ n at out. out (inl (root_in n l at))) seen
          (λ look phase past' seen' still. seeks_right_goes (placed (anywhere r' look phase) Left (at_tree c l)) past' right_turns
          (here_still r' here) refl
          (due_still c past past' r l r'.right right_turns
          (λ i at_r at_l. apart.not_both i (root_in i l at_l) (root_in i r at_r)) still due_r)
          (record {
            left = child_due_still OnLeft c past past' l still l r'.outer r'.inner r'.near r'.far outer_turns inner_turns near_turns far_turns (root_not_below c l apart.left)
                due.left;
            right = child_due_still OnRight c past past' l still r r'.outer r'.inner r'.near r'.far outer_turns inner_turns near_turns far_turns
                (λ i at_l below. apart.not_both i (root_in i l at_l) (below_in i r below)) due.right;
          }) seen'))
