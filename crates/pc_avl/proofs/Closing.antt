-- A repair that makes no rotation, on cells that stand still: the look at its node, and then those at the nodes that
-- hang below, each where a link names one, lead to its end.
use Rattle.std.proofs.Common.{◌≡◌, ◌≢◌, ℕ, ◌==◌, Bool, true, false, if◌then◌else◌, List, [], ◌∷◌, ◌++◌}
use Rattle.std.proofs.Common.{Option, Some, None, IfSome, refl, sym, ap, subst, ◌∙◌, arith}
use Rattle.std.proofs.lemmas.Bool.Decides.{nat_tests}
use Rattle.pc_model.specs.declared.cell.Field.TheVariants.{Version as VersionField, Key as KeyField, Left as LeftLink}
use Rattle.pc_model.specs.Cells.{Cells, IsNode, node_at}
use Rattle.pc_model.specs.Debts.{has}
use Rattle.pc_plan.specs.declared.plan.Ask.{Ask}
use Rattle.pc_plan.specs.declared.plan.Ask.TheVariants.{Visit as AskVisit, Change, Answer}
use Rattle.pc_plan.specs.declared.plan.End.{End}
use Rattle.pc_plan.specs.declared.plan.Told.{Told}
use Rattle.pc_plan.specs.declared.plan.Told.TheVariants.{Version as VersionTold}
use Rattle.pc_plan.specs.NodeChanges.{ByNodes, planned_by}
use Rattle.pc_plan.specs.Traces.{after, Agrees}
use Rattle.pc_plan.specs.Planned.{Planned}
use Rattle.pc_plan.specs.Turns.{CanBeTold, CanGoOn, ComesFrom, last_ask}
use Rattle.pc_plan.proofs.TurnSteps.{after_append, agrees_append}
use Rattle.pc_model.specs.declared.call.Reply.{Reply}
use Rattle.pc_model.specs.TreeForms.{height_over}
use Rattle.pc_avl.specs.declared.look.Look.{Look}
use Rattle.pc_avl.specs.declared.look.Looked.{Looked}
use Rattle.pc_avl.specs.declared.repair.Place.{Place}
use Rattle.pc_avl.specs.declared.repair.Place.TheVariants.{Node, Left, Right}
use Rattle.pc_avl.specs.declared.repair.Repair.{Repair}
use Rattle.pc_avl.specs.declared.repair.RepairPhase.{RepairPhase}
use Rattle.pc_avl.specs.declared.repair.RepairPhase.TheVariants.{Looking}
use Rattle.pc_avl.specs.Balances.{are_close}
use Rattle.pc_avl.specs.Closings.{IsBlank, height_at, number_of, closing}
use Rattle.pc_avl.specs.Looks.{missing, told_all, whole_look}
use Rattle.pc_avl.specs.RepairChanges.{reheighting}
use Rattle.pc_avl.specs.Repairs.{after_look, answers, at_place, balanced_reply, ends, going_on, looks, met, placed}
use Rattle.pc_avl.specs.Repairs.{repair_moves, seeks_left, seeks_right, sought_at, weighs}
use Rattle.pc_avl.proofs.RepairStrides.{EndsLook, ends_look}

-- Turns that agree with the cells lead from a state and an ask to others.
record Reaches (c : Cells) (s s' : Repair × Ask) : Type 0 where
  trace : List Told
  agrees : Agrees repair_moves c s trace
  is : after repair_moves s trace ≡ s'

reaches_on : (c : Cells) (s s' s'' : Repair × Ask) → Reaches c s s' → Reaches c s' s'' → Reaches c s s''
reaches_on c s s' s'' a b = record {
  trace = a.trace ++ b.trace;
  agrees = agrees_append repair_moves c s a.trace b.trace a.agrees
      (subst (λ (x : Repair × Ask). Agrees repair_moves c x b.trace) (sym a.is) b.agrees);
  is = after_append repair_moves s a.trace b.trace
      ∙ ap (λ (x : Repair × Ask). after repair_moves x b.trace) a.is ∙ b.is;
}

can_after : (slots : ℕ) (c : Cells) (s s' : Repair × Ask) → Reaches c s s' → CanGoOn repair_moves slots c s
    → CanGoOn repair_moves slots c s'
can_after slots c s s' a can us agrees =
    subst (λ (x : Repair × Ask). CanBeTold slots c x.1)
    (after_append repair_moves s a.trace us ∙ ap (λ (x : Repair × Ask). after repair_moves x us) a.is)
    (can (a.trace ++ us) (agrees_append repair_moves c s a.trace us a.agrees
    (subst (λ (x : Repair × Ask). Agrees repair_moves c x us) (sym a.is) agrees)))

-- A link that names a node which isn't met yet

-- the node is not at the place, and was not met
abbrev IsNew : Repair → Place → ℕ → Type 0
IsNew r p n = (((at_place r p).node == n) ≡ false) × (has n (met r) ≡ false)

-- what is sought, and what comes next
abbrev seeking : (Repair → Repair × Ask) → Repair → Place → Option ℕ → Repair × Ask
seeking next r p o = going_on next (sought_at r p o).0 (sought_at r p o).1

seeks_new : (next : Repair → Repair × Ask) (r : Repair) (p : Place) (n : ℕ) → IsNew r p n
    → ◌≡◌ {A = Repair × Ask} (seeking next r p (Some n)) (looks r p n, AskVisit n)
seeks_new next r p n new = rw (new.0, new.1) refl

can_visit : (slots : ℕ) (c : Cells) (next : Repair → Repair × Ask) (r : Repair) (p : Place) (n : ℕ) → IsNew r p n
    → CanGoOn repair_moves slots c (seeking next r p (Some n)) → CanBeTold slots c (AskVisit n)
can_visit slots c next r p n new can =
    subst (λ (x : Repair × Ask). CanBeTold slots c x.1) (seeks_new next r p n new) (can [] tt)

-- the node that a link names has come to a place, and the repair goes on
record Sees (c : Cells) (next : Repair → Repair × Ask) (r : Repair) (p : Place) (o : Option ℕ) (h : ℕ) : Type 0 where
  seen : Looked
  look : Look
  phase : RepairPhase
  reaches : Reaches c (seeking next r p o) (next (placed (record r { look = look; phase = phase }) p seen))
  node : seen.node ≡ number_of o
  height : seen.height ≡ h

sees_node : (slots : ℕ) (c : Cells) (next : Repair → Repair × Ask) (r : Repair) (p : Place) (n : ℕ)
    → ((x : Repair) → ◌≡◌ {A = Repair × Ask} (after_look p x) (next x)) → IsNew r p n
    → CanGoOn repair_moves slots c (seeking next r p (Some n)) → (h : ℕ) → height_at c [] (Some n) ≡ Some h
    → Sees c next r p (Some n) h
sees_node slots c next r p n goes new can h is =
    let v : ℕ = c n VersionField in
    let l : Look = told_all c n v (c n KeyField) (c n LeftLink) in
    let e : EndsLook c (looks r p n) p (VersionTold v) l = ends_look c (looks r p n) p (VersionTold v) l refl refl in
    let visit : CanBeTold slots c (AskVisit n) = can_visit slots c next r p n new can in
    let there : Reaches c (looks r p n, AskVisit n)
    (next (placed (record r { look = l; phase = Looking p }) p l.seen)) = record {
      trace = VersionTold v ∷ e.trace;
      agrees = ((refl, visit.1), e.agrees);
      is = e.leads ∙ goes (placed (record r { look = l; phase = Looking p }) p l.seen);
    } in
    record {
      seen = l.seen;
      look = l;
      phase = Looking p;
      reaches = subst (λ (x : Repair × Ask). Reaches c x (next (placed (record r { look = l; phase = Looking p }) p l.seen)))
          (sym (seeks_new next r p n new)) there;
      node = refl;
      height = cc;
    }

height_if_new : (c : Cells) (n h : ℕ) (there : Bool) (ns : List ℕ) → has n ns ≡ there → height_at c ns (Some n) ≡ Some h
    → (has n ns ≡ false) × (height_at c [] (Some n) ≡ Some h)
height_if_new c n h true ns met is = absurd (grind (arith, nat_tests))
height_if_new c n h false ns met is = (met, grind (arith, nat_tests))

sees : (slots : ℕ) (c : Cells) (next : Repair → Repair × Ask) (r : Repair) (p : Place) (ns : List ℕ) (o : Option ℕ)
    → ((x : Repair) → ◌≡◌ {A = Repair × Ask} (after_look p x) (next x))
    → ((n : ℕ) → o ≡ Some n → has n ns ≡ false → IsNew r p n)
    → CanGoOn repair_moves slots c (seeking next r p o) → (h : ℕ) → height_at c ns o ≡ Some h → Sees c next r p o h
sees slots c next r p ns None goes new can h is = record {
  seen = missing;
  look = r.look;
  phase = r.phase;
  reaches = record { trace = []; agrees = tt; is = refl };
  node = refl;
  height = cc;
}
sees slots c next r p ns (Some n) goes new can h is =
    let there = height_if_new c n h (has n ns) ns refl is in
    sees_node slots c next r p n goes (new n refl there.0) can h there.1

-- what holds of the node that a link names
pub if_names : (o : Option ℕ) (P : ℕ → Type 0) → ((n : ℕ) → o ≡ Some n → P n) → IfSome o P
if_names None P holds = tt
if_names (Some n) P holds = holds n refl

-- Both children

-- a link that names a node names no node 0
named : (link n : ℕ) → node_at link ≡ Some n → n ≢ 0
named link n is = grind (arith, nat_tests)

not_there : (z n : ℕ) → z ≡ 0 → n ≢ 0 → (z == n) ≡ false
not_there z n none some = grind (arith, nat_tests)

-- a node that is none of three is new where nothing else was met
is_new : (a x l n : ℕ) → n ≢ 0 → has n (a ∷ x ∷ l ∷ []) ≡ false → (p q s u v w : ℕ) → p ≡ 0 → q ≡ 0 → s ≡ 0 → u ≡ 0
    → v ≡ 0 → w ≡ 0 → has n (p ∷ a ∷ x ∷ l ∷ q ∷ s ∷ u ∷ v ∷ w ∷ []) ≡ false
is_new a x l n some new p q s u v w no_p no_q no_s no_u no_v no_w = grind (arith, nat_tests)

is_new_first : (a x l n : ℕ) → l ≡ 0 → n ≢ 0 → has n (a ∷ x ∷ []) ≡ false → has n (a ∷ x ∷ l ∷ []) ≡ false
is_new_first a x l n none some new = grind (arith, nat_tests)

ends_as : (r : Repair) (reply : Reply) (b : ByNodes) (balanced : Bool)
    → ◌≡◌ {A = Ask} (if balanced then answers r reply else ends r b).1
    (if balanced then Answer reply else Change (planned_by b))
ends_as r reply b true = refl
ends_as r reply b false = refl

-- what is asked over close heights
weighs_as : (r : Repair) (left right : ℕ) → r.left.height ≡ left → r.right.height ≡ right → are_close left right ≡ true
    → (weighs r).1 ≡ closing r.aim r.above r.node left right
weighs_as r left right is_left is_right close =
    let own : are_close r.left.height r.right.height ≡ true = rw (is_left, is_right) close in
    let asks : (weighs r).1 ≡ closing r.aim r.above r.node r.left.height r.right.height
    = rw own (ends_as r (balanced_reply r.aim r.node.key)
    (reheighting r.above.above r.above.key r.node (height_over r.left.height r.right.height))
    (r.node.height == height_over r.left.height r.right.height)) in
    asks ∙ (λ i. closing r.aim r.above r.node (is_left i) (is_right i))

module _ (slots : ℕ) (c : Cells) (r : Repair) (t : Told) (l : Look) (looking : r.phase ≡ Looking Node)
    (blank : IsBlank r) (is : whole_look c r.look t ≡ Some l)
    (can : CanGoOn repair_moves slots c (repair_moves r t)) where
  abbrev at_node : Repair
  at_node = placed (record r { look = l }) Node l.seen

  first : Reaches c (repair_moves r t) (seeks_left at_node)
  first = let e : EndsLook c r Node t l = ends_look c r Node t l looking is in
      record { trace = e.trace; agrees = e.agrees; is = e.leads }

  can_left : CanGoOn repair_moves slots c (seeks_left at_node)
  can_left = can_after slots c (repair_moves r t) (seeks_left at_node) first can

  left_is_new : (n : ℕ) → node_at l.seen.left ≡ Some n → has n (r.above.above.node ∷ l.seen.node ∷ []) ≡ false
      → IsNew at_node Left n
  left_is_new n names new =
      let some : n ≢ 0 = named l.seen.left n names in (
        not_there r.left.node n blank.left some,
        is_new r.above.above.node l.seen.node r.left.node n some
            (is_new_first r.above.above.node l.seen.node r.left.node n blank.left some new) r.last.above.node r.right.node
            r.outer.node r.inner.node r.near.node r.far.node blank.last blank.right blank.outer blank.inner blank.near
            blank.far,
      )

  pub left_is_node : (n : ℕ) → node_at l.seen.left ≡ Some n
      → has n (r.above.above.node ∷ l.seen.node ∷ []) ≡ false → IsNode slots n
  left_is_node n names new =
      let asks : CanGoOn repair_moves slots c (seeking seeks_right at_node Left (Some n))
      = subst (λ (o : Option ℕ). CanGoOn repair_moves slots c (seeking seeks_right at_node Left o)) names can_left in
      let visit : CanBeTold slots c (AskVisit n)
      = can_visit slots c seeks_right at_node Left n (left_is_new n names new) asks in visit.0

  module _ (left : ℕ)
      (left_is : height_at c (r.above.above.node ∷ l.seen.node ∷ []) (node_at l.seen.left) ≡ Some left) where
    second : Sees c seeks_right at_node Left (node_at l.seen.left) left
    second = sees slots c seeks_right at_node Left (r.above.above.node ∷ l.seen.node ∷ []) (node_at l.seen.left)
        (λ x. refl) left_is_new can_left left left_is

    abbrev with_left : Repair
    with_left = placed (record at_node { look = second.look; phase = second.phase }) Left second.seen

    twice : Reaches c (repair_moves r t) (seeks_right with_left)
    twice = reaches_on c (repair_moves r t) (seeks_left at_node) (seeks_right with_left) first second.reaches

    can_right : CanGoOn repair_moves slots c (seeks_right with_left)
    can_right = can_after slots c (repair_moves r t) (seeks_right with_left) twice can

    right_is_new : (n : ℕ) → node_at l.seen.right ≡ Some n
        → has n (r.above.above.node ∷ l.seen.node ∷ number_of (node_at l.seen.left) ∷ []) ≡ false
        → IsNew with_left Right n
    right_is_new n names new =
        let some : n ≢ 0 = named l.seen.right n names in (
          not_there r.right.node n blank.right some,
          is_new r.above.above.node l.seen.node second.seen.node n some
              (subst (λ x. has n (r.above.above.node ∷ l.seen.node ∷ x ∷ []) ≡ false) (sym second.node) new)
              r.last.above.node r.right.node r.outer.node r.inner.node r.near.node r.far.node blank.last blank.right
              blank.outer blank.inner blank.near blank.far,
        )

    pub right_is_node : (n : ℕ) → node_at l.seen.right ≡ Some n
        → has n (r.above.above.node ∷ l.seen.node ∷ number_of (node_at l.seen.left) ∷ []) ≡ false → IsNode slots n
    right_is_node n names new =
        let asks : CanGoOn repair_moves slots c (seeking weighs with_left Right (Some n))
        = subst (λ (o : Option ℕ). CanGoOn repair_moves slots c (seeking weighs with_left Right o)) names can_right in
        let visit : CanBeTold slots c (AskVisit n)
        = can_visit slots c weighs with_left Right n (right_is_new n names new) asks in visit.0

    -- so the repair ends over close heights
    closes : (right : ℕ)
        → height_at c (r.above.above.node ∷ l.seen.node ∷ number_of (node_at l.seen.left) ∷ []) (node_at l.seen.right)
        ≡ Some right → are_close left right ≡ true → (ask : Ask) → closing r.aim r.above l.seen left right ≡ ask
        → ComesFrom repair_moves c (repair_moves r t) ask
    closes right right_is close ask same =
        let third : Sees c weighs with_left Right (node_at l.seen.right) right
        = sees slots c weighs with_left Right
        (r.above.above.node ∷ l.seen.node ∷ number_of (node_at l.seen.left) ∷ []) (node_at l.seen.right)
        (λ x. refl) right_is_new can_right right right_is in
        let with_both : Repair
        = placed (record with_left { look = third.look; phase = third.phase }) Right third.seen in
        let all : Reaches c (repair_moves r t) (weighs with_both)
        = reaches_on c (repair_moves r t) (seeks_right with_left) (weighs with_both) twice third.reaches in (
          all.trace,
          all.agrees,
          ap (λ (x : Repair × Ask). x.1) all.is ∙ weighs_as with_both left right second.height third.height close ∙ same,
        )

    pub closes_if : (right : ℕ)
        → height_at c (r.above.above.node ∷ l.seen.node ∷ number_of (node_at l.seen.left) ∷ []) (node_at l.seen.right)
        ≡ Some right → (p : Planned) (result : Option End) → IfSome result (λ end. are_close left right ≡ true)
        → IfSome result (λ end. closing r.aim r.above l.seen left right ≡ last_ask end p)
        → IfSome result (λ end. ComesFrom repair_moves c (repair_moves r t) (last_ask end p))
    closes_if right right_is p None close same = tt
    closes_if right right_is p (Some end) close same = closes right right_is close (last_ask end p) same
