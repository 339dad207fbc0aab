-- The course of a look at a node of a balanced tree that stands still, and of a repair that seeks the node
-- for a place: it goes on once what the cells have there is known.
use Rattle.std.proofs.Common.{◌≡◌, ◌≢◌, ℕ, suc, ◌+◌, ◌≤◌, ◌==◌, ◌⊎◌, inl, inr, ⊎_elim, true, false, List, [], ◌∷◌}
use Rattle.std.proofs.Common.{if◌then◌else◌}
use Rattle.std.proofs.Common.{Option, Some, None, refl, sym, ap, ◌∙◌, subst, arith}
use Rattle.std.proofs.lemmas.Bool.{cases_eq, cond-true, cond-false, eq-eqb, ne_eqb}
use Rattle.pc_model.specs.declared.cell.Field.TheVariants.{Version as VersionField, Key as KeyField, Left as LeftLink}
use Rattle.pc_model.specs.declared.cell.Field.TheVariants.{Right as RightLink, Parent, Height}
use Rattle.pc_model.specs.Cells.{Cells, IsEven, IsSlot, IsNode, node_at}
use Rattle.pc_model.specs.Debts.{has}
use Rattle.pc_model.specs.Trees.{Tree, Empty, Fork, balanced, IsTreeNode, Spells}
use Rattle.pc_model.proofs.Links.{node_at-node}
use Rattle.pc_plan.specs.declared.plan.Ask.{Ask}
use Rattle.pc_plan.specs.declared.plan.Ask.TheVariants.{Visit as AskVisit, Read as AskRead}
use Rattle.pc_plan.specs.Traces.{Event, visited, found, version_seen}
use Rattle.pc_plan.proofs.Courses.{Course, more_turns}
use Rattle.pc_plan.proofs.Learning.{version_seen-here, version_seen-else}
use Rattle.pc_plan.proofs.NodeWords.{not_among}
use Rattle.pc_avl.specs.declared.look.Look.{Look}
use Rattle.pc_avl.specs.declared.look.Looked.{Looked}
use Rattle.pc_avl.specs.declared.look.Unread.TheVariants.{Height as ToHeight}
use Rattle.pc_avl.specs.declared.repair.Place.{Place}
use Rattle.pc_avl.specs.declared.repair.Place.TheVariants.{Node, Left, Right, Outer, Inner, Near, Far}
use Rattle.pc_avl.specs.declared.repair.Repair.{Repair}
use Rattle.pc_avl.specs.declared.repair.RepairPhase.{RepairPhase}
use Rattle.pc_avl.specs.declared.repair.RepairPhase.TheVariants.{Looking}
use Rattle.pc_avl.specs.declared.repair.Sought.{Sought}
use Rattle.pc_avl.specs.declared.repair.Sought.TheVariants.{Known, Away, Back}
use Rattle.pc_avl.specs.Looks.{missing, looked_in, look_on}
use Rattle.pc_avl.specs.Repairs.{at_place, placed, met, looks, seeks, going_on, sought_at, after_look}
use Rattle.pc_avl.specs.Repairs.{repair_moves}

-- what the cells have at the root of a tree
abbrev pub at_tree : Cells → Tree → Looked
at_tree c Empty = missing
at_tree c (Fork i a b) = looked_in c i

abbrev pub IsRoot : ℕ → Tree → Type 0
IsRoot n Empty = ⊥
IsRoot n (Fork i a b) = n ≡ i

-- the node was visited, or it is none, or it is out of the way
abbrev pub IsSeen : (ℕ → Type 0) → List Event → ℕ → Type 0
IsSeen out past n = (n ≡ 0) ⊎ ((version_seen n past ≡ None → ⊥) ⊎ out n)

abbrev pub AreSeen : (ℕ → Type 0) → List Event → List ℕ → Type 0
AreSeen out past [] = Unit {0}
AreSeen out past (n ∷ ns) = IsSeen out past n × AreSeen out past ns

-- a node that wasn't visited is none of them
pub unseen_not_met : (out : ℕ → Type 0) (past : List Event) (n : ℕ) (ns : List ℕ) → n ≢ 0 → (out n → ⊥)
    → version_seen n past ≡ None → AreSeen out past ns → has n ns ≡ false
unseen_not_met out past n [] some within unseen seen = refl
unseen_not_met out past n (m ∷ ns) some within unseen seen = not_among n m ns
    (λ e. ⊎_elim (λ zero. some (e ∙ zero)) (λ or_out. ⊎_elim
    (λ was. was (subst (λ (x : ℕ). version_seen x past ≡ None) e unseen)) (λ is_out. within (subst out (sym e) is_out))
    or_out) seen.0)
    (unseen_not_met out past n ns some within unseen seen.1)

-- what was told of a look, before what was told earlier
abbrev pub looked_past : Cells → ℕ → List Event → List Event
looked_past c i past = found i Height (c i Height) ∷ found i Parent (c i Parent) ∷ found i RightLink (c i RightLink)
    ∷ found i LeftLink (c i LeftLink) ∷ found i KeyField (c i KeyField) ∷ visited i (c i VersionField) ∷ past

-- a node that was visited stays so
pub seen_still : (c : Cells) (i m : ℕ) (past : List Event) → (version_seen m past ≡ None → ⊥)
    → version_seen m (looked_past c i past) ≡ None → ⊥
seen_still c i m past was none = ⊎_elim
    (λ e. let here : version_seen m (looked_past c i past) ≡ Some (c i VersionField)
    = subst (λ (x : ℕ). version_seen x (visited i (c i VersionField) ∷ past) ≡ Some (c i VersionField)) e
    (version_seen-here i (c i VersionField) past) in absurd (cc))
    (λ ne. was (sym (version_seen-else m i (c i VersionField) past ne) ∙ none))
    (cases_eq i m)

pub all_seen_still : (out : ℕ → Type 0) (c : Cells) (i : ℕ) (past : List Event) (ns : List ℕ) → AreSeen out past ns
    → AreSeen out (looked_past c i past) ns
all_seen_still out c i past [] seen = tt
all_seen_still out c i past (n ∷ ns) seen = (
  ⊎_elim (λ zero. inl zero) (λ or_out. inr (⊎_elim (λ was. inl (seen_still c i n past was)) (λ is_out. inr is_out)
      or_out)) seen.0,
  all_seen_still out c i past ns seen.1,
)

-- What a place has that stands for the root of a tree: it is known, or it was never visited, and so many turns are due.
abbrev pub IsDue : Cells → List Event → Tree → Looked → ℕ → Type 0
IsDue c past Empty l due = Unit {0}
IsDue c past (Fork i a b) l due = (l ≡ looked_in c i)
    ⊎ ((l.node ≢ i) × (version_seen i past ≡ None) × (6 ≤ due))

abbrev pub node_of_looked : Looked → ℕ
node_of_looked l = l.node

-- a node that was looked at was visited
pub seen_here : (c : Cells) (i : ℕ) (past : List Event) → version_seen i (looked_past c i past) ≡ None → ⊥
seen_here c i past none = let here : version_seen i (visited i (c i VersionField) ∷ past) ≡ Some (c i VersionField)
    = version_seen-here i (c i VersionField) past in absurd (cc)

-- the look is at its end
abbrev pub done_at : Cells → ℕ → Look
done_at c i = record { seen = looked_in c i; unread = ToHeight }

-- where a node that was visited comes to a place, all are visited
pub met_placed : (out : ℕ → Type 0) (past : List Event) (r : Repair) (p : Place) (l : Looked) → IsSeen out past l.node
    → AreSeen out past (met r) → AreSeen out past (met (placed r p l))
met_placed out past r Node l here s = (s.0, (s.1.0, (here, s.1.1.1)))
met_placed out past r Left l here s = (s.0, (s.1.0, (s.1.1.0, (here, s.1.1.1.1))))
met_placed out past r Right l here s = (s.0, (s.1.0, (s.1.1.0, (s.1.1.1.0, (here, s.1.1.1.1.1)))))
met_placed out past r Outer l here s = (s.0, (s.1.0, (s.1.1.0, (s.1.1.1.0, (s.1.1.1.1.0, (here, s.1.1.1.1.1.1))))))
met_placed out past r Inner l here s =
    (s.0, (s.1.0, (s.1.1.0, (s.1.1.1.0, (s.1.1.1.1.0, (s.1.1.1.1.1.0, (here, s.1.1.1.1.1.1.1)))))))
met_placed out past r Near l here s = (
  s.0,
  (
    s.1.0,
    (
      s.1.1.0,
      (
        s.1.1.1.0,
        (
          s.1.1.1.1.0,
          (
            s.1.1.1.1.1.0,
            (s.1.1.1.1.1.1.0, (here, s.1.1.1.1.1.1.1.1)),
          ),
        ),
      ),
    ),
  ),
)
met_placed out past r Far l here s = (
  s.0,
  (
    s.1.0,
    (
      s.1.1.0,
      (
        s.1.1.1.0,
        (
          s.1.1.1.1.0,
          (
            s.1.1.1.1.1.0,
            (s.1.1.1.1.1.1.0, (s.1.1.1.1.1.1.1.0, (here, tt))),
          ),
        ),
      ),
    ),
  ),
)

-- what stands at a place may be put there
placed_same : (r : Repair) (p : Place) → placed r p (at_place r p) ≡ r
placed_same r Node = refl
placed_same r Left = refl
placed_same r Right = refl
placed_same r Outer = refl
placed_same r Inner = refl
placed_same r Near = refl
placed_same r Far = refl

-- the repair at any look and in any phase
abbrev pub anywhere : Repair → Look → RepairPhase → Repair
anywhere r l phase = record r { look = l; phase = phase }

module _ (slots : ℕ) (c : Cells) (few : slots ≤ 61000) (Wanted : List Event → Ask → Type 0) where
  abbrev pub Goes : ℕ → List Event → Repair × Ask → Type 0
  Goes turns past s = Course slots c repair_moves Wanted s.1 turns past s.0

  pub more : (m n : ℕ) (past : List Event) (s : Repair × Ask) → m ≤ n → Goes m past s → Goes n past s
  more m n past s le go = more_turns slots c repair_moves Wanted m n s.1 past s.0 le go

  -- the rest of a look at a node whose key was read
  pub reads_on : (r : Repair) (p : Place) (i turns : ℕ) (past : List Event) → IsNode slots i
      → Goes turns (found i Height (c i Height) ∷ found i Parent (c i Parent) ∷ found i RightLink (c i RightLink)
      ∷ found i LeftLink (c i LeftLink) ∷ past)
      (after_look p (placed (anywhere r (done_at c i) (Looking p)) p (looked_in c i)))
      → Goes (suc (suc (suc (suc turns)))) past
      (anywhere r (look_on i (c i VersionField) (c i KeyField)) (Looking p), AskRead i LeftLink)
  reads_on r p i turns past node goes = (node, (node, (node, (node, goes))))

  -- a whole look
  looks_at : (r : Repair) (p : Place) (i turns : ℕ) (past : List Event) → IsNode slots i → IsEven (c i VersionField)
      → version_seen i past ≡ None
      → Goes turns (looked_past c i past)
      (after_look p (placed (anywhere r (done_at c i) (Looking p)) p (looked_in c i)))
      → Goes (suc (suc (suc (suc (suc (suc turns)))))) past (looks r p i, AskVisit i)
  looks_at r p i turns past node even unseen goes = ((node, even, unseen), (node, (node, (node, (node, (node, goes))))))

  -- the node that a link to a tree names
  pub named : (i a link : ℕ) → link ≡ i → IsTreeNode balanced slots c a i → node_at link ≡ Some i
  named i a link hangs node =
      let is : IsSlot slots i = node.slot in
      ap node_at hangs ∙ node_at-node i (omega arith) (omega arith)

  -- A repair seeks the root of a tree for a place: it goes on once that stands there.
  module _ (p : Place) (next : Repair → Repair × Ask) (after : (r : Repair) → after_look p r ≡ next r)
      (r : Repair) (turns due : ℕ) (out : ℕ → Type 0) where
    -- how it goes on
    abbrev pub GoesOn : Tree → List Event → Type 0
    GoesOn u past = (l : Look) (phase : RepairPhase) (past' : List Event)
        → AreSeen out past' (met (placed (anywhere r l phase) p (at_tree c u)))
        → ((m : ℕ) → (IsRoot m u → ⊥) → version_seen m past ≡ None → version_seen m past' ≡ None)
        → Goes turns past' (next (placed (anywhere r l phase) p (at_tree c u)))

    pub seeks_goes : (u : Tree) (w v : ℕ) (past : List Event) → Spells balanced slots c u w v
        → IsDue c past u (at_place r p) due → ((n : ℕ) → IsRoot n u → out n → ⊥) → AreSeen out past (met r)
        → GoesOn u past
        → Goes (due + turns) past (seeks next r p v)
    seeks_goes Empty w v past spelled is_due within seen goes =
        let none : node_at v ≡ None = ap node_at spelled in
        subst (λ (o : Option ℕ). Goes (due + turns) past (going_on next (sought_at r p o).0 (sought_at r p o).1))
        (sym none)
        (more turns (due + turns) past (next (placed r p missing)) (omega arith)
        (goes r.look r.phase past (met_placed out past r p missing (inl refl) seen) (λ m other unseen. unseen)))
    seeks_goes (Fork i a b) w v past spelled is_due within seen goes =
        let node : IsTreeNode balanced slots c w i = spelled.1 in
        let slot : IsSlot slots i = node.slot in
        let is_node : IsNode slots i = (omega arith, omega arith) in
        let known : Repair × Sought = (r, Known) in
        let back : Repair × Sought = (r, Back) in
        let away : Repair × Sought = (looks r p i, Away i) in
        let other : Repair × Sought = if has i (met r) then back else away in
        subst (λ (o : Option ℕ). Goes (due + turns) past (going_on next (sought_at r p o).0 (sought_at r p o).1))
        (sym (named i w v spelled.0 node)) (⊎_elim
        (λ same. let here : ((at_place r p).node == i) ≡ true = eq-eqb (at_place r p).node i (ap node_of_looked same) in
        let e : placed r p (looked_in c i) ≡ r = ap (placed r p) (sym same) ∙ placed_same r p in
        subst (λ (s : Repair × Sought). Goes (due + turns) past (going_on next s.0 s.1))
        (sym (cond-true ((at_place r p).node == i) known other here))
        (more turns (due + turns) past (next r) (omega arith)
        (subst (λ (x : Repair). Goes turns past (next x)) e
        (goes r.look r.phase past (subst (λ (x : Repair). AreSeen out past (met x)) (sym e) seen)
        (λ m not_root unseen. unseen)))))
        (λ new. let apart : (at_place r p).node ≢ i = new.0 in
        let unseen : version_seen i past ≡ None = new.1 in
        let six : 6 ≤ due = new.2 in
        let not_met : has i (met r) ≡ false = unseen_not_met out past i (met r) (λ e. absurd (omega arith)) (within i refl) unseen seen in
        let e : (if (at_place r p).node == i then known else other) ≡ away
        = cond-false ((at_place r p).node == i) known other (ne_eqb (at_place r p).node i apart)
        ∙ cond-false (has i (met r)) back away not_met in
        subst (λ (s : Repair × Sought). Goes (due + turns) past (going_on next s.0 s.1)) (sym e)
        (more (suc (suc (suc (suc (suc (suc turns)))))) (due + turns) past (looks r p i, AskVisit i) (omega arith)
        (looks_at r p i turns past is_node node.unmarked unseen
        (subst (λ (s : Repair × Ask). Goes turns (looked_past c i past) s)
        (sym (after (placed (anywhere r (done_at c i) (Looking p)) p (looked_in c i))))
        (goes (done_at c i) (Looking p) (looked_past c i past)
        (met_placed out (looked_past c i past) (anywhere r (done_at c i) (Looking p)) p (looked_in c i)
        (inr (inl (seen_here c i past))) (all_seen_still out c i past (met r) seen))
        (λ m not_root none. version_seen-else m i (c i VersionField) past (λ d. not_root (sym d)) ∙ none))))))
        is_due)
