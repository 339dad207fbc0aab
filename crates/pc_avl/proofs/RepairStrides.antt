-- The strides of a repair on cells that stand still: a walk that passes nodes at once, and a look that is taken at
-- once, go on by as many turns as it takes.
use Rattle.std.proofs.Common.{◌≡◌, ℕ, ap, sym, subst, ◌∙◌, refl, List, [], ◌∷◌, Some, Result, Ok, Err, IfOk, IfErr}
use Rattle.pc_model.specs.declared.call.Reply.TheVariants.{None as Nothing}
use Rattle.pc_model.specs.declared.cell.Field.{Field}
use Rattle.pc_model.specs.declared.cell.Field.TheVariants.{Key as KeyField, Left as LeftLink, Right as RightLink}
use Rattle.pc_model.specs.declared.cell.Field.TheVariants.{Parent as ParentField, Height as HeightField}
use Rattle.pc_model.specs.Cells.{Cells, IsNode}
use Rattle.pc_plan.specs.declared.descent.Descent.{Descent}
use Rattle.pc_plan.specs.declared.plan.Ask.{Ask}
use Rattle.pc_plan.specs.declared.plan.Ask.TheVariants.{Read as AskRead}
use Rattle.pc_plan.specs.declared.plan.End.{End}
use Rattle.pc_plan.specs.declared.plan.Told.{Told}
use Rattle.pc_plan.specs.declared.plan.Told.TheVariants.{Begin, Version as VersionTold, Number}
use Rattle.pc_plan.specs.declared.plan.Turn.{Turn}
use Rattle.pc_plan.specs.declared.walk.Step.{Step}
use Rattle.pc_plan.specs.declared.walk.Walk.{Walk}
use Rattle.pc_plan.specs.Asking.{asked}
use Rattle.pc_plan.specs.Planned.{Planned, replying}
use Rattle.pc_plan.specs.Walks.{walk_step}
use Rattle.pc_plan.specs.Descents.{HasDescended, DescendsByNodes}
use Rattle.pc_plan.specs.Traces.{after, Agrees, Tells}
use Rattle.pc_plan.specs.Turns.{CanBeTold, CanGoOn, GoesOn, ComesFrom, last_ask}
use Rattle.pc_plan.proofs.TurnSteps.{can_be_told, goes_by, comes_further}
use Rattle.pc_plan.proofs.Descending.{Follows, can_descend, descends_to}
use Rattle.pc_avl.specs.declared.look.Look.{Look}
use Rattle.pc_avl.specs.declared.look.Looked.{Looked}
use Rattle.pc_avl.specs.declared.look.Unread.{Unread}
use Rattle.pc_avl.specs.declared.look.Unread.TheVariants.{Version, Key, Left, Right, Parent, Height}
use Rattle.pc_avl.specs.declared.repair.Place.{Place}
use Rattle.pc_avl.specs.declared.repair.Repair.{Repair}
use Rattle.pc_avl.specs.declared.repair.RepairPhase.{RepairPhase}
use Rattle.pc_avl.specs.declared.repair.RepairPhase.TheVariants.{Walking, Looking}
use Rattle.pc_avl.specs.Looks.{having, told_all, whole_look, whole_look_at}
use Rattle.pc_avl.specs.Repairs.{after_look, placed, repair_moves, repair_told, walked}

-- a plan that is on its walk takes a turn by its walk
pub walks_on : (r : Repair) (t : Told) → r.phase ≡ Walking
    → walked r (walk_step r.walk t).0 (walk_step r.walk t).1 ≡ repair_moves r t
walks_on r t walks = ap (λ (phase : RepairPhase). repair_told r phase t) (sym walks)

-- After a trace that agrees with the cells a repair has this state and asks this by a turn, whatever exchange stands
-- in the change that was lent to it.
module _ (c : Cells) (s : Repair × Ask) (ts : List Told) (agrees : Agrees repair_moves c s ts) (r : Repair)
    (turn : Turn) (is : (p : Planned) → ◌≡◌ {A = Repair × Ask} (r, asked turn p) (after repair_moves s ts)) where
  pub can_tell : (slots : ℕ) → CanGoOn repair_moves slots c s → (p : Planned) × CanBeTold slots c (asked turn p)
  can_tell slots can = (
    replying Nothing,
    can_be_told repair_moves c s ts agrees r (asked turn (replying Nothing)) (is (replying Nothing)) slots can,
  )

  pub goes_told : (told : Told) → ((p : Planned) → Tells c (asked turn p) told) → GoesOn repair_moves c s 1 r told
  goes_told told tells =
      goes_by repair_moves c s ts agrees r (asked turn (replying Nothing)) (is (replying Nothing)) told
      (tells (replying Nothing))

  pub goes_if : (result : Result Told End) → IfOk result (λ told. (p : Planned) → Tells c (asked turn p) told)
      → IfOk result (GoesOn repair_moves c s 1 r)
  goes_if (Ok told) tells = goes_told told tells
  goes_if (Err end) tells = tt

  pub ends_if : (result : Result Told End) → IfErr result (λ end. (p : Planned) → asked turn p ≡ last_ask end p)
      → IfErr result (λ end. (p : Planned) → ComesFrom repair_moves c s (last_ask end p))
  ends_if (Ok told) same = tt
  ends_if (Err end) same = λ p. (ts, agrees, ap (λ (x : Repair × Ask). x.1) (sym (is p)) ∙ same p)

-- where some turns lead to another state, so does what comes from there
pub ends_further : (c : Cells) (s : Repair × Ask) (m : ℕ) (r : Repair) (t : Told) → GoesOn repair_moves c s m r t
    → (result : Result Told End)
    → IfErr result (λ end. (p : Planned) → ComesFrom repair_moves c (repair_moves r t) (last_ask end p))
    → IfErr result (λ end. (p : Planned) → ComesFrom repair_moves c s (last_ask end p))
ends_further c s m r t goes (Ok told) ends = tt
ends_further c s m r t goes (Err end) ends = λ p. comes_further repair_moves c s m r t goes (last_ask end p) (ends p)

-- a repair with another walk, another key of the node above, and in another phase
abbrev pub at_walk : Repair → RepairPhase → Walk → ℕ → Repair
at_walk r phase w x = record r { walk = w; above = record { above = r.above.above; key = x }; phase = phase }

-- a repair that is on its walk asks as the walk does
pub follows : (r : Repair) → Follows repair_moves (at_walk r Walking)
follows r = record {
  visits = λ w w' x n t is. ap (λ (s : Walk × Step). walked (at_walk r Walking w x) s.0 s.1) is;
  reads = λ w w' x n f t is. ap (λ (s : Walk × Step). walked (at_walk r Walking w x) s.0 s.1) is;
  passes = λ w w' x k t is other. ap (λ (s : Walk × Step). walked (at_walk r Walking w x) s.0 s.1) is ∙ rw other refl;
}

module _ (r : Repair) (slots : ℕ) (c : Cells) (t : Told) (walks : r.phase ≡ Walking)
    (can : CanGoOn repair_moves slots c (repair_moves r t)) where
  can_walk : CanGoOn repair_moves slots c (repair_moves (at_walk r Walking r.walk r.above.key) t)
  can_walk = subst (λ (phase : RepairPhase). CanGoOn repair_moves slots c
      (repair_moves (at_walk r phase r.walk r.above.key) t)) walks can

  pub goes_by_nodes : DescendsByNodes slots c r.walk r.above.key t
  goes_by_nodes = can_descend repair_moves (at_walk r Walking) (follows r) slots c r.walk r.above.key t can_walk

  pub goes_down : (d : Descent) → HasDescended c r.walk r.above.key t d
      → GoesOn repair_moves c (repair_moves r t) 0 (at_walk r r.phase d.walk d.above_key) (VersionTold d.version)
  goes_down d descended =
      subst (λ (phase : RepairPhase). GoesOn repair_moves c
      (repair_moves (at_walk r phase r.walk r.above.key) t) 0
      (at_walk r phase d.walk d.above_key) (VersionTold d.version)) (sym walks)
      (descends_to repair_moves (at_walk r Walking) (follows r) slots c r.walk r.above.key t d descended can_walk).0

-- a repair at a look
abbrev pub at_look : Repair → RepairPhase → Looked → Unread → Repair
at_look r phase s u = record r { look = having s u; phase = phase }

-- Where its look ends in this one on cells, its turns lead to what comes after the look.
pub record EndsLook (c : Cells) (r : Repair) (p : Place) (t : Told) (l : Look) : Type 0 where
  pub field : Field
  pub reads : (repair_moves r t).1 ≡ AskRead r.look.seen.node field
  pub trace : List Told
  pub agrees : Agrees repair_moves c (repair_moves r t) trace
  pub leads : after repair_moves (repair_moves r t) trace ≡ after_look p (placed (record r { look = l }) p l.seen)

abbrev rest_of : Cells → ℕ → List Told
rest_of c n = Number (c n RightLink) ∷ Number (c n ParentField) ∷ Number (c n HeightField) ∷ []

from_visit : (c : Cells) (r : Repair) (p : Place) (s : Looked) (v : ℕ)
    → EndsLook c (at_look r (Looking p) s Version) p (VersionTold v)
    (told_all c s.node v (c s.node KeyField) (c s.node LeftLink))
from_visit c r p s v = record {
  field = KeyField;
  reads = refl;
  trace = Number (c s.node KeyField) ∷ Number (c s.node LeftLink) ∷ rest_of c s.node;
  agrees = (refl, (refl, (refl, (refl, (refl, tt)))));
  leads = refl;
}

from_left : (c : Cells) (r : Repair) (p : Place) (s : Looked) (x : ℕ)
    → EndsLook c (at_look r (Looking p) s Left) p (Number x) (told_all c s.node s.version s.key x)
from_left c r p s x = record {
  field = RightLink;
  reads = refl;
  trace = rest_of c s.node;
  agrees = (refl, (refl, (refl, tt)));
  leads = refl;
}

ends_by_cases : (c : Cells) (r : Repair) (p : Place) (s : Looked) (u : Unread) (t : Told) (l : Look)
    → whole_look_at c s u t ≡ Some l → EndsLook c (at_look r (Looking p) s u) p t l
ends_by_cases c r p s Version (VersionTold v) l is =
    subst (EndsLook c (at_look r (Looking p) s Version) p (VersionTold v)) (cc) (from_visit c r p s v)
ends_by_cases c r p s Left (Number x) l is =
    subst (EndsLook c (at_look r (Looking p) s Left) p (Number x)) (cc) (from_left c r p s x)
ends_by_cases c r p s Version Begin l is = absurd (cc)
ends_by_cases c r p s Version (Number x) l is = absurd (cc)
ends_by_cases c r p s Left Begin l is = absurd (cc)
ends_by_cases c r p s Left (VersionTold v) l is = absurd (cc)
ends_by_cases c r p s Key Begin l is = absurd (cc)
ends_by_cases c r p s Key (VersionTold v) l is = absurd (cc)
ends_by_cases c r p s Key (Number x) l is = absurd (cc)
ends_by_cases c r p s Right Begin l is = absurd (cc)
ends_by_cases c r p s Right (VersionTold v) l is = absurd (cc)
ends_by_cases c r p s Right (Number x) l is = absurd (cc)
ends_by_cases c r p s Parent Begin l is = absurd (cc)
ends_by_cases c r p s Parent (VersionTold v) l is = absurd (cc)
ends_by_cases c r p s Parent (Number x) l is = absurd (cc)
ends_by_cases c r p s Height Begin l is = absurd (cc)
ends_by_cases c r p s Height (VersionTold v) l is = absurd (cc)
ends_by_cases c r p s Height (Number x) l is = absurd (cc)

pub ends_look : (c : Cells) (r : Repair) (p : Place) (t : Told) (l : Look) → r.phase ≡ Looking p
    → whole_look c r.look t ≡ Some l → EndsLook c r p t l
ends_look c r p t l looks is =
    subst (λ (phase : RepairPhase). EndsLook c (at_look r phase r.look.seen r.look.unread) p t l) (sym looks)
    (ends_by_cases c r p r.look.seen r.look.unread t l is)

-- so the node is one
pub looks_at_node : (slots : ℕ) (c : Cells) (r : Repair) (p : Place) (t : Told) → r.phase ≡ Looking p
    → CanGoOn repair_moves slots c (repair_moves r t)
    → (l : Look) → whole_look c r.look t ≡ Some l → IsNode slots r.look.seen.node
looks_at_node slots c r p t looks can l is =
    let ends : EndsLook c r p t l = ends_look c r p t l looks is in
    subst (CanBeTold slots c) ends.reads (can [] tt)
