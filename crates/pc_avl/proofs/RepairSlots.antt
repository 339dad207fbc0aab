-- A repair has no fresh node.
use Rattle.std.proofs.Common.{ℕ, ◌==◌, if◌then◌else◌, Option, Some, None, refl}
use Rattle.std.specs.Prelude.{nat_lt, nat_le}
use Rattle.std.proofs.lemmas.Bool.{cond_both}
use Rattle.pc_model.specs.declared.cell.Side.{Side}
use Rattle.pc_model.specs.declared.cell.Side.TheVariants.{Left as OnLeft, Right as OnRight}
use Rattle.pc_model.specs.declared.call.Reply.TheVariants.{Value, None as Nothing}
use Rattle.pc_model.specs.Cells.{node_at}
use Rattle.pc_model.specs.Debts.{has}
use Rattle.pc_model.specs.Sides.{opposite}
use Rattle.pc_model.specs.TreeForms.{height_over}
use Rattle.pc_plan.specs.declared.plan.Ask.{Ask}
use Rattle.pc_plan.specs.declared.plan.Ask.TheVariants.{Visit as AskVisit}
use Rattle.pc_plan.specs.declared.plan.Told.{Told}
use Rattle.pc_plan.specs.declared.plan.Told.TheVariants.{Begin, Version, Number}
use Rattle.pc_plan.specs.declared.walk.Walk.{Walk}
use Rattle.pc_plan.specs.declared.walk.Step.{Step}
use Rattle.pc_plan.specs.declared.walk.Step.TheVariants.{Visit, Read, Here, Missing, Astray}
use Rattle.pc_plan.specs.EndLaws.{HasNoFresh, WantsNoSlot}
use Rattle.pc_plan.specs.Walks.{walk_step}
use Rattle.pc_plan.proofs.Quiets.{asks_by_steps}
use Rattle.pc_avl.specs.declared.look.Look.{Look}
use Rattle.pc_avl.specs.declared.look.Looked.{Looked}
use Rattle.pc_avl.specs.declared.look.LookStep.{LookStep}
use Rattle.pc_avl.specs.declared.look.LookStep.TheVariants.{Read as LookRead, Done, Astray as LookAstray}
use Rattle.pc_avl.specs.declared.repair.Aim.{Aim}
use Rattle.pc_avl.specs.declared.repair.Place.{Place}
use Rattle.pc_avl.specs.declared.repair.Place.TheVariants.{Node, Left, Right, Outer, Inner, Near, Far}
use Rattle.pc_avl.specs.declared.repair.Repair.{Repair}
use Rattle.pc_avl.specs.declared.repair.RepairPhase.{RepairPhase}
use Rattle.pc_avl.specs.declared.repair.RepairPhase.TheVariants.{Walking, Beginning, Searching, Looking, Ended}
use Rattle.pc_avl.specs.declared.repair.Sought.{Sought}
use Rattle.pc_avl.specs.declared.repair.Sought.TheVariants.{Known, Away, Back}
use Rattle.pc_avl.specs.Balances.{are_close, is_in_balance}
use Rattle.pc_avl.specs.Looks.{link_at, look_for, look_step}
use Rattle.pc_avl.specs.RepairChanges.{reheighting, rotating, rotating_twice}
use Rattle.pc_avl.specs.Repairs.{repair_of, answers, ends, met, placed, sought, going_on, seeks, child, sibling}
use Rattle.pc_avl.specs.Repairs.{turns_twice, seeks_far, seeks_near, turns, seeks_inner, seeks_outer, leans}
use Rattle.pc_avl.specs.Repairs.{balanced_reply, weighs, seeks_right, seeks_left, after_look, looked, upper, going_down}
use Rattle.pc_avl.specs.Repairs.{going_to, finds, keeps_below, passes, searched, walks_on, arrives, walked, repair_told}
use Rattle.pc_avl.specs.Repairs.{repair_moves}

abbrev IsSpare : Repair × Ask → Type 0
IsSpare s = HasNoFresh s.1

going_spare : (next : Repair → Repair × Ask) → ((r : Repair) → IsSpare (next r)) → (r : Repair) (o : Sought)
    → IsSpare (going_on next r o)
going_spare next spare r Known = spare r
going_spare next spare r (Away n) = tt
going_spare next spare r Back = tt

seeks_spare : (next : Repair → Repair × Ask) → ((r : Repair) → IsSpare (next r)) → (r : Repair) (p : Place) (link : ℕ)
    → IsSpare (seeks next r p link)
seeks_spare next spare r p link = going_spare next spare (sought r p link).0 (sought r p link).1

twice_spare : (r : Repair) → IsSpare (turns_twice r)
twice_spare r = cond_both (is_in_balance r.near.height r.far.height r.inner.height)
    (ends r (rotating_twice r.side r.above.above r.above.key r.node (child r) r.inner (sibling r) r.outer r.near r.far))
    (answers r (Value r.inner.key)) IsSpare (λ _. refl) (λ _. tt)

far_spare : (r : Repair) → IsSpare (seeks_far r)
far_spare r = seeks_spare turns_twice twice_spare r Far (link_at r.inner (opposite r.side))

near_spare : (r : Repair) → IsSpare (seeks_near r)
near_spare r = seeks_spare seeks_far far_spare r Near (link_at r.inner r.side)

turns_spare : (r : Repair) → IsSpare (turns r)
turns_spare r =
    let once : Repair × Ask = ends r (rotating r.side r.above.above r.above.key r.node (child r) (sibling r) r.outer
    r.inner) in
    cond_both (is_in_balance r.outer.height r.inner.height (child r).height)
    (if nat_le r.inner.height r.outer.height then once else seeks_near r) (answers r (Value (child r).key)) IsSpare
    (λ _. cond_both (nat_le r.inner.height r.outer.height) once (seeks_near r) IsSpare (λ _. refl) (λ _. near_spare r))
    (λ _. tt)

inner_spare : (r : Repair) → IsSpare (seeks_inner r)
inner_spare r = seeks_spare turns turns_spare r Inner (link_at (child r) (opposite r.side))

outer_spare : (r : Repair) → IsSpare (seeks_outer r)
outer_spare r = seeks_spare seeks_inner inner_spare r Outer (link_at (child r) r.side)

weighs_spare : (r : Repair) → IsSpare (weighs r)
weighs_spare r =
    let height : ℕ = height_over r.left.height r.right.height in
    let stays : Repair × Ask = answers r (balanced_reply r.aim r.node.key) in
    let rises : Repair × Ask = ends r (reheighting r.above.above r.above.key r.node height) in
    cond_both (are_close r.left.height r.right.height) (if r.node.height == height then stays else rises)
    (seeks_outer (leans r)) IsSpare
    (λ _. cond_both (r.node.height == height) stays rises IsSpare (λ _. tt) (λ _. refl))
    (λ _. outer_spare (leans r))

right_spare : (r : Repair) → IsSpare (seeks_right r)
right_spare r = seeks_spare weighs weighs_spare r Right r.node.right

left_spare : (r : Repair) → IsSpare (seeks_left r)
left_spare r = seeks_spare seeks_right right_spare r Left r.node.left

after_spare : (p : Place) (r : Repair) → IsSpare (after_look p r)
after_spare Node r = left_spare r
after_spare Left r = right_spare r
after_spare Right r = weighs_spare r
after_spare Outer r = inner_spare r
after_spare Inner r = turns_spare r
after_spare Near r = far_spare r
after_spare Far r = twice_spare r

looked_spare : (r : Repair) (p : Place) (l : Look) (s : LookStep) → IsSpare (looked r p l s)
looked_spare r p l (LookRead f) = tt
looked_spare r p l Done = after_spare p (placed (record r { look = l }) p l.seen)
looked_spare r p l LookAstray = tt

down_spare : (r : Repair) (o : Option ℕ) → IsSpare (going_down r o)
down_spare r None = cond_both (r.node.node == 0) (answers r Nothing) (seeks_left r) IsSpare (λ _. tt)
    (λ _. left_spare r)
down_spare r (Some n) = cond_both (has n (met r)) (answers r Nothing) (record r { look = look_for n }, AskVisit n)
    IsSpare (λ _. tt) (λ _. tt)

to_spare : (r : Repair) (l : Looked) (s : Side) → IsSpare (going_to r l s)
to_spare r l s = down_spare (record r { last = upper l s }) (node_at (link_at l s))

passes_spare : (r : Repair) (l : Looked) → IsSpare (passes r l)
passes_spare r l =
    let smaller : Repair × Ask = going_to (keeps_below r l) l OnRight in
    let greater : Repair × Ask = going_to (finds r l) l OnLeft in
    let same : Repair × Ask = seeks_left (finds r l) in
    cond_both (l.node == 1) (going_to r l OnLeft)
    (if r.walk.key == l.key then same else if nat_lt r.walk.key l.key then greater else smaller) IsSpare
    (λ _. to_spare r l OnLeft)
    (λ _. cond_both (r.walk.key == l.key) same (if nat_lt r.walk.key l.key then greater else smaller) IsSpare
    (λ _. left_spare (finds r l))
    (λ _. cond_both (nat_lt r.walk.key l.key) greater smaller IsSpare (λ _. to_spare (finds r l) l OnLeft)
    (λ _. to_spare (keeps_below r l) l OnRight)))

searched_spare : (r : Repair) (l : Look) (s : LookStep) → IsSpare (searched r l s)
searched_spare r l (LookRead f) = tt
searched_spare r l Done = passes_spare (record r { look = l }) l.seen
searched_spare r l LookAstray = tt

walked_spare : (r : Repair) (w : Walk) (s : Step) → IsSpare (walked r w s)
walked_spare r w (Visit n) = tt
walked_spare r w (Read n f) = tt
walked_spare r w (Here x) = cond_both (x == w.key) (arrives r w x) (walks_on r w x) IsSpare (λ _. tt) (λ _. tt)
walked_spare r w (Missing s link) = tt
walked_spare r w Astray = tt

told_spare : (r : Repair) (phase : RepairPhase) (t : Told) → IsSpare (repair_told r phase t)
told_spare r Walking t = walked_spare r (walk_step r.walk t).0 (walk_step r.walk t).1
told_spare r Beginning Begin = tt
told_spare r Beginning (Version v) = tt
told_spare r Beginning (Number x) = tt
told_spare r Searching t = searched_spare r (look_step r.look t).0 (look_step r.look t).1
told_spare r (Looking p) t = looked_spare r p (look_step r.look t).0 (look_step r.look t).1
told_spare r Ended t = tt

pub repair_wants_no_slot : (aim : Aim) → WantsNoSlot (repair_of aim) repair_moves (λ (k : ℕ). Unit {0})
repair_wants_no_slot aim k ts can =
    asks_by_steps (repair_of aim) repair_moves HasNoFresh (λ r t. told_spare r r.phase t) k ts
