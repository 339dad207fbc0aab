-- The repair of a node of a balanced tree, as a machine.
use Rattle.std.specs.Prelude.{ℕ, ◌==◌, nat_lt, nat_le, if◌then◌else◌, List, [], ◌∷◌, Option, Some, None}
use Rattle.pc_model.specs.declared.cell.Field.TheVariants.{Left as LeftLink}
use Rattle.pc_model.specs.declared.cell.Side.{Side}
use Rattle.pc_model.specs.declared.cell.Side.TheVariants.{Left as OnLeft, Right as OnRight}
use Rattle.pc_model.specs.declared.call.Reply.{Reply}
use Rattle.pc_model.specs.declared.call.Reply.TheVariants.{Value, Pair, None as Nothing}
use Rattle.pc_model.specs.Cells.{node_at}
use Rattle.pc_model.specs.Debts.{has}
use Rattle.pc_model.specs.Sides.{opposite}
use Rattle.pc_model.specs.TreeForms.{height_over}
use Rattle.pc_plan.specs.declared.plan.Ask.{Ask}
use Rattle.pc_plan.specs.declared.plan.Ask.TheVariants.{Visit as AskVisit, Read as AskRead, Change, Answer}
use Rattle.pc_plan.specs.declared.plan.Told.{Told}
use Rattle.pc_plan.specs.declared.walk.Walk.{Walk}
use Rattle.pc_plan.specs.declared.walk.Step.{Step}
use Rattle.pc_plan.specs.declared.walk.Step.TheVariants.{Visit, Read, Here, Missing, Astray}
use Rattle.pc_plan.specs.NodeChanges.{ByNodes, planned_by}
use Rattle.pc_plan.specs.Planned.{Planned}
use Rattle.pc_plan.specs.Walks.{walk_of, on_way, way, walk_step}
use Rattle.pc_avl.specs.declared.look.Look.{Look}
use Rattle.pc_avl.specs.declared.look.Looked.{Looked}
use Rattle.pc_avl.specs.declared.look.LookStep.{LookStep}
use Rattle.pc_avl.specs.declared.look.LookStep.TheVariants.{Read as LookRead, Done, Astray as LookAstray}
use Rattle.pc_avl.specs.declared.repair.Aim.{Aim}
use Rattle.pc_avl.specs.declared.repair.Aim.TheVariants.{Exact, Nearest}
use Rattle.pc_avl.specs.declared.repair.Place.{Place}
use Rattle.pc_avl.specs.declared.repair.Place.TheVariants.{Node, Left, Right, Outer, Inner, Near, Far}
use Rattle.pc_avl.specs.declared.repair.Repair.{Repair}
use Rattle.pc_avl.specs.declared.repair.RepairPhase.{RepairPhase}
use Rattle.pc_avl.specs.declared.repair.RepairPhase.TheVariants.{Walking, Beginning, Searching, Looking}
use Rattle.pc_avl.specs.declared.repair.RepairPhase.TheVariants.{Ended}
use Rattle.pc_avl.specs.declared.repair.Sought.{Sought}
use Rattle.pc_avl.specs.declared.repair.Sought.TheVariants.{Known, Away, Back}
use Rattle.pc_avl.specs.declared.repair.Upper.{Upper}
use Rattle.pc_avl.specs.Balances.{are_close, is_in_balance, heavier_side}
use Rattle.pc_avl.specs.Looks.{missing, link_at, look_for, look_on, look_step}
use Rattle.pc_avl.specs.RepairChanges.{reheighting, rotating, rotating_twice}

abbrev pub nowhere : Upper
nowhere = record { above = record { node = 0; side = OnLeft; version = 0 }; key = 0 }

abbrev pub first_phase : Aim → RepairPhase
first_phase Exact = Walking
first_phase Nearest = Beginning

-- a repair before it begins
abbrev pub repair_of : Aim → ℕ → Repair
repair_of aim k = record {
  aim = aim;
  walk = walk_of k;
  look = look_for 1;
  last = nowhere;
  above = nowhere;
  node = missing;
  left = missing;
  right = missing;
  outer = missing;
  inner = missing;
  near = missing;
  far = missing;
  side = OnLeft;
  phase = first_phase aim;
}

abbrev pub in_phase : Repair → RepairPhase → Repair
in_phase r phase = record r { phase = phase }

-- it ends with an answer
abbrev pub answers : Repair → Reply → Repair × Ask
answers r reply = (in_phase r Ended, Answer reply)

-- it ends by this exchange
abbrev pub changes : Repair → Planned → Repair × Ask
changes r p = (in_phase r Ended, Change p)

abbrev pub ends : Repair → ByNodes → Repair × Ask
ends r b = changes r (planned_by b)

-- The nodes that were met

abbrev pub at_place : Repair → Place → Looked
at_place r Node = r.node
at_place r Left = r.left
at_place r Right = r.right
at_place r Outer = r.outer
at_place r Inner = r.inner
at_place r Near = r.near
at_place r Far = r.far

abbrev pub placed : Repair → Place → Looked → Repair
placed r Node l = record r { node = l }
placed r Left l = record r { left = l }
placed r Right l = record r { right = l }
placed r Outer l = record r { outer = l }
placed r Inner l = record r { inner = l }
placed r Near l = record r { near = l }
placed r Far l = record r { far = l }

abbrev pub met : Repair → List ℕ
met r = r.last.above.node ∷ r.above.above.node ∷ r.node.node ∷ r.left.node ∷ r.right.node ∷ r.outer.node
    ∷ r.inner.node ∷ r.near.node ∷ r.far.node ∷ []

-- it looks at a node for a place
abbrev pub looks : Repair → Place → ℕ → Repair
looks r p n = record r { look = look_for n; phase = Looking p }

-- The node that a link names comes to a place: it stands there, or it is visited, unless it leads back.
abbrev pub sought_at : Repair → Place → Option ℕ → Repair × Sought
sought_at r p None = (placed r p missing, Known)
sought_at r p (Some n) =
    if (at_place r p).node == n then (r, Known) else if has n (met r) then (r, Back) else (looks r p n, Away n)

abbrev pub sought : Repair → Place → ℕ → Repair × Sought
sought r p link = sought_at r p (node_at link)

-- and the repair goes on from there
abbrev pub going_on : (Repair → Repair × Ask) → Repair → Sought → Repair × Ask
going_on next r Known = next r
going_on next r (Away n) = (r, AskVisit n)
going_on next r Back = answers r Nothing

abbrev pub seeks : (Repair → Repair × Ask) → Repair → Place → ℕ → Repair × Ask
seeks next r p link = going_on next (sought r p link).0 (sought r p link).1

-- The cases, from the last to the first. The child is that of the heavier side.

abbrev pub child_on : Repair → Side → Looked
child_on r OnLeft = r.left
child_on r OnRight = r.right

abbrev pub child : Repair → Looked
child r = child_on r r.side

abbrev pub sibling : Repair → Looked
sibling r = child_on r (opposite r.side)

-- the child's inner child takes the node's place, unless it is out of balance itself
abbrev pub turns_twice : Repair → Repair × Ask
turns_twice r = if is_in_balance r.near.height r.far.height r.inner.height
    then ends r (rotating_twice r.side r.above.above r.above.key r.node (child r) r.inner (sibling r) r.outer r.near
    r.far)
    else answers r (Value r.inner.key)

abbrev pub seeks_far : Repair → Repair × Ask
seeks_far r = seeks turns_twice r Far (link_at r.inner (opposite r.side))

abbrev pub seeks_near : Repair → Repair × Ask
seeks_near r = seeks seeks_far r Near (link_at r.inner r.side)

-- the child takes the node's place, unless it is out of balance itself or its inner child is the higher one
abbrev pub turns : Repair → Repair × Ask
turns r = if is_in_balance r.outer.height r.inner.height (child r).height
    then (if nat_le r.inner.height r.outer.height
    then ends r (rotating r.side r.above.above r.above.key r.node (child r) (sibling r) r.outer r.inner)
    else seeks_near r)
    else answers r (Value (child r).key)

abbrev pub seeks_inner : Repair → Repair × Ask
seeks_inner r = seeks turns r Inner (link_at (child r) (opposite r.side))

abbrev pub seeks_outer : Repair → Repair × Ask
seeks_outer r = seeks seeks_inner r Outer (link_at (child r) r.side)

-- the side with the greater height
abbrev pub leans : Repair → Repair
leans r = record r { side = heavier_side r.left.height r.right.height }

-- what a repair answers where the node is in balance
abbrev pub balanced_reply : Aim → ℕ → Reply
balanced_reply Exact key = Nothing
balanced_reply Nearest key = Pair key 0

-- what it does once the heights of both children were told
abbrev pub weighs : Repair → Repair × Ask
weighs r = if are_close r.left.height r.right.height
    then (if r.node.height == height_over r.left.height r.right.height
    then answers r (balanced_reply r.aim r.node.key)
    else ends r (reheighting r.above.above r.above.key r.node (height_over r.left.height r.right.height)))
    else seeks_outer (leans r)

abbrev pub seeks_right : Repair → Repair × Ask
seeks_right r = seeks weighs r Right r.node.right

abbrev pub seeks_left : Repair → Repair × Ask
seeks_left r = seeks seeks_right r Left r.node.left

-- what comes after the look for a place
abbrev pub after_look : Place → Repair → Repair × Ask
after_look Node r = seeks_left r
after_look Left r = seeks_right r
after_look Right r = weighs r
after_look Outer r = seeks_inner r
after_look Inner r = turns r
after_look Near r = seeks_far r
after_look Far r = turns_twice r

-- a repair whose look for a place has made a step
abbrev pub looked : Repair → Place → Look → LookStep → Repair × Ask
looked r p l (LookRead f) = (record r { look = l }, AskRead l.seen.node f)
looked r p l Done = after_look p (placed (record r { look = l }) p l.seen)
looked r p l LookAstray = answers (record r { look = l }) Nothing

-- The search for the node with the nearest key from a number up

abbrev pub upper : Looked → Side → Upper
upper l s = record { above = record { node = l.node; side = s; version = l.version }; key = l.key }

-- it goes on by a link, or from the link's end to the node that it found
abbrev pub going_down : Repair → Option ℕ → Repair × Ask
going_down r None = if r.node.node == 0 then answers r Nothing else seeks_left r
going_down r (Some n) = if has n (met r) then answers r Nothing else (record r { look = look_for n }, AskVisit n)

abbrev pub going_to : Repair → Looked → Side → Repair × Ask
going_to r l s = going_down (record r { last = upper l s }) (node_at (link_at l s))

-- it has found a node whose key is at the number or above it
abbrev pub finds : Repair → Looked → Repair
finds r l = record r { above = r.last; node = l; left = missing; inner = missing; far = missing }

-- the first three nodes below that one stand for its left child, for that one's right child, and so on
abbrev pub keeps_below : Repair → Looked → Repair
keeps_below r l =
    if r.node.node == 0 then r
    else if r.left.node == 0 then record r { left = l }
    else if r.inner.node == 0 then record r { inner = l }
    else if r.far.node == 0 then record r { far = l }
    else r

abbrev pub passes : Repair → Looked → Repair × Ask
passes r l =
    if l.node == 1 then going_to r l OnLeft
    else if r.walk.key == l.key then seeks_left (finds r l)
    else if nat_lt r.walk.key l.key then going_to (finds r l) l OnLeft
    else going_to (keeps_below r l) l OnRight

-- a search begins at the sentinel
abbrev pub begins_search : Repair → Repair × Ask
begins_search r = (in_phase r Searching, AskVisit 1)

-- a search whose look has made a step
abbrev pub searched : Repair → Look → LookStep → Repair × Ask
searched r l (LookRead f) = (record r { look = l }, AskRead l.seen.node f)
searched r l Done = passes (record r { look = l }) l.seen
searched r l LookAstray = answers (record r { look = l }) Nothing

-- The walk to a key

-- at a node with another key it goes on, and keeps that key
abbrev pub walks_on : Repair → Walk → ℕ → Repair × Ask
walks_on r w x = (
  record r { walk = on_way w x; above = record { above = r.above.above; key = x } },
  AskRead w.node (way w x),
)

-- at its key it looks at the node
abbrev pub arrives : Repair → Walk → ℕ → Repair × Ask
arrives r w x = (
  record r {
    walk = w;
    above = record { above = w.above; key = r.above.key };
    look = look_on w.node w.version x;
    phase = Looking Node;
  },
  AskRead w.node LeftLink,
)

abbrev pub with_walk : Repair → Walk → Repair
with_walk r w = record r { walk = w }

-- a repair whose walk has made a step
abbrev pub walked : Repair → Walk → Step → Repair × Ask
walked r w (Visit n) = (with_walk r w, AskVisit n)
walked r w (Read n f) = (with_walk r w, AskRead n f)
walked r w (Here x) = if x == w.key then arrives r w x else walks_on r w x
walked r w (Missing s link) = answers (with_walk r w) Nothing
walked r w Astray = answers (with_walk r w) Nothing

abbrev pub repair_told : Repair → RepairPhase → Told → Repair × Ask
repair_told r Walking t = walked r (walk_step r.walk t).0 (walk_step r.walk t).1
repair_told r Beginning t = begins_search r
repair_told r Searching t = searched r (look_step r.look t).0 (look_step r.look t).1
repair_told r (Looking p) t = looked r p (look_step r.look t).0 (look_step r.look t).1
repair_told r Ended t = answers r Nothing

abbrev pub repair_moves : Repair → Told → Repair × Ask
repair_moves r t = repair_told r r.phase t
