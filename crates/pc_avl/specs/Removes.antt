-- The plan of a remove, as a machine.
use Rattle.std.specs.Prelude.{ℕ, ◌==◌, if◌then◌else◌, List, [], ◌∷◌, ◌++◌, Option, Some, None}
use Rattle.pc_model.specs.declared.cell.Field.{Field}
use Rattle.pc_model.specs.declared.cell.Field.TheVariants.{Key as KeyField, Value as ValueField, Left as LeftLink}
use Rattle.pc_model.specs.declared.cell.Field.TheVariants.{Right as RightLink, Parent}
use Rattle.pc_model.specs.declared.cell.Side.TheVariants.{Left, Right}
use Rattle.pc_model.specs.declared.call.Reply.TheVariants.{Value, None as Nothing}
use Rattle.pc_model.specs.Cells.{node_at}
use Rattle.pc_model.specs.Debts.{has}
use Rattle.pc_model.specs.Sides.{link_of}
use Rattle.pc_plan.specs.declared.change.To.TheVariants.{Number as ToNumber}
use Rattle.pc_plan.specs.declared.plan.Ask.{Ask}
use Rattle.pc_plan.specs.declared.plan.Ask.TheVariants.{Visit as AskVisit, Read as AskRead, Change, Answer}
use Rattle.pc_plan.specs.declared.plan.Told.{Told}
use Rattle.pc_plan.specs.declared.plan.Told.TheVariants.{Version, Number}
use Rattle.pc_plan.specs.declared.walk.Above.{Above}
use Rattle.pc_plan.specs.declared.walk.Walk.{Walk}
use Rattle.pc_plan.specs.declared.walk.Step.{Step}
use Rattle.pc_plan.specs.declared.walk.Step.TheVariants.{Visit, Read, Here, Missing, Astray}
use Rattle.pc_plan.specs.NodeChanges.{FieldChange, NodeChange, ByNodes, planned_by}
use Rattle.pc_plan.specs.Planned.{Planned, with_add, raised, rewritten}
use Rattle.pc_plan.specs.Walks.{walk_of, on_way, way, walk_step}
use Rattle.pc_bst.specs.Kinds.{key_unless_sentinel}
use Rattle.pc_bst.specs.Removes.{renumbered}
use Rattle.pc_avl.specs.declared.remove.Leaving.{Leaving}
use Rattle.pc_avl.specs.declared.remove.Leaving.TheVariants.{Target, Next as Successor}
use Rattle.pc_avl.specs.declared.remove.Heir.{Heir}
use Rattle.pc_avl.specs.declared.remove.RemovePhase.{RemovePhase}
use Rattle.pc_avl.specs.declared.remove.RemovePhase.TheVariants.{Walking, ReadingLeft, ReadingRight, ReadingValue}
use Rattle.pc_avl.specs.declared.remove.RemovePhase.TheVariants.{Visiting, ReadingNextKey, ReadingNext}
use Rattle.pc_avl.specs.declared.remove.RemovePhase.TheVariants.{ReadingNextValue, ReadingNextRight, VisitingHeir}
use Rattle.pc_avl.specs.declared.remove.RemovePhase.TheVariants.{ReadingParent, Ended}
use Rattle.pc_avl.specs.declared.remove.Next.{Next}
use Rattle.pc_avl.specs.declared.remove.AvlRemove.{AvlRemove}

abbrev pub nothing_next : Next
nothing_next = record {
  node = 0;
  version = 0;
  above = record { node = 0; side = Left; version = 0 };
  above_key = 0;
  key = 0;
  value = 0;
}

abbrev pub remove_of : ℕ → AvlRemove
remove_of k = record {
  walk = walk_of k;
  above_key = 0;
  left = 0;
  right = 0;
  value = 0;
  next = nothing_next;
  phase = Walking;
}

abbrev pub in_phase : AvlRemove → RemovePhase → AvlRemove
in_phase r phase = record r { phase = phase }

abbrev pub with_walk : AvlRemove → Walk → AvlRemove
with_walk r w = record r { walk = w }

abbrev pub with_next : AvlRemove → Next → AvlRemove
with_next r next = record r { next = next }

-- it reads a field and comes to this phase
abbrev pub remove_reads : AvlRemove → RemovePhase → ℕ → Field → AvlRemove × Ask
remove_reads r phase n f = (in_phase r phase, AskRead n f)

abbrev pub remove_gives_up : AvlRemove → AvlRemove × Ask
remove_gives_up r = (in_phase r Ended, Answer Nothing)

-- it ends by this exchange
abbrev pub remove_ends : AvlRemove → ByNodes → AvlRemove × Ask
remove_ends r b = (in_phase r Ended, Change (planned_by b))

abbrev pub heir_of : ℕ → ℕ → ℕ → Heir
heir_of n v parent = record { node = n; version = v; parent = parent }

-- the link to an heir, or to none
abbrev pub heir_link : Option Heir → ℕ
heir_link None = 0
heir_link (Some h) = h.node

-- an heir comes to hang below a node
abbrev pub rehung : ℕ → Heir → NodeChange
rehung above h = record {
  node = h.node;
  version = h.version;
  fields = renumbered Parent h.parent above ∷ [];
}

abbrev pub heir_nodes : ℕ → Option Heir → List NodeChange
heir_nodes above None = []
heir_nodes above (Some h) = rehung above h ∷ []

-- the link to the node with the key goes to its heir, and the key of the node above is charged
abbrev pub unlinked : AvlRemove → Option Heir → ByNodes
unlinked r heir = record {
  nodes = record {
    node = r.walk.above.node;
    version = r.walk.above.version;
    fields = renumbered (link_of r.walk.above.side) r.walk.node (heir_link heir) ∷ [];
  } ∷ heir_nodes r.walk.above.node heir;
  mark = Some (record { node = r.walk.node; version = r.walk.version });
  fresh = None;
  charged = key_unless_sentinel r.walk.above.node r.above_key;
  reply = Value r.value;
}

-- the key and the value of the successor come up
abbrev pub lifted_fields : AvlRemove → List FieldChange
lifted_fields r = renumbered KeyField r.walk.key r.next.key ∷ renumbered ValueField r.value r.next.value ∷ []

-- and the link to it goes to its heir
abbrev pub relinked : AvlRemove → Option Heir → List FieldChange
relinked r heir = renumbered (link_of r.next.above.side) r.next.node (heir_link heir) ∷ []

-- the nodes of a lift: the node with the key, the node above the successor where that is another, and the heir
abbrev pub lifted_nodes : AvlRemove → Option Heir → List NodeChange
lifted_nodes r heir = if r.next.above.node == r.walk.node
    then record { node = r.walk.node; version = r.walk.version; fields = lifted_fields r ++ relinked r heir }
    ∷ heir_nodes r.next.above.node heir
    else record { node = r.walk.node; version = r.walk.version; fields = lifted_fields r }
    ∷ record { node = r.next.above.node; version = r.next.above.version; fields = relinked r heir }
    ∷ heir_nodes r.next.above.node heir

-- the key that came up is charged, and that of the node above the successor where that is another
abbrev pub lifted_charges : AvlRemove → List ℕ
lifted_charges r = r.next.key ∷ (if r.next.above.node == r.walk.node then [] else r.next.above_key ∷ [])

abbrev pub lifted : AvlRemove → Option Heir → ByNodes
lifted r heir = record {
  nodes = lifted_nodes r heir;
  mark = Some (record { node = r.next.node; version = r.next.version });
  fresh = None;
  charged = lifted_charges r;
  reply = Value r.value;
}

-- the exchange in which this node leaves
abbrev pub removal : AvlRemove → Leaving → Option Heir → ByNodes
removal r Target heir = unlinked r heir
removal r Successor heir = lifted r heir

abbrev pub with_heir : Planned → ℕ → Option Heir → Planned
with_heir p above None = p
with_heir p above (Some h) = with_add (with_add p (raised h.node h.version)) (rewritten h.node Parent h.parent
    (ToNumber above))

-- on the way to the successor it visits a node, unless the link leads back
abbrev pub visiting_below : AvlRemove → Above → ℕ → ℕ → AvlRemove
visiting_below r a above_key n = in_phase (with_next r (record r.next { node = n; above = a; above_key = above_key }))
    Visiting

abbrev pub going_below : AvlRemove → Above → ℕ → ℕ → AvlRemove × Ask
going_below r a above_key n = if has n (r.walk.node ∷ a.node ∷ []) then remove_gives_up r else (
  visiting_below r a above_key n,
  AskVisit n,
)

-- it visits an heir, unless that is one of the nodes that were met
abbrev pub visiting_heir : AvlRemove → Leaving → ℕ → List ℕ → AvlRemove × Ask
visiting_heir r leaving n met = if has n met then remove_gives_up r else (
  in_phase r (VisitingHeir leaving n),
  AskVisit n,
)

-- the node with the key leaves
abbrev pub unlinking : AvlRemove → Option ℕ → AvlRemove × Ask
unlinking r None = remove_ends r (removal r Target None)
unlinking r (Some child) = visiting_heir r Target child (r.walk.node ∷ r.walk.above.node ∷ [])

-- a node with at most one child leaves, and one with two waits for its successor
abbrev pub chosen : AvlRemove → Option ℕ → Option ℕ → AvlRemove × Ask
chosen r None right = unlinking r right
chosen r (Some left) None = unlinking r (Some left)
chosen r (Some left) (Some right) = going_below r (record {
  node = r.walk.node;
  side = Right;
  version = r.walk.version;
}) r.walk.key right

-- once it was told of the node's links
abbrev pub choosing : AvlRemove → AvlRemove × Ask
choosing r = chosen r (node_at r.left) (node_at r.right)

-- the successor leaves
abbrev pub lifting : AvlRemove → Option ℕ → AvlRemove × Ask
lifting r None = remove_ends r (removal r Successor None)
lifting r (Some child) = visiting_heir r Successor child (r.walk.node ∷ r.next.node ∷ r.next.above.node ∷ [])

-- it goes left as long as there is a node, and then reads the successor
abbrev pub following : AvlRemove → Option ℕ → AvlRemove × Ask
following r None = remove_reads r ReadingNextValue r.next.node ValueField
following r (Some n) = going_below r (record { node = r.next.node; side = Left; version = r.next.version }) r.next.key
    n

-- from a node with another key it goes on, and keeps that key
abbrev pub remove_passes : AvlRemove → Walk → ℕ → AvlRemove × Ask
remove_passes r w x = (record r { walk = on_way w x; above_key = x }, AskRead w.node (way w x))

-- a remove whose walk has made a step: at the key it reads the node, and where the key is missing it answers
abbrev pub remove_walked : AvlRemove → Walk → Step → AvlRemove × Ask
remove_walked r w (Visit n) = (with_walk r w, AskVisit n)
remove_walked r w (Read n f) = (with_walk r w, AskRead n f)
remove_walked r w (Here x) = if x == w.key
    then remove_reads (with_walk r w) ReadingLeft w.node LeftLink
    else remove_passes r w x
remove_walked r w (Missing s link) = remove_gives_up (with_walk r w)
remove_walked r w Astray = remove_gives_up (with_walk r w)

-- told something on its walk
abbrev pub remove_walks : AvlRemove → Told → AvlRemove × Ask
remove_walks r t = remove_walked r (walk_step r.walk t).0 (walk_step r.walk t).1

abbrev pub with_left : AvlRemove → ℕ → AvlRemove
with_left r left = record r { left = left }

abbrev pub with_right : AvlRemove → ℕ → AvlRemove
with_right r right = record r { right = right }

abbrev pub with_value : AvlRemove → ℕ → AvlRemove
with_value r value = record r { value = value }

abbrev pub next_version : Next → ℕ → Next
next_version x v = record x { version = v }

abbrev pub next_key : Next → ℕ → Next
next_key x k = record x { key = k }

abbrev pub next_value : Next → ℕ → Next
next_value x v = record x { value = v }

abbrev pub remove_told : AvlRemove → RemovePhase → Told → AvlRemove × Ask
remove_told r Walking t = remove_walks r t
remove_told r ReadingLeft (Number left) = remove_reads (with_left r left) ReadingRight r.walk.node RightLink
remove_told r ReadingRight (Number right) = remove_reads (with_right r right) ReadingValue r.walk.node ValueField
remove_told r ReadingValue (Number value) = choosing (with_value r value)
remove_told r Visiting (Version v) = remove_reads (with_next r (next_version r.next v)) ReadingNextKey r.next.node
    KeyField
remove_told r ReadingNextKey (Number key) = remove_reads (with_next r (next_key r.next key)) ReadingNext r.next.node
    LeftLink
remove_told r ReadingNext (Number left) = following r (node_at left)
remove_told r ReadingNextValue (Number value) = remove_reads (with_next r (next_value r.next value)) ReadingNextRight
    r.next.node RightLink
remove_told r ReadingNextRight (Number right) = lifting r (node_at right)
remove_told r (VisitingHeir leaving n) (Version v) = remove_reads r (ReadingParent leaving n v) n Parent
remove_told r (ReadingParent leaving n v) (Number parent) = remove_ends r (removal r leaving (Some (heir_of n v
    parent)))
remove_told r _ _ = remove_gives_up r

abbrev pub remove_moves : AvlRemove → Told → AvlRemove × Ask
remove_moves r t = remove_told r r.phase t
