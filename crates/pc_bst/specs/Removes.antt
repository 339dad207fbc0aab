-- The plan of a remove, as a machine.
use Rattle.std.specs.Prelude.{ℕ, ◌==◌, if◌then◌else◌, List, [], ◌∷◌, ◌++◌, Option, Some, None}
use Rattle.pc_model.specs.declared.cell.Field.{Field}
use Rattle.pc_model.specs.declared.cell.Field.TheVariants.{Key as KeyField, Value as ValueField, Left as LeftLink}
use Rattle.pc_model.specs.declared.cell.Field.TheVariants.{Right as RightLink}
use Rattle.pc_model.specs.declared.cell.Side.TheVariants.{Left, Right}
use Rattle.pc_model.specs.declared.call.Reply.TheVariants.{Value, None as Nothing}
use Rattle.pc_model.specs.Cells.{node_at}
use Rattle.pc_model.specs.Debts.{has}
use Rattle.pc_model.specs.Exchanges.{Visited}
use Rattle.pc_model.specs.Sides.{link_of}
use Rattle.pc_plan.specs.declared.change.To.TheVariants.{Number as ToNumber}
use Rattle.pc_plan.specs.declared.plan.Ask.{Ask}
use Rattle.pc_plan.specs.declared.plan.Ask.TheVariants.{Visit as AskVisit, Read as AskRead, Change, Answer}
use Rattle.pc_plan.specs.declared.plan.Told.{Told}
use Rattle.pc_plan.specs.declared.plan.Told.TheVariants.{Version, Number}
use Rattle.pc_plan.specs.declared.walk.Above.{Above}
use Rattle.pc_plan.specs.declared.walk.Walk.{Walk}
use Rattle.pc_plan.specs.declared.walk.Step.{Step}
use Rattle.pc_plan.specs.declared.walk.Step.TheVariants.{Visit, Read, Here, Missing, Astray}
use Rattle.pc_plan.specs.NodeChanges.{FieldChange, NodeChange, ByNodes, planned_by}
use Rattle.pc_plan.specs.Walks.{walk_of, on_way, way, walk_step}
use Rattle.pc_bst.specs.declared.remove.RemovePhase.{RemovePhase}
use Rattle.pc_bst.specs.declared.remove.RemovePhase.TheVariants.{Walking, ReadingLeft, ReadingRight, ReadingValue}
use Rattle.pc_bst.specs.declared.remove.RemovePhase.TheVariants.{Visiting, ReadingNext, ReadingNextKey}
use Rattle.pc_bst.specs.declared.remove.RemovePhase.TheVariants.{ReadingNextValue, ReadingNextRight, Ended}
use Rattle.pc_bst.specs.declared.remove.Next.{Next}
use Rattle.pc_bst.specs.declared.remove.BstRemove.{BstRemove}

abbrev pub nothing_next : Next
nothing_next = record {
  node = 0;
  version = 0;
  above = record { node = 0; side = Left; version = 0 };
  key = 0;
  value = 0;
}

abbrev pub remove_of : ℕ → BstRemove
remove_of k = record { walk = walk_of k; left = 0; right = 0; value = 0; next = nothing_next; phase = Walking }

abbrev pub in_phase : BstRemove → RemovePhase → BstRemove
in_phase r phase = record r { phase = phase }

abbrev pub with_walk : BstRemove → Walk → BstRemove
with_walk r w = record r { walk = w }

abbrev pub with_next : BstRemove → Next → BstRemove
with_next r next = record r { next = next }

-- it reads a field and comes to this phase
abbrev pub remove_reads : BstRemove → RemovePhase → ℕ → Field → BstRemove × Ask
remove_reads r phase n f = (in_phase r phase, AskRead n f)

abbrev pub remove_gives_up : BstRemove → BstRemove × Ask
remove_gives_up r = (in_phase r Ended, Answer Nothing)

-- it ends by this exchange
abbrev pub remove_ends : BstRemove → ByNodes → BstRemove × Ask
remove_ends r b = (in_phase r Ended, Change (planned_by b))

-- a field goes to a number
abbrev pub renumbered : Field → ℕ → ℕ → FieldChange
renumbered f old new = record { field = f; old = old; new = ToNumber new }

-- these nodes change, this one is marked, and the reply is this value
abbrev pub removing : List NodeChange → Visited → ℕ → ByNodes
removing nodes marked value = record {
  nodes = nodes;
  mark = Some marked;
  fresh = None;
  charged = [];
  reply = Value value;
}

-- the link to the node with the key goes to its only child, or to none
abbrev pub relinked_above : BstRemove → ℕ → NodeChange
relinked_above r child = record {
  node = r.walk.above.node;
  version = r.walk.above.version;
  fields = renumbered (link_of r.walk.above.side) r.walk.node child ∷ [];
}

abbrev pub unlinked : BstRemove → ℕ → ByNodes
unlinked r child = removing (relinked_above r child ∷ []) (record { node = r.walk.node; version = r.walk.version })
    r.value

-- the key and the value of the successor come up
abbrev pub lifted_fields : BstRemove → List FieldChange
lifted_fields r = renumbered KeyField r.walk.key r.next.key ∷ renumbered ValueField r.value r.next.value ∷ []

-- and the link to it goes to its right child
abbrev pub relinked : BstRemove → ℕ → List FieldChange
relinked r right = renumbered (link_of r.next.above.side) r.next.node right ∷ []

-- the nodes of a lift: the node with the key, and the node above the successor where that is another
abbrev pub lifted_nodes : BstRemove → ℕ → List NodeChange
lifted_nodes r right = if r.next.above.node == r.walk.node
    then record { node = r.walk.node; version = r.walk.version; fields = lifted_fields r ++ relinked r right } ∷ []
    else record { node = r.walk.node; version = r.walk.version; fields = lifted_fields r }
    ∷ record { node = r.next.above.node; version = r.next.above.version; fields = relinked r right } ∷ []

abbrev pub lifted : BstRemove → ℕ → ByNodes
lifted r right = removing (lifted_nodes r right) (record { node = r.next.node; version = r.next.version }) r.value

-- on the way to the successor it visits a node, unless the link leads back
abbrev pub visiting_below : BstRemove → Above → ℕ → BstRemove
visiting_below r a n = in_phase (with_next r (record r.next { node = n; above = a })) Visiting

abbrev pub going_below : BstRemove → Above → ℕ → BstRemove × Ask
going_below r a n = if has n (r.walk.node ∷ a.node ∷ []) then remove_gives_up r else (visiting_below r a n, AskVisit n)

-- a node with at most one child is unlinked, and one with two waits for its successor
abbrev pub chosen : BstRemove → Option ℕ → Option ℕ → BstRemove × Ask
chosen r None below = remove_ends r (unlinked r r.right)
chosen r (Some l) None = remove_ends r (unlinked r r.left)
chosen r (Some l) (Some below) = going_below r (record { node = r.walk.node; side = Right; version = r.walk.version })
    below

-- it goes left as long as there is a node, and then reads the successor
abbrev pub following : BstRemove → Option ℕ → BstRemove × Ask
following r None = remove_reads r ReadingNextKey r.next.node KeyField
following r (Some n) = going_below r (record { node = r.next.node; side = Left; version = r.next.version }) n

-- a remove whose walk has made a step: at the key it reads the node, and where the key is missing it answers
abbrev pub remove_walked : BstRemove → Walk → Step → BstRemove × Ask
remove_walked r w (Visit n) = (with_walk r w, AskVisit n)
remove_walked r w (Read n f) = (with_walk r w, AskRead n f)
remove_walked r w (Here x) = if x == w.key
    then remove_reads (with_walk r w) ReadingLeft w.node LeftLink
    else (with_walk r (on_way w x), AskRead w.node (way w x))
remove_walked r w (Missing s link) = remove_gives_up (with_walk r w)
remove_walked r w Astray = remove_gives_up (with_walk r w)

abbrev pub with_left : BstRemove → ℕ → BstRemove
with_left r left = record r { left = left }

abbrev pub with_right : BstRemove → ℕ → BstRemove
with_right r right = record r { right = right }

abbrev pub with_value : BstRemove → ℕ → BstRemove
with_value r value = record r { value = value }

abbrev pub next_version : Next → ℕ → Next
next_version x v = record x { version = v }

abbrev pub next_key : Next → ℕ → Next
next_key x k = record x { key = k }

abbrev pub next_value : Next → ℕ → Next
next_value x v = record x { value = v }

abbrev pub remove_told : BstRemove → RemovePhase → Told → BstRemove × Ask
remove_told r Walking t = remove_walked r (walk_step r.walk t).0 (walk_step r.walk t).1
remove_told r ReadingLeft (Number left) = remove_reads (with_left r left) ReadingRight r.walk.node RightLink
remove_told r ReadingRight (Number right) = remove_reads (with_right r right) ReadingValue r.walk.node ValueField
remove_told r ReadingValue (Number value) = chosen (with_value r value) (node_at r.left) (node_at r.right)
remove_told r Visiting (Version v) = remove_reads (with_next r (next_version r.next v)) ReadingNext r.next.node
    LeftLink
remove_told r ReadingNext (Number left) = following r (node_at left)
remove_told r ReadingNextKey (Number key) = remove_reads (with_next r (next_key r.next key)) ReadingNextValue
    r.next.node ValueField
remove_told r ReadingNextValue (Number value) = remove_reads (with_next r (next_value r.next value)) ReadingNextRight
    r.next.node RightLink
remove_told r ReadingNextRight (Number right) = remove_ends r (lifted r right)
remove_told r _ _ = remove_gives_up r

abbrev pub remove_moves : BstRemove → Told → BstRemove × Ask
remove_moves r t = remove_told r r.phase t
