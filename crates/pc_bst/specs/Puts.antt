-- The put into a search tree of either kind, as a machine.
use Rattle.std.specs.Prelude.{ℕ, ◌==◌, if◌then◌else◌, [], ◌∷◌, Some, None}
use Rattle.pc_model.specs.declared.cell.Field.TheVariants.{Value as ValueField}
use Rattle.pc_model.specs.declared.cell.Side.{Side}
use Rattle.pc_model.specs.declared.call.Reply.TheVariants.{New, Was, None as Nothing}
use Rattle.pc_model.specs.Sides.{link_of}
use Rattle.pc_plan.specs.declared.change.To.TheVariants.{Number as ToNumber, Fresh as ToFresh}
use Rattle.pc_plan.specs.declared.plan.Ask.{Ask}
use Rattle.pc_plan.specs.declared.plan.Ask.TheVariants.{Visit as AskVisit, Read as AskRead, Change, Answer}
use Rattle.pc_plan.specs.declared.plan.Told.{Told}
use Rattle.pc_plan.specs.declared.plan.Told.TheVariants.{Number}
use Rattle.pc_plan.specs.declared.walk.Walk.{Walk}
use Rattle.pc_plan.specs.declared.walk.Step.{Step}
use Rattle.pc_plan.specs.declared.walk.Step.TheVariants.{Visit, Read, Here, Missing, Astray}
use Rattle.pc_plan.specs.NodeChanges.{ByNodes, planned_by}
use Rattle.pc_plan.specs.Walks.{walk_of, on_way, way, walk_step}
use Rattle.pc_bst.specs.declared.kind.NodeKind.{NodeKind}
use Rattle.pc_bst.specs.declared.tree_put.PutPhase.{PutPhase}
use Rattle.pc_bst.specs.declared.tree_put.PutPhase.TheVariants.{Walking, Reading, Ended}
use Rattle.pc_bst.specs.declared.tree_put.TreePut.{TreePut}
use Rattle.pc_bst.specs.Kinds.{leaf_parent, leaf_height, leaf_charges}

-- the value of the node that the walk has come to is changed
abbrev pub value_changed : Walk → ℕ → ℕ → ByNodes
value_changed w old value = record {
  nodes = record {
    node = w.node;
    version = w.version;
    fields = record {
      field = ValueField;
      old = old;
      new = ToNumber
          value;
    } ∷ [];
  } ∷ [];
  mark = None;
  fresh = None;
  charged = [];
  reply = Was old;
}

-- a fresh node is hung at a link of that node, which names none
abbrev pub leaf_added : TreePut → Side → ℕ → ByNodes
leaf_added p side link = record {
  nodes = record {
    node = p.walk.node;
    version = p.walk.version;
    fields = record {
      field = link_of side;
      old = link;
      new = ToFresh;
    } ∷ [];
  } ∷ [];
  mark = None;
  fresh = Some (record {
    key = p.walk.key;
    value = p.value;
    parent = leaf_parent p.kind p.walk.node;
    height = leaf_height p.kind;
  });
  charged = leaf_charges p.kind p.walk.node p.above_key;
  reply = New;
}

abbrev pub put_at : NodeKind → Walk → ℕ → ℕ → PutPhase → TreePut
put_at kind w value above_key phase = record {
  kind = kind;
  walk = w;
  value = value;
  above_key = above_key;
  phase = phase;
}

abbrev pub put_of : NodeKind → ℕ × ℕ → TreePut
put_of kind p = put_at kind (walk_of p.0) p.1 0 Walking

abbrev pub with_walk : TreePut → Walk → TreePut
with_walk p w = put_at p.kind w p.value p.above_key p.phase

abbrev pub in_phase : TreePut → PutPhase → TreePut
in_phase p phase = put_at p.kind p.walk p.value p.above_key phase

abbrev pub put_gives_up : TreePut → TreePut × Ask
put_gives_up p = (in_phase p Ended, Answer Nothing)

-- from a node with another key it goes on, and keeps that key
abbrev pub put_passes : TreePut → Walk → ℕ → TreePut × Ask
put_passes p w x = (put_at p.kind (on_way w x) p.value x p.phase, AskRead w.node (way w x))

abbrev pub put_reads : TreePut → Walk → TreePut × Ask
put_reads p w = (in_phase (with_walk p w) Reading, AskRead w.node ValueField)

-- a put whose walk has made a step: at the key it reads the old value, and where the key is missing it adds a leaf
abbrev pub put_walked : TreePut → Walk → Step → TreePut × Ask
put_walked p w (Visit n) = (with_walk p w, AskVisit n)
put_walked p w (Read n f) = (with_walk p w, AskRead n f)
put_walked p w (Here x) = if x == w.key then put_reads p w else put_passes p w x
put_walked p w (Missing s link) = (
  in_phase (with_walk p w) Ended,
  Change (planned_by (leaf_added (with_walk p w) s
      link)),
)
put_walked p w Astray = put_gives_up (with_walk p w)

-- told something on its walk
abbrev pub put_walks : TreePut → Told → TreePut × Ask
put_walks p t = put_walked p (walk_step p.walk t).0 (walk_step p.walk t).1

abbrev pub put_told : TreePut → PutPhase → Told → TreePut × Ask
put_told p Walking t = put_walks p t
put_told p Reading (Number old) = (in_phase p Ended, Change (planned_by (value_changed p.walk old p.value)))
put_told p _ _ = put_gives_up p

abbrev pub put_moves : TreePut → Told → TreePut × Ask
put_moves p t = put_told p p.phase t
