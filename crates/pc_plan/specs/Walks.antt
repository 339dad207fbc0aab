-- The walk from the sentinel to a key, as a machine.
use Rattle.std.specs.Prelude.{ℕ, ◌==◌, nat_lt, if◌then◌else◌, [], ◌∷◌, Option, Some, None}
use Rattle.pc_model.specs.declared.cell.Field.{Field}
use Rattle.pc_model.specs.declared.cell.Field.TheVariants.{Key as KeyField}
use Rattle.pc_model.specs.Cells.{node_at}
use Rattle.pc_model.specs.Sides.{link_of}
use Rattle.pc_model.specs.Debts.{has}
use Rattle.pc_plan.specs.declared.plan.Told.{Told}
use Rattle.pc_plan.specs.declared.plan.Told.TheVariants.{Begin, Version, Number}
use Rattle.pc_model.specs.declared.cell.Side.{Side}
use Rattle.pc_model.specs.declared.cell.Side.TheVariants.{Left, Right}
use Rattle.pc_plan.specs.declared.walk.Above.{Above}
use Rattle.pc_plan.specs.declared.walk.Awaited.{Awaited}
use Rattle.pc_plan.specs.declared.walk.Awaited.TheVariants.{Begin as ToBegin, Version as AVersion, Key as AKey, Choice}
use Rattle.pc_plan.specs.declared.walk.Awaited.TheVariants.{Link}
use Rattle.pc_plan.specs.declared.walk.Walk.{Walk}
use Rattle.pc_plan.specs.declared.walk.Step.{Step}
use Rattle.pc_plan.specs.declared.walk.Step.TheVariants.{Visit, Read, Here, Missing, Astray}

-- the side of a node with a key on which another key lies
abbrev pub side_toward : ℕ → ℕ → Side
side_toward k of_node = if nat_lt k of_node then Left else Right

abbrev pub walk_of : ℕ → Walk
walk_of k = record {
  key = k;
  node = 1;
  awaited = ToBegin;
  version = 0;
  above = record { node = 0; side = Left; version = 0 };
}

abbrev pub awaiting : Walk → Awaited → Walk
awaiting w a = record { key = w.key; node = w.node; awaited = a; version = w.version; above = w.above }

abbrev pub at_version : Walk → ℕ → Awaited → Walk
at_version w v a = record { key = w.key; node = w.node; awaited = a; version = v; above = w.above }

abbrev pub visiting : Walk → ℕ → Walk × Step
visiting w n = (record { key = w.key; node = n; awaited = AVersion; version = w.version; above = w.above }, Visit n)

abbrev pub reading_link : Walk → Side → Walk × Step
reading_link w s = (awaiting w (Link s), Read w.node (link_of s))

-- from a node with a key the walk goes on by the link on whose side its own key lies
abbrev pub on_way : Walk → ℕ → Walk
on_way w k = awaiting w (Link (side_toward w.key k))

abbrev pub way : Walk → ℕ → Field
way w k = link_of (side_toward w.key k)

-- at the sentinel the walk goes left, at another node it reads the key
abbrev pub arriving : Walk → ℕ → Walk × Step
arriving w v = if w.node == 1
    then reading_link (at_version w v w.awaited) Left
    else (at_version w v AKey, Read w.node KeyField)

abbrev pub meeting : Walk → ℕ → Walk × Step
meeting w k = (awaiting w Choice, Here k)

-- the node that a walk leaves by a link
abbrev pub left_by : Walk → Side → Above
left_by w s = record { node = w.node; side = s; version = w.version }

abbrev pub descending : Walk → Side → ℕ → Walk × Step
descending w s n = visiting (record {
  key = w.key;
  node = w.node;
  awaited = w.awaited;
  version = w.version;
  above = left_by w s;
}) n

abbrev pub following : Walk → Side → ℕ → Option ℕ → Walk × Step
following w s link None = (w, Missing s link)
following w s link (Some n) = if has n (w.node ∷ 1 ∷ []) then (w, Astray) else descending w s n

abbrev pub step_at : Walk → Awaited → Told → Walk × Step
step_at w ToBegin Begin = visiting w w.node
step_at w AVersion (Version v) = arriving w v
step_at w AKey (Number k) = meeting w k
step_at w (Link s) (Number link) = following w s link (node_at link)
step_at w _ _ = (w, Astray)

abbrev pub walk_step : Walk → Told → Walk × Step
walk_step w t = step_at w w.awaited t
