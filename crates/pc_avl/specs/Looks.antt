-- A look at a node, as a machine.
use Rattle.std.specs.Prelude.{ℕ, Option, Some, None}
use Rattle.pc_model.specs.declared.cell.Field.TheVariants.{Version as VersionField, Key as KeyField, Left as LeftLink}
use Rattle.pc_model.specs.declared.cell.Field.TheVariants.{Right as RightLink, Parent as ParentField}
use Rattle.pc_model.specs.declared.cell.Field.TheVariants.{Height as HeightField}
use Rattle.pc_model.specs.declared.cell.Side.{Side}
use Rattle.pc_model.specs.declared.cell.Side.TheVariants.{Left as OnLeft, Right as OnRight}
use Rattle.pc_model.specs.Cells.{Cells}
use Rattle.pc_plan.specs.declared.plan.Told.{Told}
use Rattle.pc_plan.specs.declared.plan.Told.TheVariants.{Version as VersionTold, Number}
use Rattle.pc_avl.specs.declared.look.Look.{Look}
use Rattle.pc_avl.specs.declared.look.Looked.{Looked}
use Rattle.pc_avl.specs.declared.look.LookStep.{LookStep}
use Rattle.pc_avl.specs.declared.look.LookStep.TheVariants.{Read, Done, Astray}
use Rattle.pc_avl.specs.declared.look.Unread.{Unread}
use Rattle.pc_avl.specs.declared.look.Unread.TheVariants.{Version, Key, Left, Right, Parent, Height}

-- no node
abbrev pub missing : Looked
missing = record { node = 0; version = 0; key = 0; left = 0; right = 0; parent = 0; height = 0 }

-- what these cells have at a node
abbrev pub looked_in : Cells → ℕ → Looked
looked_in c n = record {
  node = n;
  version = c n VersionField;
  key = c n KeyField;
  left = c n LeftLink;
  right = c n RightLink;
  parent = c n ParentField;
  height = c n HeightField;
}

abbrev pub link_at : Looked → Side → ℕ
link_at l OnLeft = l.left
link_at l OnRight = l.right

abbrev pub look_for : ℕ → Look
look_for n = record {
  seen = record { node = n; version = 0; key = 0; left = 0; right = 0; parent = 0; height = 0 };
  unread = Version;
}

abbrev pub look_on : ℕ → ℕ → ℕ → Look
look_on n v k = record {
  seen = record { node = n; version = v; key = k; left = 0; right = 0; parent = 0; height = 0 };
  unread = Left;
}

abbrev pub with_version : Looked → ℕ → Looked
with_version l v = record l { version = v }

abbrev pub with_key : Looked → ℕ → Looked
with_key l k = record l { key = k }

abbrev pub with_left : Looked → ℕ → Looked
with_left l x = record l { left = x }

abbrev pub with_right : Looked → ℕ → Looked
with_right l x = record l { right = x }

abbrev pub with_parent : Looked → ℕ → Looked
with_parent l x = record l { parent = x }

abbrev pub with_height : Looked → ℕ → Looked
with_height l x = record l { height = x }

abbrev pub having : Looked → Unread → Look
having l u = record { seen = l; unread = u }

abbrev pub look_told : Look → Unread → Told → Look × LookStep
look_told l Version (VersionTold v) = (having (with_version l.seen v) Key, Read KeyField)
look_told l Key (Number x) = (having (with_key l.seen x) Left, Read LeftLink)
look_told l Left (Number x) = (having (with_left l.seen x) Right, Read RightLink)
look_told l Right (Number x) = (having (with_right l.seen x) Parent, Read ParentField)
look_told l Parent (Number x) = (having (with_parent l.seen x) Height, Read HeightField)
look_told l Height (Number x) = (having (with_height l.seen x) Height, Done)
look_told l _ _ = (l, Astray)

abbrev pub look_step : Look → Told → Look × LookStep
look_step l t = look_told l l.unread t

-- a look at its end on cells, at a node with this version and key and this left link
abbrev pub told_all : Cells → ℕ → ℕ → ℕ → ℕ → Look
told_all c n v k left = having (record {
  node = n;
  version = v;
  key = k;
  left = left;
  right = c n RightLink;
  parent = c n ParentField;
  height = c n HeightField;
}) Height

-- a look that is told what it waits for at its visit or at its left link, once it was told the rest in cells
abbrev pub whole_look_at : Cells → Looked → Unread → Told → Option Look
whole_look_at c s Version (VersionTold v) = Some (told_all c s.node v (c s.node KeyField) (c s.node LeftLink))
whole_look_at c s Left (Number x) = Some (told_all c s.node s.version s.key x)
whole_look_at c s _ _ = None

abbrev pub whole_look : Cells → Look → Told → Option Look
whole_look c l t = whole_look_at c l.seen l.unread t
