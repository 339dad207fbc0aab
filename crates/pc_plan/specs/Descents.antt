-- A walk that passes nodes on cells that stand still, a node at once.
use Rattle.std.specs.Prelude.{◌≡◌, ℕ, zero, suc, ◌==◌, ◌⊎◌, if◌then◌else◌, [], ◌∷◌, Option, Some, None}
use Rattle.pc_model.specs.declared.cell.Field.TheVariants.{Version as VersionField, Key as KeyField, Left as LeftLink}
use Rattle.pc_model.specs.declared.cell.Side.{Side}
use Rattle.pc_model.specs.declared.cell.Side.TheVariants.{Left, Right}
use Rattle.pc_model.specs.Cells.{Cells, IsNode, node_at}
use Rattle.pc_model.specs.Sides.{link_of}
use Rattle.pc_model.specs.Debts.{has}
use Rattle.pc_plan.specs.declared.descent.Descent.{Descent}
use Rattle.pc_plan.specs.declared.plan.Told.{Told}
use Rattle.pc_plan.specs.declared.plan.Told.TheVariants.{Begin, Version}
use Rattle.pc_plan.specs.declared.walk.Above.{Above}
use Rattle.pc_plan.specs.declared.walk.Awaited.{Awaited}
use Rattle.pc_plan.specs.declared.walk.Awaited.TheVariants.{Begin as ToBegin, Version as AVersion}
use Rattle.pc_plan.specs.declared.walk.Walk.{Walk}
use Rattle.pc_plan.specs.Walks.{side_toward, way}

abbrev pub on_side : Side → ℕ → ℕ → ℕ
on_side Left left right = left
on_side Right left right = right

-- a walk at its visit of a node, which it came to from the one above
abbrev pub visit_below : Cells → ℕ → ℕ → Above → ℕ → Descent
visit_below c key n above x = record {
  walk = record { key = key; node = n; awaited = AVersion; version = above.version; above = above };
  version = c n VersionField;
  above_key = x;
}

-- it leaves the node that it visits by the link to this one
abbrev pub passed : Cells → Descent → ℕ → Descent
passed c d n = visit_below c d.walk.key n (record {
  node = d.walk.node;
  side = side_toward d.walk.key (c d.walk.node KeyField);
  version = d.version;
}) (c d.walk.node KeyField)

-- it passes the node where that has another key, and its link leads on
abbrev pub passing_to : Cells → Descent → Option ℕ → Option Descent
passing_to c d None = None
passing_to c d (Some n) = if has n (d.walk.node ∷ 1 ∷ []) then None else Some (passed c d n)

abbrev pub passing : Cells → Descent → Option Descent
passing c d = if c d.walk.node KeyField == d.walk.key then None
    else passing_to c d (node_at (c d.walk.node (way d.walk (c d.walk.node KeyField))))

-- so many nodes were passed
abbrev pub Passes : Cells → Descent → ℕ → Descent → Type 0
Passes c d zero e = d ≡ e
Passes c d (suc m) e = (b : Descent) × Passes c d m b × (passing c b ≡ Some e)

-- The same by the nodes alone: a link of a node leads on where it names another, and not the sentinel.
abbrev pub onward : ℕ → Option ℕ → Option ℕ
onward n None = None
onward n (Some b) = if has b (n ∷ 1 ∷ []) then None else Some b

-- the node below one on the way to a key
abbrev pub node_below : Cells → ℕ → ℕ → Option ℕ
node_below c key n = if c n KeyField == key then None
    else onward n (node_at (c n (link_of (side_toward key (c n KeyField)))))

-- the way to a key leads from a node past so many nodes to another
abbrev pub Leads : Cells → ℕ → ℕ → ℕ → ℕ → Type 0
Leads c key n zero b = n ≡ b
Leads c key n (suc m) b = (a : ℕ) × Leads c key n m a × (node_below c key a ≡ Some b)

-- it leads to this node, and where some were passed, from that one above
abbrev pub IsLeg : Cells → ℕ → ℕ → ℕ → ℕ → Type 0
IsLeg c key n a b = (n ≡ b) ⊎ ((m : ℕ) × Leads c key n m a × (node_below c key a ≡ Some b))

-- the version that a walk knows of the node that it visits, and else what stands there
abbrev pub version_at : Cells → Descent → ℕ → ℕ
version_at c d n = if n == d.walk.node then d.version else c n VersionField

-- a walk at its visit of a node below another
abbrev pub leg_visit : Cells → Descent → ℕ → ℕ → Descent
leg_visit c d a b = visit_below c d.walk.key b (record {
  node = a;
  side = side_toward d.walk.key (c a KeyField);
  version = version_at c d a;
}) (c a KeyField)

-- from the sentinel it visits the root, if there is one
abbrev pub entered : Cells → Walk → ℕ → ℕ → Descent
entered c w x n = visit_below c w.key n (record { node = 1; side = Left; version = c 1 VersionField }) x

abbrev pub entering : Cells → Walk → ℕ → Option ℕ → Option Descent
entering c w x None = None
entering c w x (Some n) = if has n (1 ∷ 1 ∷ []) then None else Some (entered c w x n)

-- A walk that is told to begin is on its way down once it visits the root, and one that is told the version of
-- another node than the sentinel is on its way.
abbrev pub way_down_at : Cells → Walk → ℕ → Awaited → Told → Option Descent
way_down_at c w x ToBegin Begin = if w.node == 1 then entering c w x (node_at (c 1 LeftLink)) else None
way_down_at c w x AVersion (Version v) =
    if w.node == 1 then None else Some (record { walk = w; version = v; above_key = x })
way_down_at c w x _ _ = None

abbrev pub way_down : Cells → Walk → ℕ → Told → Option Descent
way_down c w x t = way_down_at c w x w.awaited t

-- on its way down a walk has passed some nodes
abbrev pub HasDescended : Cells → Walk → ℕ → Told → Descent → Type 0
HasDescended c w x t d = (b : Descent) × (m : ℕ) × (way_down c w x t ≡ Some b) × Passes c b m d

-- all that it visits so are nodes
abbrev pub DescendsByNodes : ℕ → Cells → Walk → ℕ → Told → Type 0
DescendsByNodes slots c w x t = (d : Descent) → HasDescended c w x t d → IsNode slots d.walk.node
