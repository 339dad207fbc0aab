-- The exchanges of a repair, by what was told of the nodes: a node gets another height, its child takes its
-- place, or its child's child does. A rotation is described by the side on which the tree was too high.
use Rattle.std.specs.Prelude.{ℕ, ◌==◌, if◌then◌else◌, List, [], ◌∷◌, ◌++◌, None}
use Rattle.pc_model.specs.declared.cell.Field.TheVariants.{Parent, Height}
use Rattle.pc_model.specs.declared.cell.Side.{Side}
use Rattle.pc_model.specs.declared.call.Reply.TheVariants.{Was}
use Rattle.pc_model.specs.Sides.{link_of, opposite}
use Rattle.pc_model.specs.TreeForms.{height_over}
use Rattle.pc_plan.specs.declared.walk.Above.{Above}
use Rattle.pc_plan.specs.NodeChanges.{NodeChange, ByNodes, adds_of}
use Rattle.pc_plan.specs.Planned.{Planned}
use Rattle.pc_bst.specs.Kinds.{key_unless_sentinel}
use Rattle.pc_bst.specs.Removes.{renumbered}
use Rattle.pc_avl.specs.declared.look.Looked.{Looked}
use Rattle.pc_avl.specs.Looks.{link_at}

-- these nodes change too
abbrev pub with_nodes : Planned → List NodeChange → Planned
with_nodes p ws = record p { adds = p.adds ++ adds_of ws None }

-- a node gets another height
abbrev pub reheighted : Looked → ℕ → NodeChange
reheighted x height = record {
  node = x.node;
  version = x.version;
  fields = renumbered Height x.height height ∷ [];
}

-- a node, if it is one, comes to hang below another
abbrev pub rehung : ℕ → Looked → List NodeChange
rehung above l =
    if l.node == 0 then []
    else record { node = l.node; version = l.version; fields = renumbered Parent l.parent above ∷ [] } ∷ []

-- the link to a node goes to another one
abbrev pub relinked : Above → ℕ → ℕ → NodeChange
relinked a old new = record {
  node = a.node;
  version = a.version;
  fields = renumbered (link_of a.side) old new ∷ [];
}

-- a node gets another link on a side, another parent and another height
abbrev pub turned : Looked → Side → ℕ → ℕ → ℕ → NodeChange
turned l s link parent height = record {
  node = l.node;
  version = l.version;
  fields = renumbered (link_of s) (link_at l s) link ∷ renumbered Parent l.parent parent
      ∷ renumbered Height l.height height ∷ [];
}

-- a node gets both links, another parent and another height
abbrev pub turned_whole : Looked → Side → ℕ → ℕ → ℕ → ℕ → NodeChange
turned_whole l s near far parent height = record {
  node = l.node;
  version = l.version;
  fields = renumbered (link_of s) (link_at l s) near ∷ renumbered (link_of (opposite s)) (link_at l (opposite s)) far
      ∷ renumbered Parent l.parent parent ∷ renumbered Height l.height height ∷ [];
}

-- the height that a node gets, and the key of the node above it is charged
abbrev pub reheighting : Above → ℕ → Looked → ℕ → ByNodes
reheighting a above_key x height = record {
  nodes = reheighted x height ∷ [];
  mark = None;
  fresh = None;
  charged = key_unless_sentinel a.node above_key;
  reply = Was x.key;
}

-- The child y of x on a side takes its place, x comes to hang on y's other side, and the node m that hung
-- there, or none, on x's side. The other child of x and the outer child of y have these heights.
abbrev pub lower_height : Looked → Looked → ℕ
lower_height m sibling = height_over m.height sibling.height

abbrev pub rotating : Side → Above → ℕ → Looked → Looked → Looked → Looked → Looked → ByNodes
rotating s a above_key x y sibling outer m = record {
  nodes = relinked a x.node y.node
      ∷ turned y (opposite s) x.node a.node (height_over outer.height (lower_height m sibling))
      ∷ turned x s m.node y.node (lower_height m sibling)
      ∷ rehung x.node m;
  mark = None;
  fresh = None;
  charged = x.key ∷ y.key ∷ key_unless_sentinel a.node above_key;
  reply = Was x.key;
}

-- The inner child g of the child y of x on a side takes the place of x: y comes to hang on its side, with the
-- node that hung there of g, and x on its other side, with the node that hung there of g.
abbrev pub rotating_twice : Side → Above → ℕ → Looked → Looked → Looked → Looked → Looked → Looked → Looked → ByNodes
rotating_twice s a above_key x y g sibling outer near far = record {
  nodes = relinked a x.node g.node
      ∷ turned_whole g s y.node x.node a.node
      (height_over (height_over outer.height near.height) (height_over far.height sibling.height))
      ∷ turned y (opposite s) near.node g.node (height_over outer.height near.height)
      ∷ turned x s far.node g.node (height_over far.height sibling.height)
      ∷ (rehung y.node near ++ rehung x.node far);
  mark = None;
  fresh = None;
  charged = x.key ∷ y.key ∷ g.key ∷ key_unless_sentinel a.node above_key;
  reply = Was x.key;
}
