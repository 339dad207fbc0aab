-- Trees that are turned below a link: the same nodes in the same order, with another root. And what a
-- change of some words leaves.
use Rattle.std.proofs.Common.{◌≡◌, ◌≢◌, ℕ, ⊎_elim, ◌∷◌, ◌++◌, sym, subst, append_assoc}
use Rattle.pc_model.specs.declared.cell.Field.{Field}
use Rattle.pc_model.specs.declared.cell.Side.{Side}
use Rattle.pc_model.specs.declared.cell.Side.TheVariants.{Left as left, Right as right}
use Rattle.pc_model.specs.Map.{Pairs}
use Rattle.pc_model.specs.Cells.{Cells}
use Rattle.pc_model.specs.Trees.{Tree, Empty, Fork, Kind, Spells, IsIn, pair_of, pairs_of}
use Rattle.pc_model.specs.Sides.{link_of, fork_on}
use Rattle.pc_model.proofs.TreeNodes.{root_is_in, zero_outside}
use Rattle.pc_model.proofs.Holes.{Hole}
use Rattle.pc_model.proofs.Sides.{SpellsOn, spells_on}

-- Trees seen from a side

-- the tree at a link that names a node
pub record ForkAt (side : Side) (t : Tree) (n : ℕ) : Type 0 where
  pub near : Tree
  pub far : Tree
  pub fork : t ≡ fork_on side n near far

pub fork_at : (kind : Kind) (slots : ℕ) (c : Cells) (side : Side) (t : Tree) (above link : ℕ)
    → Spells kind slots c t above link → link ≢ 0 → ForkAt side t link
fork_at kind slots c side Empty above link spelled some = absurd (some spelled)
fork_at kind slots c left (Fork n l r) above link spelled some =
    record { near = l; far = r; fork = λ i. Fork (sym spelled.0 i) l r }
fork_at kind slots c right (Fork n l r) above link spelled some =
    record { near = r; far = l; fork = λ i. Fork (sym spelled.0 i) l r }

-- the root of a tree, where it has one, is in no tree that has none of its nodes
pub root_apart : (kind : Kind) (slots : ℕ) (c : Cells) (t u : Tree) (above link above' link' : ℕ)
    → Spells kind slots c t above link → Spells kind slots c u above' link'
    → ((m : ℕ) → IsIn m t → IsIn m u → ⊥) → IsIn link u → ⊥
root_apart kind slots c t u above link above' link' spelled spelled' apart i = ⊎_elim
    (λ zero. zero_outside kind slots c u above' link' link spelled' zero i)
    (λ j. apart link j i)
    (root_is_in kind slots c t above link spelled)

-- a hole with a fork, seen from one of its sides
pub record HoleOn (side : Side) (kind : Kind) (slots : ℕ) (c : Cells) (ps : Pairs) (whole : Tree) (k above : ℕ)
    (link : Field) (n : ℕ) : Type 0 where
  pub near : Tree
  pub far : Tree
  pub hole : Hole kind slots c ps whole k above link (fork_on side n near far)

module _ (kind : Kind) (slots : ℕ) (c : Cells) (ps : Pairs) (whole : Tree) (k above : ℕ) (link : Field) (n : ℕ) where
  pub hole_on : (side : Side) (l r : Tree) → Hole kind slots c ps whole k above link (Fork n l r)
      → HoleOn side kind slots c ps whole k above link n
  hole_on left l r h = record { near = l; far = r; hole = h }
  hole_on right l r h = record { near = r; far = l; hole = h }

  -- the node's child on the side, and the child's trees
  pub record ChildOn (side : Side) (child : ℕ) : Type 0 where
    pub near : Tree
    pub middle : Tree
    pub far : Tree
    pub hole : Hole kind slots c ps whole k above link (fork_on side n (fork_on side child near middle) far)

  pub child_on : (side : Side) (l r : Tree) (child : ℕ) → Hole kind slots c ps whole k above link (Fork n l r)
      → c n (link_of side) ≡ child → child ≢ 0 → ChildOn side child
  child_on side l r child h is some =
      let on : HoleOn side kind slots c ps whole k above link n = hole_on side l r h in
      let there : SpellsOn kind slots c side n on.near on.far above (c above link) =
      spells_on kind slots c n on.near on.far above (c above link) side on.hole.spelled in
      let fork : ForkAt side on.near child = fork_at kind slots c side on.near n child
      (subst (Spells kind slots c on.near n) is there.near_spelled) some in
      record {
        near = fork.near;
        middle = fork.far;
        far = on.far;
        hole = subst (λ (t : Tree). Hole kind slots c ps whole k above link (fork_on side n t on.far)) fork.fork
            on.hole;
      }

-- The order of a turned tree

pub pairs_turned : (side : Side) (c : Cells) (x y : ℕ) (near middle far : Tree)
    → pairs_of c (fork_on side x (fork_on side y near middle) far)
    ≡ pairs_of c (fork_on side y near (fork_on side x middle far))
pairs_turned left c x y near middle far =
    append_assoc (pairs_of c near) (pair_of c y ∷ pairs_of c middle) (pair_of c x ∷ pairs_of c far)
pairs_turned right c x y near middle far =
    sym (append_assoc (pairs_of c far) (pair_of c x ∷ pairs_of c middle) (pair_of c y ∷ pairs_of c near))

pub pairs_on_side : (side : Side) (c : Cells) (n : ℕ) (t t' far : Tree) → pairs_of c t ≡ pairs_of c t'
    → pairs_of c (fork_on side n t far) ≡ pairs_of c (fork_on side n t' far)
pairs_on_side left c n t t' far same = λ i. same i ++ (pair_of c n ∷ pairs_of c far)
pairs_on_side right c n t t' far same = λ i. pairs_of c far ++ (pair_of c n ∷ same i)
