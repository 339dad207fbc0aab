-- What an exchange touches and what it writes: when one exchange leaves another alone, and when it raises
-- the version of each node that it changes.
use Rattle.std.specs.Prelude.{◌≡◌, ◌≢◌, ℕ, ◌<◌, ◌⊎◌, List, [], ◌∷◌, Some}
use Rattle.pc_model.specs.declared.cell.Field.{Field}
use Rattle.pc_model.specs.declared.cell.Field.TheVariants.{Version}
use Rattle.pc_model.specs.Cells.{Cells}
use Rattle.pc_model.specs.Exchanges.{Visited, Seen, Changed, FreshNode, Exchange, ChangesStand, FreshStands, applied}

-- it stands in the list
abbrev pub IsAmong : {A : Type 0} → A → List A → Type 0
IsAmong x [] = ⊥
IsAmong x (y ∷ ys) = (x ≡ y) ⊎ IsAmong x ys

-- the change is of this word
abbrev pub IsOfWord : ℕ → Field → Changed → Type 0
IsOfWord n f a = (a.node ≡ n) × (a.field ≡ f)

-- the exchange has a change of this word with these numbers
pub record HasChange (e : Exchange) (n : ℕ) (f : Field) : Type 0 where
  pub change : Changed
  pub among : IsAmong change e.changes
  pub is_of : IsOfWord n f change

-- the exchange doesn't write this word: no change is of it, and it doesn't lie at the fresh node
pub record LeavesWord (e : Exchange) (n : ℕ) (f : Field) : Type 0 where
  pub unchanged : (a : Changed) → IsAmong a e.changes → IsOfWord n f a → ⊥
  pub not_fresh : (g : FreshNode) → e.fresh ≡ Some g → n ≢ g.node

-- the exchange writes this word
abbrev pub Writes : Exchange → ℕ → Field → Type 0
Writes e n f = HasChange e n f ⊎ ((g : FreshNode) × (e.fresh ≡ Some g) × (n ≡ g.node))

-- What e writes misses what x touches: e writes no version that x visited, no word that x read or changes,
-- and no word of the node that x makes.
pub record WritesMiss (e x : Exchange) : Type 0 where
  pub visits : (v : Visited) → IsAmong v x.visits → LeavesWord e v.node Version
  pub reads : (r : Seen) → IsAmong r x.reads → LeavesWord e r.node r.field
  pub changes : (a : Changed) → IsAmong a x.changes → LeavesWord e a.node a.field
  pub fresh : (g : FreshNode) (f : Field) → x.fresh ≡ Some g → LeavesWord e g.node f

-- no word is changed twice
abbrev pub AreOnce : List Changed → Type 0
AreOnce [] = Unit {0}
AreOnce (a ∷ changes) = ((b : Changed) → IsAmong b changes → IsOfWord a.node a.field b → ⊥) × AreOnce changes

-- the change of a node's version, which rises; or which stays, and then no other word of the node is changed
pub record RaisesVersionOf (e : Exchange) (n : ℕ) : Type 0 where
  pub change : Changed
  pub among : IsAmong change e.changes
  pub is_of : IsOfWord n Version change
  pub rises : (change.old < change.new)
      ⊎ ((change.new ≡ change.old) × ((b : Changed) → IsAmong b e.changes → b.node ≡ n → b.field ≡ Version))

-- The exchange has the form that it may be published in: no word is changed twice, with each changed word
-- comes the version of its node, and no change is of a word of the fresh node.
pub record IsWellFormed (e : Exchange) : Type 0 where
  pub once : AreOnce e.changes
  pub raises : (a : Changed) → IsAmong a e.changes → RaisesVersionOf e a.node
  pub not_fresh : (a : Changed) (g : FreshNode) → IsAmong a e.changes → e.fresh ≡ Some g → a.node ≢ g.node

-- wherever its changes and its fresh node stand, each node's version rises, or the node stays as it was
abbrev pub RaisesVersions : Exchange → Type 0
RaisesVersions e = (c : Cells) → ChangesStand c e.changes → FreshStands c e.fresh → (n : ℕ)
    → (c n Version < applied e c n Version) ⊎ ((f : Field) → applied e c n f ≡ c n f)
