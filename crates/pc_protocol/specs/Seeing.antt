-- What an exchange saw before it was published: from some moment on, at each moment at which a node has the version
-- that it covers, the node's words are those that it read.
use Rattle.std.specs.Prelude.{◌≡◌, ℕ, ◌≤◌, ◌⊎◌}
use Rattle.pc_model.specs.declared.cell.Field.{Field}
use Rattle.pc_model.specs.declared.cell.Field.TheVariants.{Version}
use Rattle.pc_model.specs.Cells.{Cells, IsEven}
use Rattle.pc_model.specs.Exchanges.{Visited, Seen, Changed, Exchange}
use Rattle.pc_history.specs.Footprints.{IsAmong, IsOfWord}

-- the exchange visits the node at this version
pub record Visits (e : Exchange) (n v : ℕ) : Type 0 where
  pub visit : Visited
  pub among : IsAmong visit e.visits
  pub node : visit.node ≡ n
  pub version : visit.version ≡ v

-- the exchange changes the node's version from this one
pub record ChangesVersion (e : Exchange) (n v : ℕ) : Type 0 where
  pub change : Changed
  pub among : IsAmong change e.changes
  pub is_of : IsOfWord n Version change
  pub old : change.old ≡ v

-- it can stand only where the node has this version
abbrev pub Covers : Exchange → ℕ → ℕ → Type 0
Covers e n v = Visits e n v ⊎ ChangesVersion e n v

-- from this moment on, wherever the node has this version, the word has this number
abbrev pub SawWord : (ℕ → Cells) → ℕ → ℕ → ℕ → Field → ℕ → Type 0
SawWord at b n v f x = (v ≤ at b n Version) × ((t : ℕ) → b ≤ t → at t n Version ≡ v → at t n f ≡ x)

-- each visited node had a version at least as great; and of each word that was read, the node's version is covered
pub record Saw (at : ℕ → Cells) (b : ℕ) (e : Exchange) : Type 0 where
  pub visits : (v : Visited) → IsAmong v e.visits → IsEven v.version × (v.version ≤ at b v.node Version)
  pub reads : (r : Seen) → IsAmong r e.reads → (v : ℕ) × Covers e r.node v × SawWord at b r.node v r.field r.number
