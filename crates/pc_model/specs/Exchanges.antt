-- Path exchanges (Brown, Sigouin and Alistarh): what was visited and read, what is changed, and at most
-- one fresh node; when such an exchange stands in some cells, and the cells that it leaves.
use Rattle.std.specs.Prelude.{◌≡◌, ℕ, ◌+◌, List, [], ◌∷◌, Option, Some, None}
use Rattle.pc_model.specs.declared.cell.Field.{Field}
use Rattle.pc_model.specs.declared.cell.Field.TheVariants.{Version}
use Rattle.pc_model.specs.Cells.{Cells, IsEven, IsOdd, written, with_node}

-- a node, and the version that it was visited at
pub record Visited : Type 0 where
  pub node : ℕ
  pub version : ℕ

-- a word, and the number that was read there
pub record Seen : Type 0 where
  pub node : ℕ
  pub field : Field
  pub number : ℕ

-- a word, the number that it has, and the number that it gets
pub record Changed : Type 0 where
  pub node : ℕ
  pub field : Field
  pub old : ℕ
  pub new : ℕ

-- the slot that a fresh node takes, and its fields
pub record FreshNode : Type 0 where
  pub node : ℕ
  pub fields : Field → ℕ

pub record Exchange : Type 0 where
  pub visits : List Visited
  pub reads : List Seen
  pub changes : List Changed
  pub fresh : Option FreshNode

-- every visited node is unmarked and has the version that it was visited at
abbrev pub VisitsStand : Cells → List Visited → Type 0
VisitsStand c [] = Unit {0}
VisitsStand c (v ∷ vs) = ((c v.node Version ≡ v.version) × IsEven v.version) × VisitsStand c vs

-- every word that was read has the number that was read
abbrev pub ReadsStand : Cells → List Seen → Type 0
ReadsStand c [] = Unit {0}
ReadsStand c (r ∷ rs) = (c r.node r.field ≡ r.number) × ReadsStand c rs

-- every word to change has its old number
abbrev pub ChangesStand : Cells → List Changed → Type 0
ChangesStand c [] = Unit {0}
ChangesStand c (a ∷ changes) = (c a.node a.field ≡ a.old) × ChangesStand c changes

-- the slot of the fresh node is out of use, and its version is one below the fresh node's
abbrev pub FreshStands : Cells → Option FreshNode → Type 0
FreshStands c None = Unit {0}
FreshStands c (Some f) = IsOdd (c f.node Version) × (f.fields Version ≡ c f.node Version + 1)

-- the exchange stands in the cells
pub record Stands (e : Exchange) (c : Cells) : Type 0 where
  pub visits : VisitsStand c e.visits
  pub reads : ReadsStand c e.reads
  pub changes : ChangesStand c e.changes
  pub fresh : FreshStands c e.fresh

-- the cells with the new numbers of these changes
abbrev pub with_changes : List Changed → Cells → Cells
with_changes [] c = c
with_changes (a ∷ changes) c = with_changes changes (written a.node a.field a.new c)

abbrev pub with_fresh : Option FreshNode → Cells → Cells
with_fresh None c = c
with_fresh (Some f) c = with_node f.node f.fields c

-- the cells that the exchange leaves
abbrev pub applied : Exchange → Cells → Cells
applied e c = with_changes e.changes (with_fresh e.fresh c)
