-- The law of a plan whatever it is told: it begins with a visit, visits the sentinel and nodes that it
-- was told of, reads what it visited, at most eight times a visit, and changes what it was told.
use Rattle.std.specs.Prelude.{◌≡◌, ◌≢◌, ℕ, ◌+◌, ◌^◌, ◌<◌, ◌≤◌, ◌⊎◌, if◌then◌else◌, List, [], ◌∷◌, length, Option, Some}
use Rattle.std.specs.Prelude.{None, IsSome, IfSome}
use Rattle.pc_model.specs.declared.cell.Field.{Field}
use Rattle.pc_model.specs.declared.cell.Field.TheVariants.{Version as VersionField, Left, Right, Parent}
use Rattle.pc_plan.specs.declared.change.To.{To}
use Rattle.pc_plan.specs.declared.change.To.TheVariants.{Number, Fresh as FreshNumber}
use Rattle.pc_plan.specs.declared.change.Add.{Add}
use Rattle.pc_plan.specs.declared.change.Fresh.{Fresh}
use Rattle.pc_plan.specs.declared.plan.Ask.{Ask}
use Rattle.pc_plan.specs.declared.plan.Ask.TheVariants.{Visit, Read, Change, Answer}
use Rattle.pc_plan.specs.declared.plan.Told.{Told}
use Rattle.pc_plan.specs.declared.plan.Told.TheVariants.{Begin, Version, Number as NumberTold}
use Rattle.pc_plan.specs.Planned.{Planned}
use Rattle.pc_plan.specs.SlotsAfter.{is_node}
use Rattle.pc_plan.specs.Traces.{Event, visited, found, version_seen, number_seen, reads_since_visit}
use Rattle.pc_plan.specs.Runs.{reached, past_of}

-- a field that names a node
abbrev pub IsLink : Field → Type 0
IsLink f = (f ≡ Left) ⊎ ((f ≡ Right) ⊎ (f ≡ Parent))

-- the node was told for a link
abbrev pub WasToldOf : ℕ → List Event → Type 0
WasToldOf n [] = ⊥
WasToldOf n (visited m v ∷ past) = WasToldOf n past
WasToldOf n (found m f x ∷ past) = (IsLink f × (x ≡ n)) ⊎ WasToldOf n past

-- by how much a version is raised: by one where its node is marked, else by two
abbrev pub rise_of : Option ℕ → ℕ → ℕ
rise_of mark n = if is_node mark n then 1 else 2

abbrev pub RaisesVersion : Option ℕ → Add → Type 0
RaisesVersion mark a = a.new ≡ Number (a.old + rise_of mark a.node)

-- what a word gets fits it
abbrev pub FitsWord : To → Type 0
FitsWord (Number x) = x < 2 ^ 62
FitsWord FreshNumber = Unit {0}

abbrev pub AreFitting : List Add → Type 0
AreFitting [] = Unit {0}
AreFitting (a ∷ adds) = FitsWord a.new × AreFitting adds

-- a fresh node has numbers that fit, and the node above it was visited
pub record IsToldFresh (past : List Event) (f : Fresh) : Type 0 where
  pub key : f.key < 2 ^ 62
  pub value : f.value < 2 ^ 62
  pub height : f.height < 2 ^ 62
  pub parent : (f.parent ≡ 0) ⊎ IsSome (version_seen f.parent past)

-- a word of a visited node, with the number that was told, and for a version a rise
abbrev pub IsToldWord : List Event → Option ℕ → Add → Type 0
IsToldWord past mark a =
    ((a.field ≡ VersionField) × (version_seen a.node past ≡ Some a.old) × RaisesVersion mark a)
    ⊎ ((a.field ≢ VersionField) × IsSome (version_seen a.node past)
    × (number_seen a.node a.field past ≡ Some a.old))

abbrev pub AreToldWords : List Event → Option ℕ → List Add → Type 0
AreToldWords past mark [] = Unit {0}
AreToldWords past mark (a ∷ adds) = IsToldWord past mark a × AreToldWords past mark adds

-- the word stands in the list
abbrev pub Adds : ℕ → Field → List Add → Type 0
Adds n f [] = ⊥
Adds n f (a ∷ adds) = ((a.node ≡ n) × (a.field ≡ f)) ⊎ Adds n f adds

-- no word is added twice
abbrev pub AreOnce : List Add → Type 0
AreOnce [] = Unit {0}
AreOnce (a ∷ adds) = (Adds a.node a.field adds → ⊥) × AreOnce adds

-- with each word of a node its version is added
abbrev pub AddsVersions : List Add → List Add → Type 0
AddsVersions all [] = Unit {0}
AddsVersions all (a ∷ adds) = Adds a.node VersionField all × AddsVersions all adds

-- the fresh node's number is written only where there is a fresh node
abbrev pub NamesFresh : Option Fresh → List Add → Type 0
NamesFresh fresh [] = Unit {0}
NamesFresh fresh (a ∷ adds) = (a.new ≡ FreshNumber → IsSome fresh) × NamesFresh fresh adds

-- the marked node has its version added, and no other word
abbrev pub MarksAlone : Option ℕ → List Add → Type 0
MarksAlone None adds = Unit {0}
MarksAlone (Some n) adds = Adds n VersionField adds × ((f : Field) → Adds n f adds → f ≡ VersionField)

pub record IsLawfulChange (past : List Event) (p : Planned) : Type 0 where
  pub some : p.adds ≢ []
  pub few : length p.adds ≤ 24
  pub told : AreToldWords past p.mark p.adds
  pub fit : AreFitting p.adds
  pub once : AreOnce p.adds
  pub versions : AddsVersions p.adds p.adds
  pub names_fresh : NamesFresh p.fresh p.adds
  pub fresh : IfSome p.fresh (IsToldFresh past)
  pub mark : MarksAlone p.mark p.adds
  pub few_charges : length p.charged ≤ 4

-- what a plan may ask after what it learned
abbrev pub IsLawfulAsk : List Event → Ask → Type 0
IsLawfulAsk past (Visit n) = (n ≡ 1) ⊎ ((n ≢ 0) × WasToldOf n past)
IsLawfulAsk past (Read n f) = IsSome (version_seen n past) × (reads_since_visit past < 8)
IsLawfulAsk past (Change p) = IsLawfulChange past p
IsLawfulAsk past (Answer r) = Unit {0}

-- a number that a word can hold, with room above a version
abbrev pub IsWord : Told → Type 0
IsWord Begin = Unit {0}
IsWord (Version v) = v < 2 ^ 60
IsWord (NumberTold x) = x < 2 ^ 62

abbrev pub AreWords : List Told → Type 0
AreWords [] = Unit {0}
AreWords (t ∷ ts) = IsWord t × AreWords ts

pub record IsLawful {P C : Type 0} (start : C → P) (moves : P → Told → P × Ask) (can_call : C → Type 0) : Type 0 where
  pub first : (call : C) → can_call call → (moves (start call) Begin).1 ≡ Visit 1
  pub asks : (call : C) (ts : List Told) → can_call call → AreWords ts
      → IsLawfulAsk (past_of start moves call ts) (reached start moves call ts).1
