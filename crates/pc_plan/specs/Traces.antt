-- What a plan was told, where that leads, and what it has learned so far.
use Rattle.std.specs.Prelude.{◌≡◌, ℕ, suc, ◌==◌, if◌then◌else◌, List, [], ◌∷◌, Option, Some, None}
use Rattle.pc_model.specs.declared.cell.Field.{Field}
use Rattle.pc_model.specs.declared.cell.Field.TheVariants.{Version as VersionField}
use Rattle.pc_model.specs.Cells.{Cells, IsEven, field_number}
use Rattle.pc_model.specs.Exchanges.{Visited, Seen}
use Rattle.pc_plan.specs.declared.plan.Ask.{Ask}
use Rattle.pc_plan.specs.declared.plan.Ask.TheVariants.{Visit, Read}
use Rattle.pc_plan.specs.declared.plan.Told.{Told}
use Rattle.pc_plan.specs.declared.plan.Told.TheVariants.{Version, Number}

-- what was learned: a node was visited at a version, or a word had a number
pub data Event : Type 0 where
  visited : ℕ → ℕ → Event
  found : ℕ → Field → ℕ → Event

-- what is learned by what a plan asks and is told, before what was learned earlier
abbrev pub learned : Ask → Told → List Event → List Event
learned (Visit n) (Version v) past = visited n v ∷ past
learned (Read n f) (Number x) past = found n f x ∷ past
learned _ _ past = past

-- the cells have what is told for what is asked
abbrev pub Tells : Cells → Ask → Told → Type 0
Tells c (Visit n) (Version v) = (c n VersionField ≡ v) × IsEven v
Tells c (Read n f) (Number x) = c n f ≡ x
Tells c _ _ = ⊥

-- a version is told of a visit, and a number of a read
abbrev pub Fitting : Ask → Told → Type 0
Fitting (Visit n) (Version v) = Unit {0}
Fitting (Read n f) (Number x) = Unit {0}
Fitting _ _ = ⊥

module _ {P : Type 0} (moves : P → Told → P × Ask) where
  -- the state and the ask that a trace leads to
  abbrev pub after : P × Ask → List Told → P × Ask
  after s [] = s
  after s (t ∷ ts) = after (moves s.0 t) ts

  -- all that was learned along a trace, the latest first
  abbrev pub learned_along : List Event → P × Ask → List Told → List Event
  learned_along past s [] = past
  learned_along past s (t ∷ ts) = learned_along (learned s.1 t past) (moves s.0 t) ts

  -- what is told along a trace is of the kind that is asked for
  abbrev pub IsAnswered : P × Ask → List Told → Type 0
  IsAnswered s [] = Unit {0}
  IsAnswered s (t ∷ ts) = Fitting s.1 t × IsAnswered (moves s.0 t) ts

  -- what is told along a trace is what the cells have
  abbrev pub Agrees : Cells → P × Ask → List Told → Type 0
  Agrees c s [] = Unit {0}
  Agrees c s (t ∷ ts) = Tells c s.1 t × Agrees c (moves s.0 t) ts

abbrev pub visits_in : List Event → List Visited
visits_in [] = []
visits_in (visited n v ∷ past) = record { node = n; version = v } ∷ visits_in past
visits_in (found n f x ∷ past) = visits_in past

abbrev pub reads_in : List Event → List Seen
reads_in [] = []
reads_in (visited n v ∷ past) = reads_in past
reads_in (found n f x ∷ past) = record { node = n; field = f; number = x } ∷ reads_in past

-- the version that the last visit of a node was told
abbrev pub version_seen : ℕ → List Event → Option ℕ
version_seen n [] = None
version_seen n (visited m v ∷ past) = if m == n then Some v else version_seen n past
version_seen n (found m f x ∷ past) = version_seen n past

-- the number that a word had at its last read since the node was visited last
abbrev pub number_seen : ℕ → Field → List Event → Option ℕ
number_seen n f [] = None
number_seen n f (visited m v ∷ past) = if m == n then None else number_seen n f past
number_seen n f (found m g x ∷ past) = if m == n then (if field_number g == field_number f then Some x else number_seen
    n f past) else number_seen n f past

-- how many reads there were since the last visit
abbrev pub reads_since_visit : List Event → ℕ
reads_since_visit [] = 0
reads_since_visit (visited n v ∷ past) = 0
reads_since_visit (found n f x ∷ past) = suc (reads_since_visit past)
