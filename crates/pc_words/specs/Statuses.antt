-- The statuses of attempts: what number each is stored as, and what a stored number says.
use Rattle.std.specs.Prelude.{◌≡◌, ℕ, ◌+◌, ◌*◌, ◌/◌, ◌%◌, ◌^◌, ◌<◌, ◌≤◌, ◌==◌, if◌then◌else◌}
use Rattle.pc_words.specs.declared.status.Stage.{Stage}
use Rattle.pc_words.specs.declared.status.Stage.TheVariants.{Idle, Undecided, Succeeded, Withdrawn, Changed, Locked}
use Rattle.pc_words.specs.declared.status.Status.{Status}

-- the state: 0 idle, 1 undecided, 2 succeeded, 3 failed
abbrev pub state_of : Stage → ℕ
state_of Idle = 0
state_of Undecided = 1
state_of (Succeeded stamp) = 2
state_of Withdrawn = 3
state_of (Changed node) = 3
state_of (Locked node seat) = 3

-- the field beside it
abbrev pub field_of : Stage → ℕ
field_of Idle = 0
field_of Undecided = 0
field_of (Succeeded stamp) = stamp
field_of Withdrawn = 0
field_of (Changed node) = 2 * node
field_of (Locked node seat) = (1 + 2 * node) + 131072 * seat

-- the number that a status is stored as
abbrev pub packed : Status → ℕ
packed s = (state_of s.stage + 4 * s.number) + 1073741824 * field_of s.stage

-- why an attempt failed, from the field
abbrev pub failure : ℕ → Stage
failure field = if field == 0 then Withdrawn
    else if field % 2 == 0 then Changed (field / 2 % 65536)
    else Locked (field / 2 % 65536) (field / 131072)

abbrev pub stage_from : ℕ → ℕ → Stage
stage_from state field = if state == 0 then Idle
    else if state == 1 then Undecided
    else if state == 2 then Succeeded field
    else failure field

-- what a stored status says
abbrev pub unpacked : ℕ → Status
unpacked r = record { number = r / 4 % 268435456; stage = stage_from (r % 4) (r / 1073741824) }

-- the numbers of a stage fit its bits, and node 0 never changed
abbrev pub StageInRange : Stage → Type 0
StageInRange Idle = Unit {0}
StageInRange Undecided = Unit {0}
StageInRange (Succeeded stamp) = stamp < 2 ^ 34
StageInRange Withdrawn = Unit {0}
StageInRange (Changed node) = (1 ≤ node) × (node < 2 ^ 16)
StageInRange (Locked node seat) = (node < 2 ^ 16) × (seat < 32)

abbrev pub StatusInRange : Status → Type 0
StatusInRange s = (s.number < 2 ^ 28) × StageInRange s.stage

-- a number that some status in range is stored as
abbrev pub IsStatus : ℕ → Type 0
IsStatus r = (s : Status) × StatusInRange s × (packed s ≡ r)
