-- How far attempts have come, by their statuses.
use Rattle.std.specs.Prelude.{◌≡◌, ◌⊎◌, ℕ, ◌+◌, ◌<◌, ◌≤◌}
use Rattle.pc_words.specs.declared.status.Stage.{Stage}
use Rattle.pc_words.specs.declared.status.Stage.TheVariants.{Idle, Undecided, Succeeded, Withdrawn, Changed, Locked}
use Rattle.pc_words.specs.declared.status.Status.{Status}

abbrev pub IsIdle : Stage → Type 0
IsIdle Idle = Unit {0}
IsIdle Undecided = ⊥
IsIdle (Succeeded stamp) = ⊥
IsIdle Withdrawn = ⊥
IsIdle (Changed node) = ⊥
IsIdle (Locked node seat) = ⊥

abbrev pub IsOpen : Stage → Type 0
IsOpen Idle = ⊥
IsOpen Undecided = Unit {0}
IsOpen (Succeeded stamp) = ⊥
IsOpen Withdrawn = ⊥
IsOpen (Changed node) = ⊥
IsOpen (Locked node seat) = ⊥

-- undecided, or failed and not cleared: the changes haven't been made, and words may still name them
abbrev pub IsUnmade : Stage → Type 0
IsUnmade Idle = ⊥
IsUnmade Undecided = Unit {0}
IsUnmade (Succeeded stamp) = ⊥
IsUnmade Withdrawn = Unit {0}
IsUnmade (Changed node) = Unit {0}
IsUnmade (Locked node seat) = Unit {0}

-- the value of a changed word by the stage: the new one where the exchange succeeded, else the old one
abbrev pub value_by : Stage → ℕ → ℕ → ℕ
value_by Idle old new = old
value_by Undecided old new = old
value_by (Succeeded stamp) old new = new
value_by Withdrawn old new = old
value_by (Changed node) old new = old
value_by (Locked node seat) old new = old

-- this attempt of the pass is published and not decided
abbrev pub IsUndecided : (ℕ → Status) → ℕ → ℕ → Type 0
IsUndecided status p a = ((status p).number ≡ a) × IsOpen (status p).stage

-- every attempt of the pass with a number below m is decided. One such fact serves all older attempts
abbrev pub DecidedBelow : (ℕ → Status) → ℕ → ℕ → Type 0
DecidedBelow status p m = (m ≤ (status p).number + 1) × (m ≡ (status p).number + 1 → IsOpen (status p).stage → ⊥)

-- the attempts with numbers below this one are decided, as a status says
abbrev pub decided_from : ℕ → Stage → ℕ
decided_from k Idle = k + 1
decided_from k Undecided = k
decided_from k (Succeeded stamp) = k + 1
decided_from k Withdrawn = k + 1
decided_from k (Changed node) = k + 1
decided_from k (Locked node seat) = k + 1

abbrev pub decided_by : Status → ℕ
decided_by s = decided_from s.number s.stage

-- an attempt with this number is cleared, as a status says: the pass has gone on from it, or it is the last one and is idle
abbrev pub IsCleared : Status → ℕ → Type 0
IsCleared s a = (a < s.number) ⊎ ((a ≡ s.number) × IsIdle s.stage)
