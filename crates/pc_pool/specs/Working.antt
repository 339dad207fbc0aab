-- What workers do: their steps by number, in order, until all are done or they stop.
use Rattle.std.specs.Prelude.{◌≡◌, ℕ, zero, suc, ◌<◌, ◌≤◌, Bool, false, List, [], ◌∷◌, ◌++◌, length, slice_index_or}

-- the numbers from 1 to n, in order
abbrev pub up_to : ℕ → List ℕ
up_to zero = []
up_to (suc n) = up_to n ++ suc n ∷ []

-- a worker that has done no step and hasn't stopped
pub record IsFresh (done : List ℕ) (stopped : Bool) : Type 0 where
  pub idle : done ≡ []
  pub willing : stopped ≡ false

-- A worker that has worked did its steps 1, 2 and so on, each once: all of them, or those before it stopped.
pub record HasWorked (done : List ℕ) (commands : ℕ) (stopped : Bool) : Type 0 where
  pub in_order : done ≡ up_to (length done)
  pub few : length done ≤ commands
  pub all_unless_stopped : stopped ≡ false → length done ≡ commands

module _ {W : Type 0} where
  -- each of these became the one at its place there
  pub record EachBecomes (Becomes : W → W → Type 0) (old new : List W) : Type 0 where
    pub many : length new ≡ length old
    pub each : (i : ℕ) (d : W) → i < length old → Becomes (slice_index_or old i d) (slice_index_or new i d)

-- a worker that has done the first n steps and goes on
pub record HasBegun (n : ℕ) (done : List ℕ) (stopped : Bool) : Type 0 where
  pub first : done ≡ up_to n
  pub willing : stopped ≡ false
