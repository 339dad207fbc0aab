-- The list of a run: exchanges with strictly rising stamps, each of which stands in the cells that the earlier
-- ones leave.
use Rattle.std.specs.Prelude.{◌≡◌, ℕ, zero, suc, ◌<◌, ◌≤◌, nat_lt, if◌then◌else◌, List, [], ◌∷◌, ◌++◌, Option, Some, None}
use Rattle.pc_model.specs.Cells.{Cells}
use Rattle.pc_model.specs.Exchanges.{Exchange, Stands, applied}
use Rattle.pc_history.specs.Footprints.{IsAmong}
use Rattle.pc_history.specs.Runs.{Items, cells_at}

-- an exchange with its stamp
pub record Stamped : Type 0 where
  pub stamp : ℕ
  pub what : Exchange

-- Stamps rise strictly, from this number on, and each exchange stands in the cells that the earlier ones leave
-- from these cells.
abbrev pub IsWorldRun : Cells → ℕ → List Stamped → Type 0
IsWorldRun c from [] = Unit {0}
IsWorldRun c from (x ∷ xs) = (from ≤ x.stamp) × Stands x.what c × IsWorldRun (applied x.what c) (suc x.stamp) xs

-- the cells that the list leaves
abbrev pub cells_after : Cells → List Stamped → Cells
cells_after c [] = c
cells_after c (x ∷ xs) = cells_after (applied x.what c) xs

-- the cells that those of the list leave whose stamp is below this one
abbrev pub cells_before : Cells → List Stamped → ℕ → Cells
cells_before c [] s = c
cells_before c (x ∷ xs) s = cells_before (if nat_lt x.stamp s then applied x.what c else c) xs s

-- what stands at a stamp, as a list
abbrev pub stamped : ℕ → Option Exchange → List Stamped
stamped t None = []
stamped t (Some e) = record { stamp = t; what = e } ∷ []

-- the exchanges with stamps below a moment, by rising stamp
abbrev pub run_of : Items → ℕ → List Stamped
run_of item zero = []
run_of item (suc t) = run_of item t ++ stamped t (item t)

-- The list has the run's exchanges with stamps below a moment, each of them, and no other; it is a world run,
-- and leaves the cells at that moment, and its front up to an earlier moment the cells at that one.
pub record IsListOf (opening : Cells) (item : Items) (t : ℕ) (xs : List Stamped) : Type 0 where
  pub world : IsWorldRun opening 0 xs
  pub leaves : cells_after opening xs ≡ cells_at opening item t
  pub before : (s : ℕ) → s ≤ t → cells_before opening xs s ≡ cells_at opening item s
  pub only : (x : Stamped) → IsAmong x xs → (x.stamp < t) × (item x.stamp ≡ Some x.what)
  pub all : (s : ℕ) (e : Exchange) → s < t → item s ≡ Some e → IsAmong (record { stamp = s; what = e }) xs
