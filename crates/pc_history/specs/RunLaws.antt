-- The laws of runs.
use Rattle.std.specs.Prelude.{◌≡◌, ℕ, ◌<◌, ◌≤◌, ◌⊎◌, List}
use Rattle.pc_model.specs.declared.cell.Field.{Field}
use Rattle.pc_model.specs.declared.cell.Field.TheVariants.{Version}
use Rattle.pc_model.specs.Cells.{Cells}
use Rattle.pc_model.specs.Exchanges.{Exchange}
use Rattle.pc_model.specs.Forms.{Form, IsSound, Fits}
use Rattle.pc_history.specs.Footprints.{IsWellFormed, RaisesVersions}
use Rattle.pc_history.specs.Runs.{Items, cells_at, OnItem, IsRun, MayEnter, HasEntered}
use Rattle.pc_history.specs.WorldRuns.{run_of, IsListOf}

-- an exchange that may enter a run has entered it, and it is a run
abbrev pub LateExchangesEnter : Type 0
LateExchangesEnter = (opening : Cells) (clock : ℕ) (item : Items) (s : ℕ) (e : Exchange) → IsRun opening clock item
    → MayEnter opening clock item s e → HasEntered opening clock item s e

pub record VersionsRise : Type 0 where
  -- between two moments the version of a node rises, or the node stays as it was
  pub rise : (opening : Cells) (clock : ℕ) (item : Items) → IsRun opening clock item → (t u n : ℕ) → t ≤ u
      → (cells_at opening item t n Version < cells_at opening item u n Version)
      ⊎ ((f : Field) → cells_at opening item u n f ≡ cells_at opening item t n f)
  -- that each exchange of a run raises versions is a matter of its form
  pub well_formed : (e : Exchange) → IsWellFormed e → RaisesVersions e

-- the list of a run is a world run, at each moment
abbrev pub RunsAreWorldRuns : Type 0
RunsAreWorldRuns = (opening : Cells) (clock : ℕ) (item : Items) → IsRun opening clock item → (t : ℕ)
    → IsListOf opening item t (run_of item t)

-- sound cells stay sound along a run whose exchanges fit
abbrev pub RunsStaySound : Form → Type 0
RunsStaySound form = (slots : ℕ) (opening : Cells) (clock : ℕ) (item : Items) → IsRun opening clock item
    → ((t : ℕ) → OnItem (λ e. (charged : List ℕ) × Fits form slots e charged) (item t))
    → IsSound form slots opening → (t : ℕ) → IsSound form slots (cells_at opening item t)
