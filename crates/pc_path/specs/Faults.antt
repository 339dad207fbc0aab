-- Why reads and visits find no number.
use Rattle.std.specs.Prelude.{◌≡◌, ◌≢◌, ◌⊎◌, ℕ, ◌≤◌}
use Rattle.pc_model.specs.declared.cell.Counter.TheVariants.{Version as Versions}
use Rattle.pc_model.specs.declared.cell.Field.{Field}
use Rattle.pc_model.specs.declared.cell.Field.TheVariants.{Version}
use Rattle.pc_model.specs.declared.numbers.Numbers.{Numbers}
use Rattle.pc_model.specs.Cells.{IsEven, IsOdd}
use Rattle.pc_rule_law.specs.Plays.{IsNotedSince}
use Rattle.pc_rule_law.specs.Views.{View}
use Rattle.pc_exchange_law.specs.Paths.{last_version}
use Rattle.pc_exchange_law.specs.Wholes.{Whole}
use Rattle.pc_rule.specs.declared.refs.Ref.{Ref}
use Rattle.pc_dcss.specs.Installs.{met_note}
use Rattle.pc_kcas.specs.Helping.{IsStoppedBy}
use Rattle.pc_kcas.specs.Obstacles.{IsNotOwn}
use Rattle.pc_kcas.specs.Takings.{IsAtLastInstall}
use Rattle.pc_path.specs.declared.fault.ReadFault.{ReadFault}
use Rattle.pc_path.specs.declared.fault.ReadFault.TheVariants.{Busy, Numbers as OutOfNumbers}
use Rattle.pc_path.specs.declared.fault.VisitFault.{VisitFault}
use Rattle.pc_path.specs.declared.fault.VisitFault.TheVariants.{Busy as IsBusyThere, Marked, Long, Numbers as NoNumbers}
use Rattle.pc_path.specs.Finds.{HasFound}

-- The first reference stood in this word since. So did another one of its kind; or the help of the first one's exchange
-- was stopped by the second. Neither is that of an install of the pass.
pub record IsBusy (links : ℕ) (v : View) (y : Whole) (n : ℕ) (f : Field) (first second : Ref) : Type 0 where
  pub stood : IsNotedSince v y.view (met_note first.kind first.seat first.number n f)
  pub not_own : IsNotOwn y.view first × IsNotOwn y.view second
  pub different : second ≢ first
  pub then : ((second.kind ≡ first.kind) × IsNotedSince v y.view (met_note second.kind second.seat second.number n f))
      ⊎ IsStoppedBy links v y first second

-- this version is even, and the last one of a node or above it
abbrev pub IsOutOfVersions : ℕ → Numbers → Type 0
IsOutOfVersions v k = (k.counter ≡ Versions) × (k.at ≡ v) × IsEven v × (last_version ≤ v)

-- the node was found at such a version since
abbrev pub IsAtLastVersion : Whole → Whole → ℕ → Numbers → Type 0
IsAtLastVersion x y n k = HasFound x y n Version k.at × IsOutOfVersions k.at k

-- a visit is out of numbers: the pass's install number stands at its last value, or the version does
abbrev pub IsAtLastNumber : Whole → Whole → ℕ → Numbers → Type 0
IsAtLastNumber x y n k = IsAtLastInstall y.view k ⊎ IsAtLastVersion x y n k

-- the node was found at this odd version since, and it isn't the sentinel
abbrev pub IsMarkedNode : Whole → Whole → ℕ → ℕ → Type 0
IsMarkedNode x y n v = HasFound x y n Version v × IsOdd v × (n ≢ 1)

-- X holds where this is why a read found none
abbrev pub IfBusy : ReadFault → (Ref → Ref → Type 0) → Type 0
IfBusy (Busy first second) X = X first second
IfBusy (OutOfNumbers n) X = Unit {0}

abbrev pub IfNumbers : ReadFault → (Numbers → Type 0) → Type 0
IfNumbers (Busy first second) X = Unit {0}
IfNumbers (OutOfNumbers n) X = X n

-- X holds where this is why a visit found none
abbrev pub IfBusyThere : VisitFault → (Ref → Ref → Type 0) → Type 0
IfBusyThere (IsBusyThere first second) X = X first second
IfBusyThere (Marked v) X = Unit {0}
IfBusyThere (Long n) X = Unit {0}
IfBusyThere (NoNumbers n) X = Unit {0}

abbrev pub IfMarked : VisitFault → (ℕ → Type 0) → Type 0
IfMarked (IsBusyThere first second) X = Unit {0}
IfMarked (Marked v) X = X v
IfMarked (Long n) X = Unit {0}
IfMarked (NoNumbers n) X = Unit {0}

abbrev pub IfLong : VisitFault → (ℕ → Type 0) → Type 0
IfLong (IsBusyThere first second) X = Unit {0}
IfLong (Marked v) X = Unit {0}
IfLong (Long n) X = X n
IfLong (NoNumbers n) X = Unit {0}

abbrev pub IfNoNumbers : VisitFault → (Numbers → Type 0) → Type 0
IfNoNumbers (IsBusyThere first second) X = Unit {0}
IfNoNumbers (Marked v) X = Unit {0}
IfNoNumbers (Long n) X = Unit {0}
IfNoNumbers (NoNumbers n) X = X n

-- why a visit found none, where a read of the version found none
abbrev pub visit_fault : ReadFault → VisitFault
visit_fault (Busy first second) = IsBusyThere first second
visit_fault (OutOfNumbers n) = NoNumbers n

-- as many visits were made as there are nodes
abbrev pub IsLong : VisitFault → Type 0
IsLong (IsBusyThere first second) = ⊥
IsLong (Marked v) = ⊥
IsLong (Long n) = Unit {0}
IsLong (NoNumbers n) = ⊥
