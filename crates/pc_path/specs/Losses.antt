-- Why an operation along a path is lost.
use Rattle.std.specs.Prelude.{◌≡◌, ◌≢◌, ℕ, ◌<◌, List}
use mathlib.Core.Option.{some}
use lib.ListN.{get_elem?}
use Rattle.pc_model.specs.declared.cell.Field.TheVariants.{Version}
use Rattle.pc_model.specs.declared.numbers.Numbers.{Numbers}
use Rattle.pc_rule_law.specs.Past.{Has}
use Rattle.pc_rule_law.specs.Views.{View}
use Rattle.pc_protocol.specs.Notes.{visited}
use Rattle.pc_exchange_law.specs.Wholes.{Whole}
use Rattle.pc_rule.specs.declared.refs.Ref.{Ref}
use Rattle.pc_rule.specs.declared.visit.Visit.{Visit}
use Rattle.pc_path.specs.declared.fault.ReadFault.{ReadFault}
use Rattle.pc_path.specs.declared.fault.ReadFault.TheVariants.{Busy, Numbers as NoNumbers}
use Rattle.pc_path.specs.declared.lost.Lost.{Lost}
use Rattle.pc_path.specs.declared.lost.Lost.TheVariants.{Changed, Locked, Blocked, Numbers as OutOfNumbers}
use Rattle.pc_path.specs.Faults.{IsBusy}

-- the first of these visits of this node gave this version
pub record IsFirstVisit (visits : List Visit) (n seen : ℕ) : Type 0 where
  pub place : ℕ
  pub at : get_elem? visits place ≡ some (record { node = n; version = seen })
  pub before : (i : ℕ) (v : Visit) → i < place → get_elem? visits i ≡ some v → v.node ≢ n

-- and a later one of them gave a greater version
pub record WasSeenToMove (visits : List Visit) (n seen : ℕ) : Type 0 where
  pub first : IsFirstVisit visits n seen
  pub again : Visit
  pub among : Has visits again
  pub node : again.node ≡ n
  pub above : seen < again.version

-- the first of these visits gave this version, and the pass has noted a greater one of the node: so its version is above from then on
pub record HasChanged (visits : List Visit) (y : Whole) (n seen : ℕ) : Type 0 where
  pub first : IsFirstVisit visits n seen
  pub now : ℕ
  pub above : seen < now
  pub moment : ℕ
  pub noted : Has y.knows.told (visited n now moment)

-- two different references stood since in the way of the version of a node that was visited
abbrev pub IsBlockedAt : ℕ → View → Whole → List Visit → Ref → Ref → Type 0
IsBlockedAt links v y visits first second = (u : Visit) × Has visits u × IsBusy links v y u.node Version first second

-- how an operation is lost where a version wasn't found
abbrev pub lost_by : ReadFault → Lost
lost_by (Busy first second) = Blocked first second
lost_by (NoNumbers k) = OutOfNumbers k

-- X holds where it was lost so
abbrev pub IfChanged : Lost → (ℕ → ℕ → Type 0) → Type 0
IfChanged (Changed n seen) X = X n seen
IfChanged (Locked n by) X = Unit {0}
IfChanged (Blocked first second) X = Unit {0}
IfChanged (OutOfNumbers k) X = Unit {0}

abbrev pub IfLocked : Lost → (ℕ → ℕ → Type 0) → Type 0
IfLocked (Changed n seen) X = Unit {0}
IfLocked (Locked n by) X = X n by
IfLocked (Blocked first second) X = Unit {0}
IfLocked (OutOfNumbers k) X = Unit {0}

abbrev pub IfBlocked : Lost → (Ref → Ref → Type 0) → Type 0
IfBlocked (Changed n seen) X = Unit {0}
IfBlocked (Locked n by) X = Unit {0}
IfBlocked (Blocked first second) X = X first second
IfBlocked (OutOfNumbers k) X = Unit {0}

abbrev pub IfNumbers : Lost → (Numbers → Type 0) → Type 0
IfNumbers (Changed n seen) X = Unit {0}
IfNumbers (Locked n by) X = Unit {0}
IfNumbers (Blocked first second) X = Unit {0}
IfNumbers (OutOfNumbers k) X = X k
