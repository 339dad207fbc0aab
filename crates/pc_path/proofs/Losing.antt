-- How an operation is lost, by why a version wasn't found, and since an earlier moment.
use Rattle.std.proofs.Common.{ℕ, List, inl, inr, ⊎_elim}
use Rattle.pc_model.specs.declared.cell.Field.{Field}
use Rattle.pc_rule_law.specs.Plays.{AddsNotes}
use Rattle.pc_rule_law.specs.Views.{View}
use Rattle.pc_exchange_law.specs.Wholes.{Whole}
use Rattle.pc_rule.specs.declared.refs.Ref.{Ref}
use Rattle.pc_rule.specs.declared.visit.Visit.{Visit}
use Rattle.pc_dcss.specs.Installs.{met_note}
use Rattle.pc_dcss.proofs.Staying.{noted_after}
use Rattle.pc_path.specs.declared.fault.ReadFault.{ReadFault}
use Rattle.pc_path.specs.declared.fault.ReadFault.TheVariants.{Busy, Numbers as NoNumbers}
use Rattle.pc_path.specs.declared.lost.Lost.{Lost}
use Rattle.pc_path.specs.declared.lost.Lost.TheVariants.{Changed, Locked, Blocked, Numbers as OutOfNumbers}
use Rattle.pc_path.specs.Faults.{IsBusy, IfBusy}
use Rattle.pc_path.specs.Losses.{lost_by, IsBlockedAt, IfBlocked}
use Rattle.pc_path.proofs.Leaving.{stopped_before}

pub lost_blocked : (X Y : Ref → Ref → Type 0) (fault : ReadFault) → ((first second : Ref) → X first second → Y first second) → IfBusy fault X
    → IfBlocked (lost_by fault) Y
lost_blocked X Y (Busy first second) f is = f first second is
lost_blocked X Y (NoNumbers n) f is = tt

pub if_blocked : (X Y : Ref → Ref → Type 0) (e : Lost) → ((first second : Ref) → X first second → Y first second) → IfBlocked e X → IfBlocked e Y
if_blocked X Y (Changed n seen) f is = tt
if_blocked X Y (Locked n by) f is = tt
if_blocked X Y (Blocked first second) f is = f first second is
if_blocked X Y (OutOfNumbers k) f is = tt

busy_since : (links : ℕ) (v u : View) (y : Whole) (n : ℕ) (f : Field) (first second : Ref) → AddsNotes v u → IsBusy links u y n f first second
    → IsBusy links v y n f first second
busy_since links v u y n f first second adds b = record {
  stood = noted_after v u y.view (met_note first.kind first.seat first.number n f) adds b.stood;
  not_own = b.not_own;
  different = b.different;
  then = ⊎_elim (λ same. inl (same.0, noted_after v u y.view (met_note second.kind second.seat second.number n f) adds same.1))
      (λ stopped. inr (stopped_before links v u y first second adds stopped)) b.then;
}

pub blocked_since : (links : ℕ) (v u : View) (y : Whole) (visits : List Visit) (e : Lost) → AddsNotes v u → IfBlocked e (IsBlockedAt links u y visits)
    → IfBlocked e (IsBlockedAt links v y visits)
unfolding busy_since
blocked_since links v u y visits e adds is = if_blocked (IsBlockedAt links u y visits) (IsBlockedAt links v y visits) e
    (λ first second b. (b.0, b.1, busy_since links v u y b.0.node _ first second adds b.2)) is
