-- What holds of why a visit found no version, by what holds of why a read found none.
use Rattle.pc_model.specs.declared.numbers.Numbers.{Numbers}
use Rattle.pc_rule.specs.declared.refs.Ref.{Ref}
use Rattle.pc_path.specs.declared.fault.ReadFault.{ReadFault}
use Rattle.pc_path.specs.declared.fault.ReadFault.TheVariants.{Busy, Numbers as OutOfNumbers}
use Rattle.pc_path.specs.Faults.{visit_fault, IfBusy, IfNumbers, IfBusyThere, IfNoNumbers}

pub busy_there : (X : Ref → Ref → Type 0) (fault : ReadFault) → IfBusy fault X → IfBusyThere (visit_fault fault) X
busy_there X (Busy first second) is = is
busy_there X (OutOfNumbers n) is = tt

pub no_numbers : (X Y : Numbers → Type 0) (fault : ReadFault) → ((n : Numbers) → X n → Y n) → IfNumbers fault X → IfNoNumbers (visit_fault fault) Y
no_numbers X Y (Busy first second) f is = tt
no_numbers X Y (OutOfNumbers n) f is = f n is
