-- The law of quiet plans: those that ask for no exchange whatever they are told.
use Rattle.std.specs.Prelude.{◌≡◌}
use Rattle.pc_model.specs.declared.call.Reply.{Reply}
use Rattle.pc_model.specs.Forms.{Form}
use Rattle.pc_plan.specs.declared.plan.Ask.{Ask}
use Rattle.pc_plan.specs.declared.plan.Told.{Told}
use Rattle.pc_plain.specs.PlainCells.{PlainWords}
use Rattle.pc_plain.specs.PlainRuns.{IsRunOf, ComesToWantSlot}

-- a run leaves everything as it was, and no slot is ever wanted, so no run is refused
pub record ChangeNothing {P C : Type 0} (start : C → P) (moves : P → Told → P × Ask) (can_call : C → Type 0)
    (form : Form) : Type 0 where
  pub stays : (call : C) (old new : PlainWords) (r : Reply) → can_call call → IsRunOf start moves form call old new r
      → new ≡ old
  pub never_refused : (call : C) (w : PlainWords) → can_call call → ComesToWantSlot start moves call w → ⊥
