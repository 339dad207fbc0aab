-- Quiet plans: those that ask for no exchange, whatever they are told.
use Rattle.std.specs.Prelude.{List}
use Rattle.pc_plan.specs.declared.plan.Ask.{Ask}
use Rattle.pc_plan.specs.declared.plan.Ask.TheVariants.{Visit, Read, Change, Answer}
use Rattle.pc_plan.specs.declared.plan.Told.{Told}
use Rattle.pc_plan.specs.Runs.{reached}

-- the ask is for no exchange
abbrev pub ChangesNothing : Ask → Type 0
ChangesNothing (Visit n) = Unit {0}
ChangesNothing (Read n f) = Unit {0}
ChangesNothing (Change p) = ⊥
ChangesNothing (Answer r) = Unit {0}

-- whatever the plan is told, it asks for no exchange
abbrev pub AsksForNoExchange : {P C : Type 0} → (C → P) → (P → Told → P × Ask) → (C → Type 0) → Type 0
AsksForNoExchange {P} {C} start moves can_call =
    (call : C) (ts : List Told) → can_call call → ChangesNothing (reached start moves call ts).1
