-- What holds of each step's ask holds of every ask; so a plan is quiet where none of its steps asks for an
-- exchange.
use Rattle.std.proofs.Common.{List, [], ◌∷◌}
use Rattle.pc_plan.specs.declared.plan.Ask.{Ask}
use Rattle.pc_plan.specs.declared.plan.Told.{Told}
use Rattle.pc_plan.specs.declared.plan.Told.TheVariants.{Begin}
use Rattle.pc_plan.specs.Traces.{after}
use Rattle.pc_plan.specs.Runs.{reached}
use Rattle.pc_plan.specs.Quiet.{ChangesNothing, AsksForNoExchange}

module _ {P C : Type 0} (start : C → P) (moves : P → Told → P × Ask) (Holds : Ask → Type 0)
    (step : (s : P) (t : Told) → Holds (moves s t).1) where
  holds_after : (ts : List Told) (s : P × Ask) → Holds s.1 → Holds (after moves s ts).1
  holds_after [] s holds = holds
  holds_after (t ∷ ts) s holds = holds_after ts (moves s.0 t) (step s.0 t)

  pub asks_by_steps : (call : C) (ts : List Told) → Holds (reached start moves call ts).1
  asks_by_steps call ts = holds_after ts (moves (start call) Begin) (step (start call) Begin)

pub quiet_by_steps : {P C : Type 0} (start : C → P) (moves : P → Told → P × Ask) (can_call : C → Type 0)
    → ((s : P) (t : Told) → ChangesNothing (moves s t).1) → AsksForNoExchange start moves can_call
quiet_by_steps start moves can_call step call ts can = asks_by_steps start moves ChangesNothing step call ts
