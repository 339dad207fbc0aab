-- A run of a plan that asks for no exchange leaves everything as it was, and is never refused.
use Rattle.std.proofs.Common.{◌≡◌, List}
use Rattle.pc_model.specs.declared.call.Reply.{Reply}
use Rattle.pc_model.specs.Forms.{Form}
use Rattle.pc_plan.specs.declared.plan.Ask.{Ask}
use Rattle.pc_plan.specs.declared.plan.Ask.TheVariants.{Visit, Read, Change, Answer}
use Rattle.pc_plan.specs.declared.plan.Told.{Told}
use Rattle.pc_plan.specs.Quiet.{ChangesNothing, AsksForNoExchange}
use Rattle.pc_plan.specs.Traces.{Event}
use Rattle.pc_plan.specs.Runs.{reached, past_of}
use Rattle.pc_plain.specs.PlainCells.{PlainWords}
use Rattle.pc_plain.specs.PlainRuns.{EndsWith, WantsSlot}
use Rattle.pc_plain.specs.QuietRuns.{ChangeNothing}

quiet_end : (form : Form) (old new : PlainWords) (past : List Event) (r : Reply) (a : Ask) → ChangesNothing a
    → EndsWith form old new past r a → new ≡ old
quiet_end form old new past r (Visit n) quiet ends = absurd ends
quiet_end form old new past r (Read n f) quiet ends = absurd ends
quiet_end form old new past r (Change p) quiet ends = absurd quiet
quiet_end form old new past r (Answer x) quiet ends = ends.1

wants_none : (a : Ask) → ChangesNothing a → WantsSlot a → ⊥
wants_none (Visit n) quiet wants = wants
wants_none (Read n f) quiet wants = wants
wants_none (Change p) quiet wants = quiet
wants_none (Answer r) quiet wants = wants

pub quiet_plans : {P C : Type 0} (start : C → P) (moves : P → Told → P × Ask) (can_call : C → Type 0) (form : Form)
    → AsksForNoExchange start moves can_call → ChangeNothing start moves can_call form
quiet_plans start moves can_call form quiet = record {
  stays = λ call old new r can run.
      quiet_end form old new (past_of start moves call run.0) r (reached start moves call run.0).1
      (quiet call run.0 can) run.2;
  never_refused = λ call w can come. wants_none (reached start moves call come.0).1 (quiet call come.0 can) come.2;
}
