-- The laws of a plan, all in one: a later law is added here.
use Rattle.std.specs.Prelude.{◌≡◌, IsSome}
use Rattle.pc_model.specs.declared.call.Reply.{Reply}
use Rattle.pc_model.specs.declared.owed.Settle.TheVariants.{Nothing}
use Rattle.pc_model.specs.Forms.{Form}
use Rattle.pc_model.specs.FormLaws.{FormLaws}
use Rattle.pc_plan.specs.declared.plan.Ask.{Ask}
use Rattle.pc_plan.specs.declared.plan.Told.{Told}
use Rattle.pc_plan.specs.Terms.{Terms}
use Rattle.pc_plan.specs.Runs.{Runs}
use Rattle.pc_plan.specs.Lawful.{IsLawful}

pub record PlanLaws {P C : Type 0} (start : C → P) (moves : P → Told → P × Ask) (can_call : C → Type 0)
    (terms : C → Terms) (form : Form) : Type 0 where
  -- on sound cells it ends within its bound, and right
  pub runs : Runs start moves can_call terms form
  -- whatever it is told, it asks for nothing but what it may
  pub lawful : IsLawful start moves can_call
  -- its cells are of a form
  pub form_laws : FormLaws form
  -- a call that is recorded settles no debt
  pub settles_nothing : (call : C) (reply : Reply) → IsSome (terms call).entry → (terms call).settles reply ≡ Nothing
