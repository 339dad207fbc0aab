-- What a plan of a call of the map stands for, by its members alone: this call, these keys, these cells.
use Rattle.std.specs.Prelude.{◌≡◌, ◌↔◌, ℕ}
use Rattle.pc_model.specs.declared.call.Call.{Call}
use Rattle.pc_model.specs.Map.{Pairs}
use Rattle.pc_model.specs.Cells.{Cells}
use Rattle.pc_model.specs.Forms.{Form}
use Rattle.pc_plan.specs.Terms.{Terms, map_terms}

-- two forms say the same of all cells
pub record AreSameForms (form other : Form) : Type 0 where
  pub sound : (slots : ℕ) (c : Cells) (ps : Pairs) → form.sound slots c ps ↔ other.sound slots c ps
  pub in_debt : (slots : ℕ) (c : Cells) (k : ℕ) → form.in_debt slots c k ↔ other.in_debt slots c k

-- The plan stands for this call of the map, may be begun with exactly what can be called, and is for cells
-- of this form.
pub record StandsForCall {C : Type 0} (terms : C → Terms) (can_call : C → Type 0) (form : Form)
    (call_of : C → Call) (IsCalled : C → Type 0) (cells : Form) : Type 0 where
  pub terms_are : (call : C) → terms call ≡ map_terms (call_of call)
  pub can_be_called : (call : C) → can_call call ↔ IsCalled call
  pub form_is : AreSameForms form cells
