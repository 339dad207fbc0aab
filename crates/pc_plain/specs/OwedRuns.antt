-- Runs whose client owes: what a run leaves owed, that each key in debt is answered for, and why a run is refused.
use Rattle.std.specs.Prelude.{◌≡◌, ℕ, ◌≤◌, List, [], IfSome}
use Rattle.pc_model.specs.declared.call.Reply.{Reply}
use Rattle.pc_model.specs.Debts.{Debts, IsOwed, taken_up}
use Rattle.pc_model.specs.Forms.{Form}
use Rattle.pc_plan.specs.declared.plan.Ask.{Ask}
use Rattle.pc_plan.specs.declared.plan.Ask.TheVariants.{Visit, Read, Change, Answer}
use Rattle.pc_plan.specs.declared.plan.Told.{Told}
use Rattle.pc_plan.specs.Terms.{Terms}
use Rattle.pc_plan.specs.Runs.{reached}
use Rattle.pc_plain.specs.declared.node_store.NoPlainSlot.{NoPlainSlot}
use Rattle.pc_plain.specs.PlainCells.{PlainWords, cells_of}
use Rattle.pc_plain.specs.PlainRuns.{AllInUse, IsRunOf, ComesToWantSlot, HasPairPerSlot}

-- each key that is in debt in the cells is owed
abbrev pub AnswersForDebts : Form → PlainWords → Debts → Type 0
AnswersForDebts form w d = (k : ℕ) → form.in_debt w.slots (cells_of w) k → IsOwed k d

-- a raise of a call of these terms begins no higher than the number that is owed
abbrev pub BeginsInReach : Terms → Debts → Type 0
BeginsInReach terms d = IfSome d.from (λ n. terms.lower ≤ n)

-- the keys that are charged by what a plan asks for in the end: none where it answers
abbrev pub charged_by : Ask → List ℕ
charged_by (Visit n) = []
charged_by (Read n f) = []
charged_by (Change p) = p.charged
charged_by (Answer r) = []

module _ {P C : Type 0} (start : C → P) (moves : P → Told → P × Ask) where
  -- the keys that the exchange of a run charges
  abbrev pub charges_of : (form : Form) (call : C) (old new : PlainWords) (r : Reply)
      → IsRunOf start moves form call old new r → List ℕ
  charges_of form call old new r run = charged_by (reached start moves call run.0).1

  -- the plan was run so, and what is owed then is what was owed before, with what the call settles, and
  -- then with the charges of the exchange that was made
  abbrev pub IsOwedRunOf : Form → Terms → C → PlainWords → PlainWords → Debts → Debts → Reply → Type 0
  IsOwedRunOf form terms call old new before then r = (run : IsRunOf start moves form call old new r)
      × (then ≡ taken_up (terms.settles r) (charges_of form call old new r run) before)

  -- The run was refused: its plan asks for a fresh node and every slot is in use, so there are as many pairs as
  -- slots; the answer says how many.
  pub record IsRefused (form : Form) (call : C) (w : PlainWords) (e : NoPlainSlot) : Type 0 where
    pub live : e.live ≡ w.slots
    pub wanted : ComesToWantSlot start moves call w
    pub full : AllInUse w
    pub pairs : HasPairPerSlot form w
