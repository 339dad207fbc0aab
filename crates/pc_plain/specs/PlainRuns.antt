-- What a run of a plan on plain cells does to them, and what it answers.
use Rattle.std.specs.Prelude.{◌≡◌, ℕ, List, length, IsSome}
use Rattle.pc_model.specs.declared.call.Reply.{Reply}
use Rattle.pc_model.specs.declared.cell.Field.{Field}
use Rattle.pc_model.specs.declared.cell.Field.TheVariants.{Version as VersionField}
use Rattle.pc_model.specs.Map.{Pairs}
use Rattle.pc_model.specs.Cells.{IsEven, IsSlot}
use Rattle.pc_model.specs.Exchanges.{Exchange, Stands, applied}
use Rattle.pc_model.specs.Forms.{Form, IsSound, Fits}
use Rattle.pc_plan.specs.declared.plan.Ask.{Ask}
use Rattle.pc_plan.specs.declared.plan.Ask.TheVariants.{Visit, Read, Change, Answer}
use Rattle.pc_plan.specs.declared.plan.Told.{Told}
use Rattle.pc_plan.specs.Planned.{Planned}
use Rattle.pc_plan.specs.Terms.{Terms, IsReply}
use Rattle.pc_plan.specs.Traces.{Event}
use Rattle.pc_plan.specs.Runs.{exchange_of, Takes, reached, past_of, AgreesWith}
use Rattle.pc_plain.specs.PlainCells.{PlainWords, cells_of, kept}

-- the exchange that a plan asks for after what it learned, where its fresh node takes this slot of the cells
abbrev pub exchange_in : PlainWords → List Event → Planned → ℕ → Exchange
exchange_in w past p slot = exchange_of past p slot (cells_of w slot VersionField)

-- The exchange was made: it stood in the old cells and fits the form, its fresh node took a slot out of
-- use, and the new cells are those that it leaves, but that great versions were set back.
pub record IsMade (form : Form) (old new : PlainWords) (past : List Event) (p : Planned) : Type 0 where
  pub slot : ℕ
  pub takes : Takes old.slots (cells_of old) p slot
  pub stood : Stands (exchange_in old past p slot) (cells_of old)
  pub fits : Fits form old.slots (exchange_in old past p slot) p.charged
  pub cells : (n : ℕ) (f : Field)
      → cells_of new n f ≡ kept f (applied (exchange_in old past p slot) (cells_of old) n f)

-- every slot is in use
abbrev pub AllInUse : PlainWords → Type 0
AllInUse w = (n : ℕ) → IsSlot w.slots n → IsEven (cells_of w n VersionField)

-- the cells are sound for a plan, with some pairs
abbrev pub HoldsPairs : Form → PlainWords → Type 0
HoldsPairs form w = IsSound form w.slots (cells_of w)

-- the exchange was made, or the plan answered and nothing changed
abbrev pub EndsWith : Form → PlainWords → PlainWords → List Event → Reply → Ask → Type 0
EndsWith form old new past r (Visit n) = ⊥
EndsWith form old new past r (Read n f) = ⊥
EndsWith form old new past r (Change p) = (p.reply ≡ r) × IsMade form old new past p
EndsWith form old new past r (Answer x) = (x ≡ r) × (new ≡ old)

-- an exchange with a fresh node
abbrev pub WantsSlot : Ask → Type 0
WantsSlot (Visit n) = ⊥
WantsSlot (Read n f) = ⊥
WantsSlot (Change p) = IsSome p.fresh
WantsSlot (Answer r) = ⊥

module _ {P C : Type 0} (start : C → P) (moves : P → Told → P × Ask) where
  -- on these cells the plan of a call comes to ask this
  abbrev pub ComesTo : PlainWords → C → Ask → Type 0
  ComesTo w call ask =
      (ts : List Told) × AgreesWith start moves (cells_of w) call ts × ((reached start moves call ts).1 ≡ ask)

  -- what the plan was told agrees with the old cells, and where that leads is what was done and answered
  abbrev pub IsRunOf : Form → C → PlainWords → PlainWords → Reply → Type 0
  IsRunOf form call old new r = (ts : List Told) × AgreesWith start moves (cells_of old) call ts
      × EndsWith form old new (past_of start moves call ts) r (reached start moves call ts).1

  -- what the plan was told agrees with the cells, and leads to an exchange with a fresh node
  abbrev pub ComesToWantSlot : C → PlainWords → Type 0
  ComesToWantSlot call w =
      (ts : List Told) × AgreesWith start moves (cells_of w) call ts × WantsSlot (reached start moves call ts).1

-- for whatever pairs the old cells are sound with, the reply is right, and the new cells are sound with
-- the next pairs
abbrev pub RunsRight : Form → Terms → PlainWords → PlainWords → Reply → Type 0
RunsRight form terms old new r = (ps : Pairs) → form.sound old.slots (cells_of old) ps
    → IsReply (terms.step ps).reply r × form.sound new.slots (cells_of new) (terms.step ps).pairs

-- there are as many pairs as slots
abbrev pub HasPairPerSlot : Form → PlainWords → Type 0
HasPairPerSlot form w = (ps : Pairs) → form.sound w.slots (cells_of w) ps → length ps ≡ w.slots
