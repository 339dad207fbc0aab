-- How a plan ends, what it charges and whether it wants a slot: laws on its members.
use Rattle.std.specs.Prelude.{◌≡◌, ℕ, ◌⊎◌, List, [], None}
use Rattle.pc_model.specs.declared.call.Reply.TheVariants.{New}
use Rattle.pc_model.specs.Map.{Pairs}
use Rattle.pc_model.specs.Cells.{Cells}
use Rattle.pc_model.specs.Forms.{Form}
use Rattle.pc_plan.specs.declared.plan.Ask.{Ask}
use Rattle.pc_plan.specs.declared.plan.Ask.TheVariants.{Visit, Read, Change, Answer}
use Rattle.pc_plan.specs.declared.plan.Told.{Told}
use Rattle.pc_plan.specs.Runs.{IsReady, reached, AgreesWith}

abbrev pub IsAnswer : Ask → Type 0
IsAnswer (Visit n) = ⊥
IsAnswer (Read n f) = ⊥
IsAnswer (Change p) = ⊥
IsAnswer (Answer r) = Unit {0}

abbrev pub IsChange : Ask → Type 0
IsChange (Visit n) = ⊥
IsChange (Read n f) = ⊥
IsChange (Change p) = Unit {0}
IsChange (Answer r) = ⊥

-- on sound cells the plan of such a call never answers, so it ends in an exchange
abbrev pub EndsInChange : {P C : Type 0} → (C → P) → (P → Told → P × Ask) → (C → Type 0) → Form → (C → Pairs → Type 0)
    → Type 0
EndsInChange {P} {C} start moves can_call form IsSuch =
    (slots : ℕ) (c : Cells) (ps : Pairs) (call : C) (ts : List Told) → IsReady form slots c ps → can_call call
    → IsSuch call ps → AgreesWith start moves c call ts → IsAnswer (reached start moves call ts).1 → ⊥

-- on sound cells the plan of such a call never asks for an exchange, so it ends in an answer
abbrev pub EndsInAnswer : {P C : Type 0} → (C → P) → (P → Told → P × Ask) → (C → Type 0) → Form → (C → Pairs → Type 0)
    → Type 0
EndsInAnswer {P} {C} start moves can_call form IsSuch =
    (slots : ℕ) (c : Cells) (ps : Pairs) (call : C) (ts : List Told) → IsReady form slots c ps → can_call call
    → IsSuch call ps → AgreesWith start moves c call ts → IsChange (reached start moves call ts).1 → ⊥

-- the ask charges no key
abbrev pub IsFree : Ask → Type 0
IsFree (Visit n) = Unit {0}
IsFree (Read n f) = Unit {0}
IsFree (Change p) = p.charged ≡ []
IsFree (Answer r) = Unit {0}

-- whatever the plan is told, it charges no key
abbrev pub ChargesNothing : {P C : Type 0} → (C → P) → (P → Told → P × Ask) → (C → Type 0) → Type 0
ChargesNothing {P} {C} start moves can_call =
    (call : C) (ts : List Told) → can_call call → IsFree (reached start moves call ts).1

-- the ask is for no exchange with a fresh node
abbrev pub HasNoFresh : Ask → Type 0
HasNoFresh (Visit n) = Unit {0}
HasNoFresh (Read n f) = Unit {0}
HasNoFresh (Change p) = p.fresh ≡ None
HasNoFresh (Answer r) = Unit {0}

-- whatever the plan is told, it wants no slot for a fresh node
abbrev pub WantsNoSlot : {P C : Type 0} → (C → P) → (P → Told → P × Ask) → (C → Type 0) → Type 0
WantsNoSlot {P} {C} start moves can_call =
    (call : C) (ts : List Told) → can_call call → HasNoFresh (reached start moves call ts).1

-- the ask is for no exchange with a fresh node, or its reply is that the key is new
abbrev pub IsFreshForNew : Ask → Type 0
IsFreshForNew (Visit n) = Unit {0}
IsFreshForNew (Read n f) = Unit {0}
IsFreshForNew (Change p) = (p.fresh ≡ None) ⊎ (p.reply ≡ New)
IsFreshForNew (Answer r) = Unit {0}

-- whatever the plan is told, it wants a slot only where its reply is that the key is new
abbrev pub WantsSlotForNew : {P C : Type 0} → (C → P) → (P → Told → P × Ask) → (C → Type 0) → Type 0
WantsSlotForNew {P} {C} start moves can_call =
    (call : C) (ts : List Told) → can_call call → IsFreshForNew (reached start moves call ts).1
