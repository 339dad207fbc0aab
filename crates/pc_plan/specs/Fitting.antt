-- What every plan meets, by its laws: an exchange that stands in some cells makes what the plan was told
-- agree with them; its exchanges fit the form of its cells; and it settles only what it may.
use Rattle.std.specs.Prelude.{◌≡◌, ℕ, ◌≤◌, List, [], IfSome, None}
use Rattle.pc_model.specs.declared.call.Reply.{Reply}
use Rattle.pc_model.specs.Cells.{Cells, IsSlot}
use Rattle.pc_model.specs.Exchanges.{Exchange, Stands}
use Rattle.pc_model.specs.Forms.{Form, Fits, MaySettle}
use Rattle.pc_plan.specs.declared.plan.Ask.{Ask}
use Rattle.pc_plan.specs.declared.plan.Ask.TheVariants.{Change, Answer}
use Rattle.pc_plan.specs.declared.plan.Told.{Told}
use Rattle.pc_plan.specs.Planned.{Planned}
use Rattle.pc_plan.specs.Terms.{Terms}
use Rattle.pc_plan.specs.Traces.{Event, visits_in, reads_in}
use Rattle.pc_plan.specs.Runs.{exchange_of, reached, past_of, AgreesWith, IsTraceOf}

-- what a plan learned, as an exchange that changes nothing
abbrev pub read_of : List Event → Exchange
read_of past = record { visits = visits_in past; reads = reads_in past; changes = []; fresh = None }

-- a slot for the fresh node of an exchange, if it has one
abbrev pub HasSlot : ℕ → Planned → ℕ → Type 0
HasSlot slots p slot = IfSome p.fresh (λ _. IsSlot slots slot)

module _ {P C : Type 0} (start : C → P) (moves : P → Told → P × Ask) where
  -- the plan comes to ask this
  abbrev pub Asks : C → List Told → Ask → Type 0
  Asks call ts a = IsTraceOf start moves call ts × ((reached start moves call ts).1 ≡ a)

  -- the exchange that a plan asks for, where its fresh node takes a slot at a version
  abbrev pub asked_exchange : C → List Told → Planned → ℕ → ℕ → Exchange
  asked_exchange call ts p slot version = exchange_of (past_of start moves call ts) p slot version

  pub record StandingIsAgreeing : Type 0 where
    pub change : (c : Cells) (call : C) (ts : List Told) (p : Planned) (slot version : ℕ) → Asks call ts (Change p)
        → Stands (asked_exchange call ts p slot version) c → AgreesWith start moves c call ts
    pub answer : (c : Cells) (call : C) (ts : List Told) (r : Reply) → Asks call ts (Answer r)
        → Stands (read_of (past_of start moves call ts)) c → AgreesWith start moves c call ts
    pub agreeing : (c : Cells) (call : C) (ts : List Told) → AgreesWith start moves c call ts
        → Stands (read_of (past_of start moves call ts)) c

  pub record ExchangesFit (can_call : C → Type 0) (terms : C → Terms) (form : Form) : Type 0 where
    pub fits : (slots : ℕ) (call : C) (ts : List Told) (p : Planned) (slot version : ℕ) → slots ≤ 61000 → can_call call
        → Asks call ts (Change p) → HasSlot slots p slot → Fits form slots (asked_exchange call ts p slot version)
        p.charged
    pub settles : (slots : ℕ) (call : C) (ts : List Told) (p : Planned) (slot version : ℕ) → slots ≤ 61000
        → can_call call
        → Asks call ts (Change p) → HasSlot slots p slot
        → MaySettle form slots (asked_exchange call ts p slot version) p.charged (terms call).lower
        ((terms call).settles p.reply)
    pub read_settles : (slots : ℕ) (call : C) (ts : List Told) (r : Reply) → slots ≤ 61000 → can_call call
        → Asks call ts (Answer r)
        → MaySettle form slots (read_of (past_of start moves call ts)) [] (terms call).lower ((terms call).settles r)
