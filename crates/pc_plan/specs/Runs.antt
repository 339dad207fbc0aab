-- The law of a plan on sound cells: whatever trace agrees with the cells, the plan can go on, it ends
-- within its bound, and it ends in a right reply, with an exchange that stands, leaves sound cells with the
-- right pairs, and charges each debt that it brings; and what it settles is charged or isn't in debt then.
use Rattle.std.specs.Prelude.{◌≡◌, ℕ, ◌+◌, ◌*◌, ◌<◌, ◌≤◌, ◌⊎◌, IsTrue, List, [], map, length, Option, Some, None}
use Rattle.std.specs.Prelude.{IfSome}
use Rattle.pc_model.specs.declared.cell.Field.{Field}
use Rattle.pc_model.specs.declared.cell.Field.TheVariants.{Version as VersionField, Key, Value, Left, Right, Parent}
use Rattle.pc_model.specs.declared.cell.Field.TheVariants.{Height, Spare}
use Rattle.pc_model.specs.declared.owed.Settle.{Settle}
use Rattle.pc_model.specs.declared.owed.Settle.TheVariants.{Nothing, Release, First, Raise}
use Rattle.pc_model.specs.Map.{Pairs}
use Rattle.pc_model.specs.Cells.{Cells, IsEven, IsOdd, IsSlot, IsNode}
use Rattle.pc_model.specs.Debts.{has}
use Rattle.pc_model.specs.Exchanges.{Exchange, FreshNode, Changed, Stands, applied}
use Rattle.pc_model.specs.Forms.{Form, IsBelowEnd}
use Rattle.pc_plan.specs.declared.change.To.{To}
use Rattle.pc_plan.specs.declared.change.To.TheVariants.{Number, Fresh as FreshNumber}
use Rattle.pc_plan.specs.declared.change.Add.{Add}
use Rattle.pc_plan.specs.declared.change.Fresh.{Fresh}
use Rattle.pc_plan.specs.declared.plan.Ask.{Ask}
use Rattle.pc_plan.specs.declared.plan.Ask.TheVariants.{Visit, Read, Change, Answer}
use Rattle.pc_plan.specs.declared.plan.Told.{Told}
use Rattle.pc_plan.specs.declared.plan.Told.TheVariants.{Begin}
use Rattle.pc_plan.specs.Planned.{Planned}
use Rattle.pc_plan.specs.Terms.{Terms, IsReply}
use Rattle.pc_plan.specs.Traces.{Event, after, learned_along, Agrees, IsAnswered, visits_in, reads_in, version_seen}

-- the number that a word gets where the fresh node takes this slot
abbrev pub number_at : ℕ → To → ℕ
number_at slot (Number x) = x
number_at slot FreshNumber = slot

abbrev pub change_at : ℕ → Add → Changed
change_at slot a = record { node = a.node; field = a.field; old = a.old; new = number_at slot a.new }

-- the fields of a fresh node, one version above its slot's
abbrev pub fresh_fields : ℕ → Fresh → Field → ℕ
fresh_fields version f VersionField = version + 1
fresh_fields version f Key = f.key
fresh_fields version f Value = f.value
fresh_fields version f Left = 0
fresh_fields version f Right = 0
fresh_fields version f Parent = f.parent
fresh_fields version f Height = f.height
fresh_fields version f Spare = 0

abbrev pub fresh_at : ℕ → ℕ → Option Fresh → Option FreshNode
fresh_at slot version None = None
fresh_at slot version (Some f) = Some (record { node = slot; fields = fresh_fields version f })

-- the exchange that a plan asks for after what it learned, where the fresh node takes a slot at a version
abbrev pub exchange_of : List Event → Planned → ℕ → ℕ → Exchange
exchange_of past p slot version = record {
  visits = visits_in past;
  reads = reads_in past;
  changes = map (change_at slot) p.adds;
  fresh = fresh_at slot version p.fresh;
}

-- In these cells, which an exchange with these charges left, so much may be settled: what is released, and
-- each key from the lower end of a raise up to its upper end, is charged or isn't in debt.
abbrev pub SettlesIn : Form → ℕ → Cells → List ℕ → ℕ → Settle → Type 0
SettlesIn form slots c charged lower Nothing = Unit {0}
SettlesIn form slots c charged lower (Release k) = IsTrue (has k charged) ⊎ (form.in_debt slots c k → ⊥)
SettlesIn form slots c charged lower (First k) = Unit {0}
SettlesIn form slots c charged lower (Raise to) = (k : ℕ) → lower ≤ k → IsBelowEnd k to
    → IsTrue (has k charged) ⊎ (form.in_debt slots c k → ⊥)

-- the exchange stands, leaves sound cells with these pairs, and charges each debt that it brings
pub record IsRightChange (form : Form) (slots : ℕ) (c : Cells) (past : List Event) (next : Pairs) (p : Planned)
    (slot : ℕ) : Type 0 where
  pub stands : Stands (exchange_of past p slot (c slot VersionField)) c
  pub leaves : form.sound slots (applied (exchange_of past p slot (c slot VersionField)) c) next
  pub charges : (k : ℕ) → form.in_debt slots (applied (exchange_of past p slot (c slot VersionField)) c) k
      → form.in_debt slots c k ⊎ IsTrue (has k p.charged)

-- a slot that an exchange may take: one out of use, or any where it has no fresh node
abbrev pub Takes : ℕ → Cells → Planned → ℕ → Type 0
Takes slots c p slot = IfSome p.fresh (λ _. IsSlot slots slot × IsOdd (c slot VersionField))

-- What a plan may ask on cells that are sound for it: to visit an unmarked node that it didn't visit before,
-- to read a node, to make a right exchange, or to answer where the pairs stay.
abbrev pub IsRightAsk : Form → ℕ → Cells → Pairs → Terms → List Event → Ask → Type 0
IsRightAsk form slots c ps terms past (Visit n) =
    IsNode slots n × IsEven (c n VersionField) × (version_seen n past ≡ None)
IsRightAsk form slots c ps terms past (Read n f) = IsNode slots n
IsRightAsk form slots c ps terms past (Change p) = IsReply (terms.step ps).reply p.reply
    × ((slot : ℕ) → Takes slots c p slot → IsRightChange form slots c past (terms.step ps).pairs p slot
    × SettlesIn form slots (applied (exchange_of past p slot (c slot VersionField)) c) p.charged terms.lower
    (terms.settles p.reply))
IsRightAsk form slots c ps terms past (Answer r) = IsReply (terms.step ps).reply r
    × ((terms.step ps).pairs ≡ ps) × SettlesIn form slots c [] terms.lower (terms.settles r)

module _ {P C : Type 0} (start : C → P) (moves : P → Told → P × Ask) where
  -- the state and the ask of a plan that was told to begin, and then this
  abbrev pub reached : C → List Told → P × Ask
  reached call ts = after moves (moves (start call) Begin) ts

  abbrev pub past_of : C → List Told → List Event
  past_of call ts = learned_along moves [] (moves (start call) Begin) ts

  -- the trace agrees with the cells
  abbrev pub AgreesWith : Cells → C → List Told → Type 0
  AgreesWith c call ts = Agrees moves c (moves (start call) Begin) ts

  -- what is told is of the kind that is asked for
  abbrev pub IsTraceOf : C → List Told → Type 0
  IsTraceOf call ts = IsAnswered moves (moves (start call) Begin) ts

-- cells on which a plan runs: not too many, and sound for it with these pairs
pub record IsReady (form : Form) (slots : ℕ) (c : Cells) (ps : Pairs) : Type 0 where
  pub few : slots ≤ 61000
  pub is_sound : form.sound slots c ps

pub record Runs {P C : Type 0} (start : C → P) (moves : P → Told → P × Ask) (can_call : C → Type 0)
    (terms : C → Terms) (form : Form) : Type 0 where
  -- each agreeing trace can go on, or has ended right
  pub goes : (slots : ℕ) (c : Cells) (ps : Pairs) (call : C) (ts : List Told) → IsReady form slots c ps
      → can_call call → AgreesWith start moves c call ts
      → IsRightAsk form slots c ps (terms call) (past_of start moves call ts) (reached start moves call ts).1
  -- and is no longer than nine turns a node
  pub ends : (slots : ℕ) (c : Cells) (ps : Pairs) (call : C) (ts : List Told) → IsReady form slots c ps
      → can_call call → AgreesWith start moves c call ts → length ts < 9 * (slots + 2)
