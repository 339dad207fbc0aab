-- What a pass has of the slots of nodes: those of its share that it hasn't taken yet, and its spare, with what it filled in. A
-- slot comes into use with an exchange that makes its node.
use Rattle.std.specs.Prelude.{◌≡◌, ℕ, ◌+◌, ◌-◌, ◌<◌, ◌≤◌, ◌↔◌, ◌==◌, if◌then◌else◌, Bool, true, false, List, [], ◌∷◌, Option, Some, None}
use mathlib.Core.Option.{some}
use lib.ListN.{get_elem?}
use Rattle.pc_model.specs.declared.cell.Field.{Field}
use Rattle.pc_model.specs.declared.cell.Field.TheVariants.{Version}
use Rattle.pc_model.specs.Cells.{field_number}
use Rattle.pc_model.specs.Exchanges.{FreshNode}
use Rattle.pc_history.specs.WorldRuns.{run_of}
use Rattle.pc_rule_law.specs.Board.{Size, start_of}
use Rattle.pc_protocol.specs.Histories.{Stage, absent, undecided, committed, aborted, History, IsUndecided, IsFree, IsUsed}
use Rattle.pc_protocol.specs.Notes.{Note, in_use}
use Rattle.pc_protocol.specs.Owned.{HasSpare, IsFilled}
use Rattle.pc_exchange_law.specs.Attempts.{OwnAttempt}
use Rattle.pc_exchange_law.specs.SlotCounts.{count_of, nodes_made}
use Rattle.pc_exchange_law.specs.Ties.{code, seat_in}

-- the slot is one of the share of the pass at seat j
abbrev pub IsOfShare : Size → ℕ → ℕ → Type 0
IsOfShare z j n = (start_of z j ≤ n) × (n < start_of z (j + 1))

pub record OwnSlots : Type 0 where
  -- the first slot of its share that it hasn't taken yet, and the end of the share
  pub next : ℕ
  pub until : ℕ
  -- the slot that is its spare, the version that it found there, and the numbers that it filled in, each with its field, the
  -- last one first
  pub spare : Option ℕ
  pub version : ℕ
  pub filled : List (Field × ℕ)
  -- its attempt that isn't cleared makes the spare's node
  pub named : Bool

abbrev pub first_slots : Size → ℕ → OwnSlots
first_slots z j = record { next = start_of z j; until = start_of z (j + 1); spare = None; version = 0; filled = []; named = false }

-- the number that was filled into a field, if any
abbrev pub filled_in : List (Field × ℕ) → Field → Option ℕ
filled_in [] f = None
filled_in (x ∷ filled) f = if field_number f == field_number x.0 then Some x.1 else filled_in filled f

-- the node's slot is a spare, with the version that was found, which is raised by one at most; and its words are as they were
-- filled
pub record HoldsSpare (h : History) (o : OwnSlots) (n : ℕ) : Type 0 where
  pub spare : HasSpare h n o.version
  pub raised : (w : ℕ) × IsFilled h n Version w × (w ≤ o.version + 1)
  pub filled : (f : Field) (w : ℕ) → filled_in o.filled f ≡ Some w → IsFilled h n f w

-- of the node that an attempt makes, by its stage: the slot is a spare until the attempt takes effect, and then in use
abbrev pub HoldsBy : Stage → History → OwnSlots → ℕ → Type 0
HoldsBy absent h o n = HoldsSpare h o n
HoldsBy undecided h o n = HoldsSpare h o n
HoldsBy (committed s) h o n = IsUsed (h.slot n)
HoldsBy (aborted cause) h o n = HoldsSpare h o n

-- the attempt with this number makes this node, which is held by its stage
pub record Makes (h : History) (x : ℕ) (o : OwnSlots) (n : ℕ) : Type 0 where
  pub fresh : FreshNode
  pub of_exchange : (h.op x).fresh ≡ Some fresh
  pub at_node : fresh.node ≡ n
  pub holds : HoldsBy (h.stage x) h o n

-- what is left of the spare by how an attempt was decided, and whether that makes the spare's node
abbrev pub spare_left : Stage → Bool → Option ℕ → Option ℕ
spare_left absent named spare = spare
spare_left undecided named spare = spare
spare_left (committed s) true spare = None
spare_left (committed s) false spare = spare
spare_left (aborted cause) named spare = spare

-- the slot that is still a spare of the pass at seat j, if any, whose own attempt is this one
abbrev pub still_spare : History → ℕ → OwnAttempt → OwnSlots → Option ℕ
still_spare h j own o = spare_left (h.stage (code j own.number)) o.named o.spare

-- how many slots of its share the pass has taken: one for each node that the run made there, and its spare
abbrev pub slots_taken : Size → History → ℕ → OwnAttempt → OwnSlots → ℕ
slots_taken z h j own o = count_of (still_spare h j own o) + nodes_made z j (run_of h.item h.clock)

-- what the slots of the pass at seat j are, whose own attempt is this one
pub record OwnsSlots (z : Size) (h : History) (j : ℕ) (own : OwnAttempt) (o : OwnSlots) : Type 0 where
  pub begins : start_of z j ≤ o.next
  pub within : o.next ≤ o.until
  pub ends : o.until ≡ start_of z (j + 1)
  -- the slots of the share from the next one on are free, and no other is
  pub free : (n : ℕ) → o.next ≤ n → n < o.until → IsFree (h.slot n)
  pub taken : (n : ℕ) → start_of z j ≤ n → n < o.next → IsFree (h.slot n) → ⊥
  pub counted : o.next ≡ start_of z j + slots_taken z h j own o
  pub of_share : (n : ℕ) → o.spare ≡ Some n → IsOfShare z j n
  pub unnamed : (n : ℕ) → o.spare ≡ Some n → o.named ≡ false → HoldsSpare h o n
  pub named : (n : ℕ) → o.spare ≡ Some n → o.named ≡ true → Makes h (code j own.number) o n
  -- none is named while the own attempt rests
  pub rests : own.busy ≡ false → o.named ≡ false
  -- an undecided exchange of the pass that makes a node is the own attempt, which makes the spare's
  pub names : (x : ℕ) (g : FreshNode) → seat_in x ≡ j → IsUndecided (h.stage x) → (h.op x).fresh ≡ Some g
      → (o.named ≡ true) × (o.spare ≡ Some g.node) × (x ≡ code j own.number)

-- how the share of the pass at seat j stands: its slots from the next one on are free, and no other is; and these, its spare, and
-- the nodes that the run made there are together as many as the share has
pub record ShareIsCounted (z : Size) (h : History) (j : ℕ) (own : OwnAttempt) (o : OwnSlots) : Type 0 where
  pub free : (n : ℕ) → IsOfShare z j n → IsFree (h.slot n) ↔ (o.next ≤ n)
  pub counted : (share : ℕ) → get_elem? z.shares j ≡ some share → (o.until - o.next) + slots_taken z h j own o ≡ share

-- ---- how they go on

abbrev pub makes_one : Option FreshNode → Bool
makes_one None = false
makes_one (Some g) = true

-- an exchange may make the spare's node, whose words are all filled, the version one above the one that was found
abbrev pub MakesOwn : OwnSlots → Option FreshNode → Type 0
MakesOwn o None = Unit {0}
MakesOwn o (Some g) = (o.spare ≡ Some g.node) × (g.fields Version ≡ o.version + 1)
    × ((f : Field) → filled_in o.filled f ≡ Some (g.fields f))

-- the next slot of the share is the spare, where this version was found
abbrev pub with_spare : OwnSlots → ℕ → OwnSlots
with_spare o v = record o { next = o.next + 1; spare = Some o.next; version = v; filled = []; named = false }

-- one more number is filled into the spare
abbrev pub with_filled : OwnSlots → Field → ℕ → OwnSlots
with_filled o f v = record o { filled = (f, v) ∷ o.filled }

-- the own attempt is cleared, which was decided so
abbrev pub slots_cleared : OwnSlots → Stage → OwnSlots
slots_cleared o st = record o { spare = spare_left st o.named o.spare; named = false }

-- the node is in use then
abbrev pub made_by : Stage → Bool → Option ℕ → List Note
made_by absent named spare = []
made_by undecided named spare = []
made_by (committed s) true None = []
made_by (committed s) true (Some n) = in_use n ∷ []
made_by (committed s) false spare = []
made_by (aborted cause) named spare = []
