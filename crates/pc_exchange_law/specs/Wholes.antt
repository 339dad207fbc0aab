-- The whole rule of a board on which passes publish exchanges: the rule of installs, the world, and what each pass knows
-- beside its view.
use Rattle.std.specs.Prelude.{◌≡◌, ℕ, ◌<◌, ◌≤◌, Bool, true, false, List, [], ◌∷◌, ◌++◌, map}
use Rattle.atomic_table.specs.Table.{State}
use Rattle.pc_model.specs.Forms.{Form}
use Rattle.pc_rule_law.specs.Board.{Size, Board, Represents}
use Rattle.pc_rule_law.specs.Past.{Has, Past}
use Rattle.pc_rule_law.specs.Views.{View}
use Rattle.pc_rule_law.specs.Rule.{Each, Kept}
use Rattle.pc_protocol.specs.Histories.{History}
use Rattle.pc_exchange_law.specs.AttemptSteps.{first_attempt}
use Rattle.pc_exchange_law.specs.Attempts.{OwnAttempt}
use Rattle.pc_exchange_law.specs.OwnSlots.{OwnSlots, first_slots, OwnsSlots}
use Rattle.pc_exchange_law.specs.Passes.{PassKnows, IsKnown}
use Rattle.pc_exchange_law.specs.Paths.{Path, IsPathOf}
use Rattle.pc_exchange_law.specs.Ties.{CellsAreSound}
use Rattle.pc_exchange_law.specs.Worlds.{World}

-- what the pass at a seat has of slots, with its own attempt
pub record SlotsAt : Type 0 where
  pub seat : ℕ
  pub own : OwnAttempt
  pub slots : OwnSlots

-- the view of a pass: what the rule of installs speaks of; what the pass knows beside it; the attempt whose status it
-- loaded last, for which a draw is, as a draw has no operand that says so, and of which the rule says nothing; what it
-- visited and read; and what each pass had of slots that it took in
pub record Whole : Type 0 where
  pub view : View
  pub knows : PassKnows
  pub aim : ℕ × ℕ
  pub path : Path
  pub taken : List SlotsAt

-- what the pass has of slots; and with it, behind them, those of the passes that it took in
abbrev pub slots_at : Whole → SlotsAt
slots_at x = record { seat = x.view.seat; own = x.knows.own; slots = x.knows.slots }

abbrev pub all_slots_at : Whole → List SlotsAt
all_slots_at x = x.taken ++ slots_at x ∷ []

-- the pass at this seat was joined to another, and its slots are so
pub record IsTakenIn (z : Size) (t : Past) (h : History) (s : SlotsAt) : Type 0 where
  pub seated : s.seat < z.seats
  pub joined : t.live s.seat ≡ false
  pub owned : OwnsSlots z h s.seat s.own s.slots

abbrev pub views_of : List Whole → List View
views_of views = map (λ (x : Whole). x.view) views

-- a pass that knows nothing yet, at its seat
abbrev pub knows_nothing : Size → ℕ → PassKnows
knows_nothing z seat = record { own = first_attempt z.starts.attempt; ready = false; slots = first_slots z seat; noted = []; told = [] }

module _ (form : Form) (z : Size) where
  -- it is so, for every pass that isn't joined to another, and for each that isn't made yet. The words of the past's
  -- attempts are those that the world speaks of
  pub record WholeKept (b : Board) (t : Past) (h : History) (late : ℕ → Bool) (views : List Whole) : Type 0 where
    pub kept : Kept (CellsAreSound form) z b t (views_of views)
    pub world : World form z b t t.words h late
    pub known : Each views (λ j x. x.view.live ≡ true → IsKnown b t t.words h late j x.knows)
    pub paths : Each views (λ j x. x.view.live ≡ true → IsPathOf h j x.path)
    pub owned : Each views (λ j x. x.view.live ≡ true → OwnsSlots z h j x.knows.own x.knows.slots)
    pub taken : Each views (λ j x. x.view.live ≡ true → (s : SlotsAt) → Has x.taken s → IsTakenIn z t h s)
    pub unmade : (j : ℕ) → t.count ≤ j → j < z.seats → IsKnown b t t.words h late j (knows_nothing z j)
    pub unowned : (j : ℕ) → t.count ≤ j → j < z.seats → OwnsSlots z h j (first_attempt z.starts.attempt) (first_slots z j)
    -- passes were given no exchange at the opening
    pub none_given : t.posted ≡ false

  -- the whole rule: the table's words are those of a board, with a past, a history and late seats, that keep it
  pub record WholeHolds (s : State Bool Whole) : Type 0 where
    pub board : Board
    pub past : Past
    pub history : History
    pub late : ℕ → Bool
    pub represents : Represents z s.words board
    pub kept : WholeKept board past history late s.views
