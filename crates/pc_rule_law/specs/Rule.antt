-- The rule of the board, by topics. Each is a fact on one cell, on one install, on one view, or on what all share;
-- none speaks of two views, so what passes must agree on lies in the past.
use Rattle.std.specs.Prelude.{◌≡◌, ◌≢◌, ℕ, ◌+◌, ◌^◌, ◌<◌, ◌≤◌, Bool, true, false, List, [], length}
use mathlib.Core.Option.{some}
use lib.ListN.{get_elem?}
use Rattle.atomic_table.specs.Table.{State}
use Rattle.pc_model.specs.declared.cell.Field.{Field}
use Rattle.pc_model.specs.declared.cell.Field.TheVariants.{Version}
use Rattle.pc_model.specs.Cells.{Cells, IsNode}
use Rattle.pc_words.specs.declared.word.WordKind.{WordKind}
use Rattle.pc_words.specs.declared.word.WordKind.TheVariants.{Plain, Install, Exchange}
use Rattle.pc_words.specs.declared.status.Status.{Status}
use Rattle.pc_words.specs.Words.{InRange}
use Rattle.pc_words.specs.Statuses.{StatusInRange}
use Rattle.pc_rule_law.specs.Board.{Size, Board, Represents, descriptor_words}
use Rattle.pc_rule_law.specs.Past.{Has, Attempt, Placing, Past, change, placing_word, Describes, IsFormed}
use Rattle.pc_rule_law.specs.Stages.{IsIdle, IsUnmade, value_by, IsUndecided, DecidedBelow}
use Rattle.pc_rule_law.specs.Views.{OwnInstall, own_install_word, OwnAttempt, word_in, View, NoteHolds, AllNotes}

-- what holds of each view, by its seat
abbrev pub Each : {V : Type 0} → List V → (ℕ → V → Type 0) → Type 0
Each {V} views P = (j : ℕ) (v : V) → get_elem? views j ≡ some v → P j v

-- an install stands in this word, and it was placed there for its plain value
pub record Standing (placing : ℕ → ℕ → Placing) (course : ℕ → ℕ → ℕ) (value n : ℕ) (f : Field)
    (q k : ℕ) : Type 0 where
  pub stands : course q k ≡ 1
  pub at_node : (placing q k).node ≡ n
  pub at_field : (placing q k).field ≡ f
  pub old : (placing q k).old ≡ value

-- a reference to an attempt stands in this word: the pass is at that attempt and hasn't cleared it, the word is one
-- of its words, and the plain value is the change's old or new value by the stage
pub record Holding (seats : ℕ) (status : ℕ → Status) (attempt : ℕ → ℕ → Attempt) (value n : ℕ) (f : Field)
    (p a : ℕ) : Type 0 where
  pub owner : p < seats
  pub present : (status p).number ≡ a
  pub uncleared : IsIdle (status p).stage → ⊥
  pub listed : (old : ℕ) × (new : ℕ) × Has (attempt p a).changes (change n f old new)
      × (value_by (status p).stage old new ≡ value) × (f ≡ Version → old ≤ value)

-- what a word says of its plain value
module _ (seats : ℕ) (status : ℕ → Status) (attempt : ℕ → ℕ → Attempt) (placing : ℕ → ℕ → Placing)
    (course : ℕ → ℕ → ℕ) (value n : ℕ) (f : Field) where
  abbrev pub CellOk : WordKind → Type 0
  CellOk (Plain x) = x ≡ value
  CellOk (Install q k) = Standing placing course value n f q k
  CellOk (Exchange p a) = Holding seats status attempt value n f p a

-- an install that was placed, by its course
pub record Placed (z : Size) (status : ℕ → Status) (cell : ℕ → Field → WordKind) (install : ℕ → ℕ → ℕ)
    (attempt : ℕ → ℕ → Attempt) (c q k : ℕ) (x : Placing) : Type 0 where
  pub owner : q < z.seats
  pub seat : x.seat < z.seats
  pub inside : IsNode z.slots x.node
  pub small : (k < 2 ^ 54) × (x.number < 2 ^ 28) × (x.old < 2 ^ 62)
  pub ended : c ≤ 2
  pub number : k ≤ install q 0
  pub published : x.number ≤ (status x.seat).number
  -- its exchange changes that word from that value
  pub listed : (new : ℕ) × Has (attempt x.seat x.number).changes (change x.node x.field x.old new)
  -- while it stands, its number is the present one, and its word holds it
  pub present : c ≡ 1 → install q 0 ≡ k
  pub there : c ≡ 1 → cell x.node x.field ≡ Install q k
  -- while its number is the present one, its descriptor says what it was placed for
  pub described : install q 0 ≡ k → (place : ℕ) → place < 4 → install q place ≡ placing_word x k place
  -- one that is placed after the decision can only become the old value again
  pub late : x.early ≡ false → DecidedBelow status x.seat (x.number + 1)
  -- while an early one stands, its exchange isn't cleared and hasn't succeeded
  pub alive : c ≡ 1 → x.early ≡ true → ((status x.seat).number ≡ x.number) × IsUnmade (status x.seat).stage
  -- one that is gone while its exchange is undecided became the reference
  pub won : c ≡ 2 → IsUndecided status x.seat x.number → cell x.node x.field ≡ Exchange x.seat x.number

-- what a view says of the words of its own seat j
pub record Own (z : Size) (install course : ℕ → ℕ → ℕ) (j : ℕ) (v : View) : Type 0 where
  pub sized : v.size ≡ z
  pub seated : (v.seat ≡ j) × (j < z.seats)
  pub known : (place : ℕ) → place < 4 → install j place ≡ own_install_word v.install place
  pub ahead : (k : ℕ) → v.install.number < k → course j k ≡ 0
  pub unplaced : v.fresh ≡ true → course j v.install.number ≡ 0

-- what a view says of the attempts of its own seat j, where passes were given none at the opening
pub record OwnTries (slots : ℕ) (b : Board) (j : ℕ) (own : OwnAttempt) : Type 0 where
  pub number : (b.status j).number ≡ own.number
  pub resting : own.published ≡ false → IsIdle (b.status j).stage
  pub running : own.published ≡ true → IsIdle (b.status j).stage → ⊥
  pub words : (place : ℕ) → place < descriptor_words slots → b.word j place ≡ word_in own.words place

-- the pass that was made last knows how many there are, and which it has taken in
pub record Counted (course : ℕ → ℕ → ℕ) (count : ℕ) (live : ℕ → Bool) (j : ℕ) (v : View) : Type 0 where
  pub live_is : v.live ≡ live j
  pub last_is : v.live ≡ true → v.last ≡ true → count ≡ v.seat + 1
  pub taken : v.live ≡ true → v.last ≡ true → (k : ℕ) → v.rest ≤ k → k < count → k ≢ v.seat
      → (live k ≡ false) × ((i : ℕ) → course k i ≢ 1)

-- the words of an install descriptor that was never written
abbrev pub opening_install : Size → OwnInstall
opening_install z = record { number = z.starts.install; op = 0; place = 0; old = 0 }

-- no attempt was made yet, and no word of a descriptor was stored
abbrev pub opening_own : Size → OwnAttempt
opening_own z = record { number = z.starts.attempt; published = false; words = [] }

-- a pass that isn't made yet has placed nothing
pub record Blank (z : Size) (install course : ℕ → ℕ → ℕ) (live : ℕ → Bool) (j : ℕ) : Type 0 where
  pub words : (place : ℕ) → place < 4 → install j place ≡ own_install_word (opening_install z) place
  pub unplaced : (k : ℕ) → course j k ≡ 0
  pub alive : live j ≡ true

-- what holds of a view
pub record Known (z : Size) (b : Board) (h : Past) (j : ℕ) (v : View) : Type 0 where
  pub own : v.live ≡ true → Own z b.install h.course j v
  pub tries : v.live ≡ true → v.posted ≡ false → (h.posted ≡ false) × OwnTries z.slots b j v.attempt
  pub counted : Counted h.course h.count h.live j v
  pub noted : AllNotes (NoteHolds z b h) v.notes

-- what is asked of the cells and of the plain values, for so many slots
module _ (sound : ℕ → Cells → Cells → Type 0) (z : Size) where
  -- what holds of the words and of the past, whatever is known of them
  pub record Shared (b : Board) (h : Past) : Type 0 where
    -- what is asked of the cells that the run leaves, and of the plain values
    pub sound_now : sound z.slots h.cells h.plain
    pub ranges : (n : ℕ) (f : Field) → InRange (b.cell n f)
    pub statuses : (p : ℕ) → StatusInRange (b.status p)
    pub formed : (p a : ℕ) → IsFormed z.slots (h.attempt p a)
    -- each attempt has its words, and until it is cleared, they stand in its pass's descriptor
    pub described : (p a : ℕ) → Describes z.slots (h.attempt p a) (h.words p a)
    pub written : (p : ℕ) → (IsIdle (b.status p).stage → ⊥) → (place : ℕ) → place < descriptor_words z.slots
        → b.word p place ≡ h.words p (b.status p).number place
    pub each_cell : (n : ℕ) (f : Field)
        → CellOk z.seats b.status h.attempt h.placing h.course (h.plain n f) n f (b.cell n f)
    pub installs : (q k : ℕ) → 1 ≤ h.course q k
        → Placed z b.status b.cell b.install h.attempt (h.course q k) q k (h.placing q k)

  pub record Kept (b : Board) (h : Past) (views : List View) : Type 0 where
    pub few : z.seats ≤ 32
    pub room : h.count ≤ z.seats
    pub counted : length views ≡ h.count
    pub blank : (j : ℕ) → h.count ≤ j → j < z.seats → Blank z b.install h.course h.live j
    pub untried : (j : ℕ) → h.count ≤ j → j < z.seats → h.posted ≡ false → OwnTries z.slots b j (opening_own z)
    pub shared : Shared b h
    pub each_view : Each views (Known z b h)

  -- the rule: the table's words are those of a board, with a past, that keep it
  pub record Holds (s : State Bool View) : Type 0 where
    pub board : Board
    pub past : Past
    pub represents : Represents z s.words board
    pub kept : Kept board past s.views
