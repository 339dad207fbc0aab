-- What a pass knows of attempts, its own and those of others, once passes publish exchanges: its own attempt, as it
-- lies in its view, and notes of words of descriptors, with what each of them means. What is said of the run is noted
-- in the protocol's own notes.
use Rattle.std.specs.Prelude.{◌≡◌, ◌≢◌, ℕ, ◌+◌, ◌*◌, ◌<◌, ◌≤◌, ◌⊎◌, Bool, true, false, List}
use Rattle.pc_model.specs.declared.cell.Field.{Field}
use Rattle.pc_words.specs.declared.word.WordKind.{WordKind}
use Rattle.pc_words.specs.declared.word.WordKind.TheVariants.{Plain, Install, Exchange}
use Rattle.pc_rule_law.specs.Board.{Board, place_number}
use Rattle.pc_rule_law.specs.Past.{Has, Placing, Past, Describes, visits_begin}
use Rattle.pc_rule_law.specs.Stages.{IsIdle, DecidedBelow}
pub use Rattle.pc_rule_law.specs.Views.{word_in}
use Rattle.pc_protocol.specs.Histories.{withdrawn, aborted, History}
use Rattle.pc_exchange_law.specs.Ties.{code}

-- what the past remembers of descriptors: the words of each attempt of each pass
abbrev pub Scripts : Type 0
Scripts = ℕ → ℕ → ℕ → ℕ

-- they are those of the attempt; and until an attempt is cleared, the words of its pass's descriptor are these
pub record AreScripts (slots : ℕ) (b : Board) (t : Past) (w : Scripts) : Type 0 where
  pub describe : (p a : ℕ) → Describes slots (t.attempt p a) (w p a)
  pub present : (p : ℕ) → (IsIdle (b.status p).stage → ⊥) → (place : ℕ) → b.word p place ≡ w p (b.status p).number place

-- ---- the own attempt

pub record OwnAttempt : Type 0 where
  -- the number of the last one
  pub number : ℕ
  -- it is published, and not cleared
  pub busy : Bool
  -- the pass itself withdrew it
  pub withdrew : Bool
  -- the words that the pass stored into its descriptor, each behind its place, the last one first
  pub words : List (ℕ × ℕ)

-- what it says of the board and the history, for the pass at seat j
pub record OwnsAttempt (b : Board) (h : History) (j : ℕ) (o : OwnAttempt) : Type 0 where
  pub number : (b.status j).number ≡ o.number
  pub resting : o.busy ≡ false → IsIdle (b.status j).stage
  pub working : o.busy ≡ true → IsIdle (b.status j).stage → ⊥
  pub words : (place : ℕ) → b.word j place ≡ word_in o.words place
  -- nobody but the pass withdraws it of its own accord
  pub kept : o.withdrew ≡ false → h.stage (code j o.number) ≢ aborted withdrawn

-- ---- notes

pub data AttemptNote : Type 0 where
  -- pass p has come to attempt a
  came_to : ℕ → ℕ → AttemptNote
  -- a word of the descriptor of attempt a of pass p, while that is the present one and isn't cleared
  loaded_word : ℕ → ℕ → ℕ → ℕ → AttemptNote
  -- a word of the descriptor of attempt a of pass p
  listed_word : ℕ → ℕ → ℕ → ℕ → AttemptNote
  -- attempt a of pass p is decided, and no early install of it stands in this word
  calm : ℕ → ℕ → ℕ → Field → AttemptNote
  -- none does, but perhaps install k of pass q
  calm_but : ℕ → ℕ → ℕ → Field → ℕ → ℕ → AttemptNote

-- an install that is for attempt a of pass p and is early
abbrev pub IsEarlyFor : Placing → ℕ → ℕ → Type 0
IsEarlyFor x p a = (x.seat ≡ p) × (x.number ≡ a) × (x.early ≡ true)

-- no early install of the attempt stands in the word
abbrev pub IsCalm : (ℕ → ℕ → Placing) → ℕ → ℕ → WordKind → Type 0
IsCalm placing p a (Plain x) = Unit {0}
IsCalm placing p a (Install r i) = IsEarlyFor (placing r i) p a → ⊥
IsCalm placing p a (Exchange r i) = Unit {0}

-- none but install k of pass q
abbrev pub IsCalmBut : (ℕ → ℕ → Placing) → ℕ → ℕ → ℕ → ℕ → WordKind → Type 0
IsCalmBut placing p a q k (Plain x) = Unit {0}
IsCalmBut placing p a q k (Install r i) = IsEarlyFor (placing r i) p a → (r ≡ q) × (i ≡ k)
IsCalmBut placing p a q k (Exchange r i) = Unit {0}

abbrev pub IsTrueAttemptNote : Board → Past → Scripts → AttemptNote → Type 0
IsTrueAttemptNote b t w (came_to p a) = a ≤ (b.status p).number
IsTrueAttemptNote b t w (loaded_word p a place x) = (a ≤ (b.status p).number)
    × ((b.status p).number ≡ a → (IsIdle (b.status p).stage → ⊥) → b.word p place ≡ x)
IsTrueAttemptNote b t w (listed_word p a place x) = (a ≤ (b.status p).number) × (w p a place ≡ x)
IsTrueAttemptNote b t w (calm p a n f) = DecidedBelow b.status p (a + 1) × IsCalm t.placing p a (b.cell n f)
IsTrueAttemptNote b t w (calm_but p a n f q k) = DecidedBelow b.status p (a + 1)
    × IsCalmBut t.placing p a q k (b.cell n f)

-- ---- what is known of an attempt, by a note or by the own words

abbrev pub KnowsWord : List AttemptNote → ℕ → OwnAttempt → ℕ → ℕ → ℕ → ℕ → Type 0
KnowsWord notes seat o p a place x = Has notes (listed_word p a place x)
    ⊎ ((p ≡ seat) × (a ≡ o.number) × (o.busy ≡ true) × (word_in o.words place ≡ x))

-- entry i is the change of this word from one number to another
pub record KnowsEntry (notes : List AttemptNote) (seat : ℕ) (o : OwnAttempt) (p a i n : ℕ) (f : Field) (old new : ℕ)
    : Type 0 where
  pub count : ℕ
  pub counted : KnowsWord notes seat o p a 1 count
  pub below : i < count
  pub place : KnowsWord notes seat o p a (3 + 3 * i) (place_number n f)
  pub old_word : KnowsWord notes seat o p a (4 + 3 * i) old
  pub new_word : KnowsWord notes seat o p a (5 + 3 * i) new

-- visit i is of this node at this version
pub record KnowsVisit (slots : ℕ) (notes : List AttemptNote) (seat : ℕ) (o : OwnAttempt) (p a i n v : ℕ) : Type 0 where
  pub count : ℕ
  pub counted : KnowsWord notes seat o p a 2 count
  pub below : i < count
  pub node_word : KnowsWord notes seat o p a (visits_begin slots + 2 * i) n
  pub version_word : KnowsWord notes seat o p a (visits_begin slots + (1 + 2 * i)) v

-- the word of each entry is known
pub record KnowsPlaces (notes : List AttemptNote) (seat : ℕ) (o : OwnAttempt) (p a : ℕ) : Type 0 where
  pub count : ℕ
  pub counted : KnowsWord notes seat o p a 1 count
  pub each : (i : ℕ) → i < count → (n : ℕ) × (f : Field) × KnowsWord notes seat o p a (3 + 3 * i) (place_number n f)
