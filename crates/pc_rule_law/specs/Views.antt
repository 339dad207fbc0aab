-- What a pass knows: its view, which only its own steps change, and the notes in it. A note says what the pass has
-- seen; it is true between any two steps, whatever others do.
use Rattle.std.specs.Prelude.{◌≡◌, ◌≢◌, ℕ, zero, suc, ◌+◌, ◌^◌, ◌<◌, ◌≤◌, ◌==◌, if◌then◌else◌, Bool, true, List, [], ◌∷◌, ◌++◌}
use Rattle.pc_model.specs.declared.cell.Field.{Field}
use Rattle.pc_model.specs.declared.cell.Field.TheVariants.{Version}
use Rattle.pc_model.specs.Cells.{Cells, IsNode}
use Rattle.pc_model.specs.Exchanges.{Changed}
use Rattle.pc_words.specs.declared.word.WordKind.{WordKind}
use Rattle.pc_words.specs.declared.word.WordKind.TheVariants.{Plain, Install, Exchange}
use Rattle.pc_words.specs.declared.status.Status.{Status}
use Rattle.pc_words.specs.Words.{raw}
use Rattle.pc_rule_law.specs.Board.{Size, Board, place_number, descriptor_words}
use Rattle.pc_rule_law.specs.Past.{Has, Attempt, Placing, Past, change, placing_word}
use Rattle.pc_rule_law.specs.Stages.{IsIdle, IsUndecided, DecidedBelow}

pub data Note : Type 0 where
  -- the version of a node is at least this
  version : ℕ → ℕ → Note
  -- this change is one of attempt a of pass p
  entry : ℕ → ℕ → Changed → Note
  -- install k of pass q stood in this word
  placed : ℕ → ℕ → ℕ → Field → Note
  -- a word of the descriptor of install k of pass q, while that number is the present one
  loaded : ℕ → ℕ → ℕ → ℕ → Note
  -- a word of the descriptor of install k of pass q
  install_word : ℕ → ℕ → ℕ → ℕ → Note
  -- the exchange of install k of pass q was undecided when it was placed
  early : ℕ → ℕ → Note
  -- install k of pass q was taken away
  removed : ℕ → ℕ → Note
  -- the attempts of pass p with numbers below m are decided
  decided_below : ℕ → ℕ → Note
  -- this word holds the reference to attempt a of pass p, while that is undecided
  held : ℕ → ℕ → ℕ → Field → Note
  -- no reference to attempt a of pass p, which is decided, is in this word or will be
  clean : ℕ → ℕ → ℕ → Field → Note
  -- the clock has come so far
  clock_at : ℕ → Note
  -- a word of the descriptor of pass p, while attempt a is the present one and isn't cleared
  word_loaded : ℕ → ℕ → ℕ → ℕ → Note
  -- a word of the descriptor of attempt a of pass p
  attempt_word : ℕ → ℕ → ℕ → ℕ → Note
  -- this number was found in the word, with no reference there, or put there
  had : ℕ → Field → ℕ → Note

-- what the pass's own install descriptor holds
pub record OwnInstall : Type 0 where
  pub number : ℕ
  pub op : ℕ
  pub place : ℕ
  pub old : ℕ

abbrev pub own_install_word : OwnInstall → ℕ → ℕ
own_install_word d zero = d.number
own_install_word d (suc zero) = d.op
own_install_word d (suc (suc zero)) = d.place
own_install_word d (suc (suc (suc place))) = d.old

-- what the pass has of its attempts: the number of the last one, whether that is published and not cleared, and the words
-- that it stored in its descriptor, each with its place, the last one first
pub record OwnAttempt : Type 0 where
  pub number : ℕ
  pub published : Bool
  pub words : List (ℕ × ℕ)

-- the word at this place, by what was stored: 0 where nothing was
abbrev pub word_in : List (ℕ × ℕ) → ℕ → ℕ
word_in [] place = 0
word_in (x ∷ words) place = if place == x.0 then x.1 else word_in words place

pub record View : Type 0 where
  pub size : Size
  -- it wasn't joined to another
  pub live : Bool
  pub seat : ℕ
  -- it was made last, and when passes are joined: all from this seat on are joined to it
  pub last : Bool
  pub rest : ℕ
  pub install : OwnInstall
  -- no install was placed with the present number yet
  pub fresh : Bool
  pub attempt : OwnAttempt
  -- whether passes were given exchanges at the opening. Then nothing is published
  pub posted : Bool
  pub notes : List Note

-- no reference to this attempt stands in this word, and no install that may become one
abbrev pub IsClean : (ℕ → ℕ → Placing) → ℕ → ℕ → WordKind → Type 0
IsClean placing p a (Plain x) = Unit {0}
IsClean placing p a (Install q k) = (placing q k).seat ≡ p → (placing q k).number ≡ a → (placing q k).early ≡ true → ⊥
IsClean placing p a (Exchange q b) = q ≡ p → b ≢ a

-- one of the changes is of this word, and where that is a version, it is old by now or passed
abbrev pub HoldsEntry : List Changed → (ℕ → Field → ℕ) → ℕ → Field → Type 0
HoldsEntry changes plain n f = (old : ℕ) × (new : ℕ) × Has changes (change n f old new)
    × (f ≡ Version → old ≤ plain n f)

module _ (clock : ℕ) (status : ℕ → Status) (cell : ℕ → Field → WordKind) (install word : ℕ → ℕ → ℕ) (plain : Cells)
    (attempt : ℕ → ℕ → Attempt) (placing : ℕ → ℕ → Placing) (course : ℕ → ℕ → ℕ) (words : ℕ → ℕ → ℕ → ℕ) where
  abbrev pub IsTrueNote : Note → Type 0
  IsTrueNote (version n v) = v ≤ plain n Version
  IsTrueNote (entry p a x) = (a ≤ (status p).number) × Has (attempt p a).changes x
  IsTrueNote (placed q k n f) = (1 ≤ course q k) × ((placing q k).node ≡ n) × ((placing q k).field ≡ f)
      × (f ≡ Version → (placing q k).old ≤ plain n f)
  IsTrueNote (loaded q k place x) = (1 ≤ course q k) × (install q 0 ≡ k → install q place ≡ x)
  IsTrueNote (install_word q k place x) = (1 ≤ course q k) × (placing_word (placing q k) k place ≡ x)
  IsTrueNote (early q k) = (1 ≤ course q k) × ((placing q k).early ≡ true)
  IsTrueNote (removed q k) = 2 ≤ course q k
  IsTrueNote (decided_below p m) = DecidedBelow status p m
  IsTrueNote (held p a n f) = (a ≤ (status p).number) × (IsUndecided status p a → cell n f ≡ Exchange p a)
      × HoldsEntry (attempt p a).changes plain n f
  IsTrueNote (clean p a n f) = DecidedBelow status p (a + 1) × IsClean placing p a (cell n f)
  IsTrueNote (clock_at c) = c ≤ clock
  IsTrueNote (word_loaded p a place x) = (a ≤ (status p).number)
      × ((status p).number ≡ a → (IsIdle (status p).stage → ⊥) → word p place ≡ x)
  IsTrueNote (attempt_word p a place x) = (a ≤ (status p).number) × (words p a place ≡ x)
  -- it says what a step of the pass found, and nothing of the word since
  IsTrueNote (had n f x) = Unit {0}

-- a note is true of a board and a past
abbrev pub IsNoted : Board → Past → Note → Type 0
IsNoted b h = IsTrueNote b.clock b.status b.cell b.install b.word h.plain h.attempt h.placing h.course h.words

-- the numbers of a word of an install's descriptor
abbrev pub InstallWordInRange : Size → ℕ → ℕ → ℕ → Type 0
InstallWordInRange z k zero x = x ≡ k
InstallWordInRange z k (suc zero) x = (p : ℕ) × (a : ℕ) × (x ≡ raw (Exchange p a)) × (p < z.seats) × (a < 2 ^ 28)
InstallWordInRange z k (suc (suc zero)) x = (n : ℕ) × (f : Field) × (x ≡ place_number n f) × IsNode z.slots n
InstallWordInRange z k (suc (suc (suc place))) x = (place ≡ 0) × (x < 2 ^ 62)

abbrev pub IsInstall : Size → ℕ → ℕ → Type 0
IsInstall z q k = (q < z.seats) × (k < 2 ^ 54)

abbrev pub IsAttempt : Size → ℕ → ℕ → Type 0
IsAttempt z p a = (p < z.seats) × (a < 2 ^ 28)

-- the numbers in a note are those of the board, so a pass that has it may step on what it names
abbrev pub NoteInRange : Size → Note → Type 0
NoteInRange z (version n v) = IsNode z.slots n × (v < 2 ^ 62)
NoteInRange z (entry p a x) = IsAttempt z p a × IsNode z.slots x.node × (x.old < 2 ^ 62) × (x.new < 2 ^ 62)
NoteInRange z (placed q k n f) = IsInstall z q k × IsNode z.slots n
NoteInRange z (loaded q k place x) = IsInstall z q k × (place < 4)
NoteInRange z (install_word q k place x) = IsInstall z q k × InstallWordInRange z k place x
NoteInRange z (early q k) = IsInstall z q k
NoteInRange z (removed q k) = IsInstall z q k
NoteInRange z (decided_below p m) = (p < z.seats) × (m ≤ 2 ^ 28)
NoteInRange z (held p a n f) = IsAttempt z p a × IsNode z.slots n
NoteInRange z (clean p a n f) = IsAttempt z p a × IsNode z.slots n
NoteInRange z (clock_at c) = Unit {0}
NoteInRange z (word_loaded p a place x) = IsAttempt z p a × (place < descriptor_words z.slots)
NoteInRange z (attempt_word p a place x) = IsAttempt z p a × (place < descriptor_words z.slots)
NoteInRange z (had n f x) = IsNode z.slots n × (x < 2 ^ 62)

-- a note holds where it is true and its numbers are those of the board
abbrev pub NoteHolds : Size → Board → Past → Note → Type 0
NoteHolds z b h x = IsNoted b h x × NoteInRange z x

-- every note of these
abbrev pub AllNotes : (Note → Type 0) → List Note → Type 0
AllNotes P notes = (x : Note) → Has notes x → P x

-- the view with these notes in front of its own
abbrev pub with_notes : View → List Note → View
with_notes v more = record v { notes = more ++ v.notes }
