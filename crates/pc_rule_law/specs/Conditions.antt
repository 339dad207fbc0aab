-- What a pass has to know before it makes each kind of step. A condition is a fact on the pass's own
-- view.
use Rattle.std.specs.Prelude.{◌≡◌, ◌⊎◌, ℕ, zero, suc, ◌+◌, ◌*◌, ◌^◌, ◌<◌, true, false}
use Rattle.pc_model.specs.declared.cell.Field.{Field}
use Rattle.pc_words.specs.declared.word.WordKind.{WordKind}
use Rattle.pc_words.specs.declared.word.WordKind.TheVariants.{Plain, Install, Exchange}
use Rattle.pc_words.specs.Words.{raw}
use Rattle.pc_rule_law.specs.Board.{Size, place_number, descriptor_words}
use Rattle.pc_rule_law.specs.Past.{Has, Attempt, change, Describes, IsFormed}
use Rattle.pc_rule_law.specs.Views.{Note, entry, install_word, early, removed, decided_below, attempt_word, word_in, View, IsAttempt}

-- no install of the pass stands anywhere
abbrev pub IsFree : View → Type 0
IsFree v = (v.fresh ≡ true) ⊎ Has v.notes (removed v.seat v.install.number)

-- a store to a word of the own install descriptor: a greater number first, and then the fields, while it is fresh
abbrev pub CanStore : View → ℕ → ℕ → Type 0
CanStore v zero x = IsFree v × (v.install.number < x)
CanStore v (suc place) x = v.fresh ≡ true

-- a word of the descriptor of attempt a of pass p is known: it was read, or it is the pass's own, which is published
abbrev pub KnowsWord : View → ℕ → ℕ → ℕ → ℕ → Type 0
KnowsWord v p a place x = Has v.notes (attempt_word p a place x)
    ⊎ ((p ≡ v.seat) × (a ≡ v.attempt.number) × (v.posted ≡ false) × (v.attempt.published ≡ true)
    × (place < descriptor_words v.size.slots) × (word_in v.attempt.words place ≡ x))

-- the pass knows what it knew of notes, and its seat and its attempt are the same
pub record KnowsStill (v w : View) : Type 0 where
  pub notes : (x : Note) → Has v.notes x → Has w.notes x
  pub seat : w.seat ≡ v.seat
  pub size : w.size ≡ v.size
  pub attempt : w.attempt ≡ v.attempt
  pub posted : w.posted ≡ v.posted

-- the words of the i-th change of an attempt are known, and that it has so many
pub record KnowsChange (v : View) (p a i n : ℕ) (f : Field) (old new : ℕ) : Type 0 where
  pub count : ℕ
  pub below : i < count
  pub known_count : KnowsWord v p a 1 count
  pub known_place : KnowsWord v p a (3 + 3 * i) (place_number n f)
  pub known_old : KnowsWord v p a (4 + 3 * i) old
  pub known_new : KnowsWord v p a (5 + 3 * i) new

-- the change of this word from x is known to be one of attempt a of pass p: by the words of the descriptor, or since it
-- was given at the opening
abbrev pub KnowsEntry : View → ℕ → ℕ → ℕ → Field → ℕ → Type 0
KnowsEntry v p a n f x = (new : ℕ) × (Has v.notes (entry p a (change n f x new)) ⊎ ((i : ℕ) × KnowsChange v p a i n f x new))

-- a store to a word of the own descriptor: while nothing is published
abbrev pub CanWrite : View → Type 0
CanWrite v = (v.posted ≡ false) × (v.attempt.published ≡ false)

-- the own next attempt, whose words are stored, may be published
pub record CanPublish (v : View) (e : Attempt) : Type 0 where
  pub may : CanWrite v
  pub number : v.attempt.number + 1 < 2 ^ 28
  pub formed : IsFormed v.size.slots e
  pub words : Describes v.size.slots e (word_in v.attempt.words)

-- the own install in place of the plain value x: its number is fresh, and its descriptor names the exchange, the word
-- and x
pub record CanPlace (z : Size) (v : View) (n : ℕ) (f : Field) (x p a : ℕ) : Type 0 where
  pub live : v.live ≡ true
  pub sized : v.size ≡ z
  pub fresh : v.fresh ≡ true
  pub op : v.install.op ≡ raw (Exchange p a)
  pub place : v.install.place ≡ place_number n f
  pub old : v.install.old ≡ x
  pub small : (v.install.number < 2 ^ 54) × (x < 2 ^ 62)
  pub attempt : IsAttempt z p a
  pub listed : KnowsEntry v p a n f x

-- install k of pass q is known to be for attempt a of pass p, in this word
abbrev pub KnowsInstall : Size → View → ℕ → ℕ → ℕ → Field → ℕ → ℕ → Type 0
KnowsInstall z v q k n f p a = IsAttempt z p a × Has v.notes (install_word q k 1 (raw (Exchange p a)))
    × Has v.notes (install_word q k 2 (place_number n f))

-- what may take the place of install k of pass q: the reference, where the install is known to be early; or the old
-- value, where the attempt is known to be decided
abbrev pub MayTake : Size → View → ℕ → ℕ → ℕ → Field → WordKind → Type 0
MayTake z v q k n f (Plain x) = (p : ℕ) × (a : ℕ) × (m : ℕ) × KnowsInstall z v q k n f p a
    × Has v.notes (install_word q k 3 x) × Has v.notes (decided_below p m) × (a < m)
MayTake z v q k n f (Install s i) = ⊥
MayTake z v q k n f (Exchange p a) = KnowsInstall z v q k n f p a × Has v.notes (early q k)

pub record CanTake (z : Size) (v : View) (q k n : ℕ) (f : Field) (c : WordKind) : Type 0 where
  pub live : v.live ≡ true
  pub sized : v.size ≡ z
  pub may : MayTake z v q k n f c
