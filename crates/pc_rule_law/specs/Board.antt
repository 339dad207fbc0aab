-- The board as plain data: where each of its words lies, and which number it shows. One relation, `Represents`, says
-- that the words of the table are those of a board, and `board_in` reads them back; no other definition sees bits or
-- addresses.
use Rattle.std.specs.Prelude.{◌≡◌, ◌≢◌, ℕ, ◌+◌, ◌*◌, ◌/◌, ◌<◌, ◌==◌, ◌&&◌, if◌then◌else◌, zero, suc, List, [], ◌∷◌, length, slice_index}
use Rattle.pc_model.specs.declared.cell.Field.{Field}
use Rattle.pc_model.specs.Cells.{field_number, IsNode}
use Rattle.pc_words.specs.declared.word.WordKind.{WordKind}
use Rattle.pc_words.specs.declared.status.Status.{Status}
use Rattle.pc_words.specs.Words.{raw, kind}
use Rattle.pc_words.specs.Statuses.{packed, unpacked}

-- what the counters of a board open at
pub record Starts : Type 0 where
  pub attempt : ℕ
  pub install : ℕ
  pub stamp : ℕ
  pub epoch : ℕ
  pub version : ℕ

-- how many passes there may be, how many slots beside the sentinel, how many of these each pass has, by seats, and what
-- the counters open at
pub record Size : Type 0 where
  pub seats : ℕ
  pub slots : ℕ
  pub shares : List ℕ
  pub starts : Starts

-- how many slots the passes of lower seats have, by how many each has; the first slot of a pass, whose slots go on up to the
-- first one of the next
abbrev pub slots_below : List ℕ → ℕ → ℕ
slots_below [] j = 0
slots_below (x ∷ shares) zero = 0
slots_below (x ∷ shares) (suc j) = x + slots_below shares j

abbrev pub start_of : Size → ℕ → ℕ
start_of z j = 2 + slots_below z.shares j

-- the words of one pass: its status; the epoch that it announces; its install's number, exchange, place and old
-- value; and its descriptor
pub data Own : Type 0 where
  own_status : Own
  own_epoch : Own
  own_install : ℕ → Own
  own_word : ℕ → Own

-- the words of a board: the clock, the epoch, those of each pass, and those of each node
pub data Place : Type 0 where
  at_clock : Place
  at_epoch : Place
  at_own : ℕ → Own → Place
  at_cell : ℕ → Field → Place

-- how many words a descriptor has: the mode and two counts; three words for each of the 24 written words and of the
-- visited nodes, whose versions may be entries; and two for each visited node
abbrev pub descriptor_words : ℕ → ℕ
descriptor_words slots = 80 + 5 * slots

-- how many words a pass has, made up to whole lines of eight, so that no two statuses lie in one line of the cache
abbrev pub stride : Size → ℕ
stride z = 8 * ((93 + 5 * z.slots) / 8)

abbrev pub own_offset : Own → ℕ
own_offset own_status = 0
own_offset own_epoch = 1
own_offset (own_install k) = 2 + k
own_offset (own_word k) = 6 + k

-- where the words of the passes begin, behind those of the nodes and the epoch
abbrev pub owns_begin : Size → ℕ
owns_begin z = 24 + 8 * z.slots

-- the number of a node's word, which is also its address
abbrev pub place_number : ℕ → Field → ℕ
place_number n f = 8 * n + field_number f

-- where a word lies in the table
abbrev pub address : Size → Place → ℕ
address z at_clock = 0
address z at_epoch = 16 + 8 * z.slots
address z (at_own i o) = owns_begin z + (i * stride z + own_offset o)
address z (at_cell n f) = place_number n f

-- how many words the table has
abbrev pub words_of : Size → ℕ
words_of z = owns_begin z + stride z * z.seats

abbrev pub IsOwn : ℕ → Own → Type 0
IsOwn slots own_status = Unit {0}
IsOwn slots own_epoch = Unit {0}
IsOwn slots (own_install k) = k < 4
IsOwn slots (own_word k) = k < descriptor_words slots

-- a word that the board has
abbrev pub Inside : Size → Place → Type 0
Inside z at_clock = Unit {0}
Inside z at_epoch = Unit {0}
Inside z (at_own i o) = (i < z.seats) × IsOwn z.slots o
Inside z (at_cell n f) = IsNode z.slots n

-- what stands in the words, each a function on every number
pub record Board : Type 0 where
  pub clock : ℕ
  pub epoch : ℕ
  -- the status of each pass, and the epoch that it announces
  pub status : ℕ → Status
  pub announced : ℕ → ℕ
  -- the four words of a pass's install, and those of its descriptor
  pub install : ℕ → ℕ → ℕ
  pub word : ℕ → ℕ → ℕ
  -- the words of the nodes
  pub cell : ℕ → Field → WordKind

abbrev pub shows_own : Board → ℕ → Own → ℕ
shows_own b i own_status = packed (b.status i)
shows_own b i own_epoch = b.announced i
shows_own b i (own_install k) = b.install i k
shows_own b i (own_word k) = b.word i k

-- the number that a word shows
abbrev pub shows : Board → Place → ℕ
shows b at_clock = b.clock
shows b at_epoch = b.epoch
shows b (at_own i o) = shows_own b i o
shows b (at_cell n f) = raw (b.cell n f)

-- the words of the table are those of the board
pub record Represents (z : Size) (words : List ℕ) (b : Board) : Type 0 where
  pub wide : length words ≡ words_of z
  pub each : (p : Place) → Inside z p → slice_index words (address z p) ≡ shows b p

-- the board that these words are, each read back at its address
abbrev pub board_in : Size → List ℕ → Board
board_in z words = record {
  clock = slice_index words (address z at_clock);
  epoch = slice_index words (address z at_epoch);
  status = λ p. unpacked (slice_index words (address z (at_own p own_status)));
  announced = λ p. slice_index words (address z (at_own p own_epoch));
  install = λ q k. slice_index words (address z (at_own q (own_install k)));
  word = λ p k. slice_index words (address z (at_own p (own_word k)));
  cell = λ n f. kind (slice_index words (address z (at_cell n f)));
}

-- the board shows the same everywhere but at this place
abbrev pub Only : Place → Board → Board → Type 0
Only p b b' = (q : Place) → q ≢ p → shows b' q ≡ shows b q

-- functions that are changed at one number, at one pair of numbers, and at one word of a node
module _ {X : Type 0} where
  abbrev pub put : (ℕ → X) → ℕ → X → ℕ → X
  put f i x j = if j == i then x else f j

  abbrev pub put2 : (ℕ → ℕ → X) → ℕ → ℕ → X → ℕ → ℕ → X
  put2 f i k x j l = if (j == i) && (l == k) then x else f j l

  abbrev pub put_cell : (ℕ → Field → X) → ℕ → Field → X → ℕ → Field → X
  put_cell c n f x m g = if (m == n) && (field_number g == field_number f) then x else c m g
