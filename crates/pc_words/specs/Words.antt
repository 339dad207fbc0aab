-- The words of nodes: what number each kind of word is, and what kind of word a number is.
use Rattle.std.specs.Prelude.{◌≡◌, ◌≢◌, ℕ, ◌+◌, ◌*◌, ◌/◌, ◌%◌, ◌^◌, ◌<◌, ◌==◌, if◌then◌else◌}
use Rattle.pc_words.specs.declared.word.WordKind.{WordKind}
use Rattle.pc_words.specs.declared.word.WordKind.TheVariants.{Plain, Install, Exchange}

-- the number that a word is stored as
abbrev pub raw : WordKind → ℕ
raw (Plain payload) = 4 * payload
raw (Install seat number) = (1 + 4 * seat) + 1024 * number
raw (Exchange seat number) = (2 + 4 * seat) + 1024 * number

-- what a stored number is
abbrev pub kind : ℕ → WordKind
kind r = if r % 4 == 0 then Plain (r / 4)
    else if r % 4 == 1 then Install (r / 4 % 256) (r / 1024)
    else Exchange (r / 4 % 256) (r / 1024)

-- the numbers of a word fit its bits
abbrev pub InRange : WordKind → Type 0
InRange (Plain payload) = payload < 2 ^ 62
InRange (Install seat number) = (seat < 256) × (number < 2 ^ 54)
InRange (Exchange seat number) = (seat < 256) × (number < 2 ^ 28)

-- the word is in range, and this is its number
abbrev pub IsStoredAs : WordKind → ℕ → Type 0
IsStoredAs w r = InRange w × (raw w ≡ r)

-- a number that may stand in a word of a node: its low bits aren't 3, and a reference to an exchange has zeros above
abbrev pub IsWord : ℕ → Type 0
IsWord r = (r % 4 ≢ 3) × (r % 4 ≡ 2 → r < 2 ^ 38)
