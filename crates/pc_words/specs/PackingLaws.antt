-- The laws of the packing.
use Rattle.std.specs.Prelude.{◌≡◌, ◌≢◌, ℕ, ◌^◌, ◌<◌}
use Rattle.pc_words.specs.declared.word.WordKind.{WordKind}
use Rattle.pc_words.specs.declared.word.WordKind.TheVariants.{Plain, Install, Exchange}
use Rattle.pc_words.specs.declared.status.Status.{Status}
use Rattle.pc_words.specs.Words.{raw, kind, IsWord, InRange}
use Rattle.pc_words.specs.Statuses.{packed, unpacked, StatusInRange, IsStatus}

-- a word in range may be stored in 64 bits, and is told again; a stored word is a word in range, of which it is the number
abbrev pub WordsAreInverse : Type 0
WordsAreInverse = ((w : WordKind) → InRange w → (raw w < 2 ^ 64) × IsWord (raw w) × (kind (raw w) ≡ w))
    × ((r : ℕ) → r < 2 ^ 64 → IsWord r → InRange (kind r) × (raw (kind r) ≡ r))

-- words of two kinds never have the same number, and two words in range don't either
abbrev pub KindsAreDisjoint : Type 0
KindsAreDisjoint = ((payload seat number : ℕ) → raw (Plain payload) ≢ raw (Install seat number))
    × ((payload seat number : ℕ) → raw (Plain payload) ≢ raw (Exchange seat number))
    × ((seat number s k : ℕ) → raw (Install seat number) ≢ raw (Exchange s k))
    × ((v w : WordKind) → InRange v → InRange w → raw v ≡ raw w → v ≡ w)

-- the same of statuses
abbrev pub StatusesAreInverse : Type 0
StatusesAreInverse = ((s : Status) → StatusInRange s → (packed s < 2 ^ 64) × (unpacked (packed s) ≡ s))
    × ((r : ℕ) → IsStatus r → StatusInRange (unpacked r) × (packed (unpacked r) ≡ r))
