-- The words that a pass lists for its exchange.
use Rattle.std.specs.Prelude.{◌≢◌, ℕ, ◌+◌, ◌^◌, ◌<◌, ◌≤◌, List, length}
use Rattle.std.specs.List.{All, AllPairs}
use Rattle.pc_model.specs.Cells.{IsNode}
use Rattle.pc_rule_law.specs.Board.{place_number}
use Rattle.pc_rule.specs.declared.opening.Place.{Place}

-- the number of the word that is to change, which is also its address
abbrev pub word_number : Place → ℕ
word_number p = place_number p.node p.field

-- the word is one of a board with so many slots, and its old and its new number fit a word
abbrev pub FitsWord : ℕ → Place → Type 0
FitsWord slots p = IsNode slots p.node × (p.old < 2 ^ 62) × (p.new < 2 ^ 62)

-- none of these places is of the same word
abbrev pub IsUnlisted : List Place → Place → Type 0
IsUnlisted places p = All (λ q. word_number q ≢ word_number p) places

-- words of the board, each once: at most 24, and the version of each node
pub record AreListed (slots : ℕ) (places : List Place) : Type 0 where
  pub few : length places ≤ 25 + slots
  pub fit : All (FitsWord slots) places
  pub apart : AllPairs (λ p q. word_number p ≢ word_number q) places
