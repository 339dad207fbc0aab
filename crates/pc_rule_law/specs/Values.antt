-- The plain value of a word (Harris, Fraser and Pratt), read off the words of a board alone.
use Rattle.std.specs.Prelude.{◌≡◌, ℕ, ◌+◌, ◌*◌, ◌<◌}
use Rattle.pc_model.specs.declared.cell.Field.{Field}
use Rattle.pc_words.specs.declared.word.WordKind.{WordKind}
use Rattle.pc_words.specs.declared.word.WordKind.TheVariants.{Plain, Install, Exchange}
use Rattle.pc_rule_law.specs.Board.{Board, place_number}
use Rattle.pc_rule_law.specs.Stages.{value_by}

-- of a plain word its payload; of an install the old value that its descriptor names; of a reference to an exchange
-- what the entry of this word in its descriptor has: the new value where it succeeded, else the old one
abbrev pub IsPlainValue : Board → ℕ → Field → WordKind → ℕ → Type 0
IsPlainValue b n f (Plain x) v = x ≡ v
IsPlainValue b n f (Install q k) v = (b.install q 0 ≡ k) × (b.install q 2 ≡ place_number n f) × (b.install q 3 ≡ v)
IsPlainValue b n f (Exchange p a) v = ((b.status p).number ≡ a) × (i : ℕ) × (i < b.word p 1)
    × (b.word p (3 + 3 * i) ≡ place_number n f)
    × (value_by (b.status p).stage (b.word p (4 + 3 * i)) (b.word p (5 + 3 * i)) ≡ v)

-- this word of the board says this plain value, and no other
pub record HasPlainValue (b : Board) (n : ℕ) (f : Field) (v : ℕ) : Type 0 where
  pub says : IsPlainValue b n f (b.cell n f) v
  pub no_other : (x : ℕ) → IsPlainValue b n f (b.cell n f) x → x ≡ v
