-- What a closed board is.
use Rattle.std.specs.Prelude.{◌≡◌, ◌≢◌, ℕ, ◌+◌, ◌<◌, ◌≤◌, List}
use Rattle.pc_model.specs.declared.cell.Field.{Field}
use Rattle.pc_model.specs.Cells.{Cells}
use Rattle.pc_words.specs.declared.word.WordKind.TheVariants.{Install, Exchange}
use Rattle.pc_words.specs.Words.{InRange}
use Rattle.pc_words.specs.Statuses.{StatusInRange}
use Rattle.pc_rule_law.specs.Board.{Size, Board, Represents}
use Rattle.pc_rule_law.specs.Values.{IsPlainValue}

-- the words that are left are those of a board in which no install stands; each word has one plain value, and what is
-- asked of the cells that the run leaves and of these values holds
pub record IsClosed (sound : ℕ → Cells → Cells → Type 0) (z : Size) (words : List ℕ) : Type 0 where
  pub board : Board
  pub cells : Cells
  pub values : Cells
  pub represents : Represents z words board
  pub sound_cells : sound z.slots cells values
  pub no_install : (n : ℕ) (f : Field) (q k : ℕ) → board.cell n f ≢ Install q k
  -- the words of nodes and the statuses are in range, so each is told again from its number
  pub ranges : (n : ℕ) (f : Field) → InRange (board.cell n f)
  pub statuses : (p : ℕ) → StatusInRange (board.status p)
  -- a reference is to a pass of the board, and that pass's descriptor has room for all changes that it counts
  pub referred : (n : ℕ) (f : Field) (p a : ℕ) → board.cell n f ≡ Exchange p a
      → (p < z.seats) × (board.word p 1 ≤ 25 + z.slots)
  pub plain : (n : ℕ) (f : Field) → IsPlainValue board n f (board.cell n f) (values n f)
  pub one : (n : ℕ) (f : Field) (x : ℕ) → IsPlainValue board n f (board.cell n f) x → x ≡ values n f
