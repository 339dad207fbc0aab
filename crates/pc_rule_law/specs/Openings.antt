-- The board that passes find when it opens. For the time being each pass may be given one exchange then; once passes
-- publish exchanges of their own, what is given here goes.
use Rattle.std.specs.Prelude.{◌≡◌, ℕ, zero, suc, ◌<◌, ◌≤◌, Bool, true, false, List, [], ◌∷◌, ◌++◌, length, None}
use Rattle.pc_model.specs.declared.cell.Field.{Field}
use Rattle.pc_model.specs.Cells.{Cells}
use Rattle.pc_model.specs.Exchanges.{Changed}
use Rattle.pc_words.specs.declared.word.WordKind.TheVariants.{Plain}
use Rattle.pc_words.specs.declared.status.Stage.{Stage}
use Rattle.pc_words.specs.declared.status.Stage.TheVariants.{Idle, Undecided, Withdrawn}
use Rattle.pc_words.specs.declared.status.Status.{Status}
use Rattle.pc_words.specs.Words.{InRange}
use Rattle.pc_rule_law.specs.Board.{Size, Board, place_number}
use Rattle.pc_rule_law.specs.Past.{Attempt, IsFormed}
use Rattle.pc_rule_law.specs.Views.{Note, entry, own_install_word}
use Rattle.pc_rule_law.specs.Rule.{opening_install}

-- an exchange that a pass is given at the opening: undecided, or withdrawn
pub record Posted : Type 0 where
  pub places : List Changed
  pub undecided : Bool

abbrev pub posted_stage : Bool → Stage
posted_stage true = Undecided
posted_stage false = Withdrawn

-- its attempt has number 1; a pass that is given none is at its start, idle
abbrev pub opening_status : ℕ → List Posted → ℕ → Status
opening_status start [] p = record { number = start; stage = Idle }
opening_status start (x ∷ xs) zero = record { number = 1; stage = posted_stage x.undecided }
opening_status start (x ∷ xs) (suc p) = opening_status start xs p

abbrev pub opening_changes : List Posted → ℕ → List Changed
opening_changes [] p = []
opening_changes (x ∷ xs) zero = x.places
opening_changes (x ∷ xs) (suc p) = opening_changes xs p

abbrev pub attempt_of : List Changed → Attempt
attempt_of changes = record { mode = 0; changes = changes; visits = []; reads = []; fresh = None }

abbrev pub opening_attempt : List Posted → ℕ → ℕ → Attempt
opening_attempt posted p zero = attempt_of []
opening_attempt posted p (suc zero) = attempt_of (opening_changes posted p)
opening_attempt posted p (suc (suc a)) = attempt_of []

-- the words of the changes, three each
abbrev pub changes_word : List Changed → ℕ → ℕ
changes_word [] place = 0
changes_word (x ∷ xs) zero = place_number x.node x.field
changes_word (x ∷ xs) (suc zero) = x.old
changes_word (x ∷ xs) (suc (suc zero)) = x.new
changes_word (x ∷ xs) (suc (suc (suc place))) = changes_word xs place

-- the words of a descriptor: mode, number of changes, number of visits, and the changes
abbrev pub descriptor_word : List Changed → ℕ → ℕ
descriptor_word changes zero = 0
descriptor_word changes (suc zero) = length changes
descriptor_word changes (suc (suc zero)) = 0
descriptor_word changes (suc (suc (suc place))) = changes_word changes place

-- the words of the descriptor of each attempt
abbrev pub opening_words : List Posted → ℕ → ℕ → ℕ → ℕ
opening_words posted p zero = descriptor_word []
opening_words posted p (suc zero) = descriptor_word (opening_changes posted p)
opening_words posted p (suc (suc a)) = descriptor_word []

-- what every pass knows from the opening on: the changes of each exchange that was given
abbrev pub entries_of : ℕ → List Changed → List Note
entries_of p [] = []
entries_of p (x ∷ xs) = entry p 1 x ∷ entries_of p xs

abbrev pub opening_notes : ℕ → List Posted → List Note
opening_notes p [] = []
opening_notes p (x ∷ xs) = entries_of p x.places ++ opening_notes (suc p) xs

abbrev pub opening_board : Size → Cells → List Posted → Board
opening_board z cells posted = record {
  clock = z.starts.stamp;
  epoch = z.starts.epoch;
  status = opening_status z.starts.attempt posted;
  announced = λ p. 0;
  install = λ p place. own_install_word (opening_install z) place;
  word = λ p place. descriptor_word (opening_changes posted p) place;
  cell = λ n f. Plain (cells n f);
}

-- what is asked of an opening: its size, sound cells whose numbers fit a word, and exchanges that fit a descriptor
pub record MayOpen (sound : ℕ → Cells → Type 0) (z : Size) (cells : Cells) (given : Bool) (posted : List Posted) : Type 0 where
  pub seats : (0 < z.seats) × (z.seats ≤ 32)
  pub sound_cells : sound z.slots cells
  pub small : (n : ℕ) (f : Field) → InRange (Plain (cells n f))
  pub attempt : z.starts.attempt < 268435456
  pub few : length posted ≤ z.seats
  pub none : given ≡ false → posted ≡ []
  pub formed : (p : ℕ) → IsFormed z.slots (attempt_of (opening_changes posted p))
