-- What the rule remembers besides the words: what no word shows, and what words showed before. The rule says that
-- such a past exists; the proof of a step chooses the next one, so anything may be remembered, whoever makes the
-- step.
use Rattle.std.specs.Prelude.{◌≡◌, ℕ, zero, suc, ◌+◌, ◌*◌, ◌^◌, ◌<◌, ◌≤◌, Bool, List, [], length, Option}
use mathlib.Core.Option.{some}
use lib.ListN.{get_elem?}
use Rattle.pc_model.specs.declared.cell.Field.{Field}
use Rattle.pc_model.specs.Cells.{Cells, IsNode}
use Rattle.pc_model.specs.Exchanges.{Changed, Visited, Seen, FreshNode}
use Rattle.pc_words.specs.declared.word.WordKind.TheVariants.{Exchange}
use Rattle.pc_words.specs.Words.{raw}
use Rattle.pc_rule_law.specs.Board.{place_number}

-- an element stands in the list, at some index
abbrev pub Has : {X : Type 0} → List X → X → Type 0
Has xs x = (k : ℕ) × (get_elem? xs k ≡ some x)

-- what an attempt of a pass is to do: how it checks its path, which words it changes, which nodes it visited, and which words
-- of them it read, and the node that it makes, of which no word of a descriptor speaks
pub record Attempt : Type 0 where
  pub mode : ℕ
  pub changes : List Changed
  pub visits : List Visited
  pub reads : List Seen
  pub fresh : Option FreshNode

-- the change of a word from one number to another
abbrev pub change : ℕ → Field → ℕ → ℕ → Changed
change n f old new = record { node = n; field = f; old = old; new = new }

-- what an install was placed for: the exchange, the word, the word's old value; and whether the exchange was
-- undecided then
pub record Placing : Type 0 where
  pub seat : ℕ
  pub number : ℕ
  pub node : ℕ
  pub field : Field
  pub old : ℕ
  pub early : Bool

pub record Past : Type 0 where
  -- the cells that the run of the board leaves
  pub cells : Cells
  -- the plain value of each word (Harris, Fraser and Pratt)
  pub plain : Cells
  -- the attempts of each pass, and its installs
  pub attempt : ℕ → ℕ → Attempt
  pub placing : ℕ → ℕ → Placing
  -- of each install: 0 until it is placed, 1 while it stands, 2 once it was taken away
  pub course : ℕ → ℕ → ℕ
  -- how many passes were made, and which of them weren't joined to another
  pub count : ℕ
  pub live : ℕ → Bool
  -- the words of the descriptor of each attempt
  pub words : ℕ → ℕ → ℕ → ℕ
  -- whether passes were given exchanges at the opening
  pub posted : Bool

-- the four words of the descriptor of an install: its number, the exchange, the word, and the word's old value
abbrev pub placing_word : Placing → ℕ → ℕ → ℕ
placing_word x k zero = k
placing_word x k (suc zero) = raw (Exchange x.seat x.number)
placing_word x k (suc (suc zero)) = place_number x.node x.field
placing_word x k (suc (suc (suc place))) = x.old

-- where the visits stand in a descriptor, behind the entries
abbrev pub visits_begin : ℕ → ℕ
visits_begin slots = 78 + 3 * slots

-- the words of a descriptor are those of the attempt
pub record Describes (slots : ℕ) (a : Attempt) (word : ℕ → ℕ) : Type 0 where
  pub mode : word 0 ≡ a.mode
  pub changes : word 1 ≡ length a.changes
  pub visits : word 2 ≡ length a.visits
  pub each_change : (i : ℕ) (x : Changed) → get_elem? a.changes i ≡ some x
      → (word (3 + 3 * i) ≡ place_number x.node x.field) × (word (4 + 3 * i) ≡ x.old) × (word (5 + 3 * i) ≡ x.new)
  pub each_visit : (i : ℕ) (x : Visited) → get_elem? a.visits i ≡ some x
      → (word (visits_begin slots + 2 * i) ≡ x.node) × (word (visits_begin slots + (1 + 2 * i)) ≡ x.version)

-- what holds of every attempt: it fits the descriptor, its words and the nodes that it visited are of the board, its numbers
-- fit a word, and it has each word once
pub record IsFormed (slots : ℕ) (a : Attempt) : Type 0 where
  pub few : length a.changes ≤ 25 + slots
  pub few_visits : length a.visits ≤ slots + 1
  pub inside : (x : Changed) → Has a.changes x → IsNode slots x.node × (x.old < 2 ^ 62) × (x.new < 2 ^ 62)
  pub visited : (x : Visited) → Has a.visits x → IsNode slots x.node × (x.version < 2 ^ 62)
  pub apart : (i j : ℕ) (x y : Changed) → get_elem? a.changes i ≡ some x → get_elem? a.changes j ≡ some y
      → x.node ≡ y.node → x.field ≡ y.field → i ≡ j
