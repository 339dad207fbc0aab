-- How far a pass of the race is with its operation, and what it knows of the words that it added.
use Rattle.std.specs.Prelude.{◌≡◌, ℕ, ◌+◌, ◌<◌, List, [], ◌∷◌, length, true, false}
use Rattle.std.specs.List.{All}
use Rattle.pc_model.specs.declared.cell.Field.{Field}
use Rattle.pc_model.specs.declared.cell.Field.TheVariants.{Version, Key, Value, Left, Right, Parent, Height, Spare}
use Rattle.pc_model.specs.Cells.{IsEven}
use Rattle.pc_exchange_law.specs.ExchangeConditions.{KnowsOld}
use Rattle.pc_exchange_law.specs.Passes.{PassKnows}
use Rattle.pc_protocol.specs.Notes.{visited}
use Rattle.pc_rule_law.specs.Board.{Size}
use Rattle.pc_rule_law.specs.Conditions.{IsFree, CanWrite}
use Rattle.pc_rule_law.specs.Past.{Has}
use Rattle.pc_rule_law.specs.Views.{View}
use Rattle.pc_model.specs.declared.shape.Shape.{Ghosts}
use Rattle.pc_rule.specs.declared.board.Board.{Board}
use Rattle.pc_rule.specs.declared.board.Pass.{Pass}
use Rattle.pc_rule.specs.declared.opening.Place.{Place}
use Rattle.pc_rule.specs.Passes.{view, knows, path, listed, visits, board_size, IsPassOf}
use Rattle.pc_path.specs.Adds.{IsLastVisit}

-- the pass may add and publish, and no install of it stands
abbrev pub MayRace : View → Type 0
MayRace v = CanWrite v × IsFree v

module _ {H : Type 0} {S : Ghosts H} where
  -- the pass is one of the board's, may add and publish, and is at rest
  pub record IsReady (b : Board H) (p : Pass H S) : Type 0 where
    pub of : IsPassOf b p
    pub may : MayRace (view p)
    pub rests : (path p).begun ≡ false

  -- it has begun an operation
  pub record HasBegun (b : Board H) (p : Pass H S) : Type 0 where
    pub of : IsPassOf b p
    pub may : MayRace (view p)
    pub begun : (path p).begun ≡ true

  -- and added nothing
  abbrev pub IsOpen : Board H → Pass H S → Type 0
  IsOpen b p = HasBegun b p × (listed p ≡ [])

-- the order in which fields of the sentinel are added
abbrev pub turn : Field → ℕ
turn Version = 0
turn Value = 1
turn Height = 2
turn Spare = 3
turn Key = 4
turn Left = 5
turn Right = 6
turn Parent = 7

-- this number in this field of the sentinel keeps cells without slots linked: a version is even, and a link names the sentinel
-- or none
abbrev pub KeepsLinked : Field → ℕ → Type 0
KeepsLinked Version x = IsEven x
KeepsLinked Key x = Unit {0}
KeepsLinked Value x = Unit {0}
KeepsLinked Left x = x < 2
KeepsLinked Right x = x < 2
KeepsLinked Parent x = x < 2
KeepsLinked Height x = Unit {0}
KeepsLinked Spare x = Unit {0}

-- a word of the sentinel, whose old number is known at this version, and whose new one keeps cells linked
pub record IsOfRace (z : Size) (k : PassKnows) (version : ℕ) (p : Place) : Type 0 where
  pub node : p.node ≡ 1
  pub known : KnowsOld z k p.node version p.field p.old
  pub keeps : KeepsLinked p.field p.new

-- these are the sentinel's version, which rises by two, and words of other fields, in turn up to this one
pub record AreOfRace (z : Size) (k : PassKnows) (places : List Place) (count : ℕ) : Type 0 where
  pub version : Place
  pub others : List Place
  pub are : places ≡ version ∷ others
  pub raised : (version.node ≡ 1) × (version.field ≡ Version) × (version.new ≡ version.old + 2)
  pub seen : (c : ℕ) × Has k.told (visited 1 version.old c)
  pub each : All (IsOfRace z k version.old) places
  pub turns : All (λ p. turn p.field < count) places
  pub counted : length places ≡ count

module _ {H : Type 0} {S : Ghosts H} where
  -- the pass has begun an operation, visited the sentinel, and added so many words of it
  pub record HasAdded (b : Board H) (p : Pass H S) (count : ℕ) : Type 0 where
    pub begun : HasBegun b p
    pub words : AreOfRace (board_size b) (knows p) (listed p) count
    pub visit : IsLastVisit (visits p) 1 words.version.old
