-- A ferry with ten seats: how many grown-ups and how many children are aboard, in two words of the sentinel.
use Rattle.std.specs.Prelude.{◌≡◌, ℕ, ◌+◌, ◌<◌, ◌≤◌, true, false, List, [], ◌∷◌, None}
use Rattle.pc_model.specs.declared.cell.Field.TheVariants.{Version, Value, Height}
use Rattle.pc_model.specs.declared.shape.Shape.{Ghosts}
use Rattle.pc_model.specs.Cells.{Cells, IsEven}
use Rattle.pc_model.specs.Exchanges.{Exchange, Stands, applied}
use Rattle.pc_model.specs.Forms.{Form}
use Rattle.pc_model.specs.Linked.{IsLinked}
use Rattle.pc_model.specs.Shapes.{ShapeLaws, laws_from_linked}
use Rattle.pc_protocol.specs.Notes.{in_run}
use Rattle.pc_rule_law.specs.Conditions.{CanWrite, IsFree}
use Rattle.pc_rule_law.specs.Past.{Has}
use Rattle.pc_exchange_law.specs.ExchangeConditions.{KnowsOld}
use Rattle.pc_exchange_law.specs.Paths.{Path, begun_path, last_version}
use Rattle.pc_exchange_law.specs.Wholes.{Whole}
use Rattle.pc_rule.specs.declared.board.Board.{Board}
use Rattle.pc_rule.specs.declared.board.Pass.{Pass}
use Rattle.pc_rule.specs.declared.opening.Place.{Place}
use Rattle.pc_rule.specs.declared.visit.Visit.{Visit}
use Rattle.pc_rule.specs.Passes.{view, knows, path, visits, listed, board_size, IsPassOf}
use Rattle.pc_path.specs.Exchanges.{HasTakenPlace}
use Rattle.examples.specs.declared.ferry.Count.{Count}
use Rattle.examples.specs.declared.ferry.Guest.{Guest}
use Rattle.examples.specs.declared.ferry.Guest.TheVariants.{Grown, Child}
use Rattle.examples.specs.declared.ferry.Boarding.{Boarding}
use Rattle.examples.specs.declared.ferry.Boarding.TheVariants.{Aboard, Full}

-- cells are sound where they are linked and at most ten are aboard; there are no pairs, and no key is ever in debt
abbrev pub ferry_form : Form
ferry_form = record {
  sound = λ slots c ps. IsLinked slots c × (ps ≡ []) × (c 1 Value + c 1 Height ≤ 10);
  in_debt = λ slots c k. ⊥;
}

pub ferry_laws : ShapeLaws ferry_form
ferry_laws = laws_from_linked ferry_form (λ slots c sound. sound.1.0)

-- how many grown-ups and children a guest is
abbrev pub grown_of : Guest → ℕ
grown_of Grown = 1
grown_of Child = 0

abbrev pub children_of : Guest → ℕ
children_of Grown = 0
children_of Child = 1

-- the exchange takes a guest aboard: wherever it stands a seat is free, and afterwards one more of this kind is aboard
pub record TakesAboard (guest : Guest) (e : Exchange) : Type 0 where
  pub room : (c : Cells) → Stands e c → c 1 Value + c 1 Height < 10
  pub grown : (c : Cells) → Stands e c → applied e c 1 Value ≡ c 1 Value + grown_of guest
  pub children : (c : Cells) → Stands e c → applied e c 1 Height ≡ c 1 Height + children_of guest

-- wherever the read stands, all seats are taken
abbrev pub FindsFull : Exchange → Type 0
FindsFull e = (c : Cells) → Stands e c → 10 ≤ c 1 Value + c 1 Height

-- the pass knows that at this stamp an exchange of its own took effect which takes the guest aboard; or that a read stands in the run
-- there which found all seats taken
abbrev pub IsAboard : Guest → Whole → ℕ → Type 0
IsAboard guest y s = (e : Exchange) × HasTakenPlace [] y e s × TakesAboard guest e

abbrev pub IsFull : Whole → ℕ → Type 0
IsFull y s = (e : Exchange) × Has y.knows.told (in_run s e) × FindsFull e

abbrev pub IfAboard : Boarding → (ℕ → Type 0) → Type 0
IfAboard (Aboard s) P = P s
IfAboard (Full s) P = Unit {0}

abbrev pub IfFull : Boarding → (ℕ → Type 0) → Type 0
IfFull (Aboard s) P = Unit {0}
IfFull (Full s) P = P s

-- the visit and the path of an operation that counted
abbrev pub visit_of : Count → Visit
visit_of count = record { node = 1; version = count.version }

abbrev pub path_of : Count → Path
path_of count = record {
  begun = true;
  visits = record { node = 1; version = count.version } ∷ [];
  reads = record { node = 1; field = Value; number = count.grown } ∷ record { node = 1; field = Height; number = count.children } ∷ [];
  stamp = None;
  left = [];
}

-- the changes that take a guest aboard: the version rises by two, and the count of his kind by one
abbrev pub version_change : Count → Place
version_change count = record { node = 1; field = Version; old = count.version; new = count.version + 2 }

abbrev pub seat_change : Guest → Count → Place
seat_change Grown count = record { node = 1; field = Value; old = count.grown; new = count.grown + 1 }
seat_change Child count = record { node = 1; field = Height; old = count.children; new = count.children + 1 }

abbrev pub changes_for : Guest → Count → List Place
changes_for guest count = version_change count ∷ seat_change guest count ∷ []

module _ {H : Type 0} {S : Ghosts H} where
  -- it is one of the board's passes, has published nothing, and none of its installs stands
  abbrev pub IsCalm : Board H → Pass H S → Type 0
  IsCalm b p = IsPassOf b p × CanWrite (view p) × IsFree (view p)

  -- and it is at rest, or has begun an operation, or has begun one and visited and listed nothing yet
  abbrev pub IsReady : Board H → Pass H S → Type 0
  IsReady b p = IsCalm b p × ((path p).begun ≡ false)

  abbrev pub IsOpen : Board H → Pass H S → Type 0
  IsOpen b p = IsCalm b p × ((path p).begun ≡ true)

  abbrev pub HasBegun : Board H → Pass H S → Type 0
  HasBegun b p = IsCalm b p × (path p ≡ begun_path) × (visits p ≡ []) × (listed p ≡ [])

  -- it has counted who is aboard, and knows the counts to be those at that version
  pub record HasCounted (b : Board H) (p : Pass H S) (count : Count) : Type 0 where
    pub calm : IsCalm b p
    pub path_is : path p ≡ path_of count
    pub visited : visits p ≡ visit_of count ∷ []
    pub unlisted : listed p ≡ []
    pub version : IsEven count.version × (count.version < last_version)
    pub known : KnowsOld (board_size b) (knows p) 1 count.version Version count.version
    pub grown : KnowsOld (board_size b) (knows p) 1 count.version Value count.grown
    pub children : KnowsOld (board_size b) (knows p) 1 count.version Height count.children
