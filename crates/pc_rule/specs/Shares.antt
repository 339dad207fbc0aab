-- What is asked of the opening of a board, and what its passes are then and at the closing.
use Rattle.std.specs.Prelude.{◌≡◌, ℕ, ◌+◌, ◌^◌, ◌<◌, ◌≤◌, true, false, List, [], ◌∷◌, length, map}
use mathlib.Core.Option.{some}
use lib.ListN.{get_elem?}
use Rattle.pc_model.specs.declared.shape.Shape.{Ghosts}
use Rattle.pc_model.specs.Cells.{IsEven}
use Rattle.pc_rule_law.specs.declared.opening.Starts.{Starts}
use Rattle.pc_rule_law.specs.Board.{Size}
use Rattle.pc_rule_law.specs.Rule.{opening_install, opening_own}
use Rattle.pc_rule_law.specs.Tables.{slots_in}
use Rattle.pc_rule_law.specs.Views.{Note}
use Rattle.pc_rule.specs.declared.board.Board.{Board}
use Rattle.pc_rule.specs.declared.board.Pass.{Pass}
use Rattle.pc_rule_law.specs.declared.share.Share.{Share}
use Rattle.pc_exchange_law.specs.Paths.{new_path}
use Rattle.pc_exchange_law.specs.Wholes.{knows_nothing}
use Rattle.pc_rule.specs.Passes.{view, knows, board_size, listed, visits, path}
use Rattle.pc_rule.specs.Opened.{AreInOrder}
use Rattle.pc_rule.specs.Recorded.{HasRoomFor}

-- all passes' slots together
abbrev pub slots_of : List Share → ℕ
slots_of [] = 0
slots_of (share ∷ shares) = share.slots + slots_of shares

-- the size of the board for these shares, with these starts
abbrev pub size_for : List Share → Starts → Size
size_for shares s = record { seats = length shares; slots = slots_of shares; shares = map slots_in shares; starts = record { attempt = s.attempt; install = s.install; stamp = s.stamp; epoch = s.epoch; version = s.version } }

-- each counter starts at most at its last value, the epoch at least at 1, and the version is even
pub record AreStarts (s : Starts) : Type 0 where
  pub attempt : s.attempt < 2 ^ 28
  pub install : s.install < 2 ^ 54
  pub stamp : s.stamp < 2 ^ 34
  pub epoch : (1 ≤ s.epoch) × (s.epoch ≤ 2 ^ 60)
  pub version : (s.version + 6 ≤ 2 ^ 60) × IsEven s.version

module _ {H : Type 0} {S : Ghosts H} where
  -- the pass with the highest seat takes in all others at the closing, and has room for the calls of all
  abbrev pub LastTakesAll : Board H → List (Pass H S) → Type 0
  LastTakesAll b passes = (i : ℕ) (p : Pass H S) → get_elem? passes i ≡ some p → i + 1 ≡ (board_size b).seats → ((view p).last ≡ true) × ((view p).rest ≡ i) × HasRoomFor b.shares.items p

  -- all passes of the board, in order, and of none does an install stand
  pub record AreAll (b : Board H) (passes : List (Pass H S)) : Type 0 where
    pub some : 0 < (board_size b).seats
    pub count : length passes ≡ (board_size b).seats
    pub shared : length b.shares.items ≡ (board_size b).seats
    pub order : AreInOrder b passes
    pub last : LastTakesAll b passes

  -- each pass has these notes and no others
  abbrev pub AllNoted : List (Pass H S) → List Note → Type 0
  AllNoted passes notes = (i : ℕ) (p : Pass H S) → get_elem? passes i ≡ some p → (view p).notes ≡ notes

  -- each pass knows nothing beside its view
  abbrev pub KnowNothing : List (Pass H S) → Type 0
  KnowNothing passes = (i : ℕ) (p : Pass H S) → get_elem? passes i ≡ some p → knows p ≡ knows_nothing (view p).size (view p).seat

  -- each pass is at rest, and has visited nothing
  abbrev pub NoneVisited : List (Pass H S) → Type 0
  NoneVisited passes = (i : ℕ) (p : Pass H S) → get_elem? passes i ≡ some p → (path p ≡ new_path) × (visits p ≡ [])

  -- each pass may publish: no exchange was given at the opening, it has made no attempt, stored no word of its descriptor,
  -- and lists no word
  abbrev pub NoneTried : List (Pass H S) → Type 0
  NoneTried passes = (i : ℕ) (p : Pass H S) → get_elem? passes i ≡ some p → ((view p).posted ≡ false) × ((view p).attempt ≡ opening_own (view p).size) × (listed p ≡ [])

  -- no pass has made an install: its number is the one that the board starts at, and no word of its descriptor was stored
  abbrev pub NoneInstalled : List (Pass H S) → Type 0
  NoneInstalled passes = (i : ℕ) (p : Pass H S) → get_elem? passes i ≡ some p → ((view p).fresh ≡ true) × ((view p).install ≡ opening_install (view p).size)
