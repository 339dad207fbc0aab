-- The three passes of a board.
use Rattle.std.specs.Prelude.{◌≡◌, ℕ, true, length}
use Rattle.pc_model.specs.declared.shape.Shape.{Ghosts}
use Rattle.pc_rule_law.specs.Conditions.{IsFree}
use Rattle.pc_rule.specs.declared.board.Board.{Board}
use Rattle.pc_rule.specs.declared.board.Pass.{Pass}
use Rattle.pc_rule.specs.Passes.{view, board_size, IsPassOf}
use Rattle.pc_rule.specs.Recorded.{HasRoomFor}

-- the board has three passes
abbrev pub HasThree : {H : Type 0} → Board H → Type 0
HasThree b = ((board_size b).seats ≡ 3) × (length b.shares.items ≡ 3)

module _ {H : Type 0} {S : Ghosts H} where
  -- the pass is the board's, at this seat, and no install of it stands
  abbrev pub HasSeat : Board H → ℕ → Pass H S → Type 0
  HasSeat b i p = IsPassOf b p × ((view p).seat ≡ i) × IsFree (view p)

  -- it is the last of three, with room for the calls of all
  abbrev pub IsThird : Board H → Pass H S → Type 0
  IsThird b p = ((view p).last ≡ true) × ((view p).rest ≡ 2) × HasRoomFor b.shares.items p
