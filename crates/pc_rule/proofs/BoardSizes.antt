-- The limits of a board.
use Rattle.std.proofs.Common.{◌≤◌, subst}
use Rattle.pc_rule.specs.declared.board.Board.{Board}
use Rattle.pc_rule.specs.Passes.{board_size}

module _ {H : Type 0} where
  pub few_seats : (b : Board H) → (board_size b).seats ≤ 32
  few_seats b = subst (λ x. x ≤ 32) b.sized.0 b.small.0

  pub few_slots : (b : Board H) → (board_size b).slots ≤ 61000
  few_slots b = subst (λ x. x ≤ 61000) b.sized.1 b.small.1
