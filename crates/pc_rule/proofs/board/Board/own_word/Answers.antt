use Rattle.std.proofs.Common.{sym}
use Rattle.pc_rule.specs.Passes.{board_size}
use Rattle.pc_rule.proofs.board.Board.own_word.Goals as goal

pub returns : goal.returns
returns g c = c.own_place.ensures (board_size c.args.self.now) (sym c.args.self.now.sized.1)
