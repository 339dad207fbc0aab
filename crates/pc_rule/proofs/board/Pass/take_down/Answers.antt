-- There is room for what it takes along.
use Rattle.std.proofs.Common.{◌<◌, length}
use Rattle.pc_rule.specs.Passes.{share_of, recorded}
use Rattle.pc_rule.proofs.board.Pass.take_down.Goals as goal

pub next_number-number-requires-clause-room : goal.next_number-number-requires-clause-room
next_number-number-requires-clause-room g c = λ _ _. c.args.self.now.carrying c.in-Some.carried c.in-Some.is
