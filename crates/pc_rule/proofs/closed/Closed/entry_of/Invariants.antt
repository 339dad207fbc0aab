-- No change that was looked at is of this word.
use Rattle.std.proofs.Common.{◌≢◌, ℕ, ◌+◌, ◌*◌, ◌<◌}
use Rattle.pc_rule.specs.Left.{board_left}
use Rattle.pc_rule.proofs.closed.Closed.entry_of.Given as goal

abbrev pub invariant-loop-i : goal.invariant-loop-i
invariant-loop-i g l = (k : ℕ) → k < l.i → (board_left l.self).word l.seat (3 + 3 * k) ≢ l.word
