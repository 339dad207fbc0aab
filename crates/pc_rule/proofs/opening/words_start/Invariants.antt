-- What was written so far are the words of the board that opens.
use Rattle.std.proofs.Common.{◌≡◌, ◌≤◌, ◌-◌, length}
use Rattle.pc_rule.proofs.Filling.{AreWritten}
use Rattle.pc_rule.proofs.opening.words_start.Given as goal

abbrev pub invariant-loop-at : goal.invariant-loop-at
invariant-loop-at l = record {
  length : (length l.words.items ≡ l.at) × (l.at ≤ l.length);
  room : l.words.cap ≡ l.initial.words.cap;
  written : AreWritten l.opening l.words.items;
}

abbrev pub decreases-loop-at : goal.decreases-loop-at
decreases-loop-at l = l.length - l.at
