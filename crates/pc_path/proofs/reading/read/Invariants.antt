-- What was met in the word so far left it; of each kind once.
use Rattle.std.proofs.Common.{◌≡◌, ◌+◌, ◌≤◌}
use Rattle.pc_rule_law.specs.Conditions.{IsFree}
use Rattle.pc_rule.specs.Passes.{whole, view, visits, path, board_size, StaysSeated}
use Rattle.pc_kcas.specs.Obstacles.{GoesOn}
use Rattle.pc_path.specs.Bounds.{most_helped}
use Rattle.pc_path.specs.Ways.{HasMadeWay, kinds_left}
use Rattle.pc_path.proofs.reading.read.Given as goal

abbrev pub invariant-loop-number : goal.invariant-loop-number
invariant-loop-number g l = record {
  seated : StaysSeated l.initial.pass l.pass;
  path : path l.pass ≡ path l.initial.pass;
  visits : visits l.pass ≡ visits l.initial.pass;
  goes : GoesOn (whole l.initial.pass) (whole l.pass);
  free : IsFree (view l.pass);
  made : HasMadeWay (view l.initial.pass) (whole l.pass) l.node l.field l.met;
  bounded : (view l.pass).install.number ≤ (view l.initial.pass).install.number + most_helped (board_size l.board) l.met.helped;
}

abbrev pub decreases-loop-number : goal.decreases-loop-number
decreases-loop-number g l = kinds_left l.met
