-- The pass is ready for a further operation, and there is room for those that are left. Each turn makes one of them, or is one more
-- try in vain.
use Rattle.std.proofs.Common.{◌+◌, ◌-◌, ◌*◌, ◌≤◌}
use Rattle.pc_rule.specs.Passes.{SitsAs}
use Rattle.path_race.specs.Racing.{IsReady}
use Rattle.path_race.specs.Rooms.{HasRoom}
use Rattle.path_race.proofs.racing.race.Given as goal

abbrev pub invariant-loop-left : goal.invariant-loop-left
invariant-loop-left l = record {
  seated : SitsAs l.fn.worker.pass l.worker.pass;
  ready : IsReady l.board l.worker.pass;
  room : HasRoom l.left l.worker.wins;
  tries : l.tries ≤ 200000;
}

abbrev pub decreases-loop-left : goal.decreases-loop-left
decreases-loop-left l = l.left * 200001 + (200000 - l.tries)
