-- The pass is where it was, and has visited the sentinel.
use Rattle.std.proofs.Common.{◌≢◌, []}
use Rattle.pc_rule.specs.Passes.{visits, StaysSeated}
use Rattle.path_race.specs.Racing.{IsOpen}
use Rattle.path_race.proofs.walking.walk.Given as goal

abbrev pub invariant-loop-place : goal.invariant-loop-place
invariant-loop-place l = record {
  seated : StaysSeated l.fn.pass l.pass;
  begun : IsOpen l.board l.pass;
  visited : visits l.pass ≢ [];
}
