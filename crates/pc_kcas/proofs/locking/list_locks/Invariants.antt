-- What is left are the locks of the visits from `i` on.
use Rattle.std.proofs.Common.{◌≡◌, ◌+◌, ◌-◌, ◌≤◌, length, map, drop}
use Rattle.pc_rule.specs.Passes.{listed, visits, path, OnlyListed}
use Rattle.pc_rule.specs.Walking.{visited_of}
use Rattle.pc_kcas.specs.Locks.{with_locks}
use Rattle.pc_kcas.proofs.locking.list_locks.Given as goal

abbrev pub invariant-loop-i : goal.invariant-loop-i
invariant-loop-i g l = record {
  below : (l.i ≤ l.count) × (l.count ≡ length (visits l.initial.pass));
  only : OnlyListed l.initial.pass l.pass;
  few : length (listed l.pass) ≤ 24 + l.i;
  rest : with_locks (listed l.initial.pass) (path l.initial.pass).visits ≡ with_locks (listed l.pass) (map visited_of (drop l.i (visits l.initial.pass)));
}

abbrev pub decreases-loop-i : goal.decreases-loop-i
decreases-loop-i g l = l.count - l.i
