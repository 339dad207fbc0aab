-- So far there is a fresh worker for each of the first lists.
use Rattle.std.proofs.Common.{◌≡◌, ◌≤◌, All, length}
use Rattle.std.specs.Prelude.{vec_capacity, vec_len}
use Rattle.pc_pool.specs.Working.{IsFresh, up_to}
use Rattle.pc_run.proofs.together.sharers_of.Given as goal

abbrev pub invariant-loop-place : goal.invariant-loop-place
invariant-loop-place l = (vec_len l.sharers ≡ l.place) × (length l.lists ≤ vec_capacity l.sharers)
    × All (λ w. IsFresh (up_to w.done) w.stopped) l.sharers.items
