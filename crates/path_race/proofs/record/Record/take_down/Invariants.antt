-- So many words were taken down, in the room that is there.
use Rattle.std.proofs.Common.{◌≡◌, ◌+◌, vec_len, vec_capacity}
use Rattle.path_race.proofs.record.Record.take_down.Given as goal

abbrev pub invariant-loop-place : goal.invariant-loop-place
invariant-loop-place l = record {
  won : l.self.won ≡ l.fn.self.won;
  words : vec_len l.self.words ≡ vec_len l.fn.self.words + l.place-index;
  capacity : vec_capacity l.self.words ≡ vec_capacity l.fn.self.words;
}
