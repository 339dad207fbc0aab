-- What a source and a sink in memory are seen as, and what each read and write makes of them.
use Rattle.std.specs.Prelude.{ℕ, ◌+◌, ◌-◌, ◌^◌, ◌==◌, ◌&&◌, ◌||◌, min, nat_lt, nat_le, if◌then◌else◌, Bool, List}
use Rattle.std.specs.Prelude.{◌++◌, length, take, drop}
use Rattle.std.specs.List.{list_any}

-- one more, but a count at the last number of 64 bits stands still
abbrev pub one_more : ℕ → ℕ
one_more n = min (n + 1) (2 ^ 64 - 1)

-- a call's number is among those that fail
abbrev pub is_listed : List ℕ → ℕ → Bool
is_listed fails call = list_any (λ c. c == call) fails

-- a source: all its bytes, how many were given, how many a read gives at most, which calls fail, and how many there
-- were
pub record SourceState : Type 0 where
  pub bytes : List ℕ
  pub at : ℕ
  pub piece : ℕ
  pub fails : List ℕ
  pub calls : ℕ
  pub faults : ℕ

-- the bytes that were not given yet
abbrev pub left_of : SourceState → List ℕ
left_of s = drop s.at s.bytes

abbrev pub read_fails : SourceState → Bool
read_fails s = is_listed s.fails (one_more s.calls)

-- how many bytes a read gives to a buffer of this length: a piece, the buffer or what is left, whichever is least
abbrev pub read_count : SourceState → ℕ → ℕ
read_count s room = min (min s.piece room) (length s.bytes - s.at)

abbrev pub after_read : SourceState → ℕ → SourceState
after_read s room =
    if read_fails s
    then record s { calls = one_more s.calls; faults = one_more s.faults }
    else record s { calls = one_more s.calls; at = s.at + read_count s room }

-- a sink: the bytes that it took, how many it can hold, how many a write takes at most, which calls fail, and how
-- many there were
pub record SinkState : Type 0 where
  pub held : List ℕ
  pub room : ℕ
  pub piece : ℕ
  pub fails : List ℕ
  pub calls : ℕ
  pub faults : ℕ

-- nothing more can be held
abbrev pub is_full : SinkState → Bool
is_full s = nat_le s.room (length s.held)

-- a write of this many bytes fails: its number is listed, or it has bytes and the sink is full
abbrev pub write_fails : SinkState → ℕ → Bool
write_fails s bytes = is_listed s.fails (one_more s.calls) || (nat_lt 0 bytes && is_full s)

-- how many bytes a write takes of so many: a piece, all of them or what there is room for, whichever is least
abbrev pub write_count : SinkState → ℕ → ℕ
write_count s bytes = min (min s.piece bytes) (s.room - length s.held)

abbrev pub after_write : SinkState → List ℕ → SinkState
after_write s text =
    if write_fails s (length text)
    then record s { calls = one_more s.calls; faults = one_more s.faults }
    else record s { calls = one_more s.calls; held = s.held ++ take (write_count s (length text)) text }
