-- The room of a record.
use Rattle.std.specs.Prelude.{ℕ, ◌+◌, ◌*◌, ◌<◌, ◌≤◌, vec_len, vec_capacity}
use Rattle.path_race.specs.declared.record.Record.{Record}

-- for so many operations more, of at most 6 words each
abbrev pub HasRoom : ℕ → Record → Type 0
HasRoom n r = (vec_len r.won + n ≤ vec_capacity r.won) × (vec_len r.words + 6 * n ≤ vec_capacity r.words)

-- for so many, beside one of which so many words were taken down last
pub record HasRoomBeside (n count : ℕ) (r : Record) : Type 0 where
  pub won : vec_len r.won + n < vec_capacity r.won
  pub few : (count ≤ 6) × (count ≤ vec_len r.words)
  pub words : vec_len r.words + 6 * n + 6 ≤ vec_capacity r.words + count
