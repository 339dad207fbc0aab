-- How a text goes to a sink through a chunk: by and by, the chunk holding what was not sent yet.
use Rattle.std.specs.Prelude.{◌≡◌, ℕ, ◌≤◌, List, ◌++◌, Option, Result, OnOk, OnErr}
use Rattle.std.specs.Io.KnownBytes.{Appends}
use Rattle.pc_edge.specs.Faults.{HasRisen}

-- of this text all but a rest went to the sink, whose known bytes grew by it
pub record Sends (old new : Option (List ℕ)) (text rest : List ℕ) : Type 0 where
  pub sent : List ℕ
  pub whole : text ≡ sent ++ rest
  pub grew : Appends old new sent

-- some front of this text went to the sink
pub record AppendsFront (old new : Option (List ℕ)) (text : List ℕ) : Type 0 where
  pub unsent : List ℕ
  pub sends : Sends old new text unsent

-- what becomes of a text that is written to a sink: all but a rest goes there; or else the sink failed, a
-- front had gone there, and a fault was counted. The count never falls
pub record Writes {K T E : Type 0} (held : K → Option (List ℕ)) (faults : K → ℕ) (old new : K) (text rest : List ℕ)
    (result : Result T E) : Type 0 where
  pub ok : OnOk result (Sends (held old) (held new) text rest)
  pub front : OnErr result (AppendsFront (held old) (held new) text)
  pub cause : OnErr result (HasRisen (faults old) (faults new))
  pub never_falls : faults old ≤ faults new
