-- The size that numbers give, its limits, and when words are those of a closed board of that size.
use Rattle.std.specs.Prelude.{◌≤◌, ℕ, List, map}
use Rattle.pc_model.specs.Forms.{Form}
use Rattle.pc_rule_law.specs.declared.opening.Starts.{Starts}
use Rattle.pc_rule_law.specs.declared.share.Share.{Share}
use Rattle.pc_rule_law.specs.Board.{Size}
use Rattle.pc_rule_law.specs.Tables.{slots_in}
use Rattle.pc_exchange_law.specs.WholeSeats.{IsWholeClosed}
use Rattle.pc_exchange_law.specs.Wholes.{Whole}

abbrev pub size_from : ℕ → ℕ → List Share → Starts → Size
size_from seats slots shares s = record { seats = seats; slots = slots; shares = map slots_in shares; starts = record { attempt = s.attempt; install = s.install; stamp = s.stamp; epoch = s.epoch; version = s.version } }

-- a board has at most 32 passes and 61,000 slots
abbrev pub AreWithinLimits : ℕ → ℕ → Type 0
AreWithinLimits seats slots = (seats ≤ 32) × (slots ≤ 61000)

-- the words are those of a board that was closed, by a pass that knew something
abbrev pub IsOfClosed : Form → Size → List ℕ → Type 0
IsOfClosed form z words = (x : Whole) × IsWholeClosed form z x words
