-- The history that a board opens with, where no exchange is published: of its cells, its first and last stamp, the owners
-- of exchanges, and its slots.
use Rattle.std.specs.Prelude.{ℕ, ◌==◌, if◌then◌else◌, [], None}
use Rattle.pc_model.specs.Cells.{Cells}
use Rattle.pc_model.specs.Exchanges.{Exchange}
use Rattle.pc_protocol.specs.Histories.{for_read, absent, Slot, free, used, History}

abbrev pub no_exchange : Exchange
no_exchange = record { visits = []; reads = []; changes = []; fresh = None }

abbrev pub opened : Cells → ℕ → ℕ → (ℕ → ℕ) → (ℕ → Slot) → History
opened cells start end owner slots = record {
  opening = cells;
  clock = start;
  last = end;
  item = λ t. None;
  drawn_for = λ t. for_read 0;
  owner = owner;
  stage = λ x. absent;
  op = λ x. no_exchange;
  published_at = λ x. 0;
  plain = cells;
  reference = λ n f. None;
  slot = slots;
  cleared_at = λ x. None;
}

-- the sentinel is used, and every slot free
abbrev pub opening_slots : ℕ → Slot
opening_slots n = if n == 1 then used else free
