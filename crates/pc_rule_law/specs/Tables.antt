-- What a table is told when it is made: the size of the board, the exchanges that passes are given, and when its cells are
-- sound. While no exchange is decided, no plain value changes, so they are the cells of the opening.
use Rattle.std.specs.Prelude.{◌≡◌, ℕ, map}
use Rattle.pc_model.specs.declared.cell.Field.{Field}
use Rattle.pc_model.specs.Cells.{Cells}
use Rattle.pc_model.specs.Forms.{Form, IsSound}
use Rattle.pc_model.specs.Linked.{opening_cells}
use Rattle.pc_rule_law.specs.declared.opening.Opening.{Opening}
use Rattle.pc_rule_law.specs.declared.opening.Given.{Given}
use Rattle.pc_rule_law.specs.declared.share.Share.{Share}
use Rattle.pc_rule_law.specs.Board.{Size}
use Rattle.pc_rule_law.specs.Past.{change}
use Rattle.pc_rule_law.specs.Views.{Note, entry, View}
use Rattle.pc_rule_law.specs.Seats.{new_view}

abbrev pub slots_in : Share → ℕ
slots_in share = share.slots

abbrev pub size_of : Opening → Size
size_of o = record { seats = o.seats; slots = o.slots; shares = map slots_in o.shares.items; starts = record { attempt = o.starts.attempt; install = o.starts.install; stamp = o.starts.stamp; epoch = o.starts.epoch; version = o.starts.version } }

-- each change that was given is known to all
abbrev pub note_of : Given → Note
note_of g = entry g.seat 1 (change g.node g.field g.old g.new)

abbrev pub first_view : Opening → View
first_view o = new_view (size_of o) 0 o.posted (map note_of o.given.items)

-- the plain values are those of the opening
abbrev pub KeepsOpening : (ℕ → Cells → Cells → Type 0) → Size → Type 0
KeepsOpening sound z = (c plain : Cells) → sound z.slots c plain → (n : ℕ) (f : Field) → plain n f ≡ opening_cells z.starts.version n f

abbrev pub sound_cells : Form → Opening → ℕ → Cells → Cells → Type 0
sound_cells form o slots c plain = IsSound form slots c × ((n : ℕ) (f : Field) → plain n f ≡ c n f)
    × ((n : ℕ) (f : Field) → c n f ≡ opening_cells o.starts.version n f)
