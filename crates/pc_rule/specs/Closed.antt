-- The size of a board that was closed, and the calls that its passes recorded.
use Rattle.std.specs.Prelude.{List}
use Rattle.pc_model.specs.declared.call.Entry.{Entry}
use Rattle.pc_model.specs.declared.shape.Shape.{Ghosts}
use Rattle.pc_rule_law.specs.Board.{Size}
use Rattle.pc_rule.specs.declared.closed.Closed.{Closed}
use Rattle.pc_rule.specs.Sizes.{size_from}

module _ {H : Type 0} {S : Ghosts H} where
  -- the size of the board that was closed
  abbrev pub closed_size : Closed H S → Size
  closed_size c = size_from c.seats c.slots c.shares.items c.starts

  -- the calls that the passes recorded
  abbrev pub history_of : Closed H S → List Entry
  history_of c = c.entries.items
