-- How a pass is after an operation along a path took effect or was lost.
use Rattle.std.specs.Prelude.{◌≡◌, vec_capacity}
use Rattle.pc_model.specs.declared.shape.Shape.{Ghosts}
use Rattle.pc_rule.specs.declared.board.Pass.{Pass}
use Rattle.pc_rule.specs.Passes.{share_of}

module _ {H : Type 0} {S : Ghosts H} where
  -- nothing changed but what it recorded and is to record, and what it visited and read
  abbrev pub OnlyConcluded : Pass H S → Pass H S → Type 0
  OnlyConcluded old new = (new.seat ≡ old.seat) × (share_of new ≡ share_of old) × (new.listed ≡ old.listed)
      × (vec_capacity new.records.entries ≡ vec_capacity old.records.entries)
