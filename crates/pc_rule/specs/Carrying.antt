-- The call that a pass takes along in its operation, and what is recorded of it where that takes effect.
use Rattle.std.specs.Prelude.{◌⊎◌, ℕ, List, [], ◌∷◌, Option, Some, None}
use Rattle.pc_model.specs.declared.call.Entry.{Entry}
use Rattle.pc_model.specs.Exchanges.{Exchange}
use Rattle.pc_rule_law.specs.Past.{Has}
use Rattle.pc_protocol.specs.Histories.{committed}
use Rattle.pc_protocol.specs.Notes.{in_run, verdict}
use Rattle.pc_exchange_law.specs.Ties.{code}
use Rattle.pc_exchange_law.specs.Wholes.{Whole}
use Rattle.pc_rule.specs.declared.records.Carried.{Carried}

-- what the pass with this number records of it as its call with that number, at a stamp
abbrev pub entries_of : ℕ → ℕ → ℕ → Option Carried → List Entry
entries_of pass number stamp None = []
entries_of pass number stamp (Some c) = record { pass = pass; number = number; call = c.call; reply = c.reply; stamp = stamp } ∷ []

-- the pass knows that an exchange of its own, or a read, took effect at this stamp
abbrev pub HasTakenEffect : Whole → ℕ → Type 0
HasTakenEffect x s = ((a : ℕ) × Has x.knows.told (verdict (code x.view.seat a) (committed s)))
    ⊎ ((e : Exchange) × Has x.knows.told (in_run s e))
