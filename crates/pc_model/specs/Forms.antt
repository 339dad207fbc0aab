-- The form of some cells: when they are sound, and with which pairs, and which keys are in debt in them.
-- An exchange fits a form where it keeps cells sound and charges each debt that it brings.
use Rattle.std.specs.Prelude.{ℕ, ◌≤◌, ◌<◌, ◌⊎◌, IsTrue, List, Option, Some, None}
use Rattle.pc_model.specs.declared.owed.Settle.{Settle}
use Rattle.pc_model.specs.declared.owed.Settle.TheVariants.{Nothing, Release, First, Raise}
use Rattle.pc_model.specs.Map.{Pairs}
use Rattle.pc_model.specs.Cells.{Cells}
use Rattle.pc_model.specs.Debts.{has}
use Rattle.pc_model.specs.Exchanges.{Exchange, Stands, applied}

-- for so many slots: the cells are sound with these pairs, and a key is in debt in them
pub record Form : Type 1 where
  pub sound : ℕ → Cells → Pairs → Type 0
  pub in_debt : ℕ → Cells → ℕ → Type 0

-- the cells are sound with some pairs
abbrev pub IsSound : Form → ℕ → Cells → Type 0
IsSound form slots c = (ps : Pairs) × form.sound slots c ps

-- In all sound cells in which the exchange stands, it leaves sound cells, and each key that is in debt
-- after it and wasn't before is charged.
pub record Fits (form : Form) (slots : ℕ) (e : Exchange) (charged : List ℕ) : Type 0 where
  pub leaves : (c : Cells) → IsSound form slots c → Stands e c → IsSound form slots (applied e c)
  pub charges : (c : Cells) (k : ℕ) → IsSound form slots c → Stands e c → form.in_debt slots (applied e c) k
      → form.in_debt slots c k ⊎ IsTrue (has k charged)

-- in all sound cells in which the exchange stands, the key isn't in debt after it
abbrev pub PutsRight : Form → ℕ → Exchange → ℕ → Type 0
PutsRight form slots e k = (c : Cells) → IsSound form slots c → Stands e c → form.in_debt slots (applied e c) k → ⊥

-- the key is below this end, or there is no end
abbrev pub IsBelowEnd : ℕ → Option ℕ → Type 0
IsBelowEnd k None = Unit {0}
IsBelowEnd k (Some end) = k < end

-- An exchange with these charges may settle so: what is released, and each key from the lower end of a
-- raise up to its upper end, is charged or put right.
abbrev pub MaySettle : Form → ℕ → Exchange → List ℕ → ℕ → Settle → Type 0
MaySettle form slots e charged lower Nothing = Unit {0}
MaySettle form slots e charged lower (Release k) = IsTrue (has k charged) ⊎ PutsRight form slots e k
MaySettle form slots e charged lower (First k) = Unit {0}
MaySettle form slots e charged lower (Raise to) = (k : ℕ) → lower ≤ k → IsBelowEnd k to
    → IsTrue (has k charged) ⊎ PutsRight form slots e k
