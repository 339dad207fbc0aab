-- The calls that passes recorded, and the list of them that a closed board has.
use Rattle.std.specs.Prelude.{◌≡◌, ℕ, ◌+◌, ◌≤◌, List, [], ◌∷◌, ◌++◌, vec_capacity}
use Rattle.std.specs.List.Sorted.{IsPermutation, IsNonDecreasingBy}
use mathlib.Core.Option.{some}
use lib.ListN.{get_elem?}
use Rattle.pc_model.specs.declared.call.Entry.{Entry}
use Rattle.pc_model.specs.declared.shape.Shape.{Ghosts}
use Rattle.pc_rule.specs.declared.board.Pass.{Pass}
use Rattle.pc_rule_law.specs.declared.share.Share.{Share}
use Rattle.pc_rule.specs.Passes.{share_of, recorded, IsBlank}

-- for how many calls these shares have room
abbrev pub calls_of : List Share → ℕ
calls_of [] = 0
calls_of (share ∷ shares) = share.calls + calls_of shares

module _ {H : Type 0} {S : Ghosts H} where
  -- each pass has its share, has recorded nothing, and is to record nothing
  abbrev pub HaveShares : List Share → List (Pass H S) → Type 0
  HaveShares shares passes = (i : ℕ) (p : Pass H S) → get_elem? passes i ≡ some p → (get_elem? shares i ≡ some (share_of p)) × IsBlank p

  -- what these passes recorded, one after another
  abbrev pub recorded_by : List (Pass H S) → List Entry
  recorded_by [] = []
  recorded_by (p ∷ passes) = recorded p ++ recorded_by passes

  -- the pass has room for the calls of all these shares
  abbrev pub HasRoomFor : List Share → Pass H S → Type 0
  HasRoomFor shares p = calls_of shares ≤ vec_capacity p.records.entries

  -- the history has each call that these passes recorded once, by rising stamps
  pub record IsHistoryOf (passes : List (Pass H S)) (history : List Entry) : Type 0 where
    pub each : IsPermutation (recorded_by passes) history
    pub rising : IsNonDecreasingBy (λ e. e.stamp) history
