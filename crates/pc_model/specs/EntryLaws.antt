-- What it means that a list of entries is right, part by part, and what a history of one client is.
use Rattle.std.specs.Prelude.{◌≡◌, ◌↔◌, List, [], ◌∷◌, ◌++◌}
use Rattle.pc_model.specs.declared.call.Call.{Call}
use Rattle.pc_model.specs.declared.call.Entry.{Entry}
use Rattle.pc_model.specs.Replay.{fold_from, fold_of, IsRightFrom, IsRight}
use Rattle.pc_model.specs.History.{calls_of, IsNumberedFrom, AllOfPass, IsHistoryOf}

-- a list of entries is right where its front is right, and its back is right from the map that the front leaves
pub record GoesInParts : Type 0 where
  pub map : (a b : List Entry) → fold_of (a ++ b) ≡ fold_from (fold_of a) b
  pub right : (a b : List Entry) → IsRight (a ++ b) ↔ (IsRight a × IsRightFrom (fold_of a) b)

-- the entries of a history of one client are all its own, numbered 1, 2 and so on, with its calls in order
abbrev pub IsItsCallsInOrder : Type 0
IsItsCallsInOrder = (calls : List Call) (es : List Entry)
    → IsHistoryOf (calls ∷ []) es ↔ (AllOfPass 1 es × IsNumberedFrom 1 es × (calls_of es ≡ calls))
