-- A list of entries is right where each reply is the sorted map's, from the empty map on.
use Rattle.std.specs.Prelude.{◌≡◌, List, [], ◌∷◌}
use Rattle.pc_model.specs.declared.call.Entry.{Entry}
use Rattle.pc_model.specs.Map.{Pairs, reply_of, pairs_after}

-- the map that the calls of a list leave of these pairs
abbrev pub fold_from : Pairs → List Entry → Pairs
fold_from ps [] = ps
fold_from ps (e ∷ es) = fold_from (pairs_after e.call ps) es

-- the map that the calls of a list leave of the empty map
abbrev pub fold_of : List Entry → Pairs
fold_of es = fold_from [] es

abbrev pub IsRightFrom : Pairs → List Entry → Type 0
IsRightFrom ps [] = Unit {0}
IsRightFrom ps (e ∷ es) = (e.reply ≡ reply_of e.call ps) × IsRightFrom (pairs_after e.call ps) es

-- each reply is what the sorted map gives at its place
abbrev pub IsRight : List Entry → Type 0
IsRight es = IsRightFrom [] es
