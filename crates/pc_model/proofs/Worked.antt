-- Small cases of the sorted map, worked out: each holds by computing.
use Rattle.std.proofs.Common.{◌≡◌, [], ◌∷◌, refl}
use Rattle.pc_model.specs.declared.call.Call.TheVariants.{Put, Get, Remove, Ceil, Floor}
use Rattle.pc_model.specs.declared.call.Reply.TheVariants.{New, Was, Value, None as Nothing, Pair}
use Rattle.pc_model.specs.Map.{Pairs, reply_of, pairs_after}

abbrev two : Pairs
two = (5, 50) ∷ (9, 90) ∷ []

abbrev three : Pairs
three = (2, 20) ∷ (5, 50) ∷ (9, 90) ∷ []

-- A put of a new key, and of a key that is there

put_on_empty : reply_of (Put 5 50) [] ≡ New
put_on_empty = refl

get_after_put : reply_of (Get 5) (pairs_after (Put 5 50) []) ≡ Value 50
get_after_put = refl

put_again : reply_of (Put 5 2) (pairs_after (Put 5 1) []) ≡ Was 1
put_again = refl

pairs_after_put_again : pairs_after (Put 5 2) (pairs_after (Put 5 1) []) ≡ (5, 2) ∷ []
pairs_after_put_again = refl

put_in_front : pairs_after (Put 2 20) two ≡ three
put_in_front = refl

put_between : pairs_after (Put 7 70) two ≡ (5, 50) ∷ (7, 70) ∷ (9, 90) ∷ []
put_between = refl

put_behind : pairs_after (Put 11 110) two ≡ (5, 50) ∷ (9, 90) ∷ (11, 110) ∷ []
put_behind = refl

-- A key that is not there

get_on_empty : reply_of (Get 5) [] ≡ Nothing
get_on_empty = refl

remove_on_empty : reply_of (Remove 5) [] ≡ Nothing
remove_on_empty = refl

remove_changes_nothing : pairs_after (Remove 7) two ≡ two
remove_changes_nothing = refl

-- A remove of a key that is there

remove_answers : reply_of (Remove 5) two ≡ Value 50
remove_answers = refl

remove_takes_away : pairs_after (Remove 5) three ≡ (2, 20) ∷ (9, 90) ∷ []
remove_takes_away = refl

-- Ceil and floor

ceil_7 : reply_of (Ceil 7) two ≡ Pair 9 90
ceil_7 = refl

floor_7 : reply_of (Floor 7) two ≡ Pair 5 50
floor_7 = refl

ceil_10 : reply_of (Ceil 10) two ≡ Nothing
ceil_10 = refl

floor_4 : reply_of (Floor 4) two ≡ Nothing
floor_4 = refl

ceil_5 : reply_of (Ceil 5) two ≡ Pair 5 50
ceil_5 = refl

floor_9 : reply_of (Floor 9) two ≡ Pair 9 90
floor_9 = refl

ceil_on_empty : reply_of (Ceil 5) [] ≡ Nothing
ceil_on_empty = refl

floor_on_empty : reply_of (Floor 5) [] ≡ Nothing
floor_on_empty = refl

ceil_changes_nothing : pairs_after (Ceil 7) two ≡ two
ceil_changes_nothing = refl
