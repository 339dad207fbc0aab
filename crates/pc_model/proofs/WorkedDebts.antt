-- Small cases of debts, worked out: each holds by computing.
use Rattle.std.proofs.Common.{◌≡◌, ℕ, List, [], ◌∷◌, Option, Some, None, refl}
use Rattle.pc_model.specs.declared.owed.Owing.TheVariants.{Key, From}
use Rattle.pc_model.specs.declared.owed.Settle.TheVariants.{Release, First, Raise}
use Rattle.pc_model.specs.Debts.{Debts, lowered, charged, put_in_front, released, settled, taken_up, first_owed}

abbrev debts : List ℕ → Option ℕ → Debts
debts keys from = record { keys = keys; from = from }

charge_on_nothing : charged 5 (debts [] None) ≡ debts (5 ∷ []) None
charge_on_nothing = refl

charge_another : charged 7 (debts (5 ∷ []) (Some 9)) ≡ debts (7 ∷ 5 ∷ []) (Some 9)
charge_another = refl

charged_key_stays : charged 5 (debts (7 ∷ 5 ∷ []) None) ≡ debts (7 ∷ 5 ∷ []) None
charged_key_stays = refl

put_first_moves : put_in_front 2 (debts (1 ∷ 2 ∷ 3 ∷ []) None) ≡ debts (2 ∷ 1 ∷ 3 ∷ []) None
put_first_moves = refl

put_first_another : put_in_front 9 (debts (7 ∷ 5 ∷ []) (Some 3)) ≡ debts (9 ∷ 7 ∷ 5 ∷ []) (Some 3)
put_first_another = refl

release_between : released 5 (debts (7 ∷ 5 ∷ 9 ∷ []) (Some 3)) ≡ debts (7 ∷ 9 ∷ []) (Some 3)
release_between = refl

release_absent : released 4 (debts (7 ∷ 5 ∷ []) None) ≡ debts (7 ∷ 5 ∷ []) None
release_absent = refl

lowered_from_none : lowered 50 None ≡ Some 50
lowered_from_none = refl

lowered_by_less : lowered 50 (Some 70) ≡ Some 50
lowered_by_less = refl

lowered_by_more : lowered 50 (Some 40) ≡ Some 40
lowered_by_more = refl

settle_raises : settled (Raise (Some 9)) (debts (7 ∷ 5 ∷ []) (Some 3)) ≡ debts (7 ∷ 5 ∷ []) (Some 9)
settle_raises = refl

settle_raises_to_none : settled (Raise None) (debts (7 ∷ 5 ∷ []) (Some 3)) ≡ debts (7 ∷ 5 ∷ []) None
settle_raises_to_none = refl

-- a key that is released and charged at once is owed
settle_and_charge : taken_up (Release 5) (5 ∷ 8 ∷ []) (debts (7 ∷ 5 ∷ []) None) ≡ debts (8 ∷ 5 ∷ 7 ∷ []) None
settle_and_charge = refl

first_before_charges : taken_up (First 5) (2 ∷ []) (debts (7 ∷ 5 ∷ []) (Some 3)) ≡ debts (2 ∷ 5 ∷ 7 ∷ []) (Some 3)
first_before_charges = refl

front_is_first : first_owed (7 ∷ 5 ∷ []) (Some 3) ≡ Some (Key 7)
front_is_first = refl

number_is_first : first_owed [] (Some 3) ≡ Some (From 3)
number_is_first = refl
