-- What a client owes: a list of keys, and perhaps every key from a number on.
use Rattle.std.specs.Prelude.{◌≡◌, ℕ, ◌-◌, ◌≤◌, ◌==◌, ◌⊎◌, nat_lt, min, Bool, false, not, IsTrue, if◌then◌else◌, List}
use Rattle.std.specs.Prelude.{[], ◌∷◌, length, take, slice_index, filter, Option, Some, None, IsSomeAnd}
use Rattle.std.specs.List.{list_any, fold}
use Rattle.pc_model.specs.declared.owed.Owing.{Owing}
use Rattle.pc_model.specs.declared.owed.Owing.TheVariants.{Key, From}
use Rattle.pc_model.specs.declared.owed.Settle.{Settle}
use Rattle.pc_model.specs.declared.owed.Settle.TheVariants.{Nothing, Release, First, Raise}

pub record Debts : Type 0 where
  pub keys : List ℕ
  pub from : Option ℕ

abbrev pub no_debts : Debts
no_debts = record { keys = []; from = None }

-- the key stands in the list
abbrev pub has : ℕ → List ℕ → Bool
has k keys = list_any (λ x. x == k) keys

-- no key stands in the list twice
abbrev pub AreDifferent : List ℕ → Type 0
AreDifferent [] = Unit {0}
AreDifferent (k ∷ keys) = (has k keys ≡ false) × AreDifferent keys

-- the key stands in the list, or is at the number or above it
abbrev pub IsOwed : ℕ → Debts → Type 0
IsOwed k d = IsTrue (has k d.keys) ⊎ IsSomeAnd d.from (λ n. n ≤ k)

-- the list without a key
abbrev pub without_key : ℕ → List ℕ → List ℕ
without_key k keys = filter (λ x. not (x == k)) keys

-- the smaller of a key and the number, if there is one
abbrev pub lowered : ℕ → Option ℕ → Option ℕ
lowered k None = Some k
lowered k (Some n) = Some (min n k)

-- where there are 64 keys, the last one leaves the list, and the number is lowered to it
abbrev pub with_room : Debts → Debts
with_room d =
    if nat_lt (length d.keys) 64 then d
    else record {
      keys = take (length d.keys - 1) d.keys;
      from = lowered (slice_index d.keys (length d.keys - 1)) d.from;
    }

-- A key that is in the list stays where it is. Another goes to the front, or, where there are 64 keys,
-- lowers the number.
abbrev pub charged : ℕ → Debts → Debts
charged k d =
    if has k d.keys then d
    else if nat_lt (length d.keys) 64 then record { keys = k ∷ d.keys; from = d.from }
    else record { keys = d.keys; from = lowered k d.from }

-- A key that is in the list moves to the front. Another goes to the front once there is room.
abbrev pub put_in_front : ℕ → Debts → Debts
put_in_front k d =
    if has k d.keys then record { keys = k ∷ without_key k d.keys; from = d.from }
    else record { keys = k ∷ (with_room d).keys; from = (with_room d).from }

-- the key is out of the list, and the others keep their order
abbrev pub released : ℕ → Debts → Debts
released k d = record { keys = without_key k d.keys; from = d.from }

-- the number is another, or none
abbrev pub raised : Option ℕ → Debts → Debts
raised to d = record { keys = d.keys; from = to }

-- the debts with a settlement
abbrev pub settled : Settle → Debts → Debts
settled Nothing d = d
settled (Release k) d = released k d
settled (First k) d = put_in_front k d
settled (Raise to) d = raised to d

-- the debts with these charges, one after another
abbrev pub all_charged : List ℕ → Debts → Debts
all_charged keys d = fold (λ e k. charged k e) d keys

-- the debts with a settlement first, and then with the charges that came with it
abbrev pub taken_up : Settle → List ℕ → Debts → Debts
taken_up settlement charges d = all_charged charges (settled settlement d)

-- what is owed first: the front of the list, or else the number
abbrev pub first_owed : List ℕ → Option ℕ → Option Owing
first_owed [] None = None
first_owed [] (Some n) = Some (From n)
first_owed (k ∷ keys) from = Some (Key k)
