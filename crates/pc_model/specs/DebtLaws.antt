-- What is owed after each change: no debt is forgotten but what a settlement names, and none is invented.
use Rattle.std.specs.Prelude.{◌≡◌, ◌≢◌, ℕ, ◌≤◌, ◌⊎◌, ◌↔◌, false, IsTrue, List, [], ◌∷◌, Option, Some, None, IfSome}
use Rattle.std.specs.Prelude.{IsSomeAnd}
use Rattle.pc_model.specs.declared.owed.Owing.{Owing}
use Rattle.pc_model.specs.declared.owed.Owing.TheVariants.{Key, From}
use Rattle.pc_model.specs.declared.owed.Settle.{Settle}
use Rattle.pc_model.specs.declared.owed.Settle.TheVariants.{Nothing, Release, First, Raise}
use Rattle.pc_model.specs.Debts.{Debts, has, IsOwed, charged, put_in_front, released, raised, settled, taken_up}
use Rattle.pc_model.specs.Debts.{first_owed}
use Rattle.pc_model.specs.Forms.{IsBelowEnd}

-- the number is at this key or below it
abbrev pub IsReached : ℕ → Debts → Type 0
IsReached q d = IsSomeAnd d.from (λ n. n ≤ q)

-- what a settlement may forget: the key that it releases, and the keys from the old number up to the new one
abbrev pub MayForget : Settle → Debts → ℕ → Type 0
MayForget Nothing d q = ⊥
MayForget (Release k) d q = q ≡ k
MayForget (First k) d q = ⊥
MayForget (Raise to) d q = IsReached q d × IsBelowEnd q to

pub record NoDebtIsForgotten : Type 0 where
  pub charged_is_owed : (k : ℕ) (d : Debts) → IsOwed k (charged k d)
  pub owed_after_charge : (q k : ℕ) (d : Debts) → IsOwed q d → IsOwed q (charged k d)
  pub first_is_owed : (k : ℕ) (d : Debts) → IsOwed k (put_in_front k d)
  pub owed_after_put_first : (q k : ℕ) (d : Debts) → IsOwed q d → IsOwed q (put_in_front k d)
  pub owed_after_release : (q k : ℕ) (d : Debts) → q ≢ k → IsOwed q d → IsOwed q (released k d)
  pub settled_forgets : (q : ℕ) (s : Settle) (d : Debts) → IsOwed q d → IsOwed q (settled s d) ⊎ MayForget s d q
  pub owed_once_settled : (q : ℕ) (s : Settle) (charges : List ℕ) (d : Debts)
      → IsOwed q (settled s d) → IsOwed q (taken_up s charges d)
  pub charges_are_owed : (q : ℕ) (s : Settle) (charges : List ℕ) (d : Debts)
      → IsTrue (has q charges) → IsOwed q (taken_up s charges d)

-- a key of the list is at this one or below it
abbrev pub HasKeyTo : ℕ → List ℕ → Type 0
HasKeyTo q keys = (k : ℕ) × IsTrue (has k keys) × (k ≤ q)

-- what a settlement leaves: a released key isn't listed, the first key is owed first, the number is the new one
abbrev pub IsSettled : Settle → Debts → Debts → Type 0
IsSettled Nothing d e = e ≡ d
IsSettled (Release k) d e = has k e.keys ≡ false
IsSettled (First k) d e = first_owed e.keys e.from ≡ Some (Key k)
IsSettled (Raise to) d e = e.from ≡ to

-- nothing is owed without a reason, and what comes first is in front
pub record NoDebtIsInvented : Type 0 where
  pub after_charge : (q k : ℕ) (d : Debts) → IsOwed q (charged k d) → IsOwed q d ⊎ (k ≤ q)
  pub after_put_first : (q k : ℕ) (d : Debts)
      → IsOwed q (put_in_front k d) → (q ≡ k) ⊎ (IsReached q d ⊎ HasKeyTo q d.keys)
  pub after_release : (k : ℕ) (d : Debts) → (IsReached k d → ⊥) → IsOwed k (released k d) → ⊥
  pub after_raise_to_none : (q : ℕ) (d : Debts) → IsOwed q (raised None d) ↔ IsTrue (has q d.keys)
  pub after_raise : (q n : ℕ) (d : Debts) → IsOwed q (raised (Some n) d) ↔ (IsTrue (has q d.keys) ⊎ (n ≤ q))
  pub settles : (s : Settle) (d : Debts) → IsSettled s d (settled s d)
  pub put_first_is_first : (k : ℕ) (d : Debts) → first_owed (put_in_front k d).keys (put_in_front k d).from
      ≡ Some (Key k)
  pub keys_before_number : (k : ℕ) (keys : List ℕ) (from : Option ℕ) → first_owed (k ∷ keys) from ≡ Some (Key k)

-- this key is owed; or no key is listed, and what is owed is every key from this one on
abbrev pub IsOwing : Debts → Owing → Type 0
IsOwing d (Key k) = IsOwed k d
IsOwing d (From n) = (d.keys ≡ []) × ((q : ℕ) → IsOwed q d ↔ (n ≤ q))

-- something is owed first exactly where something is owed, and that is owed
pub record FirstOwedIsOwed : Type 0 where
  pub none : (d : Debts) → (first_owed d.keys d.from ≡ None) ↔ ((q : ℕ) → IsOwed q d → ⊥)
  pub some : (d : Debts) → IfSome (first_owed d.keys d.from) (IsOwing d)
