-- The sorted map: a finite map as the list of its pairs by rising key, and what each call does to it.
use Rattle.std.specs.Prelude.{◌≡◌, ℕ, ◌⊎◌, ◌+◌, ◌<◌, ◌≤◌, ◌==◌, nat_lt, nat_le, if◌then◌else◌, List, [], ◌∷◌}
use Rattle.std.specs.Prelude.{Option, Some, None}
use Rattle.pc_model.specs.declared.call.Call.{Call}
use Rattle.pc_model.specs.declared.call.Call.TheVariants.{Put, Get, Remove, Ceil, Floor}
use Rattle.pc_model.specs.declared.call.Reply.{Reply}
use Rattle.pc_model.specs.declared.call.Reply.TheVariants.{New, Was, Value, None as Nothing, Pair}

-- keys with their values
abbrev pub Pairs : Type 0
Pairs = List (ℕ × ℕ)

-- the keys rise strictly, the first of them from a bound up
abbrev pub RisesFrom : ℕ → Pairs → Type 0
RisesFrom low [] = Unit {0}
RisesFrom low (p ∷ ps) = (low ≤ p.0) × RisesFrom (p.0 + 1) ps

-- the keys rise strictly
abbrev pub IsRising : Pairs → Type 0
IsRising ps = RisesFrom 0 ps

-- every key is below a bound
abbrev pub AreBelow : ℕ → Pairs → Type 0
AreBelow k [] = Unit {0}
AreBelow k (p ∷ ps) = (p.0 < k) × AreBelow k ps

-- every key is above a bound
abbrev pub AreAbove : ℕ → Pairs → Type 0
AreAbove k [] = Unit {0}
AreAbove k (p ∷ ps) = (k < p.0) × AreAbove k ps

-- the key stands in the list
abbrev pub HasKey : ℕ → Pairs → Type 0
HasKey k [] = ⊥
HasKey k (p ∷ ps) = (k ≡ p.0) ⊎ HasKey k ps

-- a key has at most eighteen digits
abbrev pub IsKey : ℕ → Type 0
IsKey k = k ≤ 999999999999999999

-- a key with its value, each of at most eighteen digits
abbrev pub IsPair : ℕ × ℕ → Type 0
IsPair p = (p.0 ≤ 999999999999999999) × (p.1 ≤ 999999999999999999)

-- every key and every value has at most eighteen digits
abbrev pub AreSmall : Pairs → Type 0
AreSmall [] = Unit {0}
AreSmall (p ∷ ps) = (p.0 ≤ 999999999999999999) × (p.1 ≤ 999999999999999999) × AreSmall ps

-- the value at a key
abbrev pub value_at : ℕ → Pairs → Option ℕ
value_at k [] = None
value_at k (p ∷ ps) = if k == p.0 then Some p.1 else value_at k ps

-- the pairs with this value at this key
abbrev pub put : ℕ → ℕ → Pairs → Pairs
put k v [] = (k, v) ∷ []
put k v (p ∷ ps) = if nat_lt k p.0 then (k, v) ∷ p ∷ ps else if k == p.0 then (k, v) ∷ ps else p ∷ put k v ps

-- the pairs without this key
abbrev pub without : ℕ → Pairs → Pairs
without k [] = []
without k (p ∷ ps) = if k == p.0 then ps else p ∷ without k ps

-- the pair with the least key that is at least this one
abbrev pub ceil_of : ℕ → Pairs → Option (ℕ × ℕ)
ceil_of k [] = None
ceil_of k (p ∷ ps) = if nat_le k p.0 then Some p else ceil_of k ps

-- the later of two pairs, where there is a later one
abbrev pub later : (ℕ × ℕ) → Option (ℕ × ℕ) → Option (ℕ × ℕ)
later p None = Some p
later p (Some q) = Some q

-- the pair with the greatest key that is at most this one
abbrev pub floor_of : ℕ → Pairs → Option (ℕ × ℕ)
floor_of k [] = None
floor_of k (p ∷ ps) = if nat_le p.0 k then later p (floor_of k ps) else None

-- the first pair
abbrev pub first_of : Pairs → Option (ℕ × ℕ)
first_of [] = None
first_of (p ∷ ps) = Some p

-- the last pair
abbrev pub last_of : Pairs → Option (ℕ × ℕ)
last_of [] = None
last_of (p ∷ ps) = later p (last_of ps)

-- the pair that was found, or else the other
abbrev pub found_or : Option (ℕ × ℕ) → Option (ℕ × ℕ) → Option (ℕ × ℕ)
found_or None other = other
found_or (Some p) other = Some p

abbrev pub was_or_new : Option ℕ → Reply
was_or_new None = New
was_or_new (Some x) = Was x

abbrev pub value_or_nothing : Option ℕ → Reply
value_or_nothing None = Nothing
value_or_nothing (Some x) = Value x

abbrev pub pair_or_nothing : Option (ℕ × ℕ) → Reply
pair_or_nothing None = Nothing
pair_or_nothing (Some p) = Pair p.0 p.1

-- what the sorted map answers
abbrev pub reply_of : Call → Pairs → Reply
reply_of (Put k v) ps = was_or_new (value_at k ps)
reply_of (Get k) ps = value_or_nothing (value_at k ps)
reply_of (Remove k) ps = value_or_nothing (value_at k ps)
reply_of (Ceil k) ps = pair_or_nothing (ceil_of k ps)
reply_of (Floor k) ps = pair_or_nothing (floor_of k ps)

-- the sorted map after the call
abbrev pub pairs_after : Call → Pairs → Pairs
pairs_after (Put k v) ps = put k v ps
pairs_after (Get k) ps = ps
pairs_after (Remove k) ps = without k ps
pairs_after (Ceil k) ps = ps
pairs_after (Floor k) ps = ps
