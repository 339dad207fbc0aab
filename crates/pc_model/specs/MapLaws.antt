-- What the sorted map is: std's finite map, and for ceil and floor the nearest key.
use Rattle.std.specs.Prelude.{◌≡◌, ℕ, ◌<◌, ◌≤◌, Some, None, MatchOption}
use Rattle.std.specs.Ordering.{nat_cmp}
use Rattle.std.specs.FinMap.{FinMap, from_entries, get, insert, remove}
use Rattle.pc_model.specs.Map.{Pairs, IsRising, value_at, put, without, ceil_of, floor_of}

-- the finite map of some pairs
abbrev pub map_of : Pairs → FinMap nat_cmp ℕ
map_of ps = from_entries ps

-- the sorted list is the finite map, and stays sorted
pub record IsFiniteMap : Type 0 where
  pub lookup : (k : ℕ) (ps : Pairs) → value_at k ps ≡ get (map_of ps) k
  pub insertion : (k v : ℕ) (ps : Pairs) → map_of (put k v ps) ≡ insert (map_of ps) k v
  pub removal : (k : ℕ) (ps : Pairs) → IsRising ps → map_of (without k ps) ≡ remove (map_of ps) k
  pub insertion_rises : (k v : ℕ) (ps : Pairs) → IsRising ps → IsRising (put k v ps)
  pub removal_rises : (k : ℕ) (ps : Pairs) → IsRising ps → IsRising (without k ps)

-- a pair of the map, and no key of the map lies between it and the key that was asked for
pub record IsLeastFrom (k : ℕ) (ps : Pairs) (p : ℕ × ℕ) : Type 0 where
  pub there : value_at p.0 ps ≡ Some p.1
  pub above : k ≤ p.0
  pub least : (q : ℕ) → k ≤ q → q < p.0 → value_at q ps ≡ None

pub record IsGreatestTo (k : ℕ) (ps : Pairs) (p : ℕ × ℕ) : Type 0 where
  pub there : value_at p.0 ps ≡ Some p.1
  pub below : p.0 ≤ k
  pub greatest : (q : ℕ) → p.0 < q → q ≤ k → value_at q ps ≡ None

-- ceil and floor give the nearest key, or there is none
pub record FindsNearest : Type 0 where
  pub ceil : (k : ℕ) (ps : Pairs) → IsRising ps
      → MatchOption (ceil_of k ps) ((q : ℕ) → k ≤ q → value_at q ps ≡ None) (IsLeastFrom k ps)
  pub floor : (k : ℕ) (ps : Pairs) → IsRising ps
      → MatchOption (floor_of k ps) ((q : ℕ) → q ≤ k → value_at q ps ≡ None) (IsGreatestTo k ps)
