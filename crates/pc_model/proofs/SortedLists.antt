-- Sorted lists of pairs, in parts: what each call of the map does where a list is cut into what lies
-- below a key, what may hold it and what lies above it.
use Rattle.std.proofs.Common.{◌≡◌, ℕ, ◌+◌, ◌<◌, ◌≤◌, ◌==◌, ◌⊎◌, nat_lt, nat_le, cond, Bool, true, false, [], ◌∷◌}
use Rattle.std.proofs.Common.{◌++◌, Option, Some, None, refl, ap, sym, inl, inr, ◌∙◌, arith}
use Rattle.std.proofs.lemmas.Bool.{cond-true, cond-false, eq-eqb, ne_eqb, lt-ltb, le-ltb, le-leb, lt-leb, ltb-true}
use Rattle.std.proofs.lemmas.Bool.{ltb-false, eqb-true, eqb-false, cond_both, cases_eq}
use Rattle.pc_model.specs.Map.{Pairs, RisesFrom, IsRising, AreBelow, AreAbove, HasKey, AreSmall, value_at, put}
use Rattle.pc_model.specs.Map.{without, ceil_of, floor_of, later, first_of, last_of, found_or}

-- One pair in front

pub value_at-found : (k : ℕ) (ps : Pairs) (v : ℕ) (rest : Pairs) → value_at k ((k, v) ∷ rest) ≡ Some v
value_at-found k ps v rest = cond-true (k == k) (Some v) (value_at k rest) (eq-eqb k k refl)

pub value_at-skip : (k : ℕ) (p : ℕ × ℕ) (ps : Pairs) → (k ≡ p.0 → ⊥) → value_at k (p ∷ ps) ≡ value_at k ps
value_at-skip k p ps differs = cond-false (k == p.0) (Some p.1) (value_at k ps) (ne_eqb k p.0 differs)

pub put-front : (k v : ℕ) (p : ℕ × ℕ) (ps : Pairs) → k < p.0 → put k v (p ∷ ps) ≡ (k, v) ∷ p ∷ ps
put-front k v p ps less = cond-true (nat_lt k p.0) _ _ (lt-ltb k p.0 less)

pub put-found : (k v w : ℕ) (rest : Pairs) → put k v ((k, w) ∷ rest) ≡ (k, v) ∷ rest
put-found k v w rest = cond-false (nat_lt k k) _ _ (le-ltb k k (omega arith))
    ∙ cond-true (k == k) _ _ (eq-eqb k k refl)

pub put-skip : (k v : ℕ) (p : ℕ × ℕ) (ps : Pairs) → p.0 < k → put k v (p ∷ ps) ≡ p ∷ put k v ps
put-skip k v p ps less = cond-false (nat_lt k p.0) _ _ (le-ltb k p.0 (omega arith))
    ∙ cond-false (k == p.0) _ _ (ne_eqb k p.0 (omega arith))

pub without-same : (k : ℕ) (p : ℕ × ℕ) (ps : Pairs) → k ≡ p.0 → without k (p ∷ ps) ≡ ps
without-same k p ps same = cond-true (k == p.0) _ _ (eq-eqb k p.0 same)

pub without-found : (k v : ℕ) (rest : Pairs) → without k ((k, v) ∷ rest) ≡ rest
without-found k v rest = without-same k (k, v) rest refl

pub without-skip : (k : ℕ) (p : ℕ × ℕ) (ps : Pairs) → (k ≡ p.0 → ⊥) → without k (p ∷ ps) ≡ p ∷ without k ps
without-skip k p ps differs = cond-false (k == p.0) _ _ (ne_eqb k p.0 differs)

-- Bounds of all keys

pub below_weaker : (j k : ℕ) (ps : Pairs) → j ≤ k → AreBelow j ps → AreBelow k ps
below_weaker j k [] le below = tt
below_weaker j k (p ∷ ps) le below = (omega (arith, below.0), below_weaker j k ps le below.1)

pub above_weaker : (j k : ℕ) (ps : Pairs) → j ≤ k → AreAbove k ps → AreAbove j ps
above_weaker j k [] le above = tt
above_weaker j k (p ∷ ps) le above = (omega (arith, above.0), above_weaker j k ps le above.1)

pub AreBelow-join : (k : ℕ) (a b : Pairs) → AreBelow k a → AreBelow k b → AreBelow k (a ++ b)
AreBelow-join k [] b below_a below_b = below_b
AreBelow-join k (p ∷ a) b below_a below_b = (below_a.0, AreBelow-join k a b below_a.1 below_b)

pub AreBelow-split : (k : ℕ) (a b : Pairs) → AreBelow k (a ++ b) → AreBelow k a × AreBelow k b
AreBelow-split k [] b below = (tt, below)
AreBelow-split k (p ∷ a) b below = let rest = AreBelow-split k a b below.1 in ((below.0, rest.0), rest.1)

pub AreAbove-join : (k : ℕ) (a b : Pairs) → AreAbove k a → AreAbove k b → AreAbove k (a ++ b)
AreAbove-join k [] b above_a above_b = above_b
AreAbove-join k (p ∷ a) b above_a above_b = (above_a.0, AreAbove-join k a b above_a.1 above_b)

pub AreAbove-split : (k : ℕ) (a b : Pairs) → AreAbove k (a ++ b) → AreAbove k a × AreAbove k b
AreAbove-split k [] b above = (tt, above)
AreAbove-split k (p ∷ a) b above = let rest = AreAbove-split k a b above.1 in ((above.0, rest.0), rest.1)

-- Where a call finds its pair

pub value_at-below : (k : ℕ) (ps : Pairs) → AreBelow k ps → value_at k ps ≡ None
value_at-below k [] below = refl
value_at-below k (p ∷ ps) below = value_at-skip k p ps (λ same. omega (arith, below.0)) ∙ value_at-below k ps below.1

pub value_at-above : (k : ℕ) (ps : Pairs) → AreAbove k ps → value_at k ps ≡ None
value_at-above k [] above = refl
value_at-above k (p ∷ ps) above = value_at-skip k p ps (λ same. omega (arith, above.0)) ∙ value_at-above k ps above.1

pub value_at-left : (k : ℕ) (ps after : Pairs) → AreAbove k after → value_at k (ps ++ after) ≡ value_at k ps
value_at-left k [] after above = value_at-above k after above
value_at-left k (p ∷ ps) after above = ap (λ o. cond (k == p.0) (Some p.1) o) (value_at-left k ps after above)

pub value_at-right : (k : ℕ) (before ps : Pairs) → AreBelow k before → value_at k (before ++ ps) ≡ value_at k ps
value_at-right k [] ps below = refl
value_at-right k (p ∷ before) ps below = value_at-skip k p (before ++ ps) (λ same. omega (arith, below.0))
    ∙ value_at-right k before ps below.1

pub value_at-between : (k : ℕ) (before ps after : Pairs) → AreBelow k before → AreAbove k after
    → value_at k (before ++ (ps ++ after)) ≡ value_at k ps
value_at-between k before ps after below above = value_at-right k before (ps ++ after) below
    ∙ value_at-left k ps after above

put-above : (k v : ℕ) (after : Pairs) → AreAbove k after → put k v after ≡ (k, v) ∷ after
put-above k v [] above = refl
put-above k v (p ∷ after) above = put-front k v p after above.0

choice_before : (first second : Bool) (a b c whole after : Pairs) → whole ≡ c ++ after
    → cond first (a ++ after) (cond second (b ++ after) whole) ≡ cond first a (cond second b c) ++ after
choice_before true second a b c whole after same = refl
choice_before false true a b c whole after same = refl
choice_before false false a b c whole after same = same

pub put-left : (k v : ℕ) (ps after : Pairs) → AreAbove k after → put k v (ps ++ after) ≡ put k v ps ++ after
put-left k v [] after above = put-above k v after above
put-left k v (p ∷ ps) after above =
    choice_before (nat_lt k p.0) (k == p.0) ((k, v) ∷ p ∷ ps) ((k, v) ∷ ps) (p ∷ put k v ps)
    (p ∷ put k v (ps ++ after)) after
    (ap (λ (qs : Pairs). p ∷ qs) (put-left k v ps after above))

pub put-right : (k v : ℕ) (before ps : Pairs) → AreBelow k before → put k v (before ++ ps) ≡ before ++ put k v ps
put-right k v [] ps below = refl
put-right k v (p ∷ before) ps below = put-skip k v p (before ++ ps) below.0
    ∙ ap (λ (qs : Pairs). p ∷ qs) (put-right k v before ps below.1)

pub put-between : (k v : ℕ) (before ps after : Pairs) → AreBelow k before → AreAbove k after
    → put k v (before ++ (ps ++ after)) ≡ before ++ (put k v ps ++ after)
put-between k v before ps after below above =
    put-right k v before (ps ++ after) below ∙ ap (λ (qs : Pairs). before ++ qs) (put-left k v ps after above)

without-below : (k : ℕ) (ps : Pairs) → AreBelow k ps → without k ps ≡ ps
without-below k [] below = refl
without-below k (p ∷ ps) below = without-skip k p ps (λ same. omega (arith, below.0))
    ∙ ap (λ (qs : Pairs). p ∷ qs) (without-below k ps below.1)

without-above : (k : ℕ) (ps : Pairs) → AreAbove k ps → without k ps ≡ ps
without-above k [] above = refl
without-above k (p ∷ ps) above = without-skip k p ps (λ same. omega (arith, above.0))
    ∙ ap (λ (qs : Pairs). p ∷ qs) (without-above k ps above.1)

pub without-left : (k : ℕ) (ps after : Pairs) → AreAbove k after → without k (ps ++ after) ≡ without k ps ++ after
without-left k [] after above = without-above k after above
without-left k (p ∷ ps) after above =
    choice_before false (k == p.0) [] ps (p ∷ without k ps) (p ∷ without k (ps ++ after)) after
    (ap (λ (qs : Pairs). p ∷ qs) (without-left k ps after above))

pub without-right : (k : ℕ) (before ps : Pairs) → AreBelow k before → without k (before ++ ps) ≡ before ++ without k ps
without-right k [] ps below = refl
without-right k (p ∷ before) ps below =
    without-skip k p (before ++ ps) (λ same. omega (arith, below.0))
    ∙ ap (λ (qs : Pairs). p ∷ qs) (without-right k before ps below.1)

pub without-between : (k : ℕ) (before ps after : Pairs) → AreBelow k before → AreAbove k after
    → without k (before ++ (ps ++ after)) ≡ before ++ (without k ps ++ after)
without-between k before ps after below above =
    without-right k before (ps ++ after) below ∙ ap (λ (qs : Pairs). before ++ qs) (without-left k ps after above)

pub found_or-None : (o : Option (ℕ × ℕ)) → o ≡ found_or o None
found_or-None None = refl
found_or-None (Some p) = refl

pub ceil_of-stop : (k : ℕ) (p : ℕ × ℕ) (ps : Pairs) → k ≤ p.0 → ceil_of k (p ∷ ps) ≡ Some p
ceil_of-stop k p ps le = cond-true (nat_le k p.0) _ _ (le-leb k p.0 le)

pub ceil_of-skip : (k : ℕ) (p : ℕ × ℕ) (ps : Pairs) → p.0 < k → ceil_of k (p ∷ ps) ≡ ceil_of k ps
ceil_of-skip k p ps less = cond-false (nat_le k p.0) _ _ (lt-leb k p.0 less)

pub ceil_of-between : (k : ℕ) (before ps : Pairs) → AreBelow k before → ceil_of k (before ++ ps) ≡ ceil_of k ps
ceil_of-between k [] ps below = refl
ceil_of-between k (p ∷ before) ps below = ceil_of-skip k p (before ++ ps) below.0 ∙ ceil_of-between k before ps below.1

first_choice : (test : Bool) (p : ℕ × ℕ) (whole part other : Option (ℕ × ℕ)) → whole ≡ found_or part other
    → cond test (Some p) whole ≡ found_or (cond test (Some p) part) other
first_choice true p whole part other same = refl
first_choice false p whole part other same = same

-- the least key from k up is in the front part, or else in the back part
pub ceil_of-append : (k : ℕ) (ps after : Pairs) → ceil_of k (ps ++ after) ≡ found_or (ceil_of k ps) (ceil_of k after)
ceil_of-append k [] after = refl
ceil_of-append k (p ∷ ps) after = first_choice (nat_le k p.0) p _ _ _ (ceil_of-append k ps after)

pub ceil_of-above : (k : ℕ) (ps : Pairs) → AreAbove k ps → ceil_of k ps ≡ first_of ps
ceil_of-above k [] above = refl
ceil_of-above k (p ∷ ps) above = ceil_of-stop k p ps (omega (arith, above.0))

-- the least key from k up is in the middle, or else it is the first one after
pub ceil_of-between_both : (k : ℕ) (before ps after : Pairs) → AreBelow k before → AreAbove k after
    → ceil_of k (before ++ (ps ++ after)) ≡ found_or (ceil_of k ps) (first_of after)
ceil_of-between_both k before ps after below above =
    ceil_of-between k before (ps ++ after) below ∙ ceil_of-append k ps after
    ∙ ap (found_or (ceil_of k ps)) (ceil_of-above k after above)

pub ceil_of-below : (k : ℕ) (ps : Pairs) → AreBelow k ps → ceil_of k ps ≡ None
ceil_of-below k [] below = refl
ceil_of-below k (p ∷ ps) below = ceil_of-skip k p ps below.0 ∙ ceil_of-below k ps below.1

pub floor_of-stop : (k : ℕ) (p : ℕ × ℕ) (ps : Pairs) → k < p.0 → floor_of k (p ∷ ps) ≡ None
floor_of-stop k p ps less = cond-false (nat_le p.0 k) _ _ (lt-leb p.0 k less)

pub floor_of-take : (k : ℕ) (p : ℕ × ℕ) (ps : Pairs) → p.0 ≤ k → floor_of k (p ∷ ps) ≡ later p (floor_of k ps)
floor_of-take k p ps le = cond-true (nat_le p.0 k) _ _ (le-leb p.0 k le)

pub floor_of-above : (k : ℕ) (ps : Pairs) → AreAbove k ps → floor_of k ps ≡ None
floor_of-above k [] above = refl
floor_of-above k (p ∷ ps) above = floor_of-stop k p ps above.0

pub floor_of-below : (k : ℕ) (ps : Pairs) → AreBelow k ps → floor_of k ps ≡ last_of ps
floor_of-below k [] below = refl
floor_of-below k (p ∷ ps) below = floor_of-take k p ps (omega (arith, below.0))
    ∙ ap (later p) (floor_of-below k ps below.1)

-- what lies above the key changes no floor
pub floor_of-left : (k : ℕ) (ps after : Pairs) → AreAbove k after → floor_of k (ps ++ after) ≡ floor_of k ps
floor_of-left k [] after above = floor_of-above k after above
floor_of-left k (p ∷ ps) after above = ap (λ o. cond (nat_le p.0 k) (later p o) None) (floor_of-left k ps after above)

later_found : (p : ℕ × ℕ) (o other : Option (ℕ × ℕ)) → later p (found_or o other) ≡ found_or o (later p other)
later_found p None other = refl
later_found p (Some q) other = refl

-- the greatest key down from k is in the back part, or else it is the last one of the front part
pub floor_of-right : (k : ℕ) (before ps : Pairs) → AreBelow k before
    → floor_of k (before ++ ps) ≡ found_or (floor_of k ps) (last_of before)
floor_of-right k [] ps below = found_or-None (floor_of k ps)
floor_of-right k (p ∷ before) ps below =
    floor_of-take k p (before ++ ps) (omega (arith, below.0))
    ∙ ap (later p) (floor_of-right k before ps below.1)
    ∙ later_found p (floor_of k ps) (last_of before)

-- the greatest key down from k is in the middle, or else it is the last one before
pub floor_of-between : (k : ℕ) (before ps after : Pairs) → AreBelow k before → AreAbove k after
    → floor_of k (before ++ (ps ++ after)) ≡ found_or (floor_of k ps) (last_of before)
floor_of-between k before ps after below above =
    floor_of-right k before (ps ++ after) below
    ∙ ap (λ o. found_or o (last_of before)) (floor_of-left k ps after above)

-- The nearest keys, at a pair with smaller keys before it and greater keys behind

-- a pair from k up is the ceil, unless there is one before it
pub ceil_of-front : (k : ℕ) (a : Pairs) (p : ℕ × ℕ) (b : Pairs) → k ≤ p.0
    → ceil_of k (a ++ (p ∷ b)) ≡ found_or (ceil_of k a) (Some p)
ceil_of-front k a p b le = ceil_of-append k a (p ∷ b) ∙ ap (found_or (ceil_of k a)) (ceil_of-stop k p b le)

pub ceil_of-back : (k : ℕ) (a : Pairs) (p : ℕ × ℕ) (b : Pairs) → AreBelow p.0 a → p.0 < k
    → ceil_of k (a ++ (p ∷ b)) ≡ ceil_of k b
ceil_of-back k a p b below less = ceil_of-between k a (p ∷ b) (below_weaker p.0 k a (omega arith) below)
    ∙ ceil_of-skip k p b less

pub ceil_of-here : (k : ℕ) (a : Pairs) (p : ℕ × ℕ) (b : Pairs) → AreBelow p.0 a → k ≡ p.0
    → ceil_of k (a ++ (p ∷ b)) ≡ Some p
ceil_of-here k a p b below same = ceil_of-between k a (p ∷ b) (below_weaker p.0 k a (omega arith) below)
    ∙ ceil_of-stop k p b (omega arith)

pub floor_of-front : (k : ℕ) (a : Pairs) (p : ℕ × ℕ) (b : Pairs) → AreAbove p.0 b → k < p.0
    → floor_of k (a ++ (p ∷ b)) ≡ floor_of k a
floor_of-front k a p b above less = floor_of-left k a (p ∷ b) (less, above_weaker k p.0 b (omega arith) above)

later_found_or : (p : ℕ × ℕ) (o other : Option (ℕ × ℕ)) → found_or (later p o) other ≡ found_or o (Some p)
later_found_or p None other = refl
later_found_or p (Some q) other = refl

-- a pair down from k is the floor, unless there is one behind it
pub floor_of-back : (k : ℕ) (a : Pairs) (p : ℕ × ℕ) (b : Pairs) → AreBelow p.0 a → p.0 ≤ k
    → floor_of k (a ++ (p ∷ b)) ≡ found_or (floor_of k b) (Some p)
floor_of-back k a p b below le =
    floor_of-right k a (p ∷ b) (below_weaker p.0 k a le below)
    ∙ ap (λ o. found_or o (last_of a)) (floor_of-take k p b le)
    ∙ later_found_or p (floor_of k b) (last_of a)

pub floor_of-here : (k : ℕ) (a : Pairs) (p : ℕ × ℕ) (b : Pairs) → AreBelow p.0 a → AreAbove p.0 b → k ≡ p.0
    → floor_of k (a ++ (p ∷ b)) ≡ Some p
floor_of-here k a p b below above same =
    floor_of-back k a p b below (omega arith)
    ∙ ap (λ o. found_or o (Some p)) (floor_of-above k b (above_weaker k p.0 b (omega arith) above))

-- The ends

pub last_of-push : (ps : Pairs) (p : ℕ × ℕ) → last_of (ps ++ (p ∷ [])) ≡ Some p
last_of-push [] p = refl
last_of-push (q ∷ ps) p = ap (later q) (last_of-push ps p)

-- Rising keys

rises_weaker : (low high : ℕ) (ps : Pairs) → low ≤ high → RisesFrom high ps → RisesFrom low ps
rises_weaker low high [] le rises = tt
rises_weaker low high (p ∷ ps) le rises = (omega (arith, rises.0), rises.1)

pub rises_above : (k low : ℕ) (ps : Pairs) → k < low → RisesFrom low ps → AreAbove k ps
rises_above k low [] less rises = tt
rises_above k low (p ∷ ps) less rises =
    (omega (arith, rises.0), rises_above k (p.0 + 1) ps (omega (arith, rises.0)) rises.1)

pub rises_front : (low : ℕ) (a b : Pairs) → RisesFrom low (a ++ b) → RisesFrom low a
rises_front low [] b rises = tt
rises_front low (p ∷ a) b rises = (rises.0, rises_front (p.0 + 1) a b rises.1)

pub rises_back : (low : ℕ) (a b : Pairs) → RisesFrom low (a ++ b) → RisesFrom low b
rises_back low [] b rises = rises
rises_back low (p ∷ a) b rises =
    rises_weaker low (p.0 + 1) b (omega (arith, rises.0)) (rises_back (p.0 + 1) a b rises.1)

rises_reaches : (low : ℕ) (a : Pairs) (p : ℕ × ℕ) (b : Pairs) → RisesFrom low (a ++ (p ∷ b)) → low ≤ p.0
rises_reaches low [] p b rises = rises.0
rises_reaches low (q ∷ a) p b rises = omega (arith, rises.0, rises_reaches (q.0 + 1) a p b rises.1)

rises_around : (low : ℕ) (a : Pairs) (p : ℕ × ℕ) (b : Pairs) → RisesFrom low (a ++ (p ∷ b))
    → AreBelow p.0 a × AreAbove p.0 b
rises_around low [] p b rises = (tt, rises_above p.0 (p.0 + 1) b (omega arith) rises.1)
rises_around low (q ∷ a) p b rises =
    let rest = rises_around (q.0 + 1) a p b rises.1 in
    ((omega (arith, rises_reaches (q.0 + 1) a p b rises.1), rest.0), rest.1)

pub rising_around : (a : Pairs) (p : ℕ × ℕ) (b : Pairs) → IsRising (a ++ (p ∷ b)) → AreBelow p.0 a × AreAbove p.0 b
rising_around a p b rising = rises_around 0 a p b rising

pub rising_front : (a b : Pairs) → IsRising (a ++ b) → IsRising a
rising_front a b rising = rises_front 0 a b rising

pub rising_back : (a b : Pairs) → IsRising (a ++ b) → IsRising b
rising_back a b rising = rises_back 0 a b rising

rises_from_above : (k low : ℕ) (ps : Pairs) → AreAbove k ps → RisesFrom low ps → RisesFrom (k + 1) ps
rises_from_above k low [] above rises = tt
rises_from_above k low (p ∷ ps) above rises = (omega (arith, above.0), rises.1)

rises_join : (low : ℕ) (a : Pairs) (p : ℕ × ℕ) (b : Pairs) → low ≤ p.0 → RisesFrom low a → AreBelow p.0 a
    → RisesFrom (p.0 + 1) b → RisesFrom low (a ++ (p ∷ b))
rises_join low [] p b le rises below after = (le, after)
rises_join low (q ∷ a) p b le rises below after =
    (rises.0, rises_join (q.0 + 1) a p b (omega (arith, below.0)) rises.1 below.1 after)

pub rising_join : (a : Pairs) (p : ℕ × ℕ) (b : Pairs) → IsRising a → AreBelow p.0 a → IsRising b → AreAbove p.0 b
    → IsRising (a ++ (p ∷ b))
rising_join a p b rising_a below rising_b above =
    rises_join 0 a p b (omega arith) rising_a below (rises_from_above p.0 0 b above rising_b)

put_rises_from : (low k v : ℕ) (ps : Pairs) → low ≤ k → RisesFrom low ps → RisesFrom low (put k v ps)
put_rises_from low k v [] le rises = (le, tt)
put_rises_from low k v (p ∷ ps) le rises = cond_both (nat_lt k p.0) _ _ (RisesFrom low)
    (λ test. let less : k < p.0 = ltb-true k p.0 test in (le, (omega arith, rises.1)))
    (λ not_less. cond_both (k == p.0) _ _ (RisesFrom low)
    (λ test. let same : k ≡ p.0 = eqb-true k p.0 test in (le, rises_weaker (k + 1) (p.0 + 1) ps (omega arith) rises.1))
    (λ test. let le_key : p.0 ≤ k = ltb-false k p.0 not_less in
    let differs : k ≡ p.0 → ⊥ = eqb-false k p.0 test in
    (rises.0, put_rises_from (p.0 + 1) k v ps (omega arith) rises.1)))

pub put_rises : (k v : ℕ) (ps : Pairs) → IsRising ps → IsRising (put k v ps)
put_rises k v ps rising = put_rises_from 0 k v ps (omega arith) rising

without_rises_from : (low k : ℕ) (ps : Pairs) → RisesFrom low ps → RisesFrom low (without k ps)
without_rises_from low k [] rises = tt
without_rises_from low k (p ∷ ps) rises = cond_both (k == p.0) ps (p ∷ without k ps) (RisesFrom low)
    (λ _. rises_weaker low (p.0 + 1) ps (omega (arith, rises.0)) rises.1)
    (λ _. (rises.0, without_rises_from (p.0 + 1) k ps rises.1))

pub without_rises : (k : ℕ) (ps : Pairs) → IsRising ps → IsRising (without k ps)
without_rises k ps rising = without_rises_from 0 k ps rising

-- Keys

pub HasKey-left : (k : ℕ) (a b : Pairs) → HasKey k a → HasKey k (a ++ b)
HasKey-left k [] b has = absurd has
HasKey-left k (p ∷ a) b (inl same) = inl same
HasKey-left k (p ∷ a) b (inr has) = inr (HasKey-left k a b has)

pub HasKey-right : (k : ℕ) (a b : Pairs) → HasKey k b → HasKey k (a ++ b)
HasKey-right k [] b has = has
HasKey-right k (p ∷ a) b has = inr (HasKey-right k a b has)

either_further : {A B C : Type 0} → B ⊎ C → (A ⊎ B) ⊎ C
either_further (inl b) = inl (inr b)
either_further (inr c) = inr c

pub HasKey-split : (k : ℕ) (a b : Pairs) → HasKey k (a ++ b) → HasKey k a ⊎ HasKey k b
HasKey-split k [] b has = inr has
HasKey-split k (p ∷ a) b (inl same) = inl (inl same)
HasKey-split k (p ∷ a) b (inr has) = either_further (HasKey-split k a b has)

pub HasKey-join : (k : ℕ) (a b : Pairs) → HasKey k a ⊎ HasKey k b → HasKey k (a ++ b)
HasKey-join k a b (inl has) = HasKey-left k a b has
HasKey-join k a b (inr has) = HasKey-right k a b has

pub HasKey_below : (j k : ℕ) (ps : Pairs) → AreBelow j ps → HasKey k ps → k < j
HasKey_below j k [] below has = absurd has
HasKey_below j k (p ∷ ps) below (inl same) = omega (arith, below.0)
HasKey_below j k (p ∷ ps) below (inr has) = HasKey_below j k ps below.1 has

pub HasKey_above : (j k : ℕ) (ps : Pairs) → AreAbove j ps → HasKey k ps → j < k
HasKey_above j k [] above has = absurd has
HasKey_above j k (p ∷ ps) above (inl same) = omega (arith, above.0)
HasKey_above j k (p ∷ ps) above (inr has) = HasKey_above j k ps above.1 has

once_from : (low k : ℕ) (a b : Pairs) → RisesFrom low (a ++ b) → HasKey k a → HasKey k b → ⊥
once_from low k [] b rises in_a in_b = in_a
once_from low k (p ∷ a) b rises (inl same) in_b =
    let less : p.0 < k =
    HasKey_above p.0 k b (rises_above p.0 (p.0 + 1) b (omega arith) (rises_back (p.0 + 1) a b rises.1)) in_b in
    omega arith
once_from low k (p ∷ a) b rises (inr in_a) in_b = once_from (p.0 + 1) k a b rises.1 in_a in_b

-- a key of rising pairs stands in one part of the list only
pub not_twice : (k v w : ℕ) (a b : Pairs) → IsRising (a ++ b) → HasKey k a → HasKey k b → ⊥
not_twice k v w a b rising in_a in_b = once_from 0 k a b rising in_a in_b

pub value_at-HasKey : (k v : ℕ) (ps : Pairs) → value_at k ps ≡ Some v → HasKey k ps
value_at-HasKey k v [] is = cc
value_at-HasKey k v (p ∷ ps) is = elim (cases_eq k p.0) [
  | inl same ↦ inl same
  | inr differs ↦ inr (value_at-HasKey k v ps (sym (value_at-skip k p ps differs) ∙ is))
]

pub value_at-absent : (k : ℕ) (ps : Pairs) → (HasKey k ps → ⊥) → value_at k ps ≡ None
value_at-absent k [] absent = refl
value_at-absent k (p ∷ ps) absent = value_at-skip k p ps (λ same. absent (inl same))
    ∙ value_at-absent k ps (λ has. absent (inr has))

-- Small keys and values

pub AreSmall-join : (a b : Pairs) → AreSmall a → AreSmall b → AreSmall (a ++ b)
AreSmall-join [] b small_a small_b = small_b
AreSmall-join (p ∷ a) b small_a small_b = (small_a.0, small_a.1, AreSmall-join a b small_a.2 small_b)

pub AreSmall-split : (a b : Pairs) → AreSmall (a ++ b) → AreSmall a × AreSmall b
AreSmall-split [] b small = (tt, small)
AreSmall-split (p ∷ a) b small = let rest = AreSmall-split a b small.2 in ((small.0, small.1, rest.0), rest.1)

pub put_small : (k v : ℕ) (ps : Pairs) → k ≤ 999999999999999999 → v ≤ 999999999999999999 → AreSmall ps
    → AreSmall (put k v ps)
put_small k v [] small_key small_value small = (small_key, small_value, tt)
put_small k v (p ∷ ps) small_key small_value small = cond_both (nat_lt k p.0) _ _ AreSmall
    (λ _. (small_key, small_value, small))
    (λ _. cond_both (k == p.0) _ _ AreSmall
    (λ _. (small_key, small_value, small.2))
    (λ _. (small.0, small.1, put_small k v ps small_key small_value small.2)))

pub without_small : (k : ℕ) (ps : Pairs) → AreSmall ps → AreSmall (without k ps)
without_small k [] small = tt
without_small k (p ∷ ps) small = cond_both (k == p.0) _ _ AreSmall
    (λ _. small.2)
    (λ _. (small.0, small.1, without_small k ps small.2))
