-- How many pairs a call leaves: at most one more, and that for a put alone.
use Rattle.std.proofs.Common.{◌≡◌, ℕ, zero, suc, ◌+◌, ◌≤◌, ◌==◌, if◌then◌else◌, Bool, true, false, List, [], ◌∷◌}
use Rattle.std.proofs.Common.{◌++◌, length, take, arith}
use Rattle.std.specs.Prelude.{nat_lt}
use Rattle.std.proofs.lemmas.Bool.{cond_both}
use Rattle.pc_model.specs.declared.call.Call.{Call}
use Rattle.pc_model.specs.declared.call.Call.TheVariants.{Put, Get, Remove, Ceil, Floor}
use Rattle.pc_model.specs.Counts.{one_if}
use Rattle.pc_model.specs.Map.{Pairs, put, without, pairs_after}
use Rattle.pc_model.specs.Calls.{is_put, puts_in}

pub length-put : (k v : ℕ) (ps : Pairs) → length (put k v ps) ≤ suc (length ps)
length-put k v [] = omega arith
length-put k v (p ∷ ps) = let ih : length (put k v ps) ≤ suc (length ps) = length-put k v ps in
    cond_both (nat_lt k p.0) ((k, v) ∷ p ∷ ps) (if k == p.0 then (k, v) ∷ ps else p ∷ put k v ps)
    (λ (x : Pairs). length x ≤ suc (suc (length ps)))
    (λ _. omega arith)
    (λ _. cond_both (k == p.0) ((k, v) ∷ ps) (p ∷ put k v ps) (λ (x : Pairs). length x ≤ suc (suc (length ps)))
    (λ _. omega arith) (λ _. omega arith))

pub length-without : (k : ℕ) (ps : Pairs) → length (without k ps) ≤ length ps
length-without k [] = omega arith
length-without k (p ∷ ps) = let ih : length (without k ps) ≤ length ps = length-without k ps in
    cond_both (k == p.0) ps (p ∷ without k ps) (λ (x : Pairs). length x ≤ suc (length ps)) (λ _. omega arith)
    (λ _. omega arith)

pub length-pairs_after : (call : Call) (ps : Pairs) → length (pairs_after call ps) ≤ one_if (is_put call) + length ps
length-pairs_after (Put k v) ps = let e : length (put k v ps) ≤ suc (length ps) = length-put k v ps in omega arith
length-pairs_after (Get k) ps = omega arith
length-pairs_after (Remove k) ps = let e : length (without k ps) ≤ length ps = length-without k ps in omega arith
length-pairs_after (Ceil k) ps = omega arith
length-pairs_after (Floor k) ps = omega arith

pub puts_in-push : (calls : List Call) (call : Call)
    → puts_in (calls ++ (call ∷ [])) ≡ puts_in calls + one_if (is_put call)
puts_in-push [] call = omega arith
puts_in-push (c ∷ calls) call = let ih : puts_in (calls ++ (call ∷ [])) ≡ puts_in calls + one_if (is_put call) =
    puts_in-push calls call in omega arith

-- a front of the calls has no more puts
pub puts_in-take : (n : ℕ) (calls : List Call) → puts_in (take n calls) ≤ puts_in calls
puts_in-take zero calls = omega arith
puts_in-take (suc n) [] = omega arith
puts_in-take (suc n) (c ∷ calls) = let ih : puts_in (take n calls) ≤ puts_in calls = puts_in-take n calls in
    omega arith

pub one_if-le-one : (b : Bool) → one_if b ≤ 1
one_if-le-one true = omega arith
one_if-le-one false = omega arith
