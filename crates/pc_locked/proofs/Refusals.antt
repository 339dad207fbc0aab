-- A call is refused where its key is new and there are as many pairs as slots, and never else.
use Rattle.std.proofs.Common.{◌≡◌, ℕ, suc, ◌≤◌, ◌==◌, nat_lt, if◌then◌else◌, [], ◌∷◌, length}
use Rattle.std.proofs.Common.{Some, None, sym, ap, ◌∙◌, refl, arith}
use Rattle.std.proofs.lemmas.Bool.{cond_both, cond-true, cond-false}
use Rattle.pc_model.specs.declared.call.Call.{Call}
use Rattle.pc_model.specs.declared.call.Call.TheVariants.{Put, Get, Remove, Ceil, Floor}
use Rattle.pc_model.specs.Map.{Pairs, value_at, put, pairs_after}
use Rattle.pc_model.specs.Trees.{Kind, size_of, IsSearchTree}
use Rattle.pc_model.proofs.Counting.{length-pairs_of}
use Rattle.pc_model.proofs.Soundness.{search_tree_size}
use Rattle.pc_plain.specs.PlainCells.{PlainWords, cells_of}
use Rattle.pc_locked.specs.Answers.{WantsSlotInVain}

-- a put of a new key makes one pair more
length-put_new : (k v : ℕ) (ps : Pairs) → value_at k ps ≡ None → length (put k v ps) ≡ suc (length ps)
length-put_new k v [] new = refl
length-put_new k v (p ∷ ps) new =
    cond_both (nat_lt k p.0) ((k, v) ∷ p ∷ ps) (if k == p.0 then (k, v) ∷ ps else p ∷ put k v ps)
    (λ (qs : Pairs). length qs ≡ suc (suc (length ps)))
    (λ _. refl)
    (λ _. cond_both (k == p.0) ((k, v) ∷ ps) (p ∷ put k v ps) (λ (qs : Pairs). length qs ≡ suc (suc (length ps)))
    (λ same. absurd (let there : Some p.1 ≡ None = sym (cond-true (k == p.0) (Some p.1) (value_at k ps) same) ∙ new
    in cc))
    (λ other. ap suc (length-put_new k v ps
    (sym (cond-false (k == p.0) (Some p.1) (value_at k ps) other) ∙ new))))

-- a tree has no more pairs than slots
pub pairs_fit : (kind : Kind) (slots : ℕ) {c : _} (ps : Pairs) → IsSearchTree kind slots c ps → length ps ≤ slots
pairs_fit kind slots {c} ps s =
    let size : size_of s.tree ≤ slots = search_tree_size kind slots c ps s in
    let pairs : length ps ≡ size_of s.tree = ap length (sym s.pairs) ∙ length-pairs_of c s.tree in
    omega arith

-- what was granted didn't want a slot in vain
pub granted : (kind : Kind) (call : Call) (old new : PlainWords) (ps : Pairs) → new.slots ≡ old.slots
    → IsSearchTree kind new.slots (cells_of new) (pairs_after call ps) → WantsSlotInVain call ps old.slots → ⊥
granted kind (Put k v) old new ps size tree vain =
    let more : length (put k v ps) ≡ suc (length ps) = length-put_new k v ps vain.0 in
    let fit : length (put k v ps) ≤ new.slots = pairs_fit kind new.slots (put k v ps) tree in
    let full : length ps ≡ old.slots = vain.1 in
    absurd (omega arith)
granted kind (Get k) old new ps size tree vain = vain.0
granted kind (Remove k) old new ps size tree vain = vain.0
granted kind (Ceil k) old new ps size tree vain = vain.0
granted kind (Floor k) old new ps size tree vain = vain.0
