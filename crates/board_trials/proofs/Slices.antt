-- A list that was lent whole, as it comes back.
use Rattle.std.proofs.Common.{◌≡◌, ℕ, List, [], ◌∷◌, ◌++◌, length, take, drop, refl, sym, ap, ◌∙◌}

front_whole : {V : Type 0} (l m : List V) → take (length l) (l ++ m) ≡ l
front_whole [] m = refl
front_whole {V} (x ∷ xs) m = ap (λ (t : List V). x ∷ t) (front_whole xs m)

pub back_whole : {V : Type 0} (new old : List V) (n : ℕ) → n ≡ length old → length new ≡ length old → take n (new ++ drop (length new) old) ≡ new
back_whole {V} new old n is same = ap (λ (k : ℕ). take k (new ++ drop (length new) old)) (is ∙ sym same) ∙ front_whole new (drop (length new) old)
