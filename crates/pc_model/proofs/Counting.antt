-- Counting: a list in which each slot stands at most once, and nothing else, is no longer than there are
-- slots; one in which each slot stands is no shorter. So for the nodes of a tree.
use Rattle.std.proofs.Common.{◌≡◌, ◌≢◌, ℕ, zero, suc, ◌+◌, ◌<◌, ◌≤◌, ◌==◌, inl, inr, ⊎_elim, if◌then◌else◌, true}
use Rattle.std.proofs.Common.{false, List, [], ◌∷◌, ◌++◌, length, refl, sym, ap, ◌∙◌, subst, arith, length-append}
use Rattle.std.proofs.lemmas.Bool.{cases_eq, eq-eqb, ne_eqb, cond-true, cond-false}
use Rattle.pc_model.specs.Map.{IsRising}
use Rattle.pc_model.specs.Cells.{Cells, IsSlot}
use Rattle.pc_model.specs.Counts.{count, one_if}
use Rattle.pc_model.specs.Trees.{Tree, Empty, Fork, Kind, Spells, IsIn, size_of, nodes_of, pair_of, pairs_of}
use Rattle.pc_model.proofs.Framing.{is_in_or_not, slot_in, Apart, apart_from_rising}

-- the list without a number
abbrev others : ℕ → List ℕ → List ℕ
others n [] = []
others n (x ∷ xs) = if x == n then others n xs else x ∷ others n xs

pub count-here : (n : ℕ) (xs : List ℕ) → count n (n ∷ xs) ≡ suc (count n xs)
count-here n xs = let e : (n == n) ≡ true = eq-eqb n n refl in let f : one_if (n == n) ≡ 1 = ap one_if e in
    omega (arith, f)

pub count-else : (n x : ℕ) (xs : List ℕ) → x ≢ n → count n (x ∷ xs) ≡ count n xs
count-else n x xs ne = let e : (x == n) ≡ false = ne_eqb x n ne in let f : one_if (x == n) ≡ 0 = ap one_if e in
    omega (arith, f)

pub count-append : (n : ℕ) (xs ys : List ℕ) → count n (xs ++ ys) ≡ count n xs + count n ys
count-append n [] ys = omega arith
count-append n (x ∷ xs) ys = let e : count n (xs ++ ys) ≡ count n xs + count n ys = count-append n xs ys in
    omega (arith, e)

length_without : (n : ℕ) (xs : List ℕ) → length xs ≡ count n xs + length (others n xs)
length_without n [] = omega arith
length_without n (x ∷ xs) = let ih : length xs ≡ count n xs + length (others n xs) = length_without n xs in ⊎_elim
    (λ e. let t : (x == n) ≡ true = eq-eqb x n e in
    let a : others n (x ∷ xs) ≡ others n xs = cond-true (x == n) (others n xs) (x ∷ others n xs) t in
    let b : one_if (x == n) ≡ 1 = ap one_if t in rw a (omega (arith, b, ih)))
    (λ ne. let t : (x == n) ≡ false = ne_eqb x n ne in
    let a : others n (x ∷ xs) ≡ x ∷ others n xs = cond-false (x == n) (others n xs) (x ∷ others n xs) t in
    let b : one_if (x == n) ≡ 0 = ap one_if t in rw a (omega (arith, b, ih)))
    (cases_eq x n)

count-others_same : (n : ℕ) (xs : List ℕ) → count n (others n xs) ≡ 0
count-others_same n [] = refl
count-others_same n (x ∷ xs) = ⊎_elim
    (λ e. let t : (x == n) ≡ true = eq-eqb x n e in
    rw (cond-true (x == n) (others n xs) (x ∷ others n xs) t) (count-others_same n xs))
    (λ ne. let t : (x == n) ≡ false = ne_eqb x n ne in
    rw (cond-false (x == n) (others n xs) (x ∷ others n xs) t) (count-else n x (others n xs) ne
    ∙ count-others_same n xs))
    (cases_eq x n)

count-others : (n m : ℕ) (xs : List ℕ) → m ≢ n → count m (others n xs) ≡ count m xs
count-others n m [] ne = refl
count-others n m (x ∷ xs) ne = ⊎_elim
    (λ e. let t : (x == n) ≡ true = eq-eqb x n e in
    rw (cond-true (x == n) (others n xs) (x ∷ others n xs) t) (count-others n m xs ne
    ∙ sym (count-else m x xs (λ d. ne (sym d ∙ e)))))
    (λ xn. let t : (x == n) ≡ false = ne_eqb x n xn in
    rw (cond-false (x == n) (others n xs) (x ∷ others n xs) t) (let ih : count m (others n xs) ≡ count m xs =
    count-others n m xs ne in omega (arith, ih)))
    (cases_eq x n)

none_of_nothing : (xs : List ℕ) → ((n : ℕ) → count n xs ≡ 0) → length xs ≡ 0
none_of_nothing [] none = refl
none_of_nothing (x ∷ xs) none = let e : count x (x ∷ xs) ≡ suc (count x xs) = count-here x xs in
    let z : count x (x ∷ xs) ≡ 0 = none x in absurd (omega (arith, e, z))

-- each number at most once, and slots alone: no more of them than slots
pub length-le-slots : (slots : ℕ) (xs : List ℕ) → ((n : ℕ) → count n xs ≤ 1)
    → ((n : ℕ) → 0 < count n xs → IsSlot slots n) → length xs ≤ slots
length-le-slots zero xs once slot =
    let none : (n : ℕ) → count n xs ≡ 0 = λ n. ⊎_elim (λ e. e) (λ ne. let s : IsSlot 0 n = slot n (omega arith) in
    absurd (omega arith)) (cases_eq (count n xs) 0) in
    let e : length xs ≡ 0 = none_of_nothing xs none in omega arith
length-le-slots (suc slots) xs once slot =
    let top : ℕ = slots + 2 in
    let rest : List ℕ = others top xs in
    let less : (n : ℕ) → count n rest ≤ count n xs = λ n. ⊎_elim
    (λ e. let z : count n rest ≡ 0 = rw e (count-others_same top xs) in omega arith)
    (λ ne. let s : count n rest ≡ count n xs = count-others top n xs ne in omega arith) (cases_eq n top) in
    let once' : (n : ℕ) → count n rest ≤ 1 = λ n. let a : count n rest ≤ count n xs = less n in
    let b : count n xs ≤ 1 = once n in omega arith in
    let slot' : (n : ℕ) → 0 < count n rest → IsSlot slots n = λ n h. ⊎_elim
    (λ e. let z : count n rest ≡ 0 = rw e (count-others_same top xs) in absurd (omega arith))
    (λ ne. let a : count n rest ≤ count n xs = less n in let s : IsSlot (suc slots) n = slot n (omega arith) in
    let ne' : n ≢ slots + 2 = ne in (omega arith, omega arith)) (cases_eq n top) in
    let ih : length rest ≤ slots = length-le-slots slots rest once' slot' in
    let split : length xs ≡ count top xs + length rest = length_without top xs in
    let one : count top xs ≤ 1 = once top in
    omega arith

-- each slot at least once: no fewer of them than slots
pub slots-le-length : (slots : ℕ) (xs : List ℕ) → ((n : ℕ) → IsSlot slots n → 1 ≤ count n xs) → slots ≤ length xs
slots-le-length zero xs each = omega arith
slots-le-length (suc slots) xs each =
    let top : ℕ = slots + 2 in
    let rest : List ℕ = others top xs in
    let each' : (n : ℕ) → IsSlot slots n → 1 ≤ count n rest = λ n s.
    let ne : n ≢ top = λ e. let e' : n ≡ slots + 2 = e in absurd (omega arith) in
    let same : count n rest ≡ count n xs = count-others top n xs ne in
    let one : 1 ≤ count n xs = each n (omega arith, omega arith) in omega arith in
    let ih : slots ≤ length rest = slots-le-length slots rest each' in
    let split : length xs ≡ count top xs + length rest = length_without top xs in
    let one : 1 ≤ count top xs = each top (omega arith, omega arith) in
    omega arith

pub count_none : (n : ℕ) (t : Tree) → (IsIn n t → ⊥) → count n (nodes_of t) ≡ 0
count_none n Empty out = refl
count_none n (Fork m l r) out =
    let left : count n (nodes_of l) ≡ 0 = count_none n l (λ i. out (inr (inl i))) in
    let right : count n (nodes_of r) ≡ 0 = count_none n r (λ i. out (inr (inr i))) in
    let here : count n (m ∷ nodes_of r) ≡ count n (nodes_of r) =
    count-else n m (nodes_of r) (λ e. out (inl (sym e))) in
    let whole : count n (nodes_of l ++ (m ∷ nodes_of r)) ≡ count n (nodes_of l) + count n (m ∷ nodes_of r) =
    count-append n (nodes_of l) (m ∷ nodes_of r) in
    whole ∙ (let e : count n (nodes_of l) + count n (m ∷ nodes_of r) ≡ 0 = omega arith in e)

pub count_some : (n : ℕ) (t : Tree) → IsIn n t → 1 ≤ count n (nodes_of t)
count_some n Empty i = absurd i
count_some n (Fork m l r) i =
    let whole : count n (nodes_of l ++ (m ∷ nodes_of r)) ≡ count n (nodes_of l) + count n (m ∷ nodes_of r) =
    count-append n (nodes_of l) (m ∷ nodes_of r) in
    let sum : 1 ≤ count n (nodes_of l) + count n (m ∷ nodes_of r) = ⊎_elim
    (λ e. let here : count n (m ∷ nodes_of r) ≡ suc (count n (nodes_of r)) =
    subst (λ (x : ℕ). count n (x ∷ nodes_of r) ≡ suc (count n (nodes_of r))) e (count-here n (nodes_of r)) in
    omega (arith, here))
    (λ j. ⊎_elim (λ a. let ih : 1 ≤ count n (nodes_of l) = count_some n l a in
    omega (arith, ih)) (λ a. let ih : 1 ≤ count n (nodes_of r) = count_some n r a in omega (arith, ih)) j) i in
    omega (arith, whole, sum)

pub count_once : (c : Cells) (n : ℕ) (t : Tree) → IsRising (pairs_of c t) → count n (nodes_of t) ≤ 1
count_once c n Empty rising = omega arith
count_once c n (Fork m l r) rising =
    let a : Apart c m l r = apart_from_rising c m l r rising in
    let whole : count n (nodes_of l ++ (m ∷ nodes_of r)) ≡ count n (nodes_of l) + count n (m ∷ nodes_of r) =
    count-append n (nodes_of l) (m ∷ nodes_of r) in
    let ihl : count n (nodes_of l) ≤ 1 = count_once c n l a.left in
    let ihr : count n (nodes_of r) ≤ 1 = count_once c n r a.right in
    let sum : count n (nodes_of l) + count n (m ∷ nodes_of r) ≤ 1 = ⊎_elim
    (λ e. let here : count n (m ∷ nodes_of r) ≡ suc (count n (nodes_of r)) =
    subst (λ (x : ℕ). count n (x ∷ nodes_of r) ≡ suc (count n (nodes_of r))) e (count-here n (nodes_of r)) in
    let zl : count n (nodes_of l) ≡ 0 = count_none n l (λ i. a.not_left (subst (λ (x : ℕ). IsIn x l) e i)) in
    let zr : count n (nodes_of r) ≡ 0 = count_none n r (λ i. a.not_right (subst (λ (x : ℕ). IsIn x r) e i)) in
    omega (arith, here))
    (λ ne. let here : count n (m ∷ nodes_of r) ≡ count n (nodes_of r) =
    count-else n m (nodes_of r) (λ e. ne (sym e)) in ⊎_elim
    (λ i. let zr : count n (nodes_of r) ≡ 0 = count_none n r (λ j. a.not_both n i j) in omega (arith, here))
    (λ no. let zl : count n (nodes_of l) ≡ 0 = count_none n l no in omega (arith, here)) (is_in_or_not n l))
    (cases_eq n m) in
    omega (arith, whole, sum)

pub in_counted : (n : ℕ) (t : Tree) → 0 < count n (nodes_of t) → IsIn n t
in_counted n t some = ⊎_elim (λ i. i) (λ no. let z : count n (nodes_of t) ≡ 0 = count_none n t no in
    absurd (omega arith)) (is_in_or_not n t)

pub length-nodes_of : (t : Tree) → length (nodes_of t) ≡ size_of t
length-nodes_of Empty = refl
length-nodes_of (Fork n l r) =
    let a : length (nodes_of l) ≡ size_of l = length-nodes_of l in
    let b : length (nodes_of r) ≡ size_of r = length-nodes_of r in
    length-append (nodes_of l) (n ∷ nodes_of r)
    ∙ (let e : length (nodes_of l) + suc (length (nodes_of r)) ≡ suc (size_of l + size_of r) = omega arith in e)

pub length-pairs_of : (c : Cells) (t : Tree) → length (pairs_of c t) ≡ size_of t
length-pairs_of c Empty = refl
length-pairs_of c (Fork n l r) =
    let a : length (pairs_of c l) ≡ size_of l = length-pairs_of c l in
    let b : length (pairs_of c r) ≡ size_of r = length-pairs_of c r in
    length-append (pairs_of c l) (pair_of c n ∷ pairs_of c r)
    ∙ (let e : length (pairs_of c l) + suc (length (pairs_of c r)) ≡ suc (size_of l + size_of r) = omega arith in e)

-- a tree has no more nodes than there are slots
pub size-le-slots : (kind : Kind) (slots : ℕ) (c : Cells) (t : Tree) (above link : ℕ)
    → Spells kind slots c t above link → IsRising (pairs_of c t) → size_of t ≤ slots
size-le-slots kind slots c t above link s rising =
    let e : length (nodes_of t) ≡ size_of t = length-nodes_of t in
    let few : length (nodes_of t) ≤ slots =
    length-le-slots slots (nodes_of t) (λ n. count_once c n t rising)
    (λ n some. slot_in kind slots c t above link n s (in_counted n t some)) in
    omega arith

-- a tree that has every slot has no fewer nodes than there are slots
pub slots-le-size : (slots : ℕ) (t : Tree) → ((n : ℕ) → IsSlot slots n → IsIn n t) → slots ≤ size_of t
slots-le-size slots t all =
    let e : length (nodes_of t) ≡ size_of t = length-nodes_of t in
    let many : slots ≤ length (nodes_of t) = slots-le-length slots (nodes_of t) (λ n s. count_some n t (all n s)) in
    omega arith
