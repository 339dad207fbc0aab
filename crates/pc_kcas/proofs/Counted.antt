-- How many installs were made, by the calls one after the other.
use Rattle.std.proofs.Common.{◌≡◌, ℕ, suc, ◌+◌, ◌-◌, ◌*◌, ◌≤◌, Option, Some, None, ap, ◌∙◌, subst, arith}
use Rattle.std.proofs.Math.Nat.{mul-add, mul-suc, suc-mul, mul-le-mul_left, mul-le-mul_right}
use Rattle.pc_rule_law.specs.Board.{Size}
use Rattle.pc_rule_law.specs.Plays.{IsLater}
use Rattle.pc_rule_law.specs.Views.{View}
use Rattle.pc_rule.specs.declared.refs.Ref.{Ref}
use Rattle.pc_kcas.specs.Bounds.{most_in_one, most_in_help, most_in_end, HasInstalled, completions}

-- a pass that has learnt made none
pub none_installed : (v w : View) → IsLater v w → w.install.number ≡ v.install.number
none_installed v w later = ap (λ (u : View). u.install.number) later.same

pub completions_few : (o : Option Ref) → completions o ≤ 1
completions_few (Some first) = omega arith
completions_few None = omega arith

-- ---- one word: by one install, and by one more after a completion
plus : (v w c : ℕ) → w ≤ v + 1 → w + c ≤ v + 1 + c
plus v w c le = omega arith

pub took_once : (v w : View) (o : Option Ref) → w.install.number ≤ v.install.number + 1
    → w.install.number + completions o ≤ v.install.number + 1 + completions o
unfolding plus
took_once v w o le = plus v.install.number w.install.number (completions o) le

pub took_again : (v u w : View) (o : Option Ref) (first : Ref) → o ≡ None → u.install.number ≤ v.install.number + 1 → w.install.number ≤ u.install.number + 1
    → w.install.number + completions o ≤ v.install.number + 1 + completions (Some first)
took_again v u w o first is one two = let none : completions o ≡ 0 = ap completions is in omega arith

-- ---- sums
sum_then : (u v w a b p q r : ℕ) → r ≡ p + q → v ≤ u + (a + p) → w ≤ v + (b + q) → w ≤ u + ((a + b) + r)
sum_then u v w a b p q r is one two = omega arith

sum_linked : (v w k p q : ℕ) → q ≡ p + k → w ≤ v + (k + p) → w ≤ v + (0 + q)
sum_linked v w k p q is le = omega arith

sum_here : (v w a p : ℕ) → w ≤ v + a → w ≤ v + (a + p)
sum_here v w a p le = omega arith

sum_more : (v w a b p : ℕ) → a ≤ b → w ≤ v + (a + p) → w ≤ v + (b + p)
sum_more v w a b p more le = omega arith

sum_same : (v u w x b : ℕ) → u ≡ v → x ≡ w → w ≤ u + b → x ≤ v + b
sum_same v u w x b one two le = omega arith

sum_word : (v u z w c d p : ℕ) → u ≤ v + 1 + c → z ≤ u + (0 + p) → w + c ≤ z + 1 + d → d ≤ 1 → w ≤ v + (3 + p)
sum_word v u z w c d p one two three few = omega arith

module _ (slots : ℕ) where
  pub installs_here : (a k : ℕ) (v w : View) → w.install.number ≤ v.install.number + a → HasInstalled slots a k v w
  unfolding sum_here
  installs_here a k v w le = sum_here v.install.number w.install.number a (most_in_one slots * k) le

  pub installs_none : (a k : ℕ) (v w : View) → w.install.number ≡ v.install.number → HasInstalled slots a k v w
  unfolding installs_here
  installs_none a k v w same = installs_here a k v w (omega arith)

  pub installs_more : (a b k : ℕ) (v w : View) → a ≤ b → HasInstalled slots a k v w → HasInstalled slots b k v w
  unfolding sum_more
  installs_more a b k v w more le = sum_more v.install.number w.install.number a b (most_in_one slots * k) more le

  pub installs_same : (a k : ℕ) (v u w x : View) → u.install.number ≡ v.install.number → x.install.number ≡ w.install.number → HasInstalled slots a k u w
      → HasInstalled slots a k v x
  unfolding sum_same
  installs_same a k v u w x one two le = sum_same v.install.number u.install.number w.install.number x.install.number (a + most_in_one slots * k) one two le

  pub installs_then : (a b j k : ℕ) (u v w : View) → HasInstalled slots a j u v → HasInstalled slots b k v w → HasInstalled slots (a + b) (j + k) u w
  unfolding sum_then
  installs_then a b j k u v w one two = sum_then u.install.number v.install.number w.install.number a b (most_in_one slots * j) (most_in_one slots * k)
      (most_in_one slots * (j + k)) (mul-add (most_in_one slots) j k) one two

  -- of the words of one exchange more, by a link more
  pub installs_linked : (links left : ℕ) (v w : View) → 1 ≤ links → left ≤ links - 1 → HasInstalled slots (most_in_one slots) ((links - 1) - left) v w
      → HasInstalled slots 0 (links - left) v w
  unfolding sum_linked
  installs_linked links left v w some low le = let e : suc ((links - 1) - left) ≡ links - left = omega arith in
      subst (λ (n : ℕ). HasInstalled slots 0 n v w) e (sum_linked v.install.number w.install.number (most_in_one slots) (most_in_one slots * ((links - 1) - left))
      (most_in_one slots * suc ((links - 1) - left)) (mul-suc (most_in_one slots) ((links - 1) - left)) le)

  pub installs_further : (a b links left right : ℕ) (u v w : View) → left ≤ links → right ≤ left → HasInstalled slots a (links - left) u v
      → HasInstalled slots b (left - right) v w → HasInstalled slots (a + b) (links - right) u w
  unfolding installs_then
  installs_further a b links left right u v w low lower one two = let e : (links - left) + (left - right) ≡ links - right = omega arith in
      subst (λ (n : ℕ). HasInstalled slots (a + b) n u w) e (installs_then a b (links - left) (left - right) u v w one two)

  -- ---- a word that is held: by the first installs, by those and a help, and by the last ones too
  pub word_once : (k : ℕ) (v u : View) (o : Option Ref) → u.install.number + completions None ≤ v.install.number + 1 + completions o → HasInstalled slots 3 k v u
  unfolding installs_here
  word_once k v u o le = let few = completions_few o in installs_here 3 k v u (omega arith)

  pub word_helped : (links left : ℕ) (v u z : View) (o : Option Ref) → 1 ≤ links → left ≤ links - 1 → u.install.number + completions None ≤ v.install.number + 1 + completions o
      → HasInstalled slots (most_in_one slots) ((links - 1) - left) u z → HasInstalled slots 3 (links - left) v z
  unfolding word_once installs_linked installs_then
  word_helped links left v u z o some low le help = let e : 0 + (links - left) ≡ links - left = omega arith in
      subst (λ (n : ℕ). HasInstalled slots 3 n v z) e (installs_then 3 0 0 (links - left) v u z (word_once 0 v u o le) (installs_linked links left u z some low help))

  pub word_twice : (links left : ℕ) (v u z w : View) (o o' : Option Ref) → 1 ≤ links → left ≤ links - 1
      → u.install.number + completions None ≤ v.install.number + 1 + completions o
      → HasInstalled slots (most_in_one slots) ((links - 1) - left) u z
      → w.install.number + completions o ≤ z.install.number + 1 + completions o' → HasInstalled slots 3 (links - left) v w
  unfolding sum_word installs_linked
  word_twice links left v u z w o o' some low le help again = sum_word v.install.number u.install.number z.install.number w.install.number (completions o) (completions o')
      (most_in_one slots * (links - left)) (omega arith) (installs_linked links left u z some low help) again (completions_few o')

  -- ---- the words of one exchange
  pub all_words : (count k : ℕ) (v w : View) → count ≤ 25 + slots → HasInstalled slots (3 * count) k v w → HasInstalled slots (most_in_one slots) k v w
  unfolding installs_more
  all_words count k v w few le = installs_more (3 * count) (most_in_one slots) k v w (omega arith) le

-- ---- a help, with as many links as there are passes, and a word of the own exchange, with one more
sum_help : (v w k p q : ℕ) → q ≡ p + k → w ≤ v + (k + p) → w ≤ v + q
sum_help v w k p q is le = omega arith

next_times : (k n : ℕ) → k * (n + 1) ≡ k * n + k
next_times k n = let e : n + 1 ≡ suc n = omega arith in ap (λ (m : ℕ). k * m) e ∙ mul-suc k n

most_below : (k links left : ℕ) → k * (links - left) ≤ k * links
most_below k links left = mul-le-mul_left k (omega arith)

sum_below : (v w a p q : ℕ) → p ≤ q → w ≤ v + (a + p) → w ≤ v + (a + q)
sum_below v w a p q le more = omega arith

pub help_bounded : (z : Size) (links left : ℕ) (v w : View) → links ≡ z.seats → HasInstalled z.slots (most_in_one z.slots) (links - left) v w
    → w.install.number ≤ v.install.number + most_in_help z
unfolding most_below sum_below sum_help next_times
help_bounded z links left v w is le = let k = most_in_one z.slots in
    subst (λ (n : ℕ). w.install.number ≤ v.install.number + k * (n + 1)) is
    (sum_help v.install.number w.install.number k (k * links) (k * (links + 1)) (next_times k links)
    (sum_below v.install.number w.install.number k (k * (links - left)) (k * links) (most_below k links left) le))

pub word_bounded : (z : Size) (passes left : ℕ) (v w : View) → passes ≡ z.seats → HasInstalled z.slots 3 ((passes + 1) - left) v w
    → w.install.number ≤ v.install.number + (3 + most_in_help z)
unfolding most_below sum_below
word_bounded z passes left v w is le = let k = most_in_one z.slots in
    subst (λ (n : ℕ). w.install.number ≤ v.install.number + (3 + k * (n + 1))) is
    (sum_below v.install.number w.install.number 3 (k * ((passes + 1) - left)) (k * (passes + 1)) (most_below k (passes + 1) left) le)

-- ---- the words of the own exchange, one after the other
sum_next : (u v w p q m : ℕ) → q ≡ p + m → v ≤ u + p → w ≤ v + m → w ≤ u + q
sum_next u v w p q m is one two = omega arith

sum_fewer : (v w p q : ℕ) → p ≤ q → w ≤ v + p → w ≤ v + q
sum_fewer v w p q le more = omega arith

times_next : (n m : ℕ) → (n + 1) * m ≡ n * m + m
times_next n m = let e : n + 1 ≡ suc n = omega arith in ap (λ (i : ℕ). i * m) e ∙ suc-mul n m

pub words_none : (z : Size) (v : View) → v.install.number ≤ v.install.number + most_in_end z 0
words_none z v = omega arith

pub words_next : (z : Size) (at : ℕ) (u v w : View) → v.install.number ≤ u.install.number + most_in_end z at → w.install.number ≤ v.install.number + (3 + most_in_help z)
    → w.install.number ≤ u.install.number + most_in_end z (at + 1)
unfolding sum_next times_next
words_next z at u v w one two = sum_next u.install.number v.install.number w.install.number (at * (3 + most_in_help z)) ((at + 1) * (3 + most_in_help z))
    (3 + most_in_help z) (times_next at (3 + most_in_help z)) one two

pub words_all : (z : Size) (at count : ℕ) (v w : View) → at ≤ count → w.install.number ≤ v.install.number + most_in_end z at
    → w.install.number ≤ v.install.number + most_in_end z count
unfolding sum_fewer
words_all z at count v w le more = sum_fewer v.install.number w.install.number (at * (3 + most_in_help z)) (count * (3 + most_in_help z))
    (mul-le-mul_right (3 + most_in_help z) le) more

pub same_after : (v u w x : View) (b : ℕ) → u.install.number ≤ v.install.number + b → x.install.number ≡ u.install.number → w.install.number ≡ x.install.number
    → w.install.number ≤ v.install.number + b
same_after v u w x b le one two = omega arith
