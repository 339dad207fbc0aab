-- The words that a tree opens with, and the stack of all slots.
use Rattle.std.proofs.Common.{◌≡◌, ◌≢◌, ℕ, ◌+◌, ◌-◌, ◌*◌, ◌%◌, ◌<◌, ◌≤◌, ◌==◌, ◌&&◌, ⊎_elim, if◌then◌else◌, Bool}
use Rattle.std.proofs.Common.{true, false, List, [], ◌∷◌, ◌++◌, length, nat_lt, nat_le, refl, sym, ap, ◌∙◌, arith}
use Rattle.std.proofs.lemmas.List.{get_or_past}
use Rattle.std.proofs.lemmas.Bool.{cases_Bool, cases_eq, cases_lt, eq-eqb, ne_eqb, leb-true, and_parts, and_from}
use Rattle.std.proofs.lemmas.Bool.{and_left}
use Rattle.std.proofs.lemmas.Bool.Decides.{nat_tests}
use Rattle.pc_model.specs.declared.cell.Field.{Field}
use Rattle.pc_model.specs.declared.cell.Field.TheVariants.{Version, Key, Value, Left, Right, Parent, Height, Spare}
use Rattle.pc_model.specs.Cells.{Cells, written, opening_fields}
use Rattle.pc_model.specs.Counts.{count, one_if}
use Rattle.pc_model.specs.Trees.{Empty, Kind, IsSearchTree}
use Rattle.pc_model.proofs.Counting.{count-append}
use Rattle.pc_plain.specs.PlainCells.{SplitWords, cells_in, limit, AreBelowLimits, is_free, IsSoundPlain}
use Rattle.pc_plain.specs.PlainWriting.{OpensCells, HasEachSlot}

-- whether a slot is among the greatest slots, so many of them
abbrev pub is_among_last : ℕ → ℕ → ℕ → Bool
is_among_last slots k n = nat_lt (slots + 1) (n + k) && nat_le n (slots + 1)

pub none_pushed : (slots n : ℕ) → 0 ≡ one_if (is_among_last slots 0 n)
none_pushed slots n = let e : is_among_last slots 0 n ≡ false = grind (arith, nat_tests) in sym (ap one_if e)

pub one_pushed : (slots k n : ℕ) (xs : List ℕ) → k < slots → count n xs ≡ one_if (is_among_last slots k n)
    → count n (xs ++ (slots + 1 - k) ∷ []) ≡ one_if (is_among_last slots (k + 1) n)
one_pushed slots k n xs h before =
    let s : ℕ = slots + 1 - k in
    let split : count n (xs ++ s ∷ []) ≡ count n xs + (one_if (s == n) + 0) = count-append n xs (s ∷ []) in
    ⊎_elim
    (λ e. let t : one_if (s == n) ≡ 1 = ap one_if (eq-eqb s n e) in
    let e' : slots + 1 - k ≡ n = e in
    let was : is_among_last slots k n ≡ false = grind (arith, nat_tests) in
    let is : is_among_last slots (k + 1) n ≡ true = grind (arith, nat_tests) in
    let was' : count n xs ≡ 0 = before ∙ ap one_if was in
    let is' : one_if (is_among_last slots (k + 1) n) ≡ 1 = ap one_if is in
    let sum : count n xs + (one_if (s == n) + 0) ≡ 1 = omega arith in split ∙ sum ∙ sym is')
    (λ ne. let t : one_if (s == n) ≡ 0 = ap one_if (ne_eqb s n ne) in
    let ne' : slots + 1 - k ≢ n = ne in
    let same : is_among_last slots k n ≡ is_among_last slots (k + 1) n = grind (arith, nat_tests) in
    let sum : count n xs + (one_if (s == n) + 0) ≡ count n xs = omega arith in split ∙ sum ∙ before ∙ ap one_if same)
    (cases_eq s n)

pub all_pushed : (slots n : ℕ) → one_if (is_among_last slots slots n) ≡ one_if (nat_le 2 n && nat_le n (slots + 1))
all_pushed slots n = let same : is_among_last slots slots n ≡ (nat_le 2 n && nat_le n (slots + 1))
    = grind (arith, nat_tests) in ap one_if same

-- cells in which the nodes below a number have the version 1, and all else is 0
abbrev pub unused_below : ℕ → Cells
unused_below k n Version = if nat_lt n k then 1 else 0
unused_below k n Key = 0
unused_below k n Value = 0
unused_below k n Left = 0
unused_below k n Right = 0
unused_below k n Parent = 0
unused_below k n Height = 0
unused_below k n Spare = 0

unused_none_at : (n : ℕ) (f : Field) → 0 ≡ unused_below 0 n f
unused_none_at n Version = grind (arith, nat_tests)
unused_none_at n Key = refl
unused_none_at n Value = refl
unused_none_at n Left = refl
unused_none_at n Right = refl
unused_none_at n Parent = refl
unused_none_at n Height = refl
unused_none_at n Spare = refl

pub unused_none : (λ (n : ℕ) (f : Field). 0) ≡ unused_below 0
unused_none = λ i n f. unused_none_at n f i

unused_more_at : (k n : ℕ) (f : Field) → written k Version 1 (unused_below k) n f ≡ unused_below (k + 1) n f
unused_more_at k n Version = grind (arith, nat_tests)
unused_more_at k n Key = refl
unused_more_at k n Value = refl
unused_more_at k n Left = refl
unused_more_at k n Right = refl
unused_more_at k n Parent = refl
unused_more_at k n Height = refl
unused_more_at k n Spare = refl

pub unused_more : (k : ℕ) → written k Version 1 (unused_below k) ≡ unused_below (k + 1)
unused_more k = λ i n f. unused_more_at k n f i

pub opened : (slots n : ℕ) (f : Field) → n ≤ slots + 1
    → written 1 Key 4611686018427387903 (written 1 Version 0 (unused_below (slots + 2))) n f ≡ opening_fields n f
opened slots n Version h = grind (arith, nat_tests)
opened slots n Key h = refl
opened slots n Value h = refl
opened slots n Left h = refl
opened slots n Right h = refl
opened slots n Parent h = refl
opened slots n Height h = refl
opened slots n Spare h = refl

version_opened : (n : ℕ) → 2 ≤ n → opening_fields n Version ≡ 1
version_opened n h = grind (arith, nat_tests)

opening_small : (n : ℕ) (f : Field) → opening_fields n f < limit f
opening_small n Version = grind (arith, nat_tests)
opening_small n Key = grind (arith, nat_tests)
opening_small n Value = omega arith
opening_small n Left = omega arith
opening_small n Right = omega arith
opening_small n Parent = omega arith
opening_small n Height = omega arith
opening_small n Spare = omega arith

zero_small : (f : Field) → 0 < limit f
zero_small Version = omega arith
zero_small Key = omega arith
zero_small Value = omega arith
zero_small Left = omega arith
zero_small Right = omega arith
zero_small Parent = omega arith
zero_small Height = omega arith
zero_small Spare = omega arith

-- past the last node there is no word
past_words : (slots : ℕ) (words : SplitWords) (n : ℕ) (f : Field) → length words.near ≡ 4 * (slots + 2)
    → length words.near ≡ length words.far → slots + 2 ≤ n → cells_in words n f ≡ 0
past_words slots words n Version long even h = get_or_past words.near (4 * n + 0) 0 (omega arith)
past_words slots words n Key long even h = get_or_past words.near (4 * n + 1) 0 (omega arith)
past_words slots words n Left long even h = get_or_past words.near (4 * n + 2) 0 (omega arith)
past_words slots words n Right long even h = get_or_past words.near (4 * n + 3) 0 (omega arith)
past_words slots words n Value long even h = get_or_past words.far (4 * n + 0) 0 (omega arith)
past_words slots words n Parent long even h = get_or_past words.far (4 * n + 1) 0 (omega arith)
past_words slots words n Height long even h = get_or_past words.far (4 * n + 2) 0 (omega arith)
past_words slots words n Spare long even h = get_or_past words.far (4 * n + 3) 0 (omega arith)

module _ (slots : ℕ) (words : SplitWords) (long : length words.near ≡ 4 * (slots + 2))
    (even : length words.near ≡ length words.far) (opens : OpensCells slots (cells_in words)) where
  opening_below : AreBelowLimits (cells_in words)
  opening_below n f = ⊎_elim
      (λ h. let e : cells_in words n f ≡ opening_fields n f = opens n f (omega arith) in rw e (opening_small n f))
      (λ h. let e : cells_in words n f ≡ 0 = past_words slots words n f long even h in rw e (zero_small f))
      (cases_lt n (slots + 2))

  opening_once : (free : List ℕ) → HasEachSlot slots free → (n : ℕ)
      → count n free ≡ one_if (is_free slots (cells_in words) n)
  opening_once free each n =
      let b : Bool = nat_le 2 n && nat_le n (slots + 1) in
      each n ∙ ⊎_elim
      (λ e. let parts : (nat_le 2 n ≡ true) × (nat_le n (slots + 1) ≡ true)
      = and_parts (nat_le 2 n) (nat_le n (slots + 1)) e in
      let v : cells_in words n Version ≡ 1 = opens n Version (leb-true n (slots + 1) parts.1)
      ∙ version_opened n (leb-true 2 n parts.0) in
      let odd : (cells_in words n Version % 2 == 1) ≡ true = ap (λ (x : ℕ). x % 2 == 1) v in
      let is : is_free slots (cells_in words) n ≡ true = and_from b (cells_in words n Version % 2 == 1) e odd in
      ap one_if e ∙ sym (ap one_if is))
      (λ e. let is : is_free slots (cells_in words) n ≡ false = and_left b (cells_in words n Version % 2 == 1) e in
      ap one_if e ∙ sym (ap one_if is))
      (cases_Bool b)

  pub opening_sound : (free : List ℕ) (capacity : ℕ) → slots ≤ 61000 → HasEachSlot slots free → capacity ≡ slots
      → IsSoundPlain slots words free capacity
  opening_sound free capacity few each room =
      record { few = few; long = long; fit = opening_below; free_once = opening_once free each; room = omega arith }

  pub opening_empty : (kind : Kind) → IsSearchTree kind slots (cells_in words) []
  opening_empty kind =
      let even : cells_in words 1 Version ≡ 0 = opens 1 Version (omega arith) in
      record {
        tree = Empty;
        spelled = opens 1 Left (omega arith);
        pairs = refl;
        rising = tt;
        small = tt;
        covered = λ n s e. let v : cells_in words n Version ≡ 1 = opens n Version s.1 ∙ version_opened n s.0 in
            absurd (let odd : 1 % 2 ≡ 0 = rw v at e in omega arith);
        unmarked = ap (λ (x : ℕ). x % 2) even;
        no_right = opens 1 Right (omega arith);
        no_parent = opens 1 Parent (omega arith);
      }
