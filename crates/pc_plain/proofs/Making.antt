-- An exchange that is made in plain cells: the slot that it takes is one that it may take, its words
-- can be written, and the cells that it leaves are sound again.
use Rattle.std.proofs.Common.{◌≡◌, ℕ, ◌+◌, ◌*◌, ◌%◌, ◌<◌, ◌≤◌, ◌==◌, ◌&&◌, ⊎_elim, if◌then◌else◌, Bool, true, false}
use Rattle.std.proofs.Common.{cond, List, [], ◌∷◌, ◌++◌, length, Option, Some, None, IfSome, IsSome, option_to_list}
use Rattle.std.proofs.Common.{nat_le, refl, sym, ap, ◌∙◌, subst, arith, length-append}
use Rattle.std.proofs.lemmas.Bool.{cases_Bool, eqb-true, leb-true, le-leb, and_parts, and_from}
use Rattle.pc_model.specs.declared.cell.Field.TheVariants.{Version}
use Rattle.pc_model.specs.Cells.{Cells, IsEven, IsOdd, IsNode, IsSlot}
use Rattle.pc_model.specs.Counts.{count, one_if}
use Rattle.pc_model.specs.Exchanges.{with_fresh}
use Rattle.pc_model.proofs.Counting.{count-append, length-le-slots}
use Rattle.pc_plan.specs.declared.change.Add.{Add}
use Rattle.pc_plan.specs.declared.change.Fresh.{Fresh}
use Rattle.pc_plan.specs.Planned.{Planned}
use Rattle.pc_plan.specs.SlotsAfter.{is_node, taken_by, parity_after}
use Rattle.pc_plan.specs.Runs.{Takes, fresh_at, fresh_fields}
use Rattle.pc_plain.specs.PlainCells.{PlainWords, SplitWords, cells_in, cells_of, AreBelowLimits, is_free, IsSoundPlain, kept}
use Rattle.pc_plain.specs.PlainCells.{kept_cells}
use Rattle.pc_plain.specs.PlainWriting.{with_adds, AddsReach, TakesSlot, changed_cells, AreWordsOf, FreshFits}
use Rattle.pc_plain.specs.PlainWriting.{IsFitting, CanMake, IsWritten}
use Rattle.pc_plain.proofs.KeptCells.{kept_same, kept_node, kept_adds, kept_parity, below_node, below_adds}
use Rattle.pc_plain.proofs.KeptCells.{fresh_below}
use Rattle.pc_plain.proofs.FreeSlots.{last_counted}

one_if_true : (b : Bool) → 0 < one_if b → b ≡ true
one_if_true true h = refl
one_if_true false h = absurd (omega arith)

abbrev is_numbered : ℕ → ℕ → Bool
is_numbered slots n = nat_le 2 n && nat_le n (slots + 1)

numbered_slot : (slots n : ℕ) → is_numbered slots n ≡ true → IsSlot slots n
numbered_slot slots n e = let parts : (nat_le 2 n ≡ true) × (nat_le n (slots + 1) ≡ true)
    = and_parts (nat_le 2 n) (nat_le n (slots + 1)) e in
    (leb-true 2 n parts.0, leb-true n (slots + 1) parts.1)

slot_numbered : (slots n : ℕ) → IsSlot slots n → is_numbered slots n ≡ true
slot_numbered slots n s = and_from (nat_le 2 n) (nat_le n (slots + 1)) (le-leb 2 n s.0) (le-leb n (slots + 1) s.1)

free_slot : (slots : ℕ) (c : Cells) (n : ℕ) → is_free slots c n ≡ true → IsSlot slots n × IsOdd (c n Version)
free_slot slots c n e = let parts : (is_numbered slots n ≡ true) × ((c n Version % 2 == 1) ≡ true)
    = and_parts (is_numbered slots n) (c n Version % 2 == 1) e in
    (numbered_slot slots n parts.0, eqb-true (c n Version % 2) 1 parts.1)

-- the last of the stack is a slot out of use
allowed_at : (slots : ℕ) (words : SplitWords) (free rest : List ℕ) (capacity : ℕ) (fresh : Option Fresh) (slot : ℕ)
    → IsSoundPlain slots words free capacity
    → free ≡ rest ++ option_to_list (taken_by fresh slot)
    → IfSome fresh (λ _. IsSlot slots slot × IsOdd (cells_in words slot Version))
allowed_at slots words free rest capacity None slot sound taken = tt
allowed_at slots words free rest capacity (Some f) slot sound taken =
    let counted : 0 < count slot free = last_counted free rest slot taken in
    let once : count slot free ≡ one_if (is_free slots (cells_in words) slot) = sound.free_once slot in
    free_slot slots (cells_in words) slot (one_if_true (is_free slots (cells_in words) slot) (omega arith))

counted_one : (mark : Option ℕ) (n : ℕ) → count n (option_to_list mark) ≡ one_if (is_node mark n)
counted_one None n = refl
counted_one (Some m) n = omega arith

marked_slot : (slots : ℕ) (c : Cells) (mark : Option ℕ) (n : ℕ)
    → IfSome mark (λ m. IsSlot slots m × IsEven (c m Version)) → is_node mark n ≡ true
    → IsSlot slots n × IsEven (c n Version)
marked_slot slots c None n marked e = absurd (cc)
marked_slot slots c (Some m) n marked e =
    subst (λ (x : ℕ). IsSlot slots x × IsEven (c x Version)) (eqb-true m n e) marked

count_after : (k x : ℕ) (b t : Bool) → k + one_if t ≡ one_if (x == 1) → (b ≡ true → x ≡ 0)
    → k + one_if b ≡ one_if ((cond b 1 (cond t 0 x)) == 1)
count_after k x true t h even =
    let z : x ≡ 0 = even refl in let none : k + one_if t ≡ 0 = rw z at h in let q : k ≡ 0 = omega arith in rw q refl
count_after k x false true h even = let few : one_if (x == 1) ≤ 1 = at_most (x == 1) in let q : k ≡ 0 = omega arith in
    rw q refl
  where
    at_most : (b : Bool) → one_if b ≤ 1
    at_most true = omega arith
    at_most false = omega arith
count_after k x false false h even = h

-- how often a number stands in the stack after a slot is taken and another is given
counts_after : (slots : ℕ) (words words' : SplitWords) (free rest : List ℕ) (capacity : ℕ) (taken mark : Option ℕ)
    → IsSoundPlain slots words free capacity
    → free ≡ rest ++ option_to_list taken → IfSome mark (λ m. IsSlot slots m × IsEven (cells_in words m Version))
    → ((n : ℕ) → IsSlot slots n
    → cells_in words' n Version % 2 ≡
    (if is_node mark n then 1 else if is_node taken n then 0 else cells_in words n Version % 2))
    → (n : ℕ) → count n (rest ++ option_to_list mark) ≡ one_if (is_free slots (cells_in words') n)
counts_after slots words words' free rest capacity taken mark sound split marked parity n =
    let x : ℕ = cells_in words n Version % 2 in
    let x' : ℕ = cells_in words' n Version % 2 in
    let k : ℕ = count n rest in
    let before : count n free ≡ k + one_if (is_node taken n)
    = ap (count n) split ∙ count-append n rest (option_to_list taken)
    ∙ ap (λ (y : ℕ). k + y) (counted_one taken n) in
    let after : count n (rest ++ option_to_list mark) ≡ k + one_if (is_node mark n)
    = count-append n rest (option_to_list mark) ∙ ap (λ (y : ℕ). k + y) (counted_one mark n) in
    let once : count n free ≡ one_if (is_free slots (cells_in words) n) = sound.free_once n in
    after ∙ ⊎_elim
    (λ e.
    let s : IsSlot slots n = numbered_slot slots n e in
    let was : is_free slots (cells_in words) n ≡ (x == 1) = ap (λ (b : Bool). b && (x == 1)) e in
    let is : is_free slots (cells_in words') n ≡ (x' == 1) = ap (λ (b : Bool). b && (x' == 1)) e in
    let sum : k + one_if (is_node taken n) ≡ one_if (x == 1) = sym before ∙ once ∙ ap one_if was in
    let step : k + one_if (is_node mark n) ≡ one_if ((cond (is_node mark n) 1 (cond (is_node taken n) 0 x)) == 1)
    = count_after k x (is_node mark n) (is_node taken n) sum
    (λ m. (marked_slot slots (cells_in words) mark n marked m).1) in
    step ∙ ap (λ (y : ℕ). one_if (y == 1)) (sym (parity n s)) ∙ sym (ap one_if is))
    (λ e.
    let was : is_free slots (cells_in words) n ≡ false = ap (λ (b : Bool). b && (x == 1)) e in
    let is : is_free slots (cells_in words') n ≡ false = ap (λ (b : Bool). b && (x' == 1)) e in
    let none : k + one_if (is_node taken n) ≡ 0 = sym before ∙ once ∙ ap one_if was in
    let unmarked : one_if (is_node mark n) ≡ 0 = ⊎_elim
    (λ m. let s : is_numbered slots n ≡ true
    = slot_numbered slots n (marked_slot slots (cells_in words) mark n marked m).0 in
    let q : true ≡ false = sym s ∙ e in absurd (cc))
    (λ m. ap one_if m) (cases_Bool (is_node mark n)) in
    let z : k + one_if (is_node mark n) ≡ 0 = omega arith in
    z ∙ sym (ap one_if is))
    (cases_Bool (is_numbered slots n))

-- a stack with each free slot once is no longer than there are slots
stack_short : (slots : ℕ) (c : Cells) (free : List ℕ) → ((n : ℕ) → count n free ≡ one_if (is_free slots c n))
    → length free ≤ slots
stack_short slots c free once =
    length-le-slots slots free
    (λ n. let e : count n free ≡ one_if (is_free slots c n) = once n in let f : one_if (is_free slots c n) ≤ 1
    = at_most (is_free slots c n) in omega arith)
    (λ n h. let e : count n free ≡ one_if (is_free slots c n) = once n in
    (free_slot slots c n (one_if_true (is_free slots c n) (omega arith))).0)
  where
    at_most : (b : Bool) → one_if b ≤ 1
    at_most true = omega arith
    at_most false = omega arith

reach_adds : (slots len : ℕ) (adds : List Add) → 4 * (slots + 2) ≤ len → AreWordsOf slots adds → AddsReach len adds
reach_adds slots len [] long words = tt
reach_adds slots len (a ∷ adds) long words = (
  let node : IsNode slots a.node = words.0.0 in let top : a.node ≤ slots + 1 = node.1 in
      omega arith,
  reach_adds slots len adds long words.1,
)

below_fresh : (slots : ℕ) (words words' : SplitWords) (free free' : List ℕ) (fresh : Option Fresh) (slot : ℕ)
    → AreBelowLimits (cells_in words) → TakesSlot fresh words words' free free' slot
    → IfSome fresh FreshFits → AreBelowLimits (cells_in words')
below_fresh slots words words' free free' None slot below takes fits =
    subst AreBelowLimits (sym (takes.cells ∙ kept_same (cells_in words) below)) below
below_fresh slots words words' free free' (Some f) slot below takes fits =
    let c : Cells = cells_in words in
    let version : ℕ = c slot Version in
    let e : cells_in words' ≡ with_fresh
    (Some (record { node = slot; fields = λ g. kept g (fresh_fields version f g) })) c
    = takes.cells ∙ kept_node slot (fresh_fields version f) c
    ∙ ap (λ (d : Cells). with_fresh
    (Some (record { node = slot; fields = λ g. kept g (fresh_fields version f g) })) d) (kept_same c below) in
    subst AreBelowLimits (sym e)
    (below_node slot (λ g. kept g (fresh_fields version f g)) c (fresh_below version f fits takes.parent) below)

module _ (w : PlainWords) (free : List ℕ) (capacity : ℕ) (p : Planned)
    (sound : IsSoundPlain w.slots w.words free capacity) (can : CanMake w p)
    (words : SplitWords) (rest : List ℕ) (slot : ℕ) (takes : TakesSlot p.fresh w.words words free rest slot) where
  pub made_allowed : Takes w.slots (cells_of w) p slot
  made_allowed = allowed_at w.slots w.words free rest capacity p.fresh slot sound takes.taken

  made_fitting : IsFitting w.slots (cells_of w) p slot
  made_fitting = can slot made_allowed

  pub made_reach : AddsReach (length words.near) p.adds
  made_reach = let e : length words.near ≡ length w.words.near = takes.long in
      let f : length w.words.near ≡ 4 * (w.slots + 2) = sound.long in
      reach_adds w.slots (length words.near) p.adds (omega arith) made_fitting.words

  module _ (words' : SplitWords) (cells : cells_in words' ≡ with_adds slot p.adds (cells_in words)) where
    pub made_cells : cells_in words' ≡ kept_cells (changed_cells p slot (cells_of w))
    made_cells = cells ∙ ap (λ (d : Cells). with_adds slot p.adds d) takes.cells
        ∙ kept_adds slot p.adds (with_fresh (fresh_at slot (cells_in w.words slot Version) p.fresh) (cells_in w.words))

    made_below : AreBelowLimits (cells_in words')
    made_below = subst AreBelowLimits (sym cells)
        (below_adds w.slots slot p.adds (cells_in words) takes.small made_fitting.words
        (below_fresh w.slots w.words words free rest p.fresh slot sound.fit takes made_fitting.fresh))

    made_parity : (n : ℕ) → IsSlot w.slots n → cells_in words' n Version % 2 ≡ parity_after p slot (cells_of w) n
    made_parity n s = let e : cells_in words' n Version ≡ kept Version (changed_cells p slot (cells_of w) n Version)
        = ap (λ (d : Cells). d n Version) made_cells in
        ap (λ (x : ℕ). x % 2) e ∙ kept_parity (changed_cells p slot (cells_of w) n Version) ∙ made_fitting.parity n s

    made_once : (n : ℕ) → count n (rest ++ option_to_list p.mark) ≡ one_if (is_free w.slots (cells_in words') n)
    made_once = counts_after w.slots w.words words' free rest capacity
        (taken_by p.fresh slot) p.mark sound takes.taken made_fitting.marked made_parity

    made_short : length (rest ++ option_to_list p.mark) ≤ w.slots
    made_short = stack_short w.slots (cells_in words') (rest ++ option_to_list p.mark) made_once

    -- there is room for the marked slot
    pub made_room : IsSome p.mark → length rest < capacity
    made_room some = let e : length (rest ++ option_to_list p.mark) ≡ length rest + length (option_to_list p.mark)
        = length-append rest (option_to_list p.mark) in
        let one : length (option_to_list p.mark) ≡ 1 = one_of p.mark some in
        let short : length (rest ++ option_to_list p.mark) ≤ w.slots = made_short in
        let r : w.slots ≤ capacity = sound.room in omega arith
      where
        one_of : (o : Option ℕ) → IsSome o → length (option_to_list o) ≡ 1
        one_of None h = absurd (cc)
        one_of (Some m) h = refl

    pub made_sound : (free' : List ℕ) (capacity' : ℕ) → free' ≡ rest ++ option_to_list p.mark → capacity' ≡ capacity
        → length words'.near ≡ length words.near → IsSoundPlain w.slots words' free' capacity'
    made_sound free' capacity' e f long = record {
      few = sound.few;
      long = long ∙ takes.long ∙ sound.long;
      fit = made_below;
      free_once = subst (λ (l : List ℕ). (n : ℕ) → count n l ≡ one_if (is_free w.slots (cells_in words') n))
          (sym e) made_once;
      room = subst (λ (x : ℕ). w.slots ≤ x) (sym f) sound.room;
    }

    pub made_is : IsWritten w (record { slots = w.slots; words = words' }) p
    made_is = record { slot = slot; takes = made_allowed; cells = λ n f. ap (λ (d : Cells). d n f) made_cells }
