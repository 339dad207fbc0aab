-- No two words of a board share an address, each lies inside the table, and a write of one word of the table is a
-- change of one place of the board.
use Rattle.std.proofs.Common.{◌≡◌, ℕ, ◌+◌, ◌*◌, ◌/◌, ◌%◌, ◌<◌, List, length, get_or, set, refl, sym, ap, ap₂, ◌∙◌, subst, arith, length-set, get_or-set_same, get_or-set_other}
use Rattle.std.proofs.lemmas.Nat.{mul-add-lt, div-mul-add, mod-mul-add}
use mathlib.Core.Logic.{dite}
use native.Mathlib.Decide.{ℕ_discrete}
use Rattle.pc_model.specs.declared.cell.Field.{Field}
use Rattle.pc_model.specs.declared.cell.Field.TheVariants.{Version, Key, Value, Left, Right, Parent, Height, Spare}
use Rattle.pc_model.specs.Cells.{field_number}
use Rattle.pc_model.proofs.Writes.{same_field}
use Rattle.pc_rule_law.specs.Board.{Size, Own, own_status, own_epoch, own_install, own_word, Place, at_clock, at_epoch, at_own, at_cell, stride, own_offset, place_number, address, words_of, IsOwn, Inside, Board, shows, Represents, Only}

pub field_number-below : (f : Field) → field_number f < 8
field_number-below Version = omega arith
field_number-below Key = omega arith
field_number-below Value = omega arith
field_number-below Left = omega arith
field_number-below Right = omega arith
field_number-below Parent = omega arith
field_number-below Height = omega arith
field_number-below Spare = omega arith

-- two words of nodes with one number are one word
pub one_word : (n m : ℕ) (f g : Field) → place_number n f ≡ place_number m g → (n ≡ m) × (f ≡ g)
one_word n m f g e = let a = field_number-below f in let b = field_number-below g in
    (omega arith, same_field f g (omega arith))

pub own_offset-below : (z : Size) (o : Own) → IsOwn z.slots o → own_offset o < stride z
own_offset-below z own_status is = omega arith
own_offset-below z own_epoch is = omega arith
own_offset-below z (own_install k) is = let a : k < 4 = is in omega arith
own_offset-below z (own_word k) is = let a : k < 80 + 5 * z.slots = is in omega arith

one_own : (slots : ℕ) (o q : Own) → IsOwn slots o → IsOwn slots q → own_offset o ≡ own_offset q → o ≡ q
one_own slots own_status own_status x y e = refl
one_own slots own_status own_epoch x y e = absurd (omega arith)
one_own slots own_status (own_install k) x y e = absurd (omega arith)
one_own slots own_status (own_word k) x y e = absurd (omega arith)
one_own slots own_epoch own_status x y e = absurd (omega arith)
one_own slots own_epoch own_epoch x y e = refl
one_own slots own_epoch (own_install k) x y e = absurd (omega arith)
one_own slots own_epoch (own_word k) x y e = absurd (omega arith)
one_own slots (own_install j) own_status x y e = absurd (omega arith)
one_own slots (own_install j) own_epoch x y e = absurd (omega arith)
one_own slots (own_install j) (own_install k) x y e = ap own_install (omega arith)
one_own slots (own_install j) (own_word k) x y e = absurd (omega arith)
one_own slots (own_word j) own_status x y e = absurd (omega arith)
one_own slots (own_word j) own_epoch x y e = absurd (omega arith)
one_own slots (own_word j) (own_install k) x y e = absurd (omega arith)
one_own slots (own_word j) (own_word k) x y e = ap own_word (omega arith)

-- a row and a column are told by the place in rows of this width
one_row : (w i j a b : ℕ) → a < w → b < w → i * w + a ≡ j * w + b → (i ≡ j) × (a ≡ b)
one_row w i j a b x y e = (
  sym (div-mul-add i w a x) ∙ (ap (λ (k : ℕ). k / w) e ∙ div-mul-add j w b y),
  sym (mod-mul-add i w a x) ∙ (ap (λ (k : ℕ). k % w) e ∙ mod-mul-add j w b y),
)

-- no two places share an address
pub one_place : (z : Size) (p q : Place) → Inside z p → Inside z q → address z p ≡ address z q → p ≡ q
one_place z at_clock at_clock x y e = refl
one_place z at_clock at_epoch x y e = absurd (omega arith)
one_place z at_clock (at_own j q) x y e = absurd (omega arith)
one_place z at_clock (at_cell m g) x y e = let a = y.0 in absurd (omega arith)
one_place z at_epoch at_clock x y e = absurd (omega arith)
one_place z at_epoch at_epoch x y e = refl
one_place z at_epoch (at_own j q) x y e = absurd (omega arith)
one_place z at_epoch (at_cell m g) x y e = let a = y.1 in let b = field_number-below g in absurd (omega arith)
one_place z (at_own i o) at_clock x y e = absurd (omega arith)
one_place z (at_own i o) at_epoch x y e = absurd (omega arith)
one_place z (at_own i o) (at_own j q) x y e = let r = one_row (stride z) i j (own_offset o) (own_offset q)
    (own_offset-below z o x.1) (own_offset-below z q y.1) (omega arith) in
    ap₂ at_own r.0 (one_own z.slots o q x.1 y.1 r.1)
one_place z (at_own i o) (at_cell m g) x y e = let a = y.1 in let b = field_number-below g in absurd (omega arith)
one_place z (at_cell n f) at_clock x y e = let a = x.0 in absurd (omega arith)
one_place z (at_cell n f) at_epoch x y e = let a = x.1 in let b = field_number-below f in absurd (omega arith)
one_place z (at_cell n f) (at_own j q) x y e = let a = x.1 in let b = field_number-below f in absurd (omega arith)
one_place z (at_cell n f) (at_cell m g) x y e = let r = one_word n m f g e in ap₂ at_cell r.0 r.1

-- each place lies inside the table
pub within : (z : Size) (p : Place) → Inside z p → address z p < words_of z
within z at_clock x = omega arith
within z at_epoch x = omega arith
within z (at_own i o) x = let a = mul-add-lt i (stride z) (own_offset o) z.seats x.0
    (own_offset-below z o x.1) in omega arith
within z (at_cell n f) x = let a = x.1 in let b = field_number-below f in omega arith

-- a write of one word, as the board sees it
pub wrote : (z : Size) (ws : List ℕ) (b b' : Board) (p : Place) (x : ℕ) → Represents z ws b → Inside z p
    → shows b' p ≡ x → Only p b b' → Represents z (set ws (address z p) x) b'
wrote z ws b b' p x rep in_p is only = record {
  wide = length-set ws (address z p) x ∙ rep.wide;
  each = λ q in_q. dite (ℕ_discrete (address z q) (address z p))
      (λ same. let e : q ≡ p = one_place z q p in_q in_p same in
      let lt : address z p < length ws = subst (λ (k : ℕ). address z p < k) (sym rep.wide) (within z p in_p) in
      subst (λ (r : Place). get_or (set ws (address z p) x) (address z r) 0 ≡ shows b' r) (sym e)
      (get_or-set_same ws (address z p) x 0 lt ∙ sym is))
      (λ other. get_or-set_other ws (address z p) (address z q) x 0 (λ e. other e)
      ∙ (rep.each q in_q ∙ sym (only q (λ e. other (ap (address z) e)))));
}
