-- What a pass holds of its slots is so after each kind of step, and where the pass has just been made.
use Rattle.std.proofs.Common.{◌≡◌, ◌≢◌, ℕ, zero, suc, ◌+◌, ◌<◌, ◌≤◌, ◌%◌, ◌==◌, ◌&&◌, if◌then◌else◌, Bool, true, false, List, [], ◌∷◌, map, Option, Some, None, refl, sym, ap, ◌∙◌, subst, arith}
use Rattle.std.proofs.lemmas.Bool.Decides.{nat_tests}
use mathlib.Core.Option.{some}
use lib.ListN.{get_elem?}
use Rattle.pc_model.specs.declared.cell.Field.{Field}
use Rattle.pc_model.specs.Cells.{IsNode}
use Rattle.pc_words.specs.declared.word.WordKind.TheVariants.{Plain}
use Rattle.pc_words.specs.Words.{kind, IsWord}
use Rattle.pc_protocol.specs.Histories.{Stage, absent, undecided, committed, aborted}
use Rattle.pc_rule_law.specs.Board.{Size, slots_below, start_of}
use Rattle.pc_rule_law.specs.Tables.{slots_in}
use Rattle.pc_rule_law.specs.declared.share.Share.{Share}
use Rattle.pc_exchange_law.specs.OwnSlots.{OwnSlots, first_slots, MakesOwn, slots_cleared, spare_left, with_spare, with_filled}
use Rattle.pc_exchange_law.specs.Wholes.{Whole}
use Rattle.pc_rule.specs.Deciding.{took_effect}
use Rattle.pc_rule.specs.HeldSlots.{new_slots, cleared_slots, filled_node, HoldsSlots}
use Rattle.pc_rule.specs.Shares.{slots_of}
use Rattle.pc_rule.specs.declared.held_slots.HeldSlots.{HeldSlots}

-- ---- plain words

pub plain_same : (v w : ℕ) → Plain v ≡ Plain w → v ≡ w
plain_same v w same = cc

plain_bits : (r v : ℕ) (b : Bool) → (r % 4 == 0) ≡ b → kind r ≡ Plain v → r % 4 ≡ 0
plain_bits r v true is k = grind (arith, nat_tests)
plain_bits r v false is k = grind (arith, nat_tests)

pub plain_word : (r v : ℕ) → kind r ≡ Plain v → IsWord r
plain_word r v is = let none : r % 4 ≡ 0 = plain_bits r v (r % 4 == 0) refl is in ((λ three. absurd (omega arith)), λ two. absurd (omega arith))

-- ---- where shares begin

none_below : (shares : List ℕ) → slots_below shares 0 ≡ 0
none_below [] = refl
none_below (n ∷ shares) = refl

below_all : (shares : List Share) (j : ℕ) → slots_below (map slots_in shares) j ≤ slots_of shares
below_all [] j = omega arith
below_all (s ∷ shares) zero = omega arith
below_all (s ∷ shares) (suc j) = let le = below_all shares j in omega arith

one_below : (shares : List Share) (j : ℕ) (s : Share) → get_elem? shares j ≡ some s
    → slots_below (map slots_in shares) (suc j) ≡ slots_below (map slots_in shares) j + s.slots
one_below [] j s at = absurd cc
one_below (t ∷ shares) zero s at = let e : t ≡ s = cc in
    let n : slots_below (map slots_in shares) 0 ≡ 0 = none_below (map slots_in shares) in let m : t.slots ≡ s.slots = ap (λ (u : Share). u.slots) e in omega arith
one_below (t ∷ shares) (suc j) s at = let e = one_below shares j s at in omega arith

-- each share begins within the slots of all
pub begins_within : (z : Size) (shares : List Share) → z.shares ≡ map slots_in shares → slots_of shares ≤ z.slots → (j : ℕ) → start_of z j ≤ z.slots + 2
begins_within z shares same few j = let le = below_all shares j in
    let e : slots_below z.shares j ≡ slots_below (map slots_in shares) j = ap (λ l. slots_below l j) same in omega arith

-- the first one behind the sentinel, and each later one where the one before it ends
pub first_begins : (z : Size) → start_of z 0 ≡ 2
first_begins z = let n = none_below z.shares in omega arith

pub next_begins : (z : Size) (shares : List Share) → z.shares ≡ map slots_in shares → (j : ℕ) (s : Share) → get_elem? shares j ≡ some s
    → start_of z (j + 1) ≡ start_of z j + s.slots
next_begins z shares same j s at = let e = one_below shares j s at in
    let here : slots_below z.shares j ≡ slots_below (map slots_in shares) j = ap (λ l. slots_below l j) same in
    let next : slots_below z.shares (suc j) ≡ slots_below (map slots_in shares) (suc j) = ap (λ l. slots_below l (suc j)) same in
    let n : suc j ≡ j + 1 = omega arith in
    subst (λ (k : ℕ). start_of z k ≡ start_of z j + s.slots) n (omega arith)

-- a pass that has just been made holds its whole share
pub slots_new : (x : Whole) (j begin slots : ℕ) → x.knows.slots ≡ first_slots x.view.size j → start_of x.view.size j ≡ begin
    → start_of x.view.size (j + 1) ≡ begin + slots → start_of x.view.size (j + 1) ≤ x.view.size.slots + 2 → HoldsSlots x (new_slots begin slots)
slots_new x j begin slots is here next few = record {
  next = ap (λ (o : OwnSlots). o.next) is ∙ here;
  until = ap (λ (o : OwnSlots). o.until) is ∙ next;
  spare = ap (λ (o : OwnSlots). o.spare) is;
  version = ap (λ (o : OwnSlots). o.version) is;
  named = ap (λ (o : OwnSlots). o.named) is;
  within = (omega arith, omega arith, omega arith);
  inside = λ n none. absurd (let clash : None ≡ Some n = none in cc);
  early = omega arith;
  makes = λ no. absurd (let clash : false ≡ true = no in cc);
}

-- ---- steps

pub slots_still : (x y : Whole) (s : HeldSlots) → y.knows.slots ≡ x.knows.slots → y.view.size ≡ x.view.size → HoldsSlots x s → HoldsSlots y s
slots_still x y s same sized was = record {
  next = ap (λ (o : OwnSlots). o.next) same ∙ was.next;
  until = ap (λ (o : OwnSlots). o.until) same ∙ was.until;
  spare = ap (λ (o : OwnSlots). o.spare) same ∙ was.spare;
  version = ap (λ (o : OwnSlots). o.version) same ∙ was.version;
  named = ap (λ (o : OwnSlots). o.named) same ∙ was.named;
  within = subst (λ (z : Size). (2 ≤ s.next) × (s.next ≤ s.until) × (s.until ≤ z.slots + 2)) (sym sized) was.within;
  inside = subst (λ (z : Size). (n : ℕ) → s.spare ≡ Some n → IsNode z.slots n) (sym sized) was.inside;
  early = subst (λ (z : Size). s.version ≤ z.starts.version + 1) (sym sized) was.early;
  makes = subst (λ (o : OwnSlots). s.filled ≡ true → MakesOwn o (Some (filled_node o))) (sym same) was.makes;
}

-- the next attempt makes the spare's node, or doesn't
pub named_holds : (x y : Whole) (s : HeldSlots) (named : Bool) → y.knows.slots ≡ record x.knows.slots { named = named } → y.view.size ≡ x.view.size
    → HoldsSlots x s → HoldsSlots y (record s { named = named })
named_holds x y s named is sized was = record {
  next = ap (λ (o : OwnSlots). o.next) is ∙ was.next;
  until = ap (λ (o : OwnSlots). o.until) is ∙ was.until;
  spare = ap (λ (o : OwnSlots). o.spare) is ∙ was.spare;
  version = ap (λ (o : OwnSlots). o.version) is ∙ was.version;
  named = ap (λ (o : OwnSlots). o.named) is;
  within = subst (λ (z : Size). (2 ≤ s.next) × (s.next ≤ s.until) × (s.until ≤ z.slots + 2)) (sym sized) was.within;
  inside = subst (λ (z : Size). (n : ℕ) → s.spare ≡ Some n → IsNode z.slots n) (sym sized) was.inside;
  early = subst (λ (z : Size). s.version ≤ z.starts.version + 1) (sym sized) was.early;
  makes = subst (λ (o : OwnSlots). s.filled ≡ true → MakesOwn o (Some (filled_node o))) (sym is) was.makes;
}

left_over : (st : Stage) (named won : Bool) (spare : Option ℕ) → won ≡ took_effect st → spare_left st named spare ≡ (if named && won then None else spare)
left_over absent false won spare is = refl
left_over absent true won spare is = ap (λ (b : Bool). if b then None else spare) (sym is)
left_over undecided false won spare is = refl
left_over undecided true won spare is = ap (λ (b : Bool). if b then None else spare) (sym is)
left_over (committed s) false won spare is = refl
left_over (committed s) true won spare is = ap (λ (b : Bool). if b then None else spare) (sym is)
left_over (aborted cause) false won spare is = refl
left_over (aborted cause) true won spare is = ap (λ (b : Bool). if b then None else spare) (sym is)

inside_left : (slots : ℕ) (spent : Bool) (spare : Option ℕ) → ((n : ℕ) → spare ≡ Some n → IsNode slots n)
    → (n : ℕ) → (if spent then None else spare) ≡ Some n → IsNode slots n
inside_left slots true spare inside n none = absurd (let clash : None ≡ Some n = none in cc)
inside_left slots false spare inside n is = inside n is

-- the attempt is cleared, which was decided so
pub cleared_holds : (x y : Whole) (s : HeldSlots) (st : Stage) → y.knows.slots ≡ slots_cleared x.knows.slots st → s.won ≡ took_effect st
    → y.view.size ≡ x.view.size → HoldsSlots x s → HoldsSlots y (cleared_slots s)
cleared_holds x y s st is won sized was = record {
  next = ap (λ (o : OwnSlots). o.next) is ∙ was.next;
  until = ap (λ (o : OwnSlots). o.until) is ∙ was.until;
  spare = ap (λ (o : OwnSlots). o.spare) is ∙ left_over st x.knows.slots.named s.won x.knows.slots.spare won
      ∙ ap (λ (b : Bool). if b && s.won then None else x.knows.slots.spare) was.named ∙ ap (λ (o : Option ℕ). if s.named && s.won then None else o) was.spare;
  version = ap (λ (o : OwnSlots). o.version) is ∙ was.version;
  named = ap (λ (o : OwnSlots). o.named) is;
  within = subst (λ (z : Size). (2 ≤ s.next) × (s.next ≤ s.until) × (s.until ≤ z.slots + 2)) (sym sized) was.within;
  inside = subst (λ (z : Size). (n : ℕ) → (if s.named && s.won then None else s.spare) ≡ Some n → IsNode z.slots n) (sym sized)
      (inside_left x.view.size.slots (s.named && s.won) s.spare was.inside);
  early = subst (λ (z : Size). s.version ≤ z.starts.version + 1) (sym sized) was.early;
  makes = λ no. absurd (let clash : false ≡ true = no in cc);
}

-- the next slot is taken as the spare
pub taken_holds : (x y : Whole) (s : HeldSlots) (n v w : ℕ) → y.knows.slots ≡ with_spare x.knows.slots v → v ≡ x.view.size.starts.version + 1
    → w ≡ v → y.view.size ≡ x.view.size → n ≡ x.knows.slots.next → n < x.knows.slots.until → HoldsSlots x s
    → HoldsSlots y (record s { next = n + 1; spare = Some n; version = w; filled = false; named = false })
taken_holds x y s n v w is opened found sized next lt was =
    let low = was.within.0 in let ends = was.within.2 in let here = was.next in let there = was.until in record {
      next = ap (λ (o : OwnSlots). o.next) is ∙ ap (λ (m : ℕ). m + 1) (sym next);
      until = ap (λ (o : OwnSlots). o.until) is ∙ was.until;
      spare = ap (λ (o : OwnSlots). o.spare) is ∙ ap Some (sym next);
      version = ap (λ (o : OwnSlots). o.version) is ∙ sym found;
      named = ap (λ (o : OwnSlots). o.named) is;
      within = (omega arith, omega arith, subst (λ (z : Size). s.until ≤ z.slots + 2) (sym sized) ends);
      inside = λ m is_m. let same : n ≡ m = cc in
          subst (λ (i : ℕ). IsNode y.view.size.slots i) same (subst (λ (z : Size). IsNode z.slots n) (sym sized) (omega arith, omega arith));
      early = subst (λ (z : Size). w ≤ z.starts.version + 1) (sym sized) (omega arith);
      makes = λ no. absurd (let clash : false ≡ true = no in cc);
    }

-- a number is filled in, and its exchange doesn't make the spare's node yet
pub filled_holds : (x y : Whole) (s : HeldSlots) (f : Field) (v : ℕ) → y.knows.slots ≡ with_filled x.knows.slots f v
    → y.view.size ≡ x.view.size → HoldsSlots x s → HoldsSlots y (record s { filled = false })
filled_holds x y s f v is sized was = record {
  next = ap (λ (o : OwnSlots). o.next) is ∙ was.next;
  until = ap (λ (o : OwnSlots). o.until) is ∙ was.until;
  spare = ap (λ (o : OwnSlots). o.spare) is ∙ was.spare;
  version = ap (λ (o : OwnSlots). o.version) is ∙ was.version;
  named = ap (λ (o : OwnSlots). o.named) is ∙ was.named;
  within = subst (λ (z : Size). (2 ≤ s.next) × (s.next ≤ s.until) × (s.until ≤ z.slots + 2)) (sym sized) was.within;
  inside = subst (λ (z : Size). (n : ℕ) → s.spare ≡ Some n → IsNode z.slots n) (sym sized) was.inside;
  early = subst (λ (z : Size). s.version ≤ z.starts.version + 1) (sym sized) was.early;
  makes = λ no. absurd (let clash : false ≡ true = no in cc);
}
