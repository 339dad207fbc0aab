-- The loose shape: cells are sound in it exactly where they are linked, and those that a board opens with
-- are. Beside it the definitions on worked cases.
use Rattle.std.proofs.Common.{◌≡◌, ℕ, ◌+◌, ◌%◌, ◌==◌, false, [], refl, sym, ap, ◌∙◌}
use Rattle.std.proofs.Common.{arith}
use Rattle.std.proofs.lemmas.Bool.{ne_eqb, cond-false}
use Rattle.pc_model.specs.declared.cell.Field.{Field}
use Rattle.pc_model.specs.declared.cell.Field.TheVariants.{Version, Key, Value, Left, Right, Parent, Height, Spare}
use Rattle.pc_model.specs.Cells.{IsEven, IsSlot, opening_fields}
use Rattle.pc_model.specs.Linked.{IsLinkField, IsLinked, opening_cells}
use Rattle.pc_model.specs.Shapes.{loose_form, IsLoose}

-- the links of the opening cells are 0
opening_links : (start n : ℕ) (f : Field) → IsLinkField f → opening_cells start n f ≡ 0
opening_links start n Version link = absurd link
opening_links start n Key link = absurd link
opening_links start n Value link = absurd link
opening_links start n Left link = refl
opening_links start n Right link = refl
opening_links start n Parent link = refl
opening_links start n Height link = absurd link
opening_links start n Spare link = absurd link

-- every slot is unused
opening_slots : (start slots n : ℕ) → IsEven start → IsSlot slots n → IsEven (opening_cells start n Version) → ⊥
opening_slots start slots n even slot unmarked =
    let other : (n == 1) ≡ false = ne_eqb n 1 (λ e. absurd (omega arith)) in
    let version : opening_cells start n Version ≡ start + 1 = cond-false (n == 1) start (start + 1) other in
    let odd : (start + 1) % 2 ≡ 0 = ap (λ (x : ℕ). x % 2) (sym version) ∙ unmarked in
    absurd (omega (arith, even, odd))

pub opening_linked : (slots start : ℕ) → IsEven start → IsLinked slots (opening_cells start)
opening_linked slots start even = record {
  sentinel = even;
  links = λ n f unmarked link ne. absurd (ne (opening_links start n f link));
  hang = λ n slot unmarked. absurd (opening_slots start slots n even slot unmarked);
}

pub is_loose : IsLoose loose_form
is_loose = record {
  sound = λ slots c. ((λ s. s.1.0), (λ linked. ([], (linked, refl))));
  no_debts = λ slots c k debt. debt;
  opening = λ slots start even. ([], (opening_linked slots start even, refl));
}

-- at the start 0 they are the cells that a tree opens with
same_opening : (n : ℕ) (f : Field) → opening_cells 0 n f ≡ opening_fields n f
same_opening n Version = refl
same_opening n Key = refl
same_opening n Value = refl
same_opening n Left = refl
same_opening n Right = refl
same_opening n Parent = refl
same_opening n Height = refl
same_opening n Spare = refl
