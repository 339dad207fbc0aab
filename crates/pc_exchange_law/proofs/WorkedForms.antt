-- A form for worked boards: cells are sound where the sentinel alone is unmarked, and its links name no node.
use Rattle.std.proofs.Common.{◌≡◌, ◌≢◌, ℕ, ⊎_elim, refl, sym, ◌∙◌, subst, arith}
use Rattle.std.proofs.lemmas.Bool.{cases_eq}
use Rattle.std.proofs.lemmas.Bool.Decides.{nat_tests}
use Rattle.pc_model.specs.declared.cell.Field.{Field}
use Rattle.pc_model.specs.declared.cell.Field.TheVariants.{Version, Key, Value, Left, Right, Parent, Height, Spare}
use Rattle.pc_model.specs.Cells.{Cells, IsEven, IsOdd}
use Rattle.pc_model.specs.Forms.{Form}
use Rattle.pc_model.specs.Linked.{IsLinkField, opening_cells}
use Rattle.pc_exchange_law.specs.Slots.{SoundIsLinked}

pub record IsBare (c : Cells) : Type 0 where
  pub sentinel : IsEven (c 1 Version)
  pub marked : (n : ℕ) → n ≢ 1 → IsOdd (c n Version)
  pub left : c 1 Left ≡ 0
  pub right : c 1 Right ≡ 0
  pub parent : c 1 Parent ≡ 0

abbrev pub bare_form : Form
bare_form = record { sound = λ slots c ps. IsBare c; in_debt = λ slots c k. ⊥ }

-- an unmarked node is the sentinel
only_one : (c : Cells) → IsBare c → (n : ℕ) → IsEven (c n Version) → n ≡ 1
only_one c bare n even = ⊎_elim (λ e. e)
    (λ ne. absurd (let odd : IsOdd (c n Version) = bare.marked n ne in let clash : 0 ≡ 1 = sym even ∙ odd in cc))
    (cases_eq n 1)

link_is_none : (c : Cells) → IsBare c → (f : Field) → IsLinkField f → c 1 f ≡ 0
link_is_none c bare Version link = absurd link
link_is_none c bare Key link = absurd link
link_is_none c bare Value link = absurd link
link_is_none c bare Left link = bare.left
link_is_none c bare Right link = bare.right
link_is_none c bare Parent link = bare.parent
link_is_none c bare Height link = absurd link
link_is_none c bare Spare link = absurd link

pub bare_is_linked : SoundIsLinked bare_form
bare_is_linked slots c sound = let bare = sound.1 in record {
  sentinel = bare.sentinel;
  links = λ n f unmarked link ne. absurd (ne (subst (λ (m : ℕ). c m f ≡ 0) (sym (only_one c bare n unmarked.1))
      (link_is_none c bare f link)));
  hang = λ n slot even. absurd (let one : n ≡ 1 = only_one c bare n even in let two = slot.0 in omega arith);
}

slot_odd : (n : ℕ) → n ≢ 1 → IsOdd (opening_cells 0 n Version)
slot_odd n ne = grind (arith, nat_tests)

pub opening_is_bare : IsBare (opening_cells 0)
opening_is_bare = record { sentinel = refl; marked = slot_odd; left = refl; right = refl; parent = refl }
