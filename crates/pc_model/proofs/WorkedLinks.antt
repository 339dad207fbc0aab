-- Linked cells on worked cases of one slot: a leaf that hangs below the sentinel, and a link to a slot that
-- is out of use.
use Rattle.std.proofs.Common.{◌≡◌, ◌≢◌, ℕ, ◌==◌, inl, ⊎_elim, refl, sym, ◌∙◌, subst}
use Rattle.std.proofs.Common.{arith}
use Rattle.std.proofs.lemmas.Bool.{cases_eq, ne_eqb, cond-false}
use Rattle.pc_model.specs.declared.cell.Field.{Field}
use Rattle.pc_model.specs.declared.cell.Field.TheVariants.{Version, Key, Value, Left, Right, Parent, Height, Spare}
use Rattle.pc_model.specs.Cells.{Cells, written}
use Rattle.pc_model.specs.Linked.{IsLinkField, IsUnmarked, IsChildOf, HangsOnce, IsLinked, opening_cells}

-- the sentinel's left link names slot 2, which is out of use
abbrev dangling : Cells
dangling = written 1 Left 2 (opening_cells 0)

dangling_is_not_linked : IsLinked 1 dangling → ⊥
dangling_is_not_linked h =
    let named : IsUnmarked 1 dangling 2 = h.links 1 Left ((omega arith, omega arith), refl) tt (λ e. absurd (omega
    (arith, e))) in
    let odd : ◌≡◌ {A = ℕ} 1 0 = named.1 in absurd (omega (arith, odd))

-- and now slot 2 is in use
abbrev hung : Cells
hung = written 2 Version 2 dangling

second : IsUnmarked 1 hung 2
second = ((omega arith, omega arith), refl)

other_left : (n : ℕ) → n ≢ 1 → hung n Left ≡ 0
other_left n ne = cond-false (n == 1) 2 0 (ne_eqb n 1 ne)

hung_links : (n : ℕ) (f : Field) → IsLinkField f → hung n f ≢ 0 → IsUnmarked 1 hung (hung n f)
hung_links n Version link ne = absurd link
hung_links n Key link ne = absurd link
hung_links n Value link ne = absurd link
hung_links n Left link ne = ⊎_elim
    (λ e. subst (λ (x : ℕ). IsUnmarked 1 hung (hung x Left)) (sym e) second)
    (λ other. absurd (ne (other_left n other)))
    (cases_eq n 1)
hung_links n Right link ne = absurd (ne refl)
hung_links n Parent link ne = absurd (ne refl)
hung_links n Height link ne = absurd link
hung_links n Spare link ne = absurd link

above_second : (m : ℕ) → IsChildOf hung 2 m → m ≡ 1
above_second m child = ⊎_elim
    (λ e. e)
    (λ other. ⊎_elim
    (λ left. let zero_left : ◌≡◌ {A = ℕ} 0 2 = sym (other_left m other) ∙ left in absurd (omega (arith, zero_left)))
    (λ right. let zero_right : ◌≡◌ {A = ℕ} 0 2 = right in absurd (omega (arith, zero_right)))
    child)
    (cases_eq m 1)

hangs : (n : ℕ) → n ≡ 2 → HangsOnce 1 hung n
hangs n two = subst (HangsOnce 1 hung) (sym two) (record {
  above = 1;
  unmarked = ((omega arith, omega arith), refl);
  child = inl refl;
  no_other = λ m unmarked child. above_second m child;
})

hung_is_linked : IsLinked 1 hung
hung_is_linked = record {
  sentinel = refl;
  links = λ n f unmarked link ne. hung_links n f link ne;
  hang = λ n slot even. hangs n (omega arith);
}
