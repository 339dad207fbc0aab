-- Changes of the sentinel's version and value keep cells linked, so they fit the loosest shape.
use Rattle.std.proofs.Common.{◌≡◌, ◌≢◌, ℕ, zero, suc, ◌+◌, map, ◌==◌, if◌then◌else◌, List, [], ◌∷◌, refl, sym, ◌∙◌, subst, inl, inr, ⊎_elim, arith}
use Rattle.std.specs.List.{All}
use Rattle.std.proofs.lemmas.List.Sorted.{All-permutation}
use Rattle.std.proofs.lemmas.Bool.Decides.{nat_tests}
use mathlib.Core.Logic.{dite}
use native.Mathlib.Decide.{ℕ_discrete}
use Rattle.pc_model.specs.declared.cell.Field.{Field}
use Rattle.pc_model.specs.declared.cell.Field.TheVariants.{Version, Key, Value, Left, Right, Parent, Height, Spare}
use Rattle.pc_model.specs.Cells.{Cells, IsEven, written}
use Rattle.pc_model.specs.Exchanges.{with_changes}
use Rattle.pc_model.specs.Linked.{IsLinkField, IsUnmarked, IsChildOf, IsLinked}
use Rattle.pc_model.specs.Shapes.{loose_form}
use Rattle.pc_rule.specs.declared.opening.Place.{Place}
use Rattle.pc_rule.specs.Starting.{change_of}
use Rattle.pc_exchange_law.specs.Paths.{Path}
use Rattle.pc_kcas.specs.declared.mode.Mode.{Mode}
use Rattle.pc_kcas.specs.Exchanges.{FitsByMode}
use Rattle.pc_kcas.specs.Locks.{words_by}
use Rattle.board_trials.specs.Words.{IsOther}

-- cells with the same links, and versions that are even where they were, are linked where the others are
module _ (slots : ℕ) (c d : Cells) (links : (n : ℕ) (f : Field) → IsLinkField f → d n f ≡ c n f)
    (fore : (n : ℕ) → IsEven (d n Version) → IsEven (c n Version)) (back : (n : ℕ) → IsEven (c n Version) → IsEven (d n Version)) where
  child_then : (n above : ℕ) → IsChildOf c n above → IsChildOf d n above
  child_then n above is = ⊎_elim (λ l. inl (links above Left tt ∙ l)) (λ r. inr (links above Right tt ∙ r)) is

  child_before : (n above : ℕ) → IsChildOf d n above → IsChildOf c n above
  child_before n above is = ⊎_elim (λ l. inl (sym (links above Left tt) ∙ l)) (λ r. inr (sym (links above Right tt) ∙ r)) is

  linked_as : IsLinked slots c → IsLinked slots d
  unfolding child_then child_before
  linked_as l = record {
    sentinel = back 1 l.sentinel;
    links = λ n f at is ne. let e = links n f is in let to = l.links n f (at.0, fore n at.1) is (λ z. ne (e ∙ z)) in
        subst (IsUnmarked slots d) (sym e) (to.0, back (c n f) to.1);
    hang = λ n slot even. let h = l.hang n slot (fore n even) in record {
      above = h.above;
      unmarked = (h.unmarked.0, back h.above h.unmarked.1);
      child = child_then n h.above h.child;
      no_other = λ m at is. h.no_other m (at.0, fore m at.1) (child_before n m is);
    };
  }

-- the sentinel's version, which is even then, or a value or a height
abbrev pub IsLoose : ℕ → Field → ℕ → Type 0
IsLoose n Version x = (n ≡ 1) × IsEven x
IsLoose n Key x = ⊥
IsLoose n Value x = Unit {0}
IsLoose n Left x = ⊥
IsLoose n Right x = ⊥
IsLoose n Parent x = ⊥
IsLoose n Height x = Unit {0}
IsLoose n Spare x = ⊥

if_true : (m : ℕ) (x y : ℕ) → m ≡ 1 → (if m == 1 then x else y) ≡ x
if_true m x y e = grind (arith, nat_tests)

if_false : (m : ℕ) (x y : ℕ) → m ≢ 1 → (if m == 1 then x else y) ≡ y
if_false m x y ne = grind (arith, nat_tests)

same_links : (n x : ℕ) (c : Cells) (m : ℕ) (g : Field) → IsLinkField g → written n Version x c m g ≡ c m g
same_links n x c m Version is = absurd is
same_links n x c m Key is = absurd is
same_links n x c m Value is = absurd is
same_links n x c m Left is = refl
same_links n x c m Right is = refl
same_links n x c m Parent is = refl
same_links n x c m Height is = absurd is
same_links n x c m Spare is = absurd is

same_links_of_value : (n x : ℕ) (c : Cells) (m : ℕ) (g : Field) → IsLinkField g → written n Value x c m g ≡ c m g
same_links_of_value n x c m Version is = absurd is
same_links_of_value n x c m Key is = absurd is
same_links_of_value n x c m Value is = absurd is
same_links_of_value n x c m Left is = refl
same_links_of_value n x c m Right is = refl
same_links_of_value n x c m Parent is = refl
same_links_of_value n x c m Height is = absurd is
same_links_of_value n x c m Spare is = absurd is

same_links_of_height : (n x : ℕ) (c : Cells) (m : ℕ) (g : Field) → IsLinkField g → written n Height x c m g ≡ c m g
same_links_of_height n x c m Version is = absurd is
same_links_of_height n x c m Key is = absurd is
same_links_of_height n x c m Value is = absurd is
same_links_of_height n x c m Left is = refl
same_links_of_height n x c m Right is = refl
same_links_of_height n x c m Parent is = refl
same_links_of_height n x c m Height is = absurd is
same_links_of_height n x c m Spare is = absurd is

version_linked : (slots x : ℕ) (c : Cells) → IsEven x → IsLinked slots c → IsLinked slots (written 1 Version x c)
unfolding linked_as same_links
version_linked slots x c even l = linked_as slots c (written 1 Version x c) (same_links 1 x c)
    (λ n is. dite (ℕ_discrete n 1) (λ (e : n ≡ 1). subst (λ (k : ℕ). IsEven (c k Version)) (sym e) l.sentinel)
    (λ ne. subst IsEven (if_false n x (c n Version) ne) is))
    (λ n is. dite (ℕ_discrete n 1) (λ (e : n ≡ 1). subst IsEven (sym (if_true n x (c n Version) e)) even)
    (λ ne. subst IsEven (sym (if_false n x (c n Version) ne)) is)) l

one_linked : (slots n : ℕ) (f : Field) (x : ℕ) (c : Cells) → IsLoose n f x → IsLinked slots c → IsLinked slots (written n f x c)
unfolding version_linked
one_linked slots n Version x c is l = subst (λ (k : ℕ). IsLinked slots (written k Version x c)) (sym is.0) (version_linked slots x c is.1 l)
one_linked slots n Key x c is l = absurd is
one_linked slots n Value x c is l = linked_as slots c (written n Value x c) (same_links_of_value n x c) (λ m e. e) (λ m e. e) l
one_linked slots n Left x c is l = absurd is
one_linked slots n Right x c is l = absurd is
one_linked slots n Parent x c is l = absurd is
one_linked slots n Height x c is l = linked_as slots c (written n Height x c) (same_links_of_height n x c) (λ m e. e) (λ m e. e) l
one_linked slots n Spare x c is l = absurd is

abbrev pub IsLoosePlace : Place → Type 0
IsLoosePlace p = IsLoose p.node p.field p.new

all_linked : (slots : ℕ) (places : List Place) (c : Cells) → All IsLoosePlace places → IsLinked slots c → IsLinked slots (with_changes (map change_of places) c)
unfolding one_linked
all_linked slots [] c all l = l
all_linked slots (p ∷ places) c all l = all_linked slots places (written p.node p.field p.new c) (λ k d lt. all (suc k) d (omega arith))
    (one_linked slots p.node p.field p.new c (all 0 p (omega arith)) l)

-- an exchange of such changes fits in each order, whatever it visits and reads
pub loose_fits : (slots : ℕ) (m : Mode) (path : Path) (places : List Place) → All IsLoosePlace (words_by m path places) → FitsByMode loose_form slots m path places
unfolding all_linked
loose_fits slots m path places all ordered same = (
  [],
  record {
    leaves = λ c sound stands. (sound.0, (all_linked slots ordered c (All-permutation IsLoosePlace (words_by m path places) ordered same all) sound.1.0, sound.1.1));
    charges = λ c k sound stands debt. absurd debt;
  },
)

-- two of them, in a mode that adds no locks
pub two_loose : (slots : ℕ) (m : Mode) (path : Path) (p q : Place) (places : List Place) → words_by m path (p ∷ q ∷ []) ≡ p ∷ q ∷ []
    → places ≡ p ∷ q ∷ [] → IsLoosePlace p → IsLoosePlace q → FitsByMode loose_form slots m path places
unfolding loose_fits
two_loose slots m path p q places unlocked is one two = subst (FitsByMode loose_form slots m path) (sym is)
    (loose_fits slots m path (p ∷ q ∷ []) (subst (All IsLoosePlace) (sym unlocked) both))
  where
    both : All IsLoosePlace (p ∷ q ∷ [])
    both zero d lt = one
    both (suc zero) d lt = two
    both (suc (suc k)) d lt = absurd (omega arith)

pub even_next : (n : ℕ) → IsEven n → IsEven (n + 2)
even_next n is = omega arith

pub other_loose : (n x : ℕ) (f : Field) → IsOther f → IsLoose n f x
other_loose n x Version is = absurd is
other_loose n x Key is = absurd is
other_loose n x Value is = tt
other_loose n x Left is = absurd is
other_loose n x Right is = absurd is
other_loose n x Parent is = absurd is
other_loose n x Height is = tt
other_loose n x Spare is = absurd is
