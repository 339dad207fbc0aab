-- On a board without slots, changes of the sentinel's words that keep its version even and its links to itself or to none keep
-- cells linked, so they fit the loosest shape.
use Rattle.std.proofs.Common.{◌≡◌, ℕ, suc, ◌<◌, map, List, [], ◌∷◌, sym, subst, arith}
use Rattle.std.specs.List.{All}
use Rattle.std.proofs.lemmas.List.Sorted.{All-permutation}
use mathlib.Core.Logic.{dite}
use native.Mathlib.Decide.{ℕ_discrete}
use Rattle.pc_model.specs.declared.cell.Field.{Field}
use Rattle.pc_model.specs.declared.cell.Field.TheVariants.{Version, Key, Value, Left, Right, Parent, Height, Spare}
use Rattle.pc_model.specs.Cells.{Cells, IsEven, written}
use Rattle.pc_model.specs.Exchanges.{with_changes}
use Rattle.pc_model.specs.Linked.{IsLinkField, IsUnmarked, IsLinked}
use Rattle.pc_model.specs.Shapes.{loose_form}
use Rattle.pc_rule.specs.declared.opening.Place.{Place}
use Rattle.pc_rule.specs.Starting.{change_of}
use Rattle.pc_exchange_law.specs.Paths.{Path}
use Rattle.pc_kcas.specs.declared.mode.Mode.{Mode}
use Rattle.pc_kcas.specs.Exchanges.{FitsByMode}
use Rattle.pc_kcas.specs.Locks.{words_by}
use Rattle.path_race.specs.Racing.{KeepsLinked}

-- the sentinel's version is even, and its links name it or none
record IsFlat (c : Cells) : Type 0 where
  pub even : IsEven (c 1 Version)
  pub links : (f : Field) → IsLinkField f → c 1 f < 2

flat_of : (slots : ℕ) (c : Cells) → slots ≡ 0 → IsLinked slots c → IsFlat c
flat_of slots c none l = record {
  even = l.sentinel;
  links = λ f is. dite (ℕ_discrete (c 1 f) 0)
      (λ (e : c 1 f ≡ 0). omega arith)
      (λ ne. let to = (l.links 1 f ((omega arith, omega arith), l.sentinel) is ne).0 in let low = to.0 in let high = to.1 in omega arith);
}

linked_of : (slots : ℕ) (c : Cells) → slots ≡ 0 → IsFlat c → IsLinked slots c
linked_of slots c none flat = record {
  sentinel = flat.even;
  links = λ n f at is ne. let low = at.0.0 in let high = at.0.1 in let one : n ≡ 1 = omega arith in
      let small : c n f < 2 = subst (λ (k : ℕ). c k f < 2) (sym one) (flat.links f is) in
      let to : c n f ≡ 1 = omega arith in subst (IsUnmarked slots c) (sym to) ((omega arith, omega arith), flat.even);
  hang = λ n slot even. let low = slot.0 in let high = slot.1 in absurd (omega arith);
}

-- each link after a write of the sentinel
left_after : (f : Field) (x : ℕ) (c : Cells) → KeepsLinked f x → c 1 Left < 2 → written 1 f x c 1 Left < 2
left_after Left x c keeps h = keeps
left_after Version x c keeps h = h
left_after Key x c keeps h = h
left_after Value x c keeps h = h
left_after Right x c keeps h = h
left_after Parent x c keeps h = h
left_after Height x c keeps h = h
left_after Spare x c keeps h = h

right_after : (f : Field) (x : ℕ) (c : Cells) → KeepsLinked f x → c 1 Right < 2 → written 1 f x c 1 Right < 2
right_after Right x c keeps h = keeps
right_after Version x c keeps h = h
right_after Key x c keeps h = h
right_after Value x c keeps h = h
right_after Left x c keeps h = h
right_after Parent x c keeps h = h
right_after Height x c keeps h = h
right_after Spare x c keeps h = h

parent_after : (f : Field) (x : ℕ) (c : Cells) → KeepsLinked f x → c 1 Parent < 2 → written 1 f x c 1 Parent < 2
parent_after Parent x c keeps h = keeps
parent_after Version x c keeps h = h
parent_after Key x c keeps h = h
parent_after Value x c keeps h = h
parent_after Left x c keeps h = h
parent_after Right x c keeps h = h
parent_after Height x c keeps h = h
parent_after Spare x c keeps h = h

version_after : (f : Field) (x : ℕ) (c : Cells) → KeepsLinked f x → IsEven (c 1 Version) → IsEven (written 1 f x c 1 Version)
version_after Version x c keeps h = keeps
version_after Key x c keeps h = h
version_after Value x c keeps h = h
version_after Left x c keeps h = h
version_after Right x c keeps h = h
version_after Parent x c keeps h = h
version_after Height x c keeps h = h
version_after Spare x c keeps h = h

links_after : (f : Field) (x : ℕ) (c : Cells) → KeepsLinked f x → IsFlat c → (g : Field) → IsLinkField g → written 1 f x c 1 g < 2
links_after f x c keeps flat Version is = absurd is
links_after f x c keeps flat Key is = absurd is
links_after f x c keeps flat Value is = absurd is
links_after f x c keeps flat Left is = left_after f x c keeps (flat.links Left tt)
links_after f x c keeps flat Right is = right_after f x c keeps (flat.links Right tt)
links_after f x c keeps flat Parent is = parent_after f x c keeps (flat.links Parent tt)
links_after f x c keeps flat Height is = absurd is
links_after f x c keeps flat Spare is = absurd is

-- a word of the sentinel that keeps cells linked
abbrev pub KeepsPlace : Place → Type 0
KeepsPlace p = (p.node ≡ 1) × KeepsLinked p.field p.new

one_flat : (p : Place) (c : Cells) → KeepsPlace p → IsFlat c → IsFlat (written p.node p.field p.new c)
unfolding links_after version_after
one_flat p c keeps flat = subst (λ (n : ℕ). IsFlat (written n p.field p.new c)) (sym keeps.0) record {
  even = version_after p.field p.new c keeps.1 flat.even;
  links = links_after p.field p.new c keeps.1 flat;
}

all_flat : (places : List Place) (c : Cells) → All KeepsPlace places → IsFlat c → IsFlat (with_changes (map change_of places) c)
all_flat [] c all flat = flat
all_flat (p ∷ places) c all flat = all_flat places (written p.node p.field p.new c) (λ k d lt. all (suc k) d (omega arith))
    (one_flat p c (all 0 p (omega arith)) flat)

-- an exchange of such changes fits in each order, whatever it visits and reads, in a mode that adds no locks
pub flat_fits : (slots : ℕ) (m : Mode) (path : Path) (places : List Place) → words_by m path places ≡ places → slots ≡ 0 → All KeepsPlace places
    → FitsByMode loose_form slots m path places
unfolding all_flat flat_of linked_of
flat_fits slots m path places unlocked none all ordered same = (
  [],
  record {
    leaves = λ c sound stands. (
      sound.0,
      (
        linked_of slots (with_changes (map change_of ordered) c) none
            (all_flat ordered c (All-permutation KeepsPlace (words_by m path places) ordered same (subst (All KeepsPlace) (sym unlocked) all)) (flat_of slots c none sound.1.0)),
        sound.1.1,
      ),
    );
    charges = λ c k sound stands debt. absurd debt;
  },
)
