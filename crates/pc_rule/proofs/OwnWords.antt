-- What a pass keeps of its own descriptors: at the opening, after a store, and after a step that stores nothing there.
use Rattle.std.proofs.Common.{◌≡◌, ◌≢◌, ℕ, ◌+◌, ◌*◌, ◌<◌, ◌≤◌, List, [], ◌∷◌, length, set, replicate, slice_index, sym, ◌∙◌, subst, ap, refl, arith}
use Rattle.std.proofs.lemmas.List.{length-set, get_or-set_same, get_or-set_other, get_or-replicate}
use Rattle.std.proofs.lemmas.Bool.Decides.{nat_tests}
use mathlib.Core.Logic.{dite}
use native.Mathlib.Decide.{ℕ_discrete}
use Rattle.pc_rule_law.specs.Board.{Size, owns_begin, stride}
use Rattle.pc_rule_law.specs.Rule.{opening_install}
use Rattle.pc_rule_law.specs.Views.{word_in}
use Rattle.pc_rule.specs.Stored.{HoldsWords}

-- where the words of a pass begin, which depends on the board's size alone
pub begin_still : (y z : Size) (begin index : ℕ) → z ≡ y → begin ≡ owns_begin y + index * stride y → begin ≡ owns_begin z + index * stride z
begin_still y z begin index same is = subst (λ (x : Size). begin ≡ owns_begin x + index * stride x) (sym same) is

pub begins : (z : Size) (begin index : ℕ) → begin ≡ owns_begin z + (index * stride z + 0) → begin ≡ owns_begin z + index * stride z
begins z begin index is = omega arith

pub words_still : (l m : List (ℕ × ℕ)) (kept : List ℕ) → m ≡ l → HoldsWords l kept → HoldsWords m kept
words_still l m kept same held = subst (λ (w : List (ℕ × ℕ)). HoldsWords w kept) (sym same) held

pub none_stored : (kept : List ℕ) → kept ≡ replicate 75 0 → HoldsWords [] kept
none_stored kept is = subst (HoldsWords []) (sym is) record {
  wide = refl;
  each = λ place lt. get_or-replicate 75 place 0 0 lt;
}

-- the word that was stored last, and the others
last_is : (stored : List (ℕ × ℕ)) (place x j : ℕ) → j ≡ place → word_in ((place, x) ∷ stored) j ≡ x
last_is stored place x j same = grind (arith, nat_tests)

others_stay : (stored : List (ℕ × ℕ)) (place x j : ℕ) → j ≢ place → word_in ((place, x) ∷ stored) j ≡ word_in stored j
others_stay stored place x j other = grind (arith, nat_tests)

pub one_stored : (stored : List (ℕ × ℕ)) (kept : List ℕ) (place x : ℕ) → place < length kept → HoldsWords stored kept
    → HoldsWords ((place, x) ∷ stored) (set kept place x)
one_stored stored kept place x lt held = record {
  wide = length-set kept place x ∙ held.wide;
  each = λ j below. dite (ℕ_discrete j place)
      (λ same. ap (λ (k : ℕ). slice_index (set kept place x) k) same ∙ get_or-set_same kept place x 0 lt ∙ sym (last_is stored place x j same))
      (λ other. get_or-set_other kept place j x 0 other ∙ held.each j below ∙ sym (others_stay stored place x j other));
}

pub one_beyond : (stored : List (ℕ × ℕ)) (kept : List ℕ) (place x : ℕ) → length kept ≤ place → HoldsWords stored kept
    → HoldsWords ((place, x) ∷ stored) kept
one_beyond stored kept place x le held = record {
  wide = held.wide;
  each = λ j below. held.each j below ∙ sym (others_stay stored place x j (let w = held.wide in omega arith));
}

-- a pass that has made no install
pub opening_words : (z : Size) (number : ℕ) → number ≡ z.starts.install → opening_install z ≡ record { number = number; op = 0; place = 0; old = 0 }
opening_words z number is = ap (λ (k : ℕ). record { number = k; op = 0; place = 0; old = 0 }) (sym is)
