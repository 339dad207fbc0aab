-- Room for calls: that of shares adds up, and what passes record is put together as they are taken in.
use Rattle.std.proofs.Common.{◌≡◌, ℕ, zero, suc, ◌+◌, ◌≤◌, List, [], ◌∷◌, ◌++◌, length, take, drop, refl, sym, ap, ◌∙◌, subst, arith}
use Rattle.std.proofs.Math.ListN.{length-append}
use Rattle.std.proofs.lemmas.List.Sorted.{IsPermutation-append_comm, IsPermutation-append_right, IsPermutation-trans}
use Rattle.std.specs.List.Sorted.{IsPermutation}
use mathlib.Core.Option.{some, some-injective, some-ne-none}
use lib.ListN.{get_elem?}
use Rattle.atomic_table.proofs.Lists.{drop_at}
use Rattle.pc_model.specs.declared.call.Entry.{Entry}
use Rattle.pc_model.specs.declared.shape.Shape.{Ghosts}
use Rattle.pc_rule.specs.declared.board.Pass.{Pass}
use Rattle.pc_rule_law.specs.declared.share.Share.{Share}
use Rattle.pc_rule.specs.Passes.{share_of, recorded}
use Rattle.pc_rule.specs.Recorded.{calls_of, recorded_by}

pub in_parts : {X : Type 0} (a b c : List X) → (a ++ b) ++ c ≡ a ++ (b ++ c)
in_parts [] b c = refl
in_parts {X} (x ∷ xs) b c = ap (λ (l : List X). x ∷ l) (in_parts xs b c)

pub with_none : {X : Type 0} (a : List X) → a ++ [] ≡ a
with_none [] = refl
with_none {X} (x ∷ xs) = ap (λ (l : List X). x ∷ l) (with_none xs)

-- the calls of one more share
pub one_more : (shares : List Share) (i : ℕ) (x : Share) → get_elem? shares i ≡ some x → calls_of (drop i shares) ≡ x.calls + calls_of (drop (suc i) shares)
one_more shares i x at = ap calls_of (drop_at shares i x at)

pub one_of_all : (shares : List Share) (i : ℕ) (x : Share) → get_elem? shares i ≡ some x → x.calls ≤ calls_of shares
one_of_all [] i x at = absurd (some-ne-none x (sym at))
one_of_all (y ∷ ys) zero x at = let e : y.calls ≡ x.calls = ap (λ (s : Share). s.calls) (some-injective y x at) in omega arith
one_of_all (y ∷ ys) (suc i) x at = let r = one_of_all ys i x at in omega arith

-- the calls of the first shares, one by one
pub one_taken : (shares : List Share) (i : ℕ) (x : Share) → get_elem? shares i ≡ some x → calls_of (take (suc i) shares) ≡ calls_of (take i shares) + x.calls
one_taken [] i x at = absurd (some-ne-none x (sym at))
one_taken (y ∷ ys) zero x at = let e : y.calls ≡ x.calls = ap (λ (s : Share). s.calls) (some-injective y x at) in omega arith
one_taken (y ∷ ys) (suc i) x at = let r = one_taken ys i x at in omega arith

pub all_taken : (shares : List Share) (n : ℕ) → length shares ≤ n → calls_of (take n shares) ≡ calls_of shares
all_taken [] zero le = refl
all_taken [] (suc n) le = refl
all_taken (x ∷ xs) zero le = absurd (omega arith)
all_taken (x ∷ xs) (suc n) le = ap (λ (c : ℕ). x.calls + c) (all_taken xs n (omega arith))

-- when the last of these shares is taken in, there is room for its calls and for those of the others
pub room_taken : (shares : List Share) (n : ℕ) (x : Share) (few other room : ℕ) → get_elem? shares n ≡ some x → other ≤ x.calls
    → few + calls_of (take (suc n) shares) ≤ room → (few + other) + calls_of (take n shares) ≤ room
room_taken shares n x few other room at le fits = let e = one_taken shares n x at in omega arith

module _ {H : Type 0} {S : Ghosts H} where
  -- a pass has room for the calls of another that it takes in
  pub fits_now : (shares : List Share) (old front : List (Pass H S)) (last other : Pass H S) (room : ℕ) → old ≡ front ++ other ∷ []
      → get_elem? shares (length front) ≡ some (share_of other) → length (recorded other) ≤ (share_of other).calls
      → length (recorded last) + calls_of (take (length old) shares) ≤ room → length (recorded last) + length (recorded other) ≤ room
  fits_now shares old front last other room e at few fits =
      let n : length old ≡ suc (length front) = ap length e ∙ (length-append front (other ∷ []) ∙ (let k = length front in omega arith)) in
      let r = room_taken shares (length front) (share_of other) (length (recorded last)) (length (recorded other)) room at few (subst (λ (k : ℕ). length (recorded last) + calls_of (take k shares) ≤ room) n fits) in omega arith

  -- and for what is left, after it took that in
  pub fits_then : (shares : List Share) (old front : List (Pass H S)) (last after other : Pass H S) (before more : ℕ) → old ≡ front ++ other ∷ []
      → get_elem? shares (length front) ≡ some (share_of other) → length (recorded other) ≤ (share_of other).calls
      → length (recorded last) + calls_of (take (length old) shares) ≤ before → recorded after ≡ recorded last ++ recorded other → before ≤ more
      → length (recorded after) + calls_of (take (length front) shares) ≤ more
  fits_then shares old front last after other before more e at few fits is grows =
      let n : length old ≡ suc (length front) = ap length e ∙ (length-append front (other ∷ []) ∙ (let k = length front in omega arith)) in
      let r = room_taken shares (length front) (share_of other) (length (recorded last)) (length (recorded other)) before at few (subst (λ (k : ℕ). length (recorded last) + calls_of (take k shares) ≤ before) n fits) in
      let l : length (recorded after) ≡ length (recorded last) + length (recorded other) = ap length is ∙ length-append (recorded last) (recorded other) in omega arith

  pub recorded_last : (front : List (Pass H S)) (p : Pass H S) → recorded_by (front ++ p ∷ []) ≡ recorded_by front ++ recorded p
  recorded_last [] p = with_none (recorded p)
  recorded_last (x ∷ xs) p = ap (λ (l : List Entry). recorded x ++ l) (recorded_last xs p) ∙ sym (in_parts (recorded x) (recorded_by xs) (recorded p))

  -- a pass that is taken in adds what it recorded
  pub taken_in : (all : List Entry) (old front : List (Pass H S)) (p : Pass H S) (before after : List Entry) → old ≡ front ++ p ∷ [] → after ≡ before ++ recorded p
      → IsPermutation all (recorded_by old ++ before) → IsPermutation all (recorded_by front ++ after)
  taken_in all old front p before after e more is = IsPermutation-trans all (recorded_by old ++ before) (recorded_by front ++ after) is
      (subst (λ (l : List Entry). IsPermutation l (recorded_by front ++ after)) (sym parts)
      (subst (λ (l : List Entry). IsPermutation (recorded_by front ++ (recorded p ++ before)) (recorded_by front ++ l)) (sym more)
      (IsPermutation-append_right (recorded_by front) (recorded p ++ before) (before ++ recorded p) (IsPermutation-append_comm (recorded p) before))))
    where
      parts : recorded_by old ++ before ≡ recorded_by front ++ (recorded p ++ before)
      parts = ap (λ (l : List (Pass H S)). recorded_by l ++ before) e ∙ (ap (λ (l : List Entry). l ++ before) (recorded_last front p) ∙ in_parts (recorded_by front) (recorded p) before)
