-- How many installs the calls along a path made, one after the other.
use Rattle.std.proofs.Common.{◌≡◌, ℕ, suc, ◌+◌, ◌*◌, ◌≤◌, Option, Some, None, ap, ◌∙◌, arith}
use Rattle.std.proofs.Math.Nat.{suc-mul, mul-le-mul_right}
use Rattle.pc_model.specs.declared.cell.Field.{Field}
use Rattle.pc_rule_law.specs.Board.{Size}
use Rattle.pc_rule_law.specs.Plays.{IsLater}
use Rattle.pc_rule_law.specs.Views.{View}
use Rattle.pc_rule.specs.declared.refs.Ref.{Ref}
use Rattle.pc_exchange_law.specs.Wholes.{Whole}
use Rattle.pc_exchange_law.specs.WholePlays.{CellSeen}
use Rattle.pc_kcas.specs.Bounds.{most_in_help}
use Rattle.pc_kcas.proofs.Counted.{none_installed}
use Rattle.pc_path.specs.declared.met.Met.{Met}
use Rattle.pc_path.specs.Bounds.{most_helped, most_in_checks}

-- ---- sums
sum_below : (i x y a m : ℕ) → x ≤ i + a → y ≡ x → a ≤ m → y ≤ i + m
sum_below i x y a m so_far same le = omega arith

sum_more : (i x y z a b : ℕ) → x ≤ i + a → y ≡ x → z + a ≤ y + b → z ≤ i + b
sum_more i x y z a b so_far same more = omega arith

sum_next : (u v w p q m : ℕ) → q ≡ p + m → v ≤ u + p → w ≤ v + m → w ≤ u + q
sum_next u v w p q m is one two = omega arith

sum_within : (v w p q : ℕ) → p ≤ q → w ≤ v + p → w ≤ v + q
sum_within v w p q le more = omega arith

sum_same : (v w x p : ℕ) → w ≤ v + p → x ≡ w → x ≤ v + p
sum_same v w x p le same = omega arith

sum_from : (v u w p : ℕ) → u ≡ v → w ≤ u + p → w ≤ v + p
sum_from v u w p same le = omega arith

sum_none : (v w p : ℕ) → w ≡ v → w ≤ v + p
sum_none v w p same = omega arith

sum_few : (v p q : ℕ) → p ≤ q → v + p ≤ v + q
sum_few v p q le = omega arith

sum_equal : (v w p : ℕ) → w ≡ v → w + p ≤ v + p
sum_equal v w p same = omega arith

at_least_none : (m : ℕ) → 0 ≤ m
at_least_none m = omega arith

same_most : (m : ℕ) → m ≤ m
same_most m = omega arith

-- ---- one word
pub helped_few : (z : Size) (o : Option Ref) → most_helped z o ≤ most_in_help z
unfolding at_least_none same_most
helped_few z None = at_least_none (most_in_help z)
helped_few z (Some helped) = same_most (most_in_help z)

-- where nothing was done, or nothing but loads
pub met_few : (z : Size) (v : View) (o : Option Ref) → v.install.number + most_helped z o ≤ v.install.number + most_in_help z
unfolding helped_few sum_few
met_few z v o = sum_few v.install.number (most_helped z o) (most_in_help z) (helped_few z o)

pub met_same : (v w : View) (most : ℕ) → IsLater v w → w.install.number + most ≤ v.install.number + most
unfolding sum_equal
met_same v w most later = sum_equal v.install.number w.install.number most (none_installed v w later)

module _ (z : Size) (o x y : Whole) (n : ℕ) (f : Field) (w : ℕ) (seen : CellSeen x n f w y) (met : Met)
    (so_far : x.view.install.number ≤ o.view.install.number + most_helped z met.helped) where
  pub found_bounded : y.view.install.number ≤ o.view.install.number + most_in_help z
  unfolding helped_few sum_below
  found_bounded = sum_below o.view.install.number x.view.install.number y.view.install.number (most_helped z met.helped) (most_in_help z)
      so_far (none_installed x.view y.view seen.later) (helped_few z met.helped)

  -- and after a reference was made to leave
  pub way_bounded : (e : Whole) (most : ℕ) → e.view.install.number + most_helped z met.helped ≤ y.view.install.number + most
      → e.view.install.number ≤ o.view.install.number + most
  unfolding sum_more
  way_bounded e most more = sum_more o.view.install.number x.view.install.number y.view.install.number e.view.install.number (most_helped z met.helped) most
      so_far (none_installed x.view y.view seen.later) more

-- ---- the checks of a path's visits
times_next : (n m : ℕ) → (n + 1) * m ≡ n * m + m
times_next n m = let e : n + 1 ≡ suc n = omega arith in ap (λ (i : ℕ). i * m) e ∙ suc-mul n m

pub checks_next : (z : Size) (at : ℕ) (u v w : View) → v.install.number ≤ u.install.number + most_in_checks z at
    → w.install.number ≤ v.install.number + most_in_help z → w.install.number ≤ u.install.number + most_in_checks z (at + 1)
unfolding sum_next times_next
checks_next z at u v w one two = sum_next u.install.number v.install.number w.install.number (at * most_in_help z) ((at + 1) * most_in_help z) (most_in_help z)
    (times_next at (most_in_help z)) one two

pub checks_all : (z : Size) (at count : ℕ) (v w : View) → at ≤ count → w.install.number ≤ v.install.number + most_in_checks z at
    → w.install.number ≤ v.install.number + most_in_checks z count
unfolding sum_within
checks_all z at count v w le more = sum_within v.install.number w.install.number (at * most_in_help z) (count * most_in_help z) (mul-le-mul_right (most_in_help z) le) more

-- ---- steps before and after which make none
pub none_before : (v u w : View) (most : ℕ) → u.install.number ≡ v.install.number → w.install.number ≤ u.install.number + most → w.install.number ≤ v.install.number + most
unfolding sum_from
none_before v u w most same le = sum_from v.install.number u.install.number w.install.number most same le

pub none_only : (v w : View) (most : ℕ) → w.install.number ≡ v.install.number → w.install.number ≤ v.install.number + most
unfolding sum_none
none_only v w most same = sum_none v.install.number w.install.number most same

pub none_after : (v w x : View) (most : ℕ) → w.install.number ≤ v.install.number + most → x.install.number ≡ w.install.number → x.install.number ≤ v.install.number + most
unfolding sum_same
none_after v w x most le same = sum_same v.install.number w.install.number x.install.number most le same

-- ---- attempts
pub one_more : (v w : ℕ) → w ≡ v + 1 → w ≤ v + 1
one_more v w is = omega arith

pub none_more : (v w : ℕ) → w ≡ v → w ≤ v + 1
none_more v w is = omega arith
