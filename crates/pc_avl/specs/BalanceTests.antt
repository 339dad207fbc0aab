-- What the tests of stored heights say.
use Rattle.std.proofs.Common.{◌≡◌, ℕ, ◌+◌, ◌<◌, ◌≤◌, ◌==◌, ◌⊎◌, inl, inr, ⊎_elim, true, false, sym, ◌∙◌, arith}
use Rattle.std.specs.Prelude.{nat_le}
use Rattle.std.proofs.lemmas.Bool.{and_parts, and_cases, and_from, eqb-true, eq-eqb, leb-true, leb-false, le-leb}
use Rattle.pc_model.specs.declared.cell.Field.TheVariants.{Height}
use Rattle.pc_model.specs.declared.cell.Side.{Side}
use Rattle.pc_model.specs.declared.cell.Side.TheVariants.{Left, Right}
use Rattle.pc_model.specs.Cells.{Cells}
use Rattle.pc_model.specs.Sides.{link_of, opposite}
use Rattle.pc_model.specs.TreeForms.{height_at, height_over, AreClose, IsInBalanceOver, IsInBalance}
use Rattle.pc_avl.specs.Balances.{are_close, is_in_balance}

pub close_is : (a b : ℕ) → are_close a b ≡ true → AreClose a b
close_is a b e = let parts : (nat_le a (b + 1) ≡ true) × (nat_le b (a + 1) ≡ true) = and_parts (nat_le a (b + 1))
    (nat_le b (a + 1)) e in (leb-true a (b + 1) parts.0, leb-true b (a + 1) parts.1)

pub not_close : (a b : ℕ) → are_close a b ≡ false → (b + 2 ≤ a) ⊎ (a + 2 ≤ b)
not_close a b e = ⊎_elim (λ f. let more : b + 1 < a = leb-false a (b + 1) f in inl (omega arith))
    (λ f. let more : a + 1 < b = leb-false b (a + 1) f in inr (omega arith))
    (and_cases (nat_le a (b + 1)) (nat_le b (a + 1)) e)

pub balance_is : (a b own : ℕ) → is_in_balance a b own ≡ true → IsInBalanceOver a b own
balance_is a b own e =
    let parts : ((own == height_over a b) ≡ true) × (are_close a b ≡ true) = and_parts (own == height_over a b)
    (are_close a b) e in
    (eqb-true own (height_over a b) parts.0, close_is a b parts.1)

pub is_balance : (a b own : ℕ) → IsInBalanceOver a b own → is_in_balance a b own ≡ true
is_balance a b own h = and_from (own == height_over a b) (are_close a b) (eq-eqb own (height_over a b) h.0)
    (and_from (nat_le a (b + 1)) (nat_le b (a + 1)) (le-leb a (b + 1) h.1.0) (le-leb b (a + 1) h.1.1))

pub height_over-swap : (a b : ℕ) → height_over a b ≡ height_over b a
height_over-swap a b = omega arith

pub balance_swap : (a b own : ℕ) → IsInBalanceOver a b own → IsInBalanceOver b a own
balance_swap a b own h = (h.0 ∙ height_over-swap a b, (h.1.1, h.1.0))

-- a node is in balance by the heights of its children, seen from one of its sides
pub balance_from : (s : Side) (c : Cells) (y : ℕ) → IsInBalanceOver (height_at c (c y (link_of s)))
    (height_at c (c y (link_of (opposite s)))) (c y Height) → IsInBalance c y
balance_from Left c y h = h
balance_from Right c y h = balance_swap (height_at c (c y (link_of Right))) (height_at c (c y (link_of Left)))
    (c y Height) h

pub balance_to : (s : Side) (c : Cells) (y : ℕ) → IsInBalance c y → IsInBalanceOver (height_at c (c y (link_of s)))
    (height_at c (c y (link_of (opposite s)))) (c y Height)
balance_to Left c y h = h
balance_to Right c y h = balance_swap (height_at c (c y (link_of Left))) (height_at c (c y (link_of Right)))
    (c y Height) h

-- what a test of told heights says of a node whose children have them
module _ (s : Side) (c : Cells) (n near far own : ℕ) (near_is : near ≡ height_at c (c n (link_of s)))
    (far_is : far ≡ height_at c (c n (link_of (opposite s)))) (own_is : own ≡ c n Height) where
  in_cells : is_in_balance near far own
      ≡ is_in_balance (height_at c (c n (link_of s))) (height_at c (c n (link_of (opposite s)))) (c n Height)
  in_cells = λ i. is_in_balance (near_is i) (far_is i) (own_is i)

  pub told_balance : is_in_balance near far own ≡ true → IsInBalance c n
  told_balance e = balance_from s c n (balance_is (height_at c (c n (link_of s)))
      (height_at c (c n (link_of (opposite s)))) (c n Height) (sym in_cells ∙ e))

  pub told_imbalance : is_in_balance near far own ≡ false → IsInBalance c n → ⊥
  told_imbalance e h =
      let yes : is_in_balance (height_at c (c n (link_of s))) (height_at c (c n (link_of (opposite s)))) (c n Height)
      ≡ true = is_balance (height_at c (c n (link_of s))) (height_at c (c n (link_of (opposite s)))) (c n Height)
      (balance_to s c n h) in
      let no : true ≡ false = sym yes ∙ sym in_cells ∙ e in
      absurd (cc)
