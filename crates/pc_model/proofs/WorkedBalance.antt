-- A balanced tree of one node, by its stored height: with height 1 its key isn't in debt, with any other
-- height it is.
use Rattle.std.proofs.Common.{◌≡◌, ℕ, ◌^◌, ◌<◌, inl, [], ◌∷◌, refl, subst, arith}
use Rattle.pc_model.specs.declared.cell.Field.{Field}
use Rattle.pc_model.specs.declared.cell.Field.TheVariants.{Version, Key, Value, Left, Right, Parent, Height, Spare}
use Rattle.pc_model.specs.Cells.{Cells, opening_fields, written, with_node}
use Rattle.pc_model.specs.Trees.{Empty, Fork, balanced, IsSearchTree}
use Rattle.pc_model.specs.TreeForms.{IsInBalanceOver, IsInBalance, InDebt}

-- the fields of a node with key 5 and this stored height
abbrev node_fields : ℕ → Field → ℕ
node_fields height Version = 2
node_fields height Key = 5
node_fields height Value = 50
node_fields height Left = 0
node_fields height Right = 0
node_fields height Parent = 1
node_fields height Height = height
node_fields height Spare = 0

-- that node hangs in slot 2 at the sentinel's left link
abbrev one_node : ℕ → Cells
one_node height = written 1 Left 2 (with_node 2 (node_fields height) opening_fields)

is_balanced_tree : (height : ℕ) → height < 2 ^ 62 → IsSearchTree balanced 1 (one_node height) ((5, 50) ∷ [])
is_balanced_tree height small = record {
  tree = Fork 2 Empty Empty;
  spelled = (refl, record { slot = (omega arith, omega arith); unmarked = refl; of_kind = (refl, small) }, refl, refl);
  pairs = refl;
  rising = (omega arith, tt);
  small = (omega arith, omega arith, tt);
  covered = λ n slot even. inl (omega arith);
  unmarked = refl;
  no_right = refl;
  no_parent = refl;
}

in_balance_at_1 : IsInBalance (one_node 1) 2
in_balance_at_1 = (refl, (omega arith, omega arith))

not_in_debt_at_1 : (k : ℕ) → InDebt 1 (one_node 1) k → ⊥
not_in_debt_at_1 k debt =
    let two : debt.node ≡ 2 = (let slot = debt.slot in omega arith) in
    subst (λ (n : ℕ). IsInBalance (one_node 1) n → ⊥) two debt.out_of_balance in_balance_at_1

in_debt_at_0 : InDebt 1 (one_node 0) 5
in_debt_at_0 = record {
  node = 2;
  slot = (omega arith, omega arith);
  unmarked = refl;
  key = refl;
  out_of_balance = λ balance. absurd (omega (arith, balance.0));
}

in_debt_at_2 : InDebt 1 (one_node 2) 5
in_debt_at_2 = record {
  node = 2;
  slot = (omega arith, omega arith);
  unmarked = refl;
  key = refl;
  out_of_balance = λ balance. absurd (omega (arith, balance.0));
}

-- Balance, by the stored heights of the two children and the node's own

one_apart : IsInBalanceOver 1 0 2
one_apart = (refl, (omega arith, omega arith))

two_apart : IsInBalanceOver 2 0 3 → ⊥
two_apart balance = absurd (omega (arith, balance.1.0))

where_heights_end : IsInBalanceOver 4611686018427387903 4611686018427387903 4611686018427387903
where_heights_end = (refl, (omega arith, omega arith))
