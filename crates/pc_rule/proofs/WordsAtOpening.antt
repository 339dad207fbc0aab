-- What each address holds when a board opens, by the place whose address it is.
use Rattle.std.proofs.Common.{◌≡◌, ◌≢◌, ℕ, zero, suc, ◌+◌, ◌-◌, ◌*◌, ◌/◌, ◌%◌, ◌<◌, ◌≤◌, refl, sym, ap, ap₂, ◌∙◌, arith}
use Rattle.std.proofs.lemmas.Nat.{mod-mul-add}
use Rattle.std.proofs.lemmas.Bool.Decides.{nat_tests}
use Rattle.pc_model.specs.declared.cell.Field.{Field}
use Rattle.pc_model.specs.declared.cell.Field.TheVariants.{Version, Key, Value, Left, Right, Parent, Height, Spare}
use Rattle.pc_model.specs.Cells.{field_number}
use Rattle.pc_model.specs.Linked.{opening_cells}
use Rattle.pc_words.specs.declared.word.WordKind.TheVariants.{Plain}
use Rattle.pc_words.specs.Words.{raw}
use Rattle.pc_rule_law.specs.declared.opening.Opening.{Opening}
use Rattle.pc_rule_law.specs.Board.{Size, Own, own_status, own_epoch, own_install, own_word, Place, at_clock, at_epoch, at_own, at_cell, stride, own_offset, owns_begin, address, IsOwn, Inside, shows, shows_own}
use Rattle.pc_rule_law.specs.Tables.{size_of}
use Rattle.pc_rule_law.proofs.Places.{field_number-below, own_offset-below}
use Rattle.pc_rule.specs.Starting.{cell_number, own_number, starting_board}
use Rattle.pc_rule.proofs.Starting.{own_more, nothing_described}

-- a word of a node, by its place in the node
cell_at : (version n : ℕ) (f : Field) → cell_number version n (field_number f) ≡ raw (Plain (opening_cells version n f))
cell_at version n Version = grind (arith, nat_tests)
cell_at version n Key = grind (arith, nat_tests)
cell_at version n Value = refl
cell_at version n Left = refl
cell_at version n Right = refl
cell_at version n Parent = refl
cell_at version n Height = refl
cell_at version n Spare = refl

module _ (o : Opening) where
  abbrev z : Size
  z = size_of o

  -- a word of a pass, by its place among the pass's words
  own_shows : (i : ℕ) (w : Own) → IsOwn o.slots w → own_number o.starts.attempt o.starts.install (own_offset w) ≡ shows_own (starting_board o) i w
  own_shows i own_status is = refl
  own_shows i own_epoch is = refl
  own_shows i (own_install zero) is = refl
  own_shows i (own_install (suc zero)) is = own_more o.starts.attempt o.starts.install 3 (omega arith)
  own_shows i (own_install (suc (suc zero))) is = refl
  own_shows i (own_install (suc (suc (suc zero)))) is = refl
  own_shows i (own_install (suc (suc (suc (suc k))))) is = absurd (let lt : suc (suc (suc (suc k))) < 4 = is in omega arith)
  own_shows i (own_word k) is = own_more o.starts.attempt o.starts.install (6 + k) (omega arith) ∙ sym (nothing_described k)

  module _ (at : ℕ) where
    -- an address past those of the nodes
    pub own_there : owns_begin z ≤ at → (p : Place) → Inside z p → address z p ≡ at
        → own_number o.starts.attempt o.starts.install ((at - owns_begin z) % stride z) ≡ shows (starting_board o) p
    own_there le at_clock in_p e = absurd (omega arith)
    own_there le at_epoch in_p e = absurd (omega arith)
    own_there le (at_cell n f) in_p e = let a = in_p.1 in let c = field_number-below f in absurd (omega arith)
    own_there le (at_own i w) in_p e = let lt = own_offset-below z w in_p.1 in
        let place : at - owns_begin z ≡ i * stride z + own_offset w = omega arith in
        ap (own_number o.starts.attempt o.starts.install) (ap (λ (k : ℕ). k % stride z) place ∙ mod-mul-add i (stride z) (own_offset w) lt) ∙ own_shows i w in_p.1

    pub clock_there : at ≡ 0 → (p : Place) → Inside z p → address z p ≡ at → o.starts.stamp ≡ shows (starting_board o) p
    clock_there is at_clock in_p e = refl
    clock_there is at_epoch in_p e = absurd (omega arith)
    clock_there is (at_own i w) in_p e = absurd (omega arith)
    clock_there is (at_cell n f) in_p e = let a = in_p.0 in absurd (omega arith)

    pub epoch_there : at ≡ 16 + 8 * o.slots → (p : Place) → Inside z p → address z p ≡ at → o.starts.epoch ≡ shows (starting_board o) p
    epoch_there is at_clock in_p e = absurd (omega arith)
    epoch_there is at_epoch in_p e = refl
    epoch_there is (at_own i w) in_p e = absurd (omega arith)
    epoch_there is (at_cell n f) in_p e = let a = in_p.1 in let c = field_number-below f in absurd (omega arith)

    pub cell_there : at < owns_begin z → at ≢ 0 → at ≢ 16 + 8 * o.slots → (p : Place) → Inside z p → address z p ≡ at → cell_number o.starts.version (at / 8) (at % 8) ≡ shows (starting_board o) p
    cell_there lt no_clock no_epoch at_clock in_p e = absurd (no_clock (sym e))
    cell_there lt no_clock no_epoch at_epoch in_p e = absurd (no_epoch (sym e))
    cell_there lt no_clock no_epoch (at_own i w) in_p e = absurd (omega arith)
    cell_there lt no_clock no_epoch (at_cell n f) in_p e = let c = field_number-below f in
        let node : at / 8 ≡ n = omega arith in let place : at % 8 ≡ field_number f = omega arith in
        ap₂ (cell_number o.starts.version) node place ∙ cell_at o.starts.version n f
