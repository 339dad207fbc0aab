-- The board opened with the old numbers of these words.
use Rattle.std.proofs.Common.{◌≡◌, ℕ, zero, suc, List, [], ◌∷◌, inl, refl, sym, ◌∙◌, subst, arith}
use Rattle.pc_model.specs.declared.cell.Field.{Field}
use Rattle.pc_model.specs.declared.cell.Field.TheVariants.{Version, Key, Value, Left, Right, Parent, Height, Spare}
use Rattle.pc_model.specs.Linked.{opening_cells}
use Rattle.pc_rule_law.specs.Board.{Size}
use Rattle.pc_rule_law.specs.Past.{Has}
use Rattle.pc_exchange_law.specs.ExchangeConditions.{KnowsOld, was_opened}
use Rattle.pc_exchange_law.specs.Passes.{PassKnows}
use Rattle.pc_exchange_law.specs.Slots.{IsHeld}
use Rattle.pc_rule.specs.declared.opening.Place.{Place}
use Rattle.pc_kcas.specs.Exchanges.{KnowsOldValues}
use Rattle.board_trials.specs.Words.{IsOther}

opened_other : (start n : ℕ) (f : Field) → IsOther f → 0 ≡ opening_cells start n f
opened_other start n Version is = absurd is
opened_other start n Key is = absurd is
opened_other start n Value is = refl
opened_other start n Left is = absurd is
opened_other start n Right is = absurd is
opened_other start n Parent is = absurd is
opened_other start n Height is = refl
opened_other start n Spare is = absurd is

opened_version : (start n : ℕ) → start ≡ 0 → n ≡ 1 → 0 ≡ opening_cells start n Version
opened_version start n is one = subst (λ (m : ℕ). 0 ≡ opening_cells start m Version) (sym one) (sym is)

abbrev OpenedSo : Size → PassKnows → List Place → Place → Type 0
OpenedSo z k places p = (v : Place) × Has places v × (v.node ≡ p.node) × (v.field ≡ Version) × KnowsOld z k p.node v.old p.field p.old × IsHeld k p.node

module _ (z : Size) (k : PassKnows) (one two : Place) (start : z.starts.version ≡ 0) (is_one : (one.node ≡ 1) × (one.field ≡ Version) × (one.old ≡ 0))
    (is_two : (two.node ≡ 1) × IsOther two.field × (two.old ≡ 0)) where
  opened_one : OpenedSo z k (one ∷ two ∷ []) one
  unfolding opened_version
  opened_one = let e = is_one.2 ∙ opened_version z.starts.version one.node start is_one.0 in
      (one, (zero, refl), refl, is_one.1, was_opened e (subst (λ (f : Field). one.old ≡ opening_cells z.starts.version one.node f) (sym is_one.1) e), inl is_one.0)

  opened_two : OpenedSo z k (one ∷ two ∷ []) two
  unfolding opened_version opened_other
  opened_two = (
    one,
    (zero, refl),
    is_one.0 ∙ sym is_two.0,
    is_one.1,
    was_opened (is_one.2 ∙ opened_version z.starts.version two.node start is_two.0) (is_two.2 ∙ opened_other z.starts.version two.node two.field is_two.1),
    inl is_two.0,
  )

  pub two_opened : KnowsOldValues z k (one ∷ two ∷ [])
  unfolding opened_one opened_two
  two_opened zero d lt = opened_one
  two_opened (suc zero) d lt = opened_two
  two_opened (suc (suc n)) d lt = absurd (omega arith)
