-- The words that a pass adds: the version of the sentinel and its value.
use Rattle.std.proofs.Common.{◌≡◌, ◌≢◌, ℕ, zero, suc, ◌+◌, ◌<◌, true, List, [], ◌∷◌, ◌++◌, length, inl, refl, sym, ap, ap₂, ◌∙◌, subst, arith}
use Rattle.std.proofs.lemmas.List.{length_push}
use mathlib.Core.Option.{some}
use lib.ListN.{get_elem?}
use Rattle.pc_model.specs.declared.cell.Field.{Field}
use Rattle.pc_model.specs.declared.cell.Field.TheVariants.{Version, Value}
use Rattle.pc_model.specs.declared.shape.Shape.{Ghosts}
use Rattle.pc_model.specs.Cells.{field_number, IsEven}
use Rattle.pc_protocol.specs.Notes.{visited, read_word}
use Rattle.pc_rule_law.specs.Board.{Size}
use Rattle.pc_rule_law.specs.Conditions.{CanWrite}
use Rattle.pc_rule_law.specs.Past.{Has}
use Rattle.pc_rule_law.specs.Views.{View, OwnAttempt}
use Rattle.pc_rule_law.proofs.Lists.{below_length}
use Rattle.pc_exchange_law.specs.ExchangeConditions.{KnowsOld, was_read, is_version}
use Rattle.pc_exchange_law.specs.Passes.{PassKnows}
use Rattle.pc_exchange_law.specs.Paths.{Path}
use Rattle.pc_exchange_law.specs.Wholes.{Whole}
use Rattle.pc_rule.specs.declared.board.Board.{Board}
use Rattle.pc_rule.specs.declared.board.Pass.{Pass}
use Rattle.pc_rule.specs.declared.opening.Place.{Place}
use Rattle.pc_rule.specs.declared.visit.Visit.{Visit}
use Rattle.pc_rule.specs.Walking.{path_with}
use Rattle.pc_rule.specs.Passes.{whole, view, knows, path, listed, visits, board_size}
use Rattle.pc_kcas.specs.declared.mode.Mode.TheVariants.{Words, Path as OfPath}
use Rattle.pc_kcas.specs.Exchanges.{RaisesVersions, KnowsOldValues}
use Rattle.pc_kcas.specs.Obstacles.{GoesOn}
use Rattle.pc_path.specs.Adds.{IsLastVisit}
use Rattle.pc_path.specs.Finds.{HasFound}
use Rattle.board_trials.proofs.Loosely.{two_loose}
use Rattle.path_trials.specs.Operating.{HasBegun, HasAdded}

-- the version from v on, and the value from x to this one
abbrev pub raised : ℕ → Place
raised v = record { node = 1; field = Version; old = v; new = v + 2 }

abbrev pub revalued : ℕ → ℕ → Place
revalued x new = record { node = 1; field = Value; old = x; new = new }

module _ {H : Type 0} {S : Ghosts H} where
  -- both were added
  pub both_added : (b : Board H) (p q : Pass H S) (v x new : ℕ) → HasBegun p → GoesOn (whole p) (whole q) → (path q).begun ≡ true
      → listed q ≡ raised v ∷ revalued x new ∷ [] → IsEven v
      → KnowsOld (board_size b) (knows q) 1 v Version v → KnowsOld (board_size b) (knows q) 1 v Value x → HasAdded b q
  both_added b p q v x new begun goes still are even known_version known_value = record {
    begun = still;
    can = (goes.attempt.1 ∙ begun.can.0, ap (λ (a : OwnAttempt). a.published) goes.attempt.0 ∙ begun.can.1);
    some = let n : length (listed q) ≡ 2 = ap (λ (l : List Place). length l) are in omega arith;
    raises = subst RaisesVersions (sym are) raises;
    fits_words = two_loose (view q).size.slots Words (path q) (raised v) (revalued x new) (listed q) refl are (refl, evener) tt;
    fits_path = two_loose (view q).size.slots OfPath (path q) (raised v) (revalued x new) (listed q) refl are (refl, evener) tt;
    old = subst (KnowsOldValues (board_size b) (knows q)) (sym are) knows_both;
  }
    where
      evener : IsEven (v + 2)
      evener = omega arith

      raises : RaisesVersions (raised v ∷ revalued x new ∷ [])
      raises zero d lt = (raised v, (0, refl), refl, refl, inl refl, λ _. inl evener)
      raises (suc zero) d lt = (raised v, (0, refl), refl, refl, inl refl, λ version. absurd (let clash : 2 ≡ 0 = ap field_number version in omega (arith, clash)))
      raises (suc (suc k)) d lt = absurd (omega arith)

      knows_both : KnowsOldValues (board_size b) (knows q) (raised v ∷ revalued x new ∷ [])
      knows_both zero d lt = (raised v, (0, refl), refl, refl, known_version, inl refl)
      knows_both (suc zero) d lt = (raised v, (0, refl), refl, refl, known_value, inl refl)
      knows_both (suc (suc k)) d lt = absurd (omega arith)
