-- All passes of a board, of which one has made calls and may have recorded one.
use Rattle.std.proofs.Common.{◌≡◌, ℕ, ◌+◌, ◌≤◌, true, List, set, length, vec_capacity, sym, ◌∙◌, subst, length-set}
use mathlib.Core.Option.{some}
use lib.ListN.{get_elem?}
use Rattle.pc_model.specs.declared.shape.Shape.{Ghosts}
use Rattle.pc_rule_law.specs.Conditions.{IsFree}
use Rattle.pc_rule_law.proofs.Lists.{each_moved}
use Rattle.pc_rule.specs.declared.board.Board.{Board}
use Rattle.pc_rule.specs.declared.board.Pass.{Pass}
use Rattle.pc_rule.specs.Passes.{view, board_size, IsPassOf, SitsAs}
use Rattle.pc_rule.specs.Recorded.{calls_of, HasRoomFor}
use Rattle.pc_rule.specs.Shares.{AreAll}

module _ {H : Type 0} {S : Ghosts H} where
  abbrev AtEnd : Board H → ℕ → Pass H S → Type 0
  AtEnd b i p = i + 1 ≡ (board_size b).seats → ((view p).last ≡ true) × ((view p).rest ≡ i) × HasRoomFor b.shares.items p

  end_sits : (b : Board H) (i : ℕ) (p q : Pass H S) → AtEnd b i p → SitsAs p q → AtEnd b i q
  end_sits b i p q at sits e = let l = at e in (sits.3 ∙ l.0, sits.4 ∙ l.1, subst (λ n. calls_of b.shares.items ≤ n) (sym sits.7) l.2)

  pub all_sit : (passes : List (Pass H S)) (i : ℕ) (p q : Pass H S) → get_elem? passes i ≡ some p → (b : Board H) → AreAll b passes → SitsAs p q → IsPassOf b q
      → IsFree (view q) → AreAll b (set passes i q)
  all_sit passes i p q at b all sits of free = let before = all.order i p at in let InOrder : ℕ → Pass H S → Type 0 = λ j r. IsPassOf b r × ((view r).seat ≡ j) × IsFree (view r) in record {
    some = all.some;
    count = length-set passes i q ∙ all.count;
    shared = all.shared;
    order = each_moved passes i q InOrder InOrder all.order (of, sits.2 ∙ before.1, free) (λ j r ne there is. is);
    last = each_moved passes i q (AtEnd b) (AtEnd b) all.last (end_sits b i p q (all.last i p at) sits) (λ j r ne there is. is);
  }
