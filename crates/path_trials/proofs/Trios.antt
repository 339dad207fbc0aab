-- The three passes of a board, from its opening to its closing.
use Rattle.std.proofs.Common.{◌≡◌, ℕ, zero, suc, ◌+◌, ◌≤◌, true, List, [], ◌∷◌, ◌++◌, length, get_or, vec_capacity, refl, sym, ap, ◌∙◌, subst, arith}
use Rattle.std.proofs.lemmas.List.{length_push}
use mathlib.Core.Option.{some}
use lib.ListN.{get_elem?}
use Rattle.pc_model.specs.declared.shape.Shape.{Ghosts}
use Rattle.pc_rule_law.specs.Conditions.{IsFree, CanWrite}
use Rattle.pc_rule_law.specs.Views.{View, OwnAttempt}
use Rattle.pc_rule_law.proofs.Lists.{below_length}
use Rattle.pc_exchange_law.specs.Paths.{Path, ended_path}
use Rattle.pc_rule.specs.declared.board.Board.{Board}
use Rattle.pc_rule.specs.declared.board.Pass.{Pass}
use Rattle.pc_rule.specs.Passes.{view, path, board_size, IsPassOf, SitsAs}
use Rattle.pc_rule.specs.Recorded.{calls_of, HasRoomFor}
use Rattle.pc_rule.specs.Shares.{AreAll, NoneTried, NoneVisited}
use Rattle.pc_rule.proofs.Calls.{read_at}
use Rattle.path_trials.specs.Operating.{IsAtRest}
use Rattle.path_trials.specs.Seats.{HasThree, HasSeat, IsThird}

-- three that were taken from the end of a list of three are that list
pub three_of : {V : Type 0} (l more rest left : List V) (a b c : V) → l ≡ more ++ c ∷ [] → more ≡ rest ++ b ∷ [] → rest ≡ left ++ a ∷ [] → length l ≡ 3
    → l ≡ a ∷ b ∷ c ∷ []
three_of {V} l more rest [] a b c e f g n = e ∙ ap (λ (m : List V). m ++ c ∷ []) (f ∙ ap (λ (m : List V). m ++ b ∷ []) g)
three_of {V} l more rest (x ∷ xs) a b c e f g n = absurd
    (let p : length l ≡ length more + 1 = ap length e ∙ length_push more c in let q : length more ≡ length rest + 1 = ap length f ∙ length_push rest b in
    let r : length rest ≡ length (x ∷ xs) + 1 = ap length g ∙ length_push (x ∷ xs) a in omega arith)

module _ {H : Type 0} {S : Ghosts H} where
  -- a pass of a board that opened is at rest
  pub rests_at : (b : Board H) (passes : List (Pass H S)) → AreAll b passes → NoneTried passes → NoneVisited passes → (i : ℕ) (p : Pass H S)
      → get_elem? passes i ≡ some p → HasSeat b i p × IsAtRest p
  rests_at b passes all tried visited i p at = let t = tried i p at in (
    all.order i p at,
    record { rests = ap (λ (q : Path). q.begun) (visited i p at).0; can = (t.0, ap (λ (a : OwnAttempt). a.published) t.1) },
  )

  pub third_at : (b : Board H) (passes : List (Pass H S)) (p : Pass H S) → AreAll b passes → HasThree b → get_elem? passes 2 ≡ some p → IsThird b p
  third_at b passes p all three at = let l = all.last 2 p at (sym three.0) in (l.0, l.1, l.2)

  -- three that sit as they should are all
  module _ (b : Board H) (p q r : Pass H S) (three : HasThree b) (first : HasSeat b 0 p) (second : HasSeat b 1 q) (third : HasSeat b 2 r) (last : IsThird b r) where
    in_order : (i : ℕ) (u : Pass H S) → get_elem? (p ∷ q ∷ r ∷ []) i ≡ some u → HasSeat b i u
    in_order zero u at = subst (HasSeat b 0) (read_at (p ∷ q ∷ r ∷ []) 0 u u at) first
    in_order (suc zero) u at = subst (HasSeat b 1) (read_at (p ∷ q ∷ r ∷ []) 1 u u at) second
    in_order (suc (suc zero)) u at = subst (HasSeat b 2) (read_at (p ∷ q ∷ r ∷ []) 2 u u at) third
    in_order (suc (suc (suc i))) u at = let lt = below_length (p ∷ q ∷ r ∷ []) (suc (suc (suc i))) u at in absurd (omega arith)

    last_of : (i : ℕ) (u : Pass H S) → get_elem? (p ∷ q ∷ r ∷ []) i ≡ some u → i + 1 ≡ (board_size b).seats → ((view u).last ≡ true) × ((view u).rest ≡ i) × HasRoomFor b.shares.items u
    last_of zero u at e = let n = three.0 in absurd (omega arith)
    last_of (suc zero) u at e = let n = three.0 in absurd (omega arith)
    last_of (suc (suc zero)) u at e = subst (IsThird b) (read_at (p ∷ q ∷ r ∷ []) 2 u u at) last
    last_of (suc (suc (suc i))) u at e = let n = three.0 in absurd (omega arith)

    pub three_all : (passes : List (Pass H S)) → passes ≡ p ∷ q ∷ r ∷ [] → AreAll b passes
    unfolding in_order last_of
    three_all passes are = subst (AreAll b) (sym are) record {
      some = let n = three.0 in omega arith;
      count = sym three.0;
      shared = three.1 ∙ sym three.0;
      order = in_order;
      last = last_of;
    }
