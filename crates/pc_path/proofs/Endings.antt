-- A pass after its operation took effect or was lost.
use Rattle.std.proofs.Common.{◌≡◌, ℕ, ◌+◌, ◌≤◌, ◌<◌, ◌++◌, length, vec_capacity, Result, Ok, Err, IfOk, OnErr, inr, sym, ap, ◌∙◌, subst}
use mathlib.Core.Option.{some}
use lib.ListN.{get_elem?}
use Rattle.pc_model.specs.Exchanges.{Exchange}
use Rattle.pc_model.specs.declared.shape.Shape.{Ghosts}
use Rattle.pc_rule_law.specs.Past.{Has}
use Rattle.pc_rule_law.specs.Plays.{IsWell}
use Rattle.pc_rule_law.specs.Views.{View}
use Rattle.pc_protocol.specs.Notes.{in_run}
use Rattle.pc_exchange_law.specs.Wholes.{Whole}
use Rattle.pc_rule.specs.declared.board.Board.{Board}
use Rattle.pc_rule.specs.declared.board.Pass.{Pass}
use Rattle.pc_rule.specs.Carrying.{entries_of, HasTakenEffect}
use Rattle.pc_rule.specs.Passes.{whole, view, board_size, share_of, recorded, taken_down, IsPassOf, IsSeatedAs, SitsAs, OnlyCarried}
use Rattle.pc_path.specs.declared.lost.Lost.{Lost}
use Rattle.pc_path.specs.Endings.{OnlyConcluded}

module _ {H : Type 0} {S : Ghosts H} where
  -- it knows what it knew
  pub whole_same : (q r : Pass H S) → OnlyConcluded q r → whole r ≡ whole q
  whole_same q r only = ap (λ t. t.me.0) only.0

  -- it is where it was
  pub concluded_sits : (p q r : Pass H S) → SitsAs p q → OnlyConcluded q r → SitsAs p r
  concluded_sits p q r same only = let e : view r ≡ view q = ap (λ t. t.me.0.view) only.0 in (
    ap (λ t. t.table_id) only.0 ∙ same.0,
    ap (λ (v : View). v.size) e ∙ same.1,
    ap (λ (v : View). v.seat) e ∙ same.2,
    ap (λ (v : View). v.last) e ∙ same.3,
    ap (λ (v : View). v.rest) e ∙ same.4,
    subst IsWell (sym e) same.5,
    only.1 ∙ same.6,
    only.3 ∙ same.7,
  )

  pub concluded_of : (b : Board H) (q r : Pass H S) → IsPassOf b q → OnlyConcluded q r
      → (length (recorded q) ≤ (share_of q).calls → length (recorded r) ≤ (share_of r).calls) → IsPassOf b r
  concluded_of b q r of only few = let e : view r ≡ view q = ap (λ t. t.me.0.view) only.0 in let seat = ap (λ (v : View). v.seat) e in (
    ap (λ t. t.table_id) only.0 ∙ of.0,
    ap (λ (v : View). v.size) e ∙ of.1,
    subst (λ s. s < (board_size b).seats) (sym seat) of.2,
    subst IsWell (sym e) of.3,
    subst (λ n. get_elem? b.shares.items n ≡ some (share_of r)) (sym seat) (subst (λ s. get_elem? b.shares.items (view q).seat ≡ some s) (sym only.1) of.4),
    few of.5,
  )

  pub seated_sits : (p q : Pass H S) → IsSeatedAs p q → SitsAs p q
  seated_sits p q same = (same.0, same.1, same.2, same.3, same.4, same.5, same.6, ap (λ r. vec_capacity r.entries) same.7)

  pub sits_then : (p q r : Pass H S) → SitsAs p q → SitsAs q r → SitsAs p r
  sits_then p q r a b = (b.0 ∙ a.0, b.1 ∙ a.1, b.2 ∙ a.2, b.3 ∙ a.3, b.4 ∙ a.4, b.5, b.6 ∙ a.6, b.7 ∙ a.7)

  -- where it only dropped the call that it was to record
  pub only_dropped : (q r : Pass H S) → OnlyCarried q r → OnlyConcluded q r
  only_dropped q r only = (only.0, only.1, only.3, ap (λ v. vec_capacity v) only.2)

  pub few_dropped : (q r : Pass H S) → OnlyCarried q r → length (recorded q) ≤ (share_of q).calls → length (recorded r) ≤ (share_of r).calls
  few_dropped q r only le = subst (λ v. length v.items ≤ (share_of r).calls) (sym only.2) (subst (λ s. length (recorded q) ≤ s.calls) (sym only.1) le)

  -- what it recorded since an earlier moment, at which it had recorded the same and was to record the same
  recorded_since : (p q : Pass H S) → IsSeatedAs p q → (s : ℕ) → recorded q ++ taken_down q s ≡ recorded p ++ taken_down p s
  recorded_since p q same s = λ i. (same.7 i).entries.items ++ entries_of (same.2 i + 1) (length ((same.7 i).entries.items) + 1) s ((same.7 i).carried)

  pub recorded_ok : (p q r : Pass H S) (a : Result ℕ Lost) → IsSeatedAs p q → IfOk a (λ s. recorded r ≡ recorded q ++ taken_down q s)
      → IfOk a (λ s. recorded r ≡ recorded p ++ taken_down p s)
  unfolding recorded_since
  recorded_ok p q r (Ok s) same is = is ∙ recorded_since p q same s
  recorded_ok p q r (Err e) same is = tt

  pub recorded_err : (p q r : Pass H S) (a : Result ℕ Lost) → IsSeatedAs p q → OnErr a (recorded r ≡ recorded q) → OnErr a (recorded r ≡ recorded p)
  recorded_err p q r (Ok s) same is = tt
  recorded_err p q r (Err e) same is = is ∙ ap (λ t. t.entries.items) same.7

-- a read that took effect
pub read_effect : (y : Whole) (a : Result ℕ Lost) (e : Exchange) → IfOk a (λ s. Has y.knows.told (in_run s e)) → IfOk a (HasTakenEffect y)
read_effect y (Ok s) e has = inr (e, has)
read_effect y (Err l) e has = tt
