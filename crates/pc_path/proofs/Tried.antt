-- What was tried was tried, however it was lost.
use Rattle.std.proofs.Common.{◌≡◌, ℕ, ◌⊎◌, inl, sym, subst, List, Result, Ok, Err, IfErr}
use Rattle.pc_model.specs.Exchanges.{Exchange}
use Rattle.pc_rule_law.specs.Past.{Has}
use Rattle.pc_protocol.specs.Notes.{Note, published}
use Rattle.pc_exchange_law.specs.Ties.{code}
use Rattle.pc_exchange_law.specs.Wholes.{Whole}
use Rattle.pc_kcas.specs.Exchanges.{KnowsAbove, KnowsExchange}
use Rattle.pc_kcas.specs.Verdicts.{KeepsAll}
use Rattle.pc_path.specs.declared.lost.Lost.{Lost}
use Rattle.pc_path.specs.declared.lost.Lost.TheVariants.{Changed, Locked, Blocked, Numbers as OutOfNumbers}
use Rattle.pc_path.specs.Losses.{IfChanged}
use Rattle.pc_path.specs.Tries.{IfTried}

lost_tried : (X : Type 0) (e : Lost) → X → IfTried e X
lost_tried X (Changed n seen) is = is
lost_tried X (Locked n by) is = is
lost_tried X (Blocked first second) is = is
lost_tried X (OutOfNumbers k) is = tt

pub tried_err : (X : Type 0) (a : Result ℕ Lost) → X → IfErr a (λ e. IfTried e X)
tried_err X (Ok s) is = tt
tried_err X (Err e) is = lost_tried X e is

change_tried : (X : Type 0) (Y : ℕ → ℕ → Type 0) (e : Lost) → IfTried e X → IfChanged e (λ n seen. X ⊎ Y n seen)
change_tried X Y (Changed n seen) is = inl is
change_tried X Y (Locked n by) is = tt
change_tried X Y (Blocked first second) is = tt
change_tried X Y (OutOfNumbers k) is = tt

pub changed_tried : (X : Type 0) (Y : ℕ → ℕ → Type 0) (a : Result ℕ Lost) → IfErr a (λ e. IfTried e X) → IfErr a (λ e. IfChanged e (λ n seen. X ⊎ Y n seen))
changed_tried X Y (Ok s) is = tt
changed_tried X Y (Err e) is = change_tried X Y e is

-- what was published is known still
pub exchange_kept : (seen : List Note) (x y : Whole) (e : Exchange) → y.view.seat ≡ x.view.seat → y.view.attempt.number ≡ x.view.attempt.number → KeepsAll x y
    → KnowsAbove seen x e → KnowsExchange y e
exchange_kept seen x y e seat number kept known = (
  known.0,
  subst (λ (s : ℕ). Has y.knows.told (published (code s y.view.attempt.number) e known.0)) (sym seat)
      (subst (λ (a : ℕ). Has y.knows.told (published (code x.view.seat a) e known.0)) (sym number) (kept.told _ known.1)),
)
