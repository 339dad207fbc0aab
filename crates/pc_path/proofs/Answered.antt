-- What an operation answers, by how its exchange ended.
use Rattle.std.proofs.Common.{◌≡◌, ℕ, ◌-◌, List, IfOk, IfErr, OnErr, inl, ⊎_elim, sym, subst}
use Rattle.pc_model.specs.declared.numbers.Numbers.{Numbers}
use Rattle.pc_model.specs.Exchanges.{Exchange}
use Rattle.pc_rule_law.specs.Past.{Has}
use Rattle.pc_protocol.specs.Histories.{withdrawn, ended as at_the_end, changed, locked}
use Rattle.pc_protocol.specs.Notes.{Note, published}
use Rattle.pc_exchange_law.specs.Ties.{code}
use Rattle.pc_exchange_law.specs.Wholes.{Whole}
use Rattle.pc_rule.specs.declared.opening.Place.{Place}
use Rattle.pc_rule.specs.declared.refs.Ref.{Ref}
use Rattle.pc_rule.specs.declared.visit.Visit.{Visit}
use Rattle.pc_rule.specs.Carrying.{HasTakenEffect}
use Rattle.pc_kcas.specs.declared.verdict.Verdict.{Verdict}
use Rattle.pc_kcas.specs.declared.verdict.Verdict.TheVariants.{Won, Changed as NodeChanged, Locked as NodeLocked, Blocked as WasStuck, Numbers as HadNoNumber}
use Rattle.pc_kcas.specs.Verdicts.{KeepsAll, KnowsWon, KnowsLost, KnowsChanged}
use Rattle.pc_kcas.specs.Exchanges.{KnowsAbove}
use Rattle.pc_kcas.specs.Verdicts.{IfWon, IfChanged as IfNodeChanged, IfLocked as IfNodeLocked, IfBlocked as IfStuck, IfNumbers as IfNoNumber}
use Rattle.pc_path.specs.Exchanges.{answer_as, HasTakenPlace, HasFailed, IsPast, WasSeen}
use Rattle.pc_path.specs.Losses.{IfChanged, IfLocked, IfBlocked, IfNumbers}

pub won_ok : (v : Verdict) (seen : ℕ) (X Y : ℕ → Type 0) → ((s : ℕ) → X s → Y s) → IfWon v X → IfOk (answer_as v seen) Y
won_ok (Won s) seen X Y f is = f s is
won_ok (NodeChanged n) seen X Y f is = tt
won_ok (NodeLocked n by) seen X Y f is = tt
won_ok (WasStuck first second) seen X Y f is = tt
won_ok (HadNoNumber n) seen X Y f is = tt

pub won_effect : (y : Whole) (a : ℕ) (v : Verdict) (seen : ℕ) → IfWon v (KnowsWon y a) → IfOk (answer_as v seen) (HasTakenEffect y)
won_effect y a v seen is = won_ok v seen (KnowsWon y a) (HasTakenEffect y) (λ s won. inl (a, won)) is

pub failed_err : (y : Whole) (v : Verdict) (seen : ℕ) → KnowsLost y y.view.attempt.number v → OnErr (answer_as v seen) (HasFailed y)
failed_err y (Won s) seen is = tt
failed_err y (NodeChanged n) seen is = (changed n, is)
failed_err y (NodeLocked n by) seen is = (locked n (by - 1), is)
failed_err y (WasStuck first second) seen is = (withdrawn, is)
failed_err y (HadNoNumber n) seen is = ⊎_elim (λ w. (withdrawn, w)) (λ e. (at_the_end, e)) is

pub changed_err : (y : Whole) (visits : List Visit) (places : List Place) (v : Verdict) (seen : ℕ) → IfNodeChanged v (KnowsChanged y y.view.attempt.number)
    → IfNodeChanged v (λ n. WasSeen visits places n seen) → IfErr (answer_as v seen) (λ e. IfChanged e (IsPast visits places y))
changed_err y visits places (Won s) seen is was = tt
changed_err y visits places (NodeChanged n) seen is was = (is, was)
changed_err y visits places (NodeLocked n by) seen is was = tt
changed_err y visits places (WasStuck first second) seen is was = tt
changed_err y visits places (HadNoNumber n) seen is was = tt

pub locked_err : (X : ℕ → ℕ → Type 0) (v : Verdict) (seen : ℕ) → IfNodeLocked v X → IfErr (answer_as v seen) (λ e. IfLocked e X)
locked_err X (Won s) seen is = tt
locked_err X (NodeChanged n) seen is = tt
locked_err X (NodeLocked n by) seen is = is
locked_err X (WasStuck first second) seen is = tt
locked_err X (HadNoNumber n) seen is = tt

pub blocked_err : (X Y : Ref → Ref → Type 0) (v : Verdict) (seen : ℕ) → ((first second : Ref) → X first second → Y first second)
    → IfStuck v X → IfErr (answer_as v seen) (λ e. IfBlocked e Y)
blocked_err X Y (Won s) seen f is = tt
blocked_err X Y (NodeChanged n) seen f is = tt
blocked_err X Y (NodeLocked n by) seen f is = tt
blocked_err X Y (WasStuck first second) seen f is = f first second is
blocked_err X Y (HadNoNumber n) seen f is = tt

pub numbers_err : (X : Numbers → Type 0) (v : Verdict) (seen : ℕ) → IfNoNumber v X → IfErr (answer_as v seen) (λ e. IfNumbers e X)
numbers_err X (Won s) seen is = tt
numbers_err X (NodeChanged n) seen is = tt
numbers_err X (NodeLocked n by) seen is = tt
numbers_err X (WasStuck first second) seen is = tt
numbers_err X (HadNoNumber n) seen is = is

-- an exchange that was published and took effect
pub took_place : (seen : List Note) (x y : Whole) (e : Exchange) (s : ℕ) → KeepsAll x y → y.view.seat ≡ x.view.seat → y.view.attempt.number ≡ x.view.attempt.number
    → KnowsAbove seen x e → KnowsWon y y.view.attempt.number s → HasTakenPlace seen y e s
took_place seen x y e s kept seat number known won = record {
  attempt = y.view.attempt.number;
  clock = known.0;
  noted = subst (λ (n : ℕ). Has y.knows.told (published (code y.view.seat n) e known.0)) (sym number)
      (subst (λ (p : ℕ). Has y.knows.told (published (code p x.view.attempt.number) e known.0)) (sym seat)
      (kept.told (published (code x.view.seat x.view.attempt.number) e known.0) known.1));
  above = known.2;
  won = won;
}
