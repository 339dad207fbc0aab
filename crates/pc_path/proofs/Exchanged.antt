-- What an exchange that was published and ended answers, by what each part says.
use Rattle.std.proofs.Common.{ℕ, ◌<◌, List, Result, Ok, Err, IfOk, IfErr, OnErr, inr, arith}
use Rattle.std.specs.List.Sorted.{IsPermutation}
use Rattle.pc_protocol.specs.Notes.{Note}
use Rattle.pc_rule_law.specs.Plays.{AddsNotes}
use Rattle.pc_rule_law.specs.Views.{View}
use Rattle.pc_dcss.proofs.Staying.{adds_then}
use Rattle.pc_exchange_law.specs.Paths.{Path}
use Rattle.pc_exchange_law.specs.Wholes.{Whole}
use Rattle.pc_rule.specs.declared.opening.Place.{Place}
use Rattle.pc_kcas.specs.declared.mode.Mode.{Mode}
use Rattle.pc_kcas.specs.Exchanges.{exchange_by}
use Rattle.pc_kcas.specs.Locks.{words_by}
use Rattle.pc_kcas.specs.Verdicts.{KeepsAll, IsAtLast}
use Rattle.pc_path.specs.declared.lost.Lost.{Lost}
use Rattle.pc_path.specs.declared.lost.Lost.TheVariants.{Changed, Locked, Blocked, Numbers as OutOfNumbers}
use Rattle.pc_path.specs.Exchanges.{HasTakenPlace, HasExchanged, HasFailed, HasNoEffect, IsOutOfNumbers, WasInTheWay}
use Rattle.pc_path.specs.Losses.{IfLocked, IfBlocked, IfNumbers}

pub kept_then : (x y z : Whole) → KeepsAll x y → KeepsAll y z → KeepsAll x z
kept_then x y z a b = record {
  notes = adds_then x.view y.view z.view a.notes b.notes;
  noted = λ n h. b.noted n (a.noted n h);
  told = λ n h. b.told n (a.told n h);
}

pub exchanged_ok : (seen : List Note) (y : Whole) (mode : Mode) (p : Path) (places ordered : List Place) (a : Result ℕ Lost) → IsPermutation (words_by mode p places) ordered
    → IfOk a (HasTakenPlace seen y (exchange_by mode p ordered)) → IfOk a (HasExchanged seen y mode p places)
exchanged_ok seen y mode p places ordered (Ok s) same is = (ordered, same, is)
exchanged_ok seen y mode p places ordered (Err e) same is = tt

pub no_effect_err : (v : View) (y : Whole) (a : Result ℕ Lost) → OnErr a (HasFailed y) → OnErr a (HasNoEffect v y)
no_effect_err v y (Ok s) is = tt
no_effect_err v y (Err e) is = inr is

lost_numbers : (v : View) (y : Whole) (e : Lost) → IfNumbers e (IsAtLast y) → IfNumbers e (IsOutOfNumbers v y)
lost_numbers v y (Changed n seen) is = tt
lost_numbers v y (Locked n by) is = tt
lost_numbers v y (Blocked first second) is = tt
lost_numbers v y (OutOfNumbers k) is = inr is

pub numbers_then : (v : View) (y : Whole) (a : Result ℕ Lost) → IfErr a (λ e. IfNumbers e (IsAtLast y)) → IfErr a (λ e. IfNumbers e (IsOutOfNumbers v y))
unfolding lost_numbers
numbers_then v y (Ok s) is = tt
numbers_then v y (Err e) is = lost_numbers v y e is

lost_blocked : (links : ℕ) (v u : View) (y : Whole) (e : Lost) → AddsNotes v u → IfBlocked e (WasInTheWay links u y) → IfBlocked e (WasInTheWay links v y)
lost_blocked links v u y (Changed n seen) adds is = tt
lost_blocked links v u y (Locked n by) adds is = tt
lost_blocked links v u y (Blocked first second) adds is = (is.0, adds_then v u is.0.view adds is.1, is.2)
lost_blocked links v u y (OutOfNumbers k) adds is = tt

pub blocked_then : (links : ℕ) (v u : View) (y : Whole) (a : Result ℕ Lost) → AddsNotes v u → IfErr a (λ e. IfBlocked e (WasInTheWay links u y))
    → IfErr a (λ e. IfBlocked e (WasInTheWay links v y))
unfolding lost_blocked
blocked_then links v u y (Ok s) adds is = tt
blocked_then links v u y (Err e) adds is = lost_blocked links v u y e adds is

-- nothing that visits no node is stopped by a lock
never : (e : Lost) → IfLocked e (λ n by. 0 < 0) → IfLocked e (λ n by. ⊥)
never (Changed n seen) is = tt
never (Locked n by) is = absurd (omega (arith, is))
never (Blocked first second) is = tt
never (OutOfNumbers k) is = tt

pub never_locked : (a : Result ℕ Lost) → IfErr a (λ e. IfLocked e (λ n by. 0 < 0)) → IfErr a (λ e. IfLocked e (λ n by. ⊥))
unfolding never
never_locked (Ok s) is = tt
never_locked (Err e) is = never e is
