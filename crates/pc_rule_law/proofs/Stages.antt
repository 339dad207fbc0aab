-- How far attempts have come: each is undecided or decided, and what is decided stays so.
use Rattle.std.proofs.Common.{◌≡◌, ℕ, ◌+◌, ◌<◌, ◌≤◌, refl, ◌⊎◌, inl, inr, arith}
use mathlib.Core.Logic.{dite}
use native.Mathlib.Decide.{ℕ_discrete}
use Rattle.pc_words.specs.declared.status.Stage.{Stage}
use Rattle.pc_words.specs.declared.status.Stage.TheVariants.{Idle, Undecided, Succeeded, Withdrawn, Changed, Locked}
use Rattle.pc_words.specs.declared.status.Status.{Status}
use Rattle.pc_rule_law.specs.Stages.{IsIdle, IsOpen, IsUnmade, value_by, IsUndecided, DecidedBelow}

pub open_or_not : (s : Stage) → IsOpen s ⊎ (IsOpen s → ⊥)
open_or_not Idle = inr (λ e. e)
open_or_not Undecided = inl tt
open_or_not (Succeeded t) = inr (λ e. e)
open_or_not Withdrawn = inr (λ e. e)
open_or_not (Changed n) = inr (λ e. e)
open_or_not (Locked n p) = inr (λ e. e)

pub open_not_idle : (s : Stage) → IsOpen s → IsIdle s → ⊥
open_not_idle Idle e i = e
open_not_idle Undecided e i = i
open_not_idle (Succeeded t) e i = i
open_not_idle Withdrawn e i = i
open_not_idle (Changed n) e i = i
open_not_idle (Locked n p) e i = i

pub open_is_unmade : (s : Stage) → IsOpen s → IsUnmade s
open_is_unmade Idle e = e
open_is_unmade Undecided e = tt
open_is_unmade (Succeeded t) e = e
open_is_unmade Withdrawn e = tt
open_is_unmade (Changed n) e = tt
open_is_unmade (Locked n p) e = tt

pub unmade_not_idle : (s : Stage) → IsUnmade s → IsIdle s → ⊥
unmade_not_idle Idle e i = e
unmade_not_idle Undecided e i = i
unmade_not_idle (Succeeded t) e i = i
unmade_not_idle Withdrawn e i = i
unmade_not_idle (Changed n) e i = i
unmade_not_idle (Locked n p) e i = i

-- while the changes aren't made a word has its old value
pub unmade_value : (s : Stage) (old new : ℕ) → IsUnmade s → value_by s old new ≡ old
unmade_value Idle old new u = refl
unmade_value Undecided old new u = refl
unmade_value (Succeeded t) old new u = absurd u
unmade_value Withdrawn old new u = refl
unmade_value (Changed n) old new u = refl
unmade_value (Locked n p) old new u = refl

-- an attempt that is decided isn't undecided
pub decided_not_undecided : (status : ℕ → Status) (p a m : ℕ) → DecidedBelow status p m → a < m
    → IsUndecided status p a → ⊥
decided_not_undecided status p a m below lt is = let e : (status p).number ≡ a = is.0 in
    let le : m ≤ (status p).number + 1 = below.0 in below.1 (omega arith) is.1

-- an attempt that was published is undecided or decided
pub undecided_or_decided : (status : ℕ → Status) (p a : ℕ) → a ≤ (status p).number
    → IsUndecided status p a ⊎ DecidedBelow status p (a + 1)
undecided_or_decided status p a le = dite (ℕ_discrete (status p).number a)
    (λ e. split (open_or_not (status p).stage) e)
    (λ ne. inr (omega arith, λ e _. ne (omega arith)))
  where
    split : IsOpen (status p).stage ⊎ (IsOpen (status p).stage → ⊥) → (status p).number ≡ a
        → IsUndecided status p a ⊎ DecidedBelow status p (a + 1)
    split (inl o) e = inl (e, o)
    split (inr n) e = inr (omega arith, λ _ o. n o)

-- all attempts below the present one are decided, and the present one is if it isn't undecided
pub decided_to : (status : ℕ → Status) (p : ℕ) → DecidedBelow status p (status p).number
decided_to status p = (omega arith, λ e. absurd (omega arith))

pub decided_now : (status : ℕ → Status) (p : ℕ) → (IsOpen (status p).stage → ⊥)
    → DecidedBelow status p ((status p).number + 1)
decided_now status p not_open = (omega arith, λ _ o. not_open o)

-- of fewer attempts the same holds
pub decided_less : (status : ℕ → Status) (p m k : ℕ) → k ≤ m → DecidedBelow status p m → DecidedBelow status p k
decided_less status p m k le below = let a = below.0 in (omega arith, λ e o. below.1 (omega arith) o)
