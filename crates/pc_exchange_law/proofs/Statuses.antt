-- What a status says of the stage of an exchange, by its stage: by cases.
use Rattle.std.proofs.Common.{◌≡◌, ◌≢◌, ℕ, ◌<◌, ◌≤◌, inl, inr, ⊎_elim, refl, sym, ap, subst, arith, ◌⊎◌}
use Rattle.std.proofs.lemmas.Bool.{cases_eq, cases_lt}
use Rattle.pc_model.specs.Exchanges.{Changed}
use Rattle.pc_words.specs.declared.status.Stage.{Stage as StatusStage}
use Rattle.pc_words.specs.declared.status.Stage.TheVariants.{Idle, Undecided, Succeeded, Withdrawn, Changed as ChangedNode, Locked}
use Rattle.pc_words.specs.declared.status.Status.{Status}
use Rattle.pc_history.specs.Updates.{updated}
use Rattle.pc_history.proofs.Updates.{on_updated}
use Rattle.pc_rule_law.specs.Board.{Board, put}
use Rattle.pc_rule_law.specs.Past.{Has, Past}
use Rattle.pc_rule_law.specs.Stages.{IsIdle, IsOpen, value_by as value_by_status, IsUndecided as IsUndecidedAttempt}
use Rattle.pc_rule_law.proofs.Updates.{at_put}
use Rattle.pc_protocol.specs.Histories.{Cause, withdrawn, ended, changed, locked, Stage, absent, aborted}
use Rattle.pc_protocol.specs.Histories.{History, IsPublished, IsUndecided, IsDecided, value_by}
use Rattle.pc_exchange_law.specs.Ties.{code, IsStageOf, SaysOf, IsTied}
use Rattle.pc_exchange_law.specs.Changes.{stage_by}
use Rattle.pc_exchange_law.proofs.Codes.{same_seat, same_number}

-- a status that isn't idle is of a published exchange
pub busy_is_published : (s : StatusStage) (st : Stage) → IsStageOf s st → (IsIdle s → ⊥) → IsPublished st
busy_is_published Idle st is busy = absurd (busy tt)
busy_is_published Undecided st is busy = subst IsPublished (sym is) tt
busy_is_published (Succeeded t) st is busy = subst IsPublished (sym is) tt
busy_is_published Withdrawn st is busy = ⊎_elim (λ e. subst IsPublished (sym e) tt) (λ e. subst IsPublished (sym e) tt) is
busy_is_published (ChangedNode n) st is busy = subst IsPublished (sym is) tt
busy_is_published (Locked n p) st is busy = subst IsPublished (sym is) tt

pub closed_is_decided : (s : StatusStage) (st : Stage) → IsStageOf s st → (IsIdle s → ⊥) → (IsOpen s → ⊥) → IsDecided st
closed_is_decided Idle st is busy closed = absurd (busy tt)
closed_is_decided Undecided st is busy closed = absurd (closed tt)
closed_is_decided (Succeeded t) st is busy closed = subst IsDecided (sym is) tt
closed_is_decided Withdrawn st is busy closed = ⊎_elim (λ e. subst IsDecided (sym e) tt) (λ e. subst IsDecided (sym e) tt) is
closed_is_decided (ChangedNode n) st is busy closed = subst IsDecided (sym is) tt
closed_is_decided (Locked n p) st is busy closed = subst IsDecided (sym is) tt

pub open_is_undecided : (s : StatusStage) (st : Stage) → IsStageOf s st → IsOpen s → IsUndecided st
open_is_undecided Idle st is o = absurd o
open_is_undecided Undecided st is o = subst IsUndecided (sym is) tt
open_is_undecided (Succeeded t) st is o = absurd o
open_is_undecided Withdrawn st is o = absurd o
open_is_undecided (ChangedNode n) st is o = absurd o
open_is_undecided (Locked n p) st is o = absurd o

pub undecided_is_open : (s : StatusStage) (st : Stage) → IsStageOf s st → IsUndecided st → IsOpen s
undecided_is_open Idle st is u = absurd (is u)
undecided_is_open Undecided st is u = tt
undecided_is_open (Succeeded t) st is u = absurd (subst IsUndecided is u)
undecided_is_open Withdrawn st is u = absurd (⊎_elim (λ e. subst IsUndecided e u) (λ e. subst IsUndecided e u) is)
undecided_is_open (ChangedNode n) st is u = absurd (subst IsUndecided is u)
undecided_is_open (Locked n p) st is u = absurd (subst IsUndecided is u)

pub idle_or_not : (s : StatusStage) → IsIdle s ⊎ (IsIdle s → ⊥)
idle_or_not Idle = inl tt
idle_or_not Undecided = inr (λ i. i)
idle_or_not (Succeeded t) = inr (λ i. i)
idle_or_not Withdrawn = inr (λ i. i)
idle_or_not (ChangedNode n) = inr (λ i. i)
idle_or_not (Locked n p) = inr (λ i. i)

pub idle_before : (s : StatusStage) → IsIdle s → IsStageOf s absent
idle_before Idle i = λ u. u
idle_before Undecided i = absurd i
idle_before (Succeeded t) i = absurd i
idle_before Withdrawn i = absurd i
idle_before (ChangedNode n) i = absurd i
idle_before (Locked n p) i = absurd i

pub same_worth : (s : StatusStage) (st : Stage) (old new : ℕ) → IsStageOf s st → (IsIdle s → ⊥)
    → value_by st old new ≡ value_by_status s old new
same_worth Idle st old new is busy = absurd (busy tt)
same_worth Undecided st old new is busy = ap (λ (u : Stage). value_by u old new) is
same_worth (Succeeded t) st old new is busy = ap (λ (u : Stage). value_by u old new) is
same_worth Withdrawn st old new is busy = ⊎_elim (λ e. ap (λ (u : Stage). value_by u old new) e)
    (λ e. ap (λ (u : Stage). value_by u old new) e) is
same_worth (ChangedNode n) st old new is busy = ap (λ (u : Stage). value_by u old new) is
same_worth (Locked n p) st old new is busy = ap (λ (u : Stage). value_by u old new) is

pub cause_is_told : (cause : Cause) → IsStageOf (stage_by cause) (aborted cause)
cause_is_told withdrawn = inl refl
cause_is_told ended = inr refl
cause_is_told (changed n) = refl
cause_is_told (locked n p) = refl

-- an attempt is undecided by the status of its pass where its exchange is
module _ (b : Board) (t : Past) (h : History) (tied : IsTied b t h) where
  pub undecided_in_history : (p a : ℕ) → p < 64 → IsUndecidedAttempt b.status p a → IsUndecided (h.stage (code p a))
  undecided_in_history p a small u = open_is_undecided (b.status p).stage (h.stage (code p a))
      ((tied.stages p a small).present (sym u.0)) u.1

  pub undecided_on_board : (p a : ℕ) → p < 64 → IsUndecided (h.stage (code p a)) → IsUndecidedAttempt b.status p a
  undecided_on_board p a small u = let says = tied.stages p a small in ⊎_elim
      (λ e. (sym e, undecided_is_open (b.status p).stage (h.stage (code p a)) (says.present e) u))
      (λ ne. ⊎_elim
      (λ lt. absurd (says.before lt u))
      (λ ge. absurd (subst IsUndecided (says.later (omega arith)) u))
      (cases_lt a (b.status p).number))
      (cases_eq a (b.status p).number)

  -- one status changes, and the stage of its attempt with it
  pub stages_moved : (p : ℕ) (s : Status) (v : Stage) → p < 64 → SaysOf s s.number v
      → ((c : ℕ) → c ≢ s.number → SaysOf s c (h.stage (code p c))) → (q c : ℕ) → q < 64
      → SaysOf (put b.status p s q) c (updated h.stage (code p s.number) v (code q c))
  stages_moved p s v small here others q c lt = at_put b.status p s
      (λ r u. r < 64 → SaysOf u c (updated h.stage (code p s.number) v (code r c))) q
      (λ _. on_updated h.stage (code p s.number) v (SaysOf s c) (code p c)
      (λ e. subst (λ (i : ℕ). SaysOf s i v) (sym (same_number p c p s.number small small e)) here)
      (λ ne. others c (λ is. ne (ap (code p) is))))
      (λ ne low. on_updated h.stage (code p s.number) v (SaysOf (b.status q) c) (code q c)
      (λ e. absurd (ne (same_seat q c p s.number low small e)))
      (λ _. tied.stages q c low))
      lt

  -- attempts that have a change stay published, where a status keeps its number
  pub still_published : (p : ℕ) (stage : StatusStage) (v : Stage) → IsPublished v → (q c : ℕ) (x : Changed) → q < 64
      → c ≤ (put b.status p (record { number = (b.status p).number; stage = stage }) q).number
      → Has (t.attempt q c).changes x → IsPublished (updated h.stage (code p (b.status p).number) v (code q c))
  still_published p stage v is q c x small le has =
      on_updated h.stage (code p (b.status p).number) v IsPublished (code q c) (λ _. is)
      (λ _. tied.published q c x small (at_put b.status p (record { number = (b.status p).number; stage = stage })
      (λ r s. c ≤ s.number → c ≤ (b.status r).number) q (λ l. l) (λ _ l. l) le) has)

  -- of the pass's other attempts a status says the same, whatever the stage of the present one
  pub others_say : (p : ℕ) (stage : StatusStage) → p < 64 → (c : ℕ) → c ≢ (b.status p).number
      → SaysOf (record { number = (b.status p).number; stage = stage }) c (h.stage (code p c))
  others_say p stage small c ne = let says = tied.stages p c small in
      record { before = says.before; present = λ e. absurd (ne e); later = says.later }

-- of its present attempt it says the stage
pub says_now : (s : Status) (v : Stage) → IsStageOf s.stage v → SaysOf s s.number v
says_now s v is = record {
  before = λ lt. absurd (omega arith);
  present = λ _. is;
  later = λ lt. absurd (omega arith);
}
