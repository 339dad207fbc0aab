-- What a status of an exchange's pass tells of how far that has come.
use Rattle.std.proofs.Common.{◌≡◌, ℕ, ◌+◌, ◌<◌, ◌≤◌, refl, sym, subst, ⊎_elim, arith}
use Rattle.std.proofs.lemmas.Bool.{cases_order}
use Rattle.pc_words.specs.declared.status.Stage.{Stage}
use Rattle.pc_words.specs.declared.status.Stage.TheVariants.{Idle, Undecided, Succeeded, Withdrawn, Changed, Locked}
use Rattle.pc_words.specs.declared.status.Status.{Status}
use Rattle.pc_rule_law.specs.Past.{Has}
use Rattle.pc_rule_law.specs.Plays.{StatusLoaded}
use Rattle.pc_rule_law.specs.Past.{Has}
use Rattle.pc_rule_law.specs.Stages.{IsIdle, IsOpen, decided_from, decided_by}
use Rattle.pc_rule_law.specs.Views.{View, decided_below, held}
use Rattle.pc_exchange_law.specs.Knowing.{StatusSeen}
use Rattle.pc_exchange_law.specs.Wholes.{Whole}
use Rattle.pc_rule.specs.declared.refs.Ref.{Ref}
use Rattle.pc_dcss.specs.Installs.{IsDecided, IsDecidedSince, KeepsNotes}
use Rattle.pc_dcss.proofs.Staying.{is_noted}
use Rattle.pc_kcas.specs.Concluding.{TellsCourse, IsPastDecision}
use Rattle.pc_kcas.specs.Readings.{HasLoadedStatus, IsOver, HasPassed}
use Rattle.pc_kcas.specs.Settling.{IsSettled}

-- an attempt that isn't undecided is below those that are decided
below_open : (n : ℕ) (st : Stage) → (IsOpen st → ⊥) → decided_from n st ≡ n + 1
below_open n Idle closed = refl
below_open n Undecided closed = absurd (closed tt)
below_open n (Succeeded t) closed = refl
below_open n Withdrawn closed = refl
below_open n (Changed m) closed = refl
below_open n (Locked m q) closed = refl

below_at_least : (n : ℕ) (st : Stage) → n ≤ decided_from n st
below_at_least n Idle = omega arith
below_at_least n Undecided = omega arith
below_at_least n (Succeeded t) = omega arith
below_at_least n Withdrawn = omega arith
below_at_least n (Changed m) = omega arith
below_at_least n (Locked m q) = omega arith

at_open : (n : ℕ) (st : Stage) → IsOpen st → decided_from n st ≡ n
at_open n Idle pending = absurd pending
at_open n Undecided pending = refl
at_open n (Succeeded t) pending = absurd pending
at_open n Withdrawn pending = absurd pending
at_open n (Changed m) pending = absurd pending
at_open n (Locked m q) pending = absurd pending

closed_below : (a : ℕ) (s : Status) → a ≤ s.number → (s.number ≡ a → IsOpen s.stage → ⊥) → a < decided_by s
unfolding below_open below_at_least
closed_below a s ahead closed = ⊎_elim
    (λ (e : a ≡ s.number). let d : decided_by s ≡ s.number + 1 = below_open s.number s.stage (closed (sym e)) in omega arith)
    (λ ne. ⊎_elim (λ (lt : a < s.number). let d : s.number ≤ decided_by s = below_at_least s.number s.stage in omega arith)
    (λ (gt : s.number < a). absurd (omega arith)) ne)
    (cases_order a s.number)

-- ---- a status that was found, or put

-- one that says that the exchange is decided and not cleared
pub course_put : (x y : Whole) (op : Ref) (st : Stage) → Has y.view.notes (decided_below op.seat (op.number + 1)) → (IsIdle st → ⊥)
    → (IsOpen st → ⊥) → TellsCourse x y op (record { number = op.number; stage = st })
unfolding below_open
course_put x y op st known busy closed = record {
  below = subst (λ (m : ℕ). Has y.view.notes (decided_below op.seat m)) (sym (below_open op.number st closed)) known;
  passed = λ lt. absurd (omega arith);
  cleaned = λ c. ⊎_elim (λ (lt : op.number < op.number). absurd (omega arith)) (λ i. absurd (busy i.1)) c;
}

pub course_seen : (x y : Whole) (op : Ref) (s : Status) → StatusLoaded x.view op.seat s y.view → StatusSeen x.knows op.seat s y.knows → TellsCourse x y op s
course_seen x y op s told seen = record {
  below = is_noted x.view y.view (decided_below op.seat (decided_by s)) told.decided;
  passed = λ lt. (lt, seen.came);
  cleaned = λ c n f h. told.cleared op.number n f h c;
}

-- it tells so of what was known before
pub course_before : (x y z : Whole) (op : Ref) (s : Status) → KeepsNotes x.view y.view → TellsCourse y z op s → TellsCourse x z op s
course_before x y z op s keeps c = record { below = c.below; passed = c.passed; cleaned = λ h n f has. c.cleaned h n f (keeps (held op.seat op.number n f) has) }

-- ---- one that doesn't say that the exchange is undecided

pub past_settled : (x y : Whole) (op : Ref) (s : Status) → IsSettled y op.seat op.number s → TellsCourse x y op s → IsPastDecision y op s
unfolding closed_below
past_settled x y op s settled course = record {
  ahead = settled.stands.reached;
  decided = (decided_by s, course.below, closed_below op.number s settled.stands.reached settled.over);
  passed = course.passed;
  verdict = λ e busy. settled.stands.decided busy (settled.over e);
}

pub decided_noted : (v w : View) (p a : ℕ) → IsDecidedSince v w p a → IsDecided w p a
decided_noted v w p a d = (d.0, is_noted v w (decided_below p d.0) d.1, d.2)

pub past_over : (y : Whole) (op : Ref) (s : Status) → IsOver op s → op.number ≤ s.number → IsDecided y.view op.seat op.number
    → (op.number < s.number → HasPassed y op s.number) → IsPastDecision y op s
past_over y op s over ahead decided passed = record { ahead = ahead; decided = decided; passed = passed; verdict = λ e busy. absurd (busy (over e)) }

pub past_loaded : (x y : Whole) (op : Ref) (s : Status) → HasLoadedStatus x y op.seat s → op.number ≤ s.number → (s.number ≡ op.number → IsOpen s.stage → ⊥)
    → IsPastDecision y op s
unfolding closed_below
past_loaded x y op s l ahead closed = record {
  ahead = ahead;
  decided = (decided_by s, is_noted x.view y.view (decided_below op.seat (decided_by s)) l.told.decided, closed_below op.number s ahead closed);
  passed = λ lt. (lt, l.learnt.came);
  verdict = λ e busy. l.learnt.decided busy (closed e);
}

-- a status that is found of an exchange which is known to be decided doesn't
pub never_open : (x y : Whole) (op : Ref) (s : Status) → HasLoadedStatus x y op.seat s → IsDecided x.view op.seat op.number → s.number ≡ op.number → IsOpen s.stage → ⊥
unfolding at_open
never_open x y op s l d e pending =
    let m = l.told.still_decided d.0 d.1 in let at : decided_by s ≡ s.number = at_open s.number s.stage pending in let lt = d.2 in omega arith

-- nor does one that is found later, where what is known to be decided is so by it too
pub still_closed : (v : View) (op : Ref) (s : Status) → IsDecided v op.seat op.number → ((m : ℕ) → Has v.notes (decided_below op.seat m) → m ≤ decided_by s)
    → s.number ≡ op.number → IsOpen s.stage → ⊥
unfolding at_open
still_closed v op s d still e pending = let m = still d.0 d.1 in let at : decided_by s ≡ s.number = at_open s.number s.stage pending in let lt = d.2 in omega arith
