-- How far an exchange was helped, by a status of its pass or by its words.
use Rattle.std.proofs.Common.{◌≡◌, ◌≢◌, ℕ, ◌+◌, ◌*◌, ◌<◌, ◌≤◌, inl, inr, sym, subst, arith}
use mathlib.Core.Logic.{dite}
use native.Mathlib.Decide.{ℕ_discrete}
use Rattle.pc_words.specs.declared.status.Status.{Status}
use Rattle.pc_rule_law.specs.Board.{place_number}
use Rattle.pc_rule_law.specs.Past.{Has}
use Rattle.pc_protocol.specs.Notes.{verdict}
use Rattle.pc_rule_law.specs.Plays.{AddsNotes}
use Rattle.pc_rule_law.specs.Stages.{IsIdle, IsCleared}
use Rattle.pc_rule_law.specs.Views.{View, clean, held}
use Rattle.pc_exchange_law.specs.Attempts.{KnowsEntry}
use Rattle.pc_exchange_law.specs.ExchangeConditions.{KnowsCleared}
use Rattle.pc_exchange_law.specs.Ties.{code}
use Rattle.pc_exchange_law.specs.Wholes.{Whole}
use Rattle.pc_rule.specs.declared.opening.Place.{Place}
use Rattle.pc_rule.specs.declared.refs.Ref.{Ref}
use Rattle.pc_dcss.specs.Installs.{IsDecided}
use Rattle.pc_kcas.specs.Clearing.{says_success, KnowsOutcomeOf}
use Rattle.pc_kcas.specs.Concluding.{IsPastDecision, IsCleanWord, IsEnd}
use Rattle.pc_kcas.specs.Helping.{HasCome}
use Rattle.pc_kcas.specs.Readings.{HasRead, AreCleanWhereMet}
use Rattle.pc_kcas.specs.Settling.{HasLearnt}
use Rattle.pc_kcas.specs.declared.helped.Progress.{Progress}
use Rattle.pc_kcas.specs.declared.helped.Progress.TheVariants.{Decided, Gone}
use Rattle.pc_kcas.proofs.Ended.{success_is}
use Rattle.pc_kcas.proofs.Evidence.{keeps_notes}
use Rattle.pc_kcas.proofs.Learning.{word_still}

-- a status that isn't that of the exchange, or says that it is cleared
pub over_cleared : (a : ℕ) (s : Status) → a ≤ s.number → (s.number ≡ a → IsIdle s.stage) → IsCleared s a
over_cleared a s ahead over = dite (ℕ_discrete s.number a)
    (λ (e : s.number ≡ a). inr (sym e, over e))
    (λ (ne : s.number ≢ a). inl (omega arith))

-- by a status that isn't the exchange's any more
pub come_over : (x y : Whole) (op : Ref) (left : ℕ) (s : Status) (p : Progress) → IsPastDecision y op s → AreCleanWhereMet x.view y.view op
    → (s.number ≡ op.number → p ≡ Decided) → (s.number ≢ op.number → p ≡ Gone) → HasCome x y op left p
come_over x y op left s p past cleaned decided gone = dite (ℕ_discrete s.number op.number)
    (λ e. subst (HasCome x y op left) (sym (decided e)) (past.decided, inr cleaned))
    (λ ne. subst (HasCome x y op left) (sym (gone ne)) (
      s.number,
      past.passed (let ahead = past.ahead in let other : s.number ≢ op.number = ne in omega arith),
      inr cleaned,
    ))

pub ends_over : (n a : ℕ) (p : Progress) → (n ≡ a → p ≡ Decided) → (n ≢ a → p ≡ Gone) → IsEnd p
ends_over n a p decided gone = dite (ℕ_discrete n a) (λ e. subst IsEnd (sym (decided e)) tt) (λ ne. subst IsEnd (sym (gone ne)) tt)

-- by its words, which are clean
pub come_cleared : (x y : Whole) (op : Ref) (left : ℕ) → IsDecided y.view op.seat op.number → KnowsCleared y op.seat op.number → HasCome x y op left Decided
come_cleared x y op left decided cleared = (decided, inl cleared)

-- what was met before is clean then too
pub clean_met_before : (u v w : View) (op : Ref) → AddsNotes u v → AreCleanWhereMet v w op → AreCleanWhereMet u w op
clean_met_before u v w op adds cleaned n f has = cleaned n f (keeps_notes u v adds (held op.seat op.number n f) has)

-- how a status says that the exchange was decided
pub outcome_said : (x : Whole) (op : Ref) (s : Status) → IsPastDecision x op s → s.number ≡ op.number → (IsIdle s.stage → ⊥) → KnowsOutcomeOf x op.seat op.number (says_success s.stage)
outcome_said x op s past e busy = let v = past.verdict e busy in (
  v.0,
  subst (λ (n : ℕ). Has x.knows.told (verdict (code op.seat n) v.0)) e v.2,
  success_is s.stage v.0 v.1 busy,
)

-- ---- one word of the exchange more is clean

pub clean_word_of : (x y : Whole) (op : Ref) (i : ℕ) (at : Place) → HasLearnt x y → KnowsEntry x.knows.noted x.view.seat x.knows.own op.seat op.number i at.node at.field at.old at.new
    → Has y.view.notes (clean op.seat op.number at.node at.field) → IsCleanWord y op i
clean_word_of x y op i at l entry cleaned = (at.node, at.field, word_still x y l op.seat op.number (3 + 3 * i) (place_number at.node at.field) entry.place, cleaned)

pub clean_word_still : (x y : Whole) (op : Ref) (i : ℕ) → HasLearnt x y → IsCleanWord x op i → IsCleanWord y op i
clean_word_still x y op i l w = (w.0, w.1, word_still x y l op.seat op.number (3 + 3 * i) (place_number w.0 w.1) w.2, l.view.more (clean op.seat op.number w.0 w.1) w.3)

pub cleared_words : (y : Whole) (op : Ref) (count : ℕ) → HasRead y op 1 count → ((i : ℕ) → i < count → IsCleanWord y op i) → KnowsCleared y op.seat op.number
cleared_words y op count counted words = record {
  places = record {
    count = count;
    counted = inl counted.1;
    each = λ i lt. let w = words i lt in (w.0, w.1, w.2);
  };
  each = λ i lt. (words i lt).3;
}
