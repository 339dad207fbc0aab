-- What loads of another's descriptor tell, once its status is loaded.
use Rattle.std.proofs.Common.{◌≡◌, ℕ, ◌+◌, ◌-◌, ◌*◌, ◌^◌, ◌<◌, ◌≤◌, inl, inr, refl, sym, subst, ⊎_elim, arith}
use Rattle.std.proofs.lemmas.Bool.{cases_order}
use Rattle.pc_model.specs.Cells.{IsNode}
use Rattle.pc_words.specs.declared.status.Status.{Status}
use Rattle.pc_words.specs.declared.status.Stage.{Stage}
use Rattle.pc_words.specs.declared.status.Stage.TheVariants.{Idle, Undecided, Succeeded, Withdrawn, Changed, Locked}
use Rattle.pc_words.specs.Statuses.{unpacked}
use Rattle.pc_rule_law.specs.Board.{Size, place_number}
use Rattle.pc_rule_law.specs.Past.{Has, visits_begin}
use Rattle.pc_rule_law.specs.Plays.{StatusLoaded, DescriptorLoaded, IsLater, AddsNotes, IsPlaceIn}
use Rattle.pc_rule_law.specs.Stages.{IsIdle, decided_by}
use Rattle.pc_rule_law.specs.Views.{View, held, word_loaded, attempt_word, decided_below, NoteInRange, AllNotes, IsAttempt}
use Rattle.pc_rule_law.proofs.Places.{field_number-below}
use Rattle.pc_exchange_law.specs.Attempts.{KnowsEntry, came_to, loaded_word, listed_word}
use Rattle.pc_exchange_law.specs.Knowing.{DescriptorLoaded as WordLoaded, StatusSeen, Learns}
use Rattle.pc_exchange_law.specs.Wholes.{Whole}
use Rattle.pc_rule.specs.declared.opening.Place.{Place}
use Rattle.pc_rule.specs.declared.refs.Ref.{Ref}
use Rattle.pc_dcss.specs.Installs.{IsDecidedSince, KnowsPlace}
use Rattle.pc_dcss.proofs.Loads.{of_seat}
use Rattle.pc_dcss.proofs.Staying.{noted_after}
use Rattle.pc_kcas.specs.Readings.{HasMetExchange, HasComeTo, HasLoaded, HasRead, HasLoadedStatus, IsOver, HasPassed, AreCleanWhereMet}

-- the exchange that was met is one of the board's
pub met_attempt : (z : Size) (v : View) (op : Ref) → AllNotes (NoteInRange z) v.notes → HasMetExchange v op → IsAttempt z op.seat op.number
met_attempt z v op ranged met = (ranged (held op.seat op.number met.0 met.1) met.2).0

-- what was known stays known
pub come_still : (x y : Whole) (op : Ref) → IsLater x.view y.view → Learns x.knows y.knows → HasComeTo x op → HasComeTo y op
come_still x y op later learns come = let m = come.0 in
    ((m.0, m.1, later.more (held op.seat op.number m.0 m.1) m.2), learns.noted (came_to op.seat op.number) come.1)

pub loaded_still : (x y : Whole) (op : Ref) (place r : ℕ) → IsLater x.view y.view → Learns x.knows y.knows → HasLoaded x op place r → HasLoaded y op place r
loaded_still x y op place r later learns h = (later.more (word_loaded op.seat op.number place r) h.0, learns.noted (loaded_word op.seat op.number place r) h.1)

-- a load of a word
pub word_loaded_of : (x y : Whole) (op : Ref) (place r : ℕ) → HasComeTo x op → DescriptorLoaded x.view op.seat place r y.view
    → WordLoaded x.knows op.seat place r y.knows → HasLoaded y op place r
word_loaded_of x y op place r come told learnt = let m = come.0 in (told.loads op.number m.0 m.1 m.2, learnt.loads op.number come.1)

-- a load of a status, with the number of the pass from 1
pub status_loaded_of : (x y : Whole) (p r : ℕ) (s : Status) → s ≡ unpacked r → StatusLoaded x.view ((p + 1) - 1) (unpacked r) y.view
    → StatusSeen x.knows ((p + 1) - 1) (unpacked r) y.knows → y.aim ≡ ((p + 1) - 1, (unpacked r).number) → HasLoadedStatus x y p s
status_loaded_of x y p r s is told learnt aims = subst (HasLoadedStatus x y p) (sym is) record {
  told = subst (λ (q : ℕ). StatusLoaded x.view q (unpacked r) y.view) (of_seat p) told;
  learnt = subst (λ (q : ℕ). StatusSeen x.knows q (unpacked r) y.knows) (of_seat p) learnt;
  aim = subst (λ (q : ℕ). y.aim ≡ (q, (unpacked r).number)) (of_seat p) aims;
}

-- the status is at least that of an exchange that was met
pub met_below : (x y : Whole) (op : Ref) (s : Status) → HasLoadedStatus x y op.seat s → HasMetExchange x.view op → op.number ≤ s.number
met_below x y op s l met = l.told.held_below op.number met.0 met.1 met.2

module _ (x y : Whole) (op : Ref) (s : Status) (l : HasLoadedStatus x y op.seat s) where
  -- by the status of the exchange, which isn't cleared, what was loaded is the exchange's
  pub now_read : s.number ≡ op.number → (IsIdle s.stage → ⊥) → (place r : ℕ) → HasLoaded x op place r → HasRead y op place r
  now_read e busy place r h = (
    subst (λ (a : ℕ). Has x.view.notes (word_loaded op.seat a place r) → Has y.view.notes (attempt_word op.seat a place r)) e (l.told.settles busy place r) h.0,
    subst (λ (a : ℕ). Has x.knows.noted (loaded_word op.seat a place r) → Has y.knows.noted (listed_word op.seat a place r)) e (l.learnt.settles busy place r) h.1,
  )

  -- and in range
  pub count_few : s.number ≡ op.number → (IsIdle s.stage → ⊥) → (count : ℕ) → HasLoaded x op 1 count → count ≤ 25 + x.view.size.slots
  count_few e busy count h = subst (λ (a : ℕ). Has x.view.notes (word_loaded op.seat a 1 count) → count ≤ 25 + x.view.size.slots) e (l.told.counts busy count) h.0

  pub visits_few : s.number ≡ op.number → (IsIdle s.stage → ⊥) → (count : ℕ) → HasLoaded x op 2 count → count ≤ x.view.size.slots + 1
  visits_few e busy count h = subst (λ (a : ℕ). Has x.view.notes (word_loaded op.seat a 2 count) → count ≤ x.view.size.slots + 1) e (l.told.visits busy count) h.0

  pub visit_fits : s.number ≡ op.number → (IsIdle s.stage → ⊥) → (count i node found : ℕ) → HasLoaded x op 2 count → i < count
      → HasLoaded x op (visits_begin x.view.size.slots + 2 * i) node → HasLoaded x op (visits_begin x.view.size.slots + (1 + 2 * i)) found
      → IsNode x.view.size.slots node × (found < 2 ^ 62)
  visit_fits e busy count i node found counted lt at_node at_version =
      subst (λ (a : ℕ). Has x.view.notes (word_loaded op.seat a 2 count) → i < count
      → Has x.view.notes (word_loaded op.seat a (visits_begin x.view.size.slots + 2 * i) node)
      → Has x.view.notes (word_loaded op.seat a (visits_begin x.view.size.slots + (1 + 2 * i)) found)
      → IsNode x.view.size.slots node × (found < 2 ^ 62)) e (l.told.visited busy count i node found)
      counted.0 lt at_node.0 at_version.0

  pub words_fit : s.number ≡ op.number → (IsIdle s.stage → ⊥) → (count i place old new : ℕ) → HasLoaded x op 1 count → i < count
      → HasLoaded x op (3 + 3 * i) place → HasLoaded x op (4 + 3 * i) old → HasLoaded x op (5 + 3 * i) new
      → IsPlaceIn x.view.size.slots place × (old < 2 ^ 62) × (new < 2 ^ 62)
  words_fit e busy count i place old new counted lt at_place at_old at_new =
      subst (λ (a : ℕ). Has x.view.notes (word_loaded op.seat a 1 count) → i < count → Has x.view.notes (word_loaded op.seat a (3 + 3 * i) place)
      → Has x.view.notes (word_loaded op.seat a (4 + 3 * i) old) → Has x.view.notes (word_loaded op.seat a (5 + 3 * i) new)
      → IsPlaceIn x.view.size.slots place × (old < 2 ^ 62) × (new < 2 ^ 62)) e (l.told.changes busy count i place old new)
      counted.0 lt at_place.0 at_old.0 at_new.0

  -- a status that isn't the exchange's, or that of one that is cleared, tells that it is decided
  idle_below : (n : ℕ) (st : Stage) → IsIdle st → decided_by (record { number = n; stage = st }) ≡ n + 1
  idle_below n Idle idle = refl
  idle_below n Undecided idle = absurd idle
  idle_below n (Succeeded t) idle = absurd idle
  idle_below n Withdrawn idle = absurd idle
  idle_below n (Changed m) idle = absurd idle
  idle_below n (Locked m q) idle = absurd idle

  below_at_least : (n : ℕ) (st : Stage) → n ≤ decided_by (record { number = n; stage = st })
  below_at_least n Idle = omega arith
  below_at_least n Undecided = omega arith
  below_at_least n (Succeeded t) = omega arith
  below_at_least n Withdrawn = omega arith
  below_at_least n (Changed m) = omega arith
  below_at_least n (Locked m q) = omega arith

  over_below : op.number ≤ s.number → IsOver op s → op.number < decided_by s
  unfolding idle_below below_at_least
  over_below ahead over = ⊎_elim
      (λ (e : op.number ≡ s.number). let d : decided_by s ≡ s.number + 1 = idle_below s.number s.stage (over (sym e)) in omega arith)
      (λ ne. ⊎_elim (λ (lt : op.number < s.number). let d : s.number ≤ decided_by s = below_at_least s.number s.stage in omega arith)
      (λ (gt : s.number < op.number). absurd (omega arith)) ne)
      (cases_order op.number s.number)

  pub over_decided : (v : View) → AddsNotes v x.view → op.number ≤ s.number → IsOver op s → IsDecidedSince v y.view op.seat op.number
  unfolding over_below
  over_decided v adds ahead over = (decided_by s, noted_after v x.view y.view (decided_below op.seat (decided_by s)) adds l.told.decided, over_below ahead over)

  -- and the words in which its reference was met are clean
  pub over_cleaned : (v : View) → IsLater v x.view → op.number ≤ s.number → IsOver op s → AreCleanWhereMet v y.view op
  over_cleaned v later ahead over n f has = l.told.cleared op.number n f (later.more (held op.seat op.number n f) has) (⊎_elim
      (λ (e : op.number ≡ s.number). inr (e, over (sym e)))
      (λ ne. ⊎_elim (λ (lt : op.number < s.number). inl lt) (λ (gt : s.number < op.number). absurd (omega arith)) ne)
      (cases_order op.number s.number))

  pub number_passed : op.number < s.number → HasPassed y op s.number
  number_passed lt = (lt, l.learnt.came)

-- the exchange's word is known, as the install and as the decision ask for it
module _ (y : Whole) (op : Ref) (count i place : ℕ) (at : Place) (lt : i < count) (counted : HasRead y op 1 count)
    (is : place_number at.node at.field ≡ place) (placed : HasRead y op (3 + 3 * i) place) (was : HasRead y op (4 + 3 * i) at.old)
    (becomes : HasRead y op (5 + 3 * i) at.new) where
  pub entry_read : KnowsEntry y.knows.noted y.view.seat y.knows.own op.seat op.number i at.node at.field at.old at.new
  entry_read = record {
    count = count;
    counted = inl counted.1;
    below = lt;
    place = inl (subst (λ (r : ℕ). Has y.knows.noted (listed_word op.seat op.number (3 + 3 * i) r)) (sym is) placed.1);
    old_word = inl was.1;
    new_word = inl becomes.1;
  }

  pub place_read : IsAttempt y.view.size op.seat op.number → IsPlaceIn y.view.size.slots place × (at.old < 2 ^ 62) × (at.new < 2 ^ 62) → KnowsPlace y.view op at
  place_read attempt fit = let p = fit.0 in let low = field_number-below at.field in let low' = field_number-below p.1 in
      let e = p.2 in let node = p.3 in let here : at.node ≡ p.0 = omega arith in inr (
        (attempt, subst (IsNode y.view.size.slots) (sym here) node, fit.1, fit.2),
        i,
        record {
          count = count;
          below = lt;
          known_count = inl counted.0;
          known_place = inl (subst (λ (r : ℕ). Has y.view.notes (attempt_word op.seat op.number (3 + 3 * i) r)) (sym is) placed.0);
          known_old = inl was.0;
          known_new = inl becomes.0;
        },
      )

-- the number of a word of a board fits in 32 bits
pub place_low : (slots place : ℕ) → slots ≤ 61000 → IsPlaceIn slots place → place < 2 ^ 32
place_low slots place few at = let low = field_number-below at.1 in let node = at.3 in let e = at.2 in omega arith
