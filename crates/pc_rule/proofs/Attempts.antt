-- Both parts of a pass's view have the same of its own attempt after a step.
use Rattle.std.proofs.Common.{◌≡◌, ◌+◌, ◌*◌, ◌==◌, if◌then◌else◌, List, [], ◌∷◌, ℕ, sym, ap, ◌∙◌, ◌<◌, refl, subst, ⊎_elim, arith}
use mathlib.Core.Logic.{dite}
use native.Mathlib.Decide.{ℕ_discrete}
use Rattle.std.proofs.lemmas.Bool.{cases_order}
use Rattle.pc_exchange_law.specs.Ties.{last_stamp}
use Rattle.pc_model.specs.declared.cell.Field.{Field}
use Rattle.pc_rule_law.specs.Views.{View, OwnAttempt, word_in}
use Rattle.pc_rule_law.specs.Past.{Attempt, Describes, visits_begin}
use Rattle.pc_exchange_law.specs.Attempts.{OwnAttempt as OwnTried, word_in as known_word_in}
use Rattle.pc_exchange_law.specs.WholePlays.{after_decided, WordSwapped, StatusTried, ReferenceTaken, HasDrawn}
use Rattle.pc_exchange_law.specs.Passes.{PassKnows}
use Rattle.pc_exchange_law.specs.Wholes.{Whole}
use Rattle.pc_rule.specs.Attempts.{AgreeOnAttempt}

-- the attempt stays in both
pub agree_still : (x y : Whole) → y.view.attempt ≡ x.view.attempt → y.knows.own ≡ x.knows.own → AgreeOnAttempt x → AgreeOnAttempt y
agree_still x y view own a = record {
  number = ap (λ (o : OwnTried). o.number) own ∙ (a.number ∙ sym (ap (λ (o : OwnAttempt). o.number) view));
  busy = ap (λ (o : OwnTried). o.busy) own ∙ (a.busy ∙ sym (ap (λ (o : OwnAttempt). o.published) view));
  words = ap (λ (o : OwnTried). o.words) own ∙ (a.words ∙ sym (ap (λ (o : OwnAttempt). o.words) view));
}

-- a compare_exchange on a word of a node leaves the own attempt
pub swapped_own : (x : Whole) (n : ℕ) (f : Field) (old new r : ℕ) (y : Whole) → WordSwapped x n f old new r y → y.knows.own ≡ x.knows.own
swapped_own x n f old new r y s = dite (ℕ_discrete r old)
    (λ e. let h = s.hit e in h.2.learns.own ∙ h.1.learns.own)
    (λ ne. (s.miss ne).learns.own)

-- and its slots
pub swapped_slots : (x : Whole) (n : ℕ) (f : Field) (old new r : ℕ) (y : Whole) → WordSwapped x n f old new r y → y.knows.slots ≡ x.knows.slots
swapped_slots x n f old new r y s = dite (ℕ_discrete r old)
    (λ e. let h = s.hit e in h.2.learns.slots ∙ h.1.learns.slots)
    (λ ne. (s.miss ne).learns.slots)

-- the own install, the own attempt, the path and the slots are as they were
pub record KeepsOwn (x y : Whole) : Type 0 where
  pub install : y.view.install ≡ x.view.install
  pub attempt : y.view.attempt ≡ x.view.attempt
  pub path : y.path ≡ x.path
  pub slots : y.knows.slots ≡ x.knows.slots
  pub agree : AgreeOnAttempt x → AgreeOnAttempt y

-- what is known beside changes, but not of the own attempt what the view has too
pub knows_more : (x y : Whole) (k : PassKnows) → y ≡ record x { knows = k } → k.own.number ≡ x.knows.own.number → k.own.busy ≡ x.knows.own.busy
    → k.own.words ≡ x.knows.own.words → k.slots ≡ x.knows.slots → KeepsOwn x y
knows_more x y k is number busy words same = subst (KeepsOwn x) (sym is) record {
  install = refl;
  attempt = refl;
  path = refl;
  slots = same;
  agree = λ a. record { number = number ∙ a.number; busy = busy ∙ a.busy; words = words ∙ a.words };
}

-- the same where it is noted too that an attempt is decided
pub decided_keeps : (x y : Whole) (p a : ℕ) (k : PassKnows) → y ≡ record x { view = after_decided x.view p a; knows = k } → k.own.number ≡ x.knows.own.number
    → k.own.busy ≡ x.knows.own.busy → k.own.words ≡ x.knows.own.words → k.slots ≡ x.knows.slots → KeepsOwn x y
decided_keeps x y p a k is number busy words same = subst (KeepsOwn x) (sym is) record {
  install = refl;
  attempt = refl;
  path = refl;
  slots = same;
  agree = λ g. record { number = number ∙ g.number; busy = busy ∙ g.busy; words = words ∙ g.words };
}

-- a compare_exchange of a status, which leaves the own where it hits
pub tried_keeps : (x : Whole) (p old r : ℕ) (After : Whole → Type 0) (y : Whole) → StatusTried x p old r After y → (After y → KeepsOwn x y) → KeepsOwn x y
tried_keeps x p old r After y s hit = dite (ℕ_discrete r old)
    (λ e. hit (s.hit e))
    (λ ne. let m = s.miss ne in record {
      install = ap (λ (u : View). u.install) m.1.later.same;
      attempt = ap (λ (u : View). u.attempt) m.1.later.same;
      path = m.5;
      slots = m.2.learns.slots;
      agree = agree_still x y (ap (λ (u : View). u.attempt) m.1.later.same) m.2.learns.own;
    })

-- a number in place of a reference leaves the own attempt
pub reference_own : (x : Whole) (n : ℕ) (f : Field) (old new r : ℕ) (y : Whole) → ReferenceTaken x n f old new r y → y.knows.own ≡ x.knows.own
reference_own x n f old new r y s = dite (ℕ_discrete r old)
    (λ e. (s.learnt e).learns.own)
    (λ ne. (s.miss ne).seen.learns.own)

pub reference_slots : (x : Whole) (n : ℕ) (f : Field) (old new r : ℕ) (y : Whole) → ReferenceTaken x n f old new r y → y.knows.slots ≡ x.knows.slots
reference_slots x n f old new r y s = dite (ℕ_discrete r old)
    (λ e. (s.learnt e).learns.slots)
    (λ ne. (s.miss ne).seen.learns.slots)

-- a draw, or one that was refused, leaves the own
pub drawn_or_not : (x : Whole) (r : ℕ) (y : Whole) → HasDrawn x r y → KeepsOwn x y
drawn_or_not x r y d = ⊎_elim
    (λ (e : r ≡ last_stamp). knows_more x y _ (d.refused (omega arith)) refl refl refl refl)
    (λ ne. ⊎_elim
    (λ (lt : r < last_stamp). knows_more x y _ (d.drawn lt) refl refl refl refl)
    (λ (gt : last_stamp < r). knows_more x y _ (d.refused (omega arith)) refl refl refl refl) ne)
    (cases_order r last_stamp)

-- what was stored into the own descriptor reads the same in both parts
pub same_word : (words : List (ℕ × ℕ)) (place : ℕ) → known_word_in words place ≡ word_in words place
same_word [] place = refl
same_word (w ∷ words) place = ap (λ (x : ℕ). if place == w.0 then w.1 else x) (same_word words place)

pub describes_too : (slots : ℕ) (e : Attempt) (words : List (ℕ × ℕ)) → Describes slots e (word_in words) → Describes slots e (known_word_in words)
describes_too slots e words d = record {
  mode = same_word words 0 ∙ d.mode;
  changes = same_word words 1 ∙ d.changes;
  visits = same_word words 2 ∙ d.visits;
  each_change = λ i x at. let c = d.each_change i x at in
      (same_word words (3 + 3 * i) ∙ c.0, same_word words (4 + 3 * i) ∙ c.1, same_word words (5 + 3 * i) ∙ c.2);
  each_visit = λ i x at. let c = d.each_visit i x at in
      (same_word words (visits_begin slots + 2 * i) ∙ c.0, same_word words (visits_begin slots + (1 + 2 * i)) ∙ c.1);
}
