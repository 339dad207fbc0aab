-- What a pass has learnt in its steps, and that it knows still what it knew.
use Rattle.std.proofs.Common.{◌≡◌, ℕ, ◌+◌, ◌*◌, List, [], ◌∷◌, ◌++◌, true, refl, sym, ap, ◌∙◌, subst, inl, inr, ⊎_elim}
use Rattle.pc_rule_law.specs.Past.{Has}
use Rattle.pc_rule_law.specs.Views.{View, Note as ViewNote, OwnAttempt as OwnTry, clock_at, decided_below, with_notes}
use Rattle.pc_rule_law.specs.Plays.{IsLater, ClockLoaded}
use Rattle.pc_rule_law.proofs.Lists.{has_right}
use Rattle.pc_protocol.specs.Histories.{Stage}
use Rattle.pc_protocol.specs.Notes.{Note, clock_was, saw, verdict}
use Rattle.pc_exchange_law.specs.Attempts.{AttemptNote, OwnAttempt, KnowsWord, word_in}
use Rattle.pc_exchange_law.specs.ExchangeConditions.{MayDrawFor}
use Rattle.pc_exchange_law.specs.Knowing.{Learns, outdated_by}
use Rattle.pc_exchange_law.specs.Passes.{PassKnows}
use Rattle.pc_exchange_law.specs.Paths.{read_of}
use Rattle.pc_exchange_law.specs.WholePlays.{ClockSeen, after_decided}
use Rattle.pc_exchange_law.specs.Wholes.{Whole}
use Rattle.pc_dcss.proofs.Staying.{later_then}
use Rattle.pc_kcas.specs.Settling.{HasLearnt, HasLearntOrWithdrawn, HoldsEach, KnowsOf}

pub same_view : (v : View) → IsLater v v
same_view v = record { same = refl; adds = ([], refl); more = λ x h. h }

later_by : (v w : View) (new : List ViewNote) → w ≡ with_notes v new → IsLater v w
later_by v w new e = subst (IsLater v) (sym e) record { same = refl; adds = (new, refl); more = λ x h. has_right new v.notes x h }

pub learnt_then : (x y z : Whole) → HasLearnt x y → HasLearnt y z → HasLearnt x z
learnt_then x y z a b = record {
  view = later_then x.view y.view z.view a.view b.view;
  noted = λ n h. b.noted n (a.noted n h);
  told = λ n h. b.told n (a.told n h);
  own = b.own ∙ a.own;
}

pub learnt_by : (x y : Whole) → IsLater x.view y.view → Learns x.knows y.knows → HasLearnt x y
learnt_by x y later l = record {
  view = later;
  noted = l.noted;
  told = l.told;
  own = l.own;
}

-- a note was told, and beside it whether the pass may draw
pub learnt_note : (x y : Whole) (k : PassKnows) (note : Note) → y ≡ record x { knows = k } → k.noted ≡ x.knows.noted → k.told ≡ note ∷ x.knows.told
    → k.own ≡ x.knows.own → HasLearnt x y
unfolding same_view
learnt_note x y k note is noted told own = subst (HasLearnt x) (sym is) record {
  view = same_view x.view;
  noted = λ n h. subst (λ (l : List AttemptNote). Has l n) (sym noted) h;
  told = λ n h. subst (λ (l : List Note). Has l n) (sym told) (has_right (note ∷ []) x.knows.told n h);
  own = own;
}

-- what is told of a decision
abbrev pub told_by : ℕ → Stage → List Note
told_by x st = verdict x st ∷ outdated_by x st

-- the same of the decision of attempt a of pass p, of which more may be told, and which is noted in the view too
pub learnt_decision : (x y : Whole) (p a : ℕ) (k : PassKnows) (notes : List Note) → y ≡ record x { view = after_decided x.view p a; knows = k }
    → k.noted ≡ x.knows.noted → k.told ≡ notes ++ x.knows.told → k.own ≡ x.knows.own → HasLearnt x y
unfolding later_by
learnt_decision x y p a k notes is noted told own = subst (HasLearnt x) (sym is) record {
  view = later_by x.view (after_decided x.view p a) (decided_below p (a + 1) ∷ []) refl;
  noted = λ n h. subst (λ (l : List AttemptNote). Has l n) (sym noted) h;
  told = λ n h. subst (λ (l : List Note). Has l n) (sym told) (has_right notes x.knows.told n h);
  own = own;
}

-- the pass withdrew its own attempt
pub withdrawn_by : (x y : Whole) (p a : ℕ) (note : Note) → y ≡ record x { view = after_decided x.view p a; knows = record x.knows { told = note ∷ x.knows.told; own = record x.knows.own { withdrew = true } } }
    → HasLearntOrWithdrawn x y
unfolding later_by
withdrawn_by x y p a note is = subst (HasLearntOrWithdrawn x) (sym is) record {
  view = later_by x.view (after_decided x.view p a) (decided_below p (a + 1) ∷ []) refl;
  noted = λ n h. h;
  told = λ n h. has_right (note ∷ []) x.knows.told n h;
  own = refl;
}

pub withdrawn_none : (x y : Whole) → HasLearnt x y → HasLearntOrWithdrawn x y
withdrawn_none x y l = record { view = l.view; noted = l.noted; told = l.told; own = ap (λ (o : OwnAttempt). record o { withdrew = y.knows.own.withdrew }) l.own }

pub withdrawn_then : (x y z : Whole) → HasLearntOrWithdrawn x y → HasLearntOrWithdrawn y z → HasLearntOrWithdrawn x z
withdrawn_then x y z a b = record {
  view = later_then x.view y.view z.view a.view b.view;
  noted = λ n h. b.noted n (a.noted n h);
  told = λ n h. b.told n (a.told n h);
  own = b.own ∙ ap (λ (o : OwnAttempt). record o { withdrew = z.knows.own.withdrew }) a.own;
}

pub decision_told : (x y : Whole) (p a : ℕ) (k : PassKnows) (note : Note) (rest : List Note) → y ≡ record x { view = after_decided x.view p a; knows = k } → k.told ≡ note ∷ rest
    → Has y.knows.told note
decision_told x y p a k note rest is told = subst (λ (u : Whole). Has u.knows.told note) (sym is) (subst (λ (l : List Note). Has l note) (sym told) (0, refl))

-- the note that was told
pub note_told : (x y : Whole) (k : PassKnows) (note : Note) → y ≡ record x { knows = k } → k.told ≡ note ∷ x.knows.told → Has y.knows.told note
note_told x y k note is told = subst (λ (u : Whole). Has u.knows.told note) (sym is) (subst (λ (l : List Note). Has l note) (sym told) (0, refl))

pub clock_learnt : (x y : Whole) (r : ℕ) → ClockLoaded x.view r y.view → ClockSeen x.path x.knows r y.knows → HasLearnt x y
unfolding later_by
clock_learnt x y r told seen =
    record {
      view = later_by x.view y.view (clock_at r ∷ []) told.0;
      noted = λ n h. subst (λ (k : PassKnows). Has k.noted n) (sym seen.noted) h;
      told = λ n h. subst (λ (k : PassKnows). Has k.told n) (sym seen.noted) (has_right (clock_was r ∷ saw r (read_of x.path) ∷ []) x.knows.told n h);
      own = ap (λ (k : PassKnows). k.own) seen.noted;
    }

pub clock_told : (x y : Whole) (r : ℕ) → ClockSeen x.path x.knows r y.knows → Has y.knows.told (clock_was r)
clock_told x y r seen = subst (λ (k : PassKnows). Has k.told (clock_was r)) (sym seen.noted) (0, refl)

module _ (x y : Whole) (l : HasLearnt x y) (p a : ℕ) where
  pub seat_still : y.view.seat ≡ x.view.seat
  seat_still = ap (λ (v : View). v.seat) l.view.same

  pub try_still : y.view.attempt ≡ x.view.attempt
  try_still = ap (λ (v : View). v.attempt) l.view.same

  pub posted_still : y.view.posted ≡ x.view.posted
  posted_still = ap (λ (v : View). v.posted) l.view.same

  -- a word of a descriptor that was known is known
  pub word_still : (place w : ℕ) → KnowsWord x.knows.noted x.view.seat x.knows.own p a place w → KnowsWord y.knows.noted y.view.seat y.knows.own p a place w
  unfolding seat_still
  word_still place w known = ⊎_elim (λ noted. inl (l.noted _ noted))
      (λ own. inr (own.0 ∙ sym seat_still, own.1 ∙ sym (ap (λ (o : OwnAttempt). o.number) l.own), ap (λ (o : OwnAttempt). o.busy) l.own ∙ own.2, ap (λ (o : OwnAttempt). word_in o.words place) l.own ∙ own.3)) known

  pub holds_still : HoldsEach x p a → HoldsEach y p a
  unfolding word_still
  holds_still h = record {
    met = (h.met.0, h.met.1, l.view.more _ h.met.2);
    places = record {
      count = h.places.count;
      counted = word_still 1 h.places.count h.places.counted;
      each = λ i below. let e = h.places.each i below in (e.0, e.1, word_still (3 + 3 * i) _ e.2);
    };
    each = λ i below. l.view.more _ (h.each i below);
  }

  pub of_still : KnowsOf x.view p a → KnowsOf y.view p a
  unfolding seat_still try_still posted_still
  of_still known = ⊎_elim (λ met. inl (met.0, met.1, l.view.more _ met.2))
      (λ own. inr (own.0 ∙ sym seat_still, posted_still ∙ own.1, own.2 ∙ sym (ap (λ (t : OwnTry). t.number) try_still))) known

-- an attempt of which a word holds the reference is known
pub known_by_holding : (x : Whole) (p a : ℕ) → HoldsEach x p a → KnowsOf x.view p a
known_by_holding x p a h = inl h.met

pub draws_for : (x : Whole) (p a : ℕ) → x.knows.ready ≡ true → HoldsEach x p a → MayDrawFor x.view x.knows p a
draws_for x p a ready h = record { ready = ready; met = h.met; places = h.places; each = h.each }

pub learnt_none : (x : Whole) → HasLearnt x x
unfolding same_view
learnt_none x = record { view = same_view x.view; noted = λ n h. h; told = λ n h. h; own = refl }
