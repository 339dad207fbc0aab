-- What a pass knows of its own published exchange serves the steps from its draw to its clearing.
use Rattle.std.proofs.Common.{◌≡◌, ℕ, ◌+◌, ◌*◌, ◌<◌, ◌≤◌, true, List, [], ◌∷◌, length, get_or, refl, sym, ap, ◌∙◌, subst, inr, ⊎_elim, arith}
use Rattle.std.proofs.lemmas.Bool.{cases_order}
use Rattle.std.proofs.lemmas.List.{length-map}
use mathlib.Core.Logic.{dite}
use mathlib.Core.Option.{some}
use lib.ListN.{get_elem?}
use native.Mathlib.Decide.{ℕ_discrete}
use Rattle.pc_model.specs.declared.cell.Field.{Field}
use Rattle.pc_protocol.specs.Histories.{committed}
use Rattle.pc_protocol.specs.Notes.{Note as RunNote, drew, verdict}
use Rattle.pc_rule_law.specs.Board.{place_number}
use Rattle.pc_rule_law.specs.Past.{Has}
use Rattle.pc_rule_law.specs.Views.{View, Note, OwnAttempt, held, clean, clock_at, word_in, with_notes}
use Rattle.pc_rule_law.specs.Plays.{IsLater}
use Rattle.pc_rule_law.proofs.Lists.{below_length, element_at, has_later, has_left}
use Rattle.pc_exchange_law.specs.Attempts.{word_in as known_word_in, KnowsWord, KnowsPlaces}
use Rattle.pc_exchange_law.specs.ExchangeConditions.{MayDrawFor, MaySucceed, MayTakeReference, MayClear}
use Rattle.pc_exchange_law.specs.Ties.{code, last_stamp}
use Rattle.pc_exchange_law.specs.WholePlays.{ReferenceTaken}
use Rattle.pc_exchange_law.specs.Passes.{PassKnows}
use Rattle.pc_exchange_law.specs.Wholes.{Whole}
use Rattle.pc_rule.specs.Attempts.{AgreeOnAttempt}
use Rattle.pc_rule.specs.declared.opening.Place.{Place}
use Rattle.pc_rule.specs.Starting.{change_of}
use Rattle.pc_rule.proofs.Attempts.{same_word}
use Rattle.pc_rule.proofs.Starting.{element}
use Rattle.pc_dcss.specs.Installs.{KeepsAttempt, KeepsNotes}
use Rattle.pc_kcas.specs.Exchanges.{HasPublished, IsHeldAt}
use Rattle.pc_kcas.proofs.Attempts.{listed_as}
use Rattle.pc_kcas.proofs.VisitChecks.{none_checked}
use Rattle.pc_model.specs.declared.shape.Shape.{Ghosts}
use Rattle.pc_rule.specs.declared.board.Pass.{Pass}
use Rattle.pc_rule.specs.Passes.{view, listed, IsSamePass}
use Rattle.board_trials.specs.Deciding.{HoldsListed, IsCleanAt}

module _ (x : Whole) (places : List Place) (has : HasPublished x.view places) (agree : AgreeOnAttempt x) where
  -- the number of the own attempt, as either part has it
  own_word : (a place y : ℕ) → a ≡ x.view.attempt.number → word_in x.view.attempt.words place ≡ y → KnowsWord x.knows.noted x.view.seat x.knows.own x.view.seat a place y
  own_word a place y e is = inr (
    refl,
    e ∙ sym agree.number,
    agree.busy ∙ has.published,
    ap (λ (l : List (ℕ × ℕ)). known_word_in l place) agree.words ∙ (same_word x.view.attempt.words place ∙ is),
  )

  counted : (a : ℕ) → a ≡ x.view.attempt.number → KnowsWord x.knows.noted x.view.seat x.knows.own x.view.seat a 1 (length places)
  unfolding own_word
  counted a e = own_word a 1 (length places) e (has.describes.changes ∙ length-map places change_of)

  abbrev word_at : (a : ℕ) → a ≡ x.view.attempt.number → (i : ℕ) → i < length places → (n : ℕ) × (f : Field) × KnowsWord x.knows.noted x.view.seat x.knows.own x.view.seat a (3 + 3 * i) (place_number n f)
  word_at a e i lt = let p = element_at places i lt in
      (p.0.node, p.0.field, own_word a (3 + 3 * i) (place_number p.0.node p.0.field) e (has.describes.each_change i (change_of p.0) (listed_as places i p.0 p.1)).0)

  abbrev places_at : (a : ℕ) → a ≡ x.view.attempt.number → KnowsPlaces x.knows.noted x.view.seat x.knows.own x.view.seat a
  places_at a e = record { count = length places; counted = counted a e; each = word_at a e }

  pub may_draw : x.knows.ready ≡ true → 0 < length places
      → ((i : ℕ) (p : Place) → get_elem? places i ≡ some p → Has x.view.notes (held x.view.seat x.view.attempt.number p.node p.field))
      → MayDrawFor x.view x.knows x.view.seat x.view.attempt.number
  may_draw ready lt each = record {
    ready = ready;
    met = let p = element_at places 0 lt in (p.0.node, p.0.field, each 0 p.0 p.1);
    places = places_at x.view.attempt.number refl;
    each = λ i below. let p = element_at places i below in each i p.0 p.1;
  }

  pub may_succeed : (s : ℕ) → word_in x.view.attempt.words 2 ≡ 0 → s < last_stamp → Has x.knows.told (drew (code x.view.seat x.view.attempt.number) s)
      → MaySucceed x.view x.knows x.view.seat x.view.attempt.number s
  may_succeed s none lt was = record {
    drawn = was;
    low = omega arith;
    checked = none_checked x x.view.seat x.view.attempt.number s (own_word x.view.attempt.number 2 0 refl none);
  }

  pub may_take : (i s : ℕ) (p : Place) → get_elem? places i ≡ some p → Has x.knows.told (verdict (code x.view.seat x.view.attempt.number) (committed s))
      → MayTakeReference x.view x.knows x.view.seat x.view.attempt.number p.node p.field p.new
  may_take i s p at decided = let e = has.describes.each_change i (change_of p) (listed_as places i p at) in let a : ℕ = x.view.attempt.number in record {
    entry = i;
    old = p.old;
    new = p.new;
    stage = committed s;
    known = record {
      count = length places;
      counted = counted a refl;
      below = below_length places i p at;
      place = own_word a (3 + 3 * i) (place_number p.node p.field) refl e.0;
      old_word = own_word a (4 + 3 * i) p.old refl e.1;
      new_word = own_word a (5 + 3 * i) p.new refl e.2;
    };
    decided = decided;
    worth = refl;
  }

  -- the same of the word that is read at an index of the list
  pub may_take_read : (now : List Place) (i s : ℕ) (d : Place) → now ≡ places → i < length places → Has x.knows.told (verdict (code x.view.seat x.view.attempt.number) (committed s))
      → MayTakeReference x.view x.knows x.view.seat x.view.attempt.number (get_or now i d).node (get_or now i d).field (get_or now i d).new
  may_take_read now i s d is lt decided = may_take i s (get_or now i d)
      (subst (λ (l : List Place). get_elem? places i ≡ some (get_or l i d)) (sym is) (element places i d lt)) decided

  pub may_clear : (s : ℕ) → Has x.knows.told (verdict (code x.view.seat x.view.attempt.number) (committed s))
      → ((i : ℕ) → i < length places → (p : Place) → get_elem? places i ≡ some p → Has x.view.notes (clean x.view.seat x.view.attempt.number p.node p.field))
      → MayClear x.view x.knows
  may_clear s decided each = record {
    stage = committed s;
    decided = subst (λ (a : ℕ). Has x.knows.told (verdict (code x.view.seat a) (committed s))) (sym agree.number) decided;
    places = places_at x.knows.own.number agree.number;
    each = λ i below. let p = element_at places i below in
        subst (λ (a : ℕ). Has x.view.notes (clean x.view.seat a p.0.node p.0.field)) (sym agree.number) (each i below p.0 p.1);
  }

-- a draw leaves the view, also where it is refused
pub view_after : (x : Whole) (r : ℕ) (y : Whole) (k k' : PassKnows) → (r < last_stamp → y ≡ record x { knows = k }) → (last_stamp ≤ r → y ≡ record x { knows = k' }) → y.view ≡ x.view
view_after x r y k k' drawn refused = ⊎_elim
    (λ (e : r ≡ last_stamp). ap (λ (u : Whole). u.view) (refused (omega arith)))
    (λ ne. ⊎_elim
    (λ (lt : r < last_stamp). ap (λ (u : Whole). u.view) (drawn lt))
    (λ (gt : last_stamp < r). ap (λ (u : Whole). u.view) (refused (omega arith))) ne)
    (cases_order r last_stamp)

-- a load of the clock is noted, and nothing else changes in the view
pub looked_clock : (v w : View) (r : ℕ) → w ≡ with_notes v (clock_at r ∷ []) → IsLater v w
looked_clock v w r e = subst (IsLater v) (sym e) record {
  same = refl;
  adds = (clock_at r ∷ [], refl);
  more = λ x h. has_later (clock_at r) v.notes x h;
}

pub same_attempt : (v w : View) → w ≡ v → KeepsAttempt v w
same_attempt v w e = (ap (λ (u : View). u.attempt) e, ap (λ (u : View). u.posted) e)

pub later_attempt : (v w : View) → w ≡ record v { notes = w.notes } → KeepsAttempt v w
later_attempt v w e = (ap (λ (u : View). u.attempt) e, ap (λ (u : View). u.posted) e)

-- what was told of the run is told still, where a number was put in place of a reference, or not
pub told_still : (x : Whole) (n : ℕ) (f : Field) (old new r : ℕ) (y : Whole) → ReferenceTaken x n f old new r y → (m : RunNote) → Has x.knows.told m → Has y.knows.told m
told_still x n f old new r y s m h = dite (ℕ_discrete r old)
    (λ e. (s.learnt e).learns.told m h)
    (λ ne. (s.miss ne).seen.learns.told m h)

module _ {H : Type 0} {S : Ghosts H} where
  -- that the words were seen to hold the reference, or to be clean, is noted still
  pub held_now : (p q : Pass H S) → IsSamePass p q → KeepsAttempt (view p) (view q) → KeepsNotes (view p) (view q) → HoldsListed p → HoldsListed q
  held_now p q same keeps notes holds i x at =
      subst (λ (s : ℕ). Has (view q).notes (held s (view q).attempt.number x.node x.field)) (sym same.0.2)
      (subst (λ (a : OwnAttempt). Has (view q).notes (held (view p).seat a.number x.node x.field)) (sym keeps.0)
      (notes (held (view p).seat (view p).attempt.number x.node x.field)
      (holds i x (subst (λ (l : List Place). get_elem? l i ≡ some x) (ap (λ v. v.items) same.1) at))))

  pub clean_still : (p q : Pass H S) (i : ℕ) → IsSamePass p q → KeepsAttempt (view p) (view q) → KeepsNotes (view p) (view q) → IsCleanAt p i → IsCleanAt q i
  clean_still p q i same keeps notes is x at =
      subst (λ (s : ℕ). Has (view q).notes (clean s (view q).attempt.number x.node x.field)) (sym same.0.2)
      (subst (λ (a : OwnAttempt). Has (view q).notes (clean (view p).seat a.number x.node x.field)) (sym keeps.0)
      (notes (clean (view p).seat (view p).attempt.number x.node x.field)
      (is x (subst (λ (l : List Place). get_elem? l i ≡ some x) (ap (λ v. v.items) same.1) at))))

  -- where as many words held as are listed, all did
  pub all_held : (p q : Pass H S) (count : ℕ) → length (listed q) ≤ count → ((i : ℕ) → i < count → IsHeldAt p q i) → HoldsListed q
  all_held p q count le each i x at = let lt = below_length (listed q) i x at in let since = each i (omega arith) x at in
      subst (λ (l : List Note). Has l (held (view q).seat (view q).attempt.number x.node x.field)) (sym since.1)
      (has_left since.0 (view p).notes (held (view q).seat (view q).attempt.number x.node x.field) since.2)
