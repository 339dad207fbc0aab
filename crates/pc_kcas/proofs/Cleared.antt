-- A word that is cleared of an exchange, and what that asks for.
use Rattle.std.proofs.Common.{◌≡◌, ◌≢◌, ℕ, ◌+◌, ◌*◌, ◌<◌, Bool, if◌then◌else◌, List, length, get_or, refl, sym, ap, ◌∙◌, subst, inl, inr}
use Rattle.std.proofs.lemmas.List.{length-map}
use mathlib.Core.Logic.{dite}
use mathlib.Core.Option.{some}
use lib.ListN.{get_elem?}
use native.Mathlib.Decide.{ℕ_discrete}
use Rattle.pc_model.specs.declared.cell.Field.{Field}
use Rattle.pc_model.specs.declared.shape.Shape.{Ghosts}
use Rattle.pc_words.specs.declared.status.Stage.TheVariants.{Idle}
use Rattle.pc_words.specs.declared.word.WordKind.{WordKind}
use Rattle.pc_words.specs.declared.word.WordKind.TheVariants.{Plain, Install, Exchange}
use Rattle.pc_words.specs.Statuses.{packed}
use Rattle.pc_words.specs.Words.{raw, kind}
use Rattle.pc_rule_law.specs.Board.{Size, place_number}
use Rattle.pc_rule_law.specs.Past.{Has}
use Rattle.pc_rule_law.specs.Plays.{found}
use Rattle.pc_rule_law.specs.Views.{View, OwnAttempt, placed, removed, held, clean, word_in, IsAttempt}
use Rattle.pc_rule_law.proofs.Lists.{below_length, element_at}
use Rattle.pc_rule_law.proofs.WordKinds.{install_not_exchange}
use Rattle.pc_protocol.specs.Histories.{Stage, absent, undecided, committed, aborted, value_by}
use Rattle.pc_protocol.specs.Notes.{verdict}
use Rattle.pc_exchange_law.specs.Attempts.{KnowsWord, KnowsEntry, KnowsPlaces, calm_but, word_in as known_word_in}
use Rattle.pc_exchange_law.specs.Knowing.{after_clearing}
use Rattle.pc_exchange_law.specs.Ties.{code}
use Rattle.pc_exchange_law.specs.WholePlays.{CellSeen, ReferenceTaken, after_clear}
use Rattle.pc_exchange_law.specs.Wholes.{Whole}
use Rattle.pc_rule.specs.Attempts.{AgreeOnAttempt}
use Rattle.pc_rule.specs.Deciding.{took_effect, MayPutNumber, MayClearOwn, KnowsOutcome as KnowsOwnOutcome}
use Rattle.pc_rule.specs.declared.board.Pass.{Pass}
use Rattle.pc_rule.specs.declared.opening.Place.{Place}
use Rattle.pc_rule.specs.declared.refs.Ref.{Ref}
use Rattle.pc_rule.specs.Passes.{whole, view, listed, IsSamePass}
use Rattle.pc_rule.specs.Starting.{change_of}
use Rattle.pc_rule.proofs.Attempts.{same_word}
use Rattle.pc_rule.proofs.Calls.{read_at}
use Rattle.pc_rule.proofs.Starting.{element}
use Rattle.pc_dcss.specs.Installs.{HasMet}
use Rattle.pc_dcss.proofs.Staying.{is_noted}
use Rattle.pc_kcas.specs.Clearing.{KnowsOutcomeOf, KnowsOutcome, KnowsEntryOf, IsCleanAt}
use Rattle.pc_kcas.specs.Exchanges.{HasPublished, IsUncleared}
use Rattle.pc_kcas.specs.Settling.{HasLearnt, HoldsEach}
use Rattle.pc_kcas.proofs.Attempts.{listed_as}
use Rattle.pc_kcas.proofs.Holding.{pass_published}
use Rattle.pc_kcas.proofs.Evidence.{entry_goes}
use Rattle.pc_kcas.proofs.Going.{goes_learnt}
use Rattle.pc_kcas.proofs.Learning.{learnt_by}

pub cell_learnt : (x y : Whole) (n : ℕ) (f : Field) (r : ℕ) → CellSeen x n f r y → HasLearnt x y
cell_learnt x y n f r c = learnt_by x y c.later c.seen.learns

-- an install that was found was met
pub met_found : (x y : Whole) (n : ℕ) (f : Field) (r : ℕ) → CellSeen x n f r y → (q k : ℕ) → kind r ≡ Install q k → HasMet y.view q k
met_found x y n f r c q k e = (
  n,
  f,
  is_noted x.view y.view (placed q k n f)
      (c.notes (placed q k n f) (subst (λ (w : WordKind). Has (found n f w) (placed q k n f)) (sym e) (0, refl))),
)

pub taken_learnt : (x y : Whole) (n : ℕ) (f : Field) (old new r : ℕ) → ReferenceTaken x n f old new r y → HasLearnt x y
unfolding cell_learnt
taken_learnt x y n f old new r t = dite (ℕ_discrete r old) (λ e. learnt_by x y t.later (t.learnt e).learns) (λ ne. cell_learnt x y n f r (t.miss ne))

-- a number was put in place of the reference, or something else than an install was found: then the word is clean
module _ (x y : Whole) (n : ℕ) (f : Field) (old new r p a : ℕ) (st : Stage) (told : Has x.knows.told (verdict (code p a) st)) (word : kind old ≡ Exchange p a)
    (taken : ReferenceTaken x n f old new r y) where
  -- where an install was found, the reference wasn't
  missed_by : (q k : ℕ) → kind r ≡ Install q k → r ≢ old
  missed_by q k e same = install_not_exchange q k p a (sym e ∙ (ap kind same ∙ word))

  pub met_taken : (q k : ℕ) → kind r ≡ Install q k → HasMet y.view q k
  unfolding missed_by
  met_taken q k e = met_found x y n f r (taken.miss (missed_by q k e)) q k e

  pub taken_clean : ((q k : ℕ) → kind r ≢ Install q k) → Has y.view.notes (clean p a n f)
  taken_clean none = dite (ℕ_discrete r old) (λ e. taken.cleaned e p a word) (λ ne. taken.missed_clean ne p a word (inr (inr (st, told, none))))

  -- and where an install was found, it was taken away, and the number was put once more
  pub then_clean : (u z : Whole) (q k r' : ℕ) → p < 64 → HasLearnt y u → kind r ≡ Install q k → Has u.view.notes (removed q k)
      → ReferenceTaken u n f old new r' z → Has z.view.notes (clean p a n f)
  unfolding missed_by
  then_clean u z q k r' small between e gone last = dite (ℕ_discrete r' old)
      (λ same. last.cleaned same p a word)
      (λ ne. last.missed_clean ne p a word (inr (inl (
        q,
        k,
        between.noted (calm_but p a n f q k) ((taken.miss (missed_by q k e)).seen.install p a q k st small e told),
        λ c. (last.miss ne).present q k c gone,
      ))))

-- what the pass knows of its own published attempt, by its own words
module _ (x : Whole) (places : List Place) (has : HasPublished x.view places) (agree : AgreeOnAttempt x) (a : ℕ) (is : a ≡ x.knows.own.number) where
  pub known_own : (place w : ℕ) → word_in x.view.attempt.words place ≡ w → KnowsWord x.knows.noted x.view.seat x.knows.own x.view.seat a place w
  known_own place w e = inr (
    refl,
    is,
    agree.busy ∙ has.published,
    ap (λ (ws : List (ℕ × ℕ)). known_word_in ws place) agree.words ∙ (same_word x.view.attempt.words place ∙ e),
  )

  pub own_entry : (i : ℕ) (p : Place) → get_elem? places i ≡ some p → KnowsEntry x.knows.noted x.view.seat x.knows.own x.view.seat a i p.node p.field p.old p.new
  unfolding known_own
  own_entry i p at = let e = has.describes.each_change i (change_of p) (listed_as places i p at) in record {
    count = length places;
    counted = known_own 1 (length places) (has.describes.changes ∙ length-map places change_of);
    below = below_length places i p at;
    place = known_own (3 + 3 * i) (place_number p.node p.field) e.0;
    old_word = known_own (4 + 3 * i) p.old e.1;
    new_word = known_own (5 + 3 * i) p.new e.2;
  }

  pub own_places : KnowsPlaces x.knows.noted x.view.seat x.knows.own x.view.seat a
  unfolding own_entry known_own
  own_places = record {
    count = length places;
    counted = known_own 1 (length places) (has.describes.changes ∙ length-map places change_of);
    each = λ i lt. let p = element_at places i lt in (p.0.node, p.0.field, (own_entry i p.0 p.1).place);
  }

pub own_holds : (x : Whole) (places : List Place) → HasPublished x.view places → AgreeOnAttempt x → 0 < length places
    → ((i : ℕ) (p : Place) → get_elem? places i ≡ some p → Has x.view.notes (held x.view.seat x.view.attempt.number p.node p.field))
    → HoldsEach x x.view.seat x.view.attempt.number
unfolding own_places
own_holds x places has agree some' holds = record {
  met = let p = element_at places 0 some' in (p.0.node, p.0.field, holds 0 p.0 p.1);
  places = own_places x places has agree x.view.attempt.number (sym agree.number);
  each = λ i lt. let p = element_at places i lt in holds i p.0 p.1;
}

worth_is : (st : Stage) (old new : ℕ) → (if took_effect st then new else old) ≡ value_by st old new
worth_is absent old new = refl
worth_is undecided old new = refl
worth_is (committed s) old new = refl
worth_is (aborted cause) old new = refl

-- the number that a word is worth may be put in place of the exchange's reference
pub may_put : (z : Size) (x : Whole) (op : Ref) (place : Place) (won : Bool) (reference number : ℕ) → KnowsEntryOf x op place → KnowsOutcomeOf x op.seat op.number won
    → IsAttempt z op.seat op.number → reference ≡ raw (Exchange op.seat op.number) → number ≡ raw (Plain (if won then place.new else place.old))
    → MayPutNumber z x place.node place.field reference number
unfolding worth_is
may_put z x op place won reference number entry known attempt r n = (
  op.seat,
  op.number,
  (if won then place.new else place.old),
  r,
  n,
  attempt,
  record {
    entry = entry.0;
    old = place.old;
    new = place.new;
    stage = known.0;
    known = entry.1;
    decided = known.1;
    worth = ap (λ (b : Bool). if b then place.new else place.old) known.2 ∙ worth_is known.0 place.old place.new;
  },
)

-- what is known of a decided exchange is known still
pub entry_learnt : (x y : Whole) (op : Ref) (place : Place) → HasLearnt x y → KnowsEntryOf x op place → KnowsEntryOf y op place
entry_learnt x y op place l entry = (
  entry.0,
  entry_goes x y (goes_learnt x y l) (ap (λ (u : View). u.seat) l.view.same) op.seat op.number entry.0 place.node place.field place.old place.new entry.1,
)

pub outcome_learnt : (x y : Whole) (p a : ℕ) (won : Bool) → HasLearnt x y → KnowsOutcomeOf x p a won → KnowsOutcomeOf y p a won
outcome_learnt x y p a won l known = (known.0, l.told (verdict (code p a) known.0) known.1, known.2)

-- how the own attempt was decided, by the number that the pass knows beside
pub own_outcome : (x : Whole) (won : Bool) → AgreeOnAttempt x → KnowsOutcome x won → KnowsOwnOutcome x won
own_outcome x won agree known = (
  known.0,
  subst (λ (n : ℕ). Has x.knows.told (verdict (code x.view.seat n) known.0)) (sym agree.number) known.1,
  known.2,
)

-- an attempt each of whose words is clean may be cleared
pub may_clear : (x : Whole) (places : List Place) (won : Bool) (new : ℕ) → HasPublished x.view places → AgreeOnAttempt x → KnowsOutcome x won
    → ((i : ℕ) (p : Place) → get_elem? places i ≡ some p → Has x.view.notes (clean x.view.seat x.view.attempt.number p.node p.field))
    → new ≡ packed (record { number = x.view.attempt.number; stage = Idle }) → MayClearOwn x new
unfolding own_places
may_clear x places won new has agree known cleaned is = (
  is ∙ ap (λ (n : ℕ). packed (record { number = n; stage = Idle })) (sym agree.number),
  record {
    stage = known.0;
    decided = subst (λ (n : ℕ). Has x.knows.told (verdict (code x.view.seat n) known.0)) (sym agree.number) known.1;
    places = own_places x places has agree x.knows.own.number refl;
    each = λ i lt. let p = element_at places i lt in
        subst (λ (n : ℕ). Has x.view.notes (clean x.view.seat n p.0.node p.0.field)) (sym agree.number) (cleaned i p.0 p.1);
  },
)

-- what clearing tells of the pass, by the stage in which its attempt was decided
abbrev pub IsClearedSo : Whole → Whole → Stage → Type 0
IsClearedSo x y st = y ≡ record x { view = after_clear x.view; knows = after_clearing x.knows st }

pub cleared_so : (x y : Whole) (won : Bool) → AgreeOnAttempt x → KnowsOutcome x won
    → ((st : Stage) → Has x.knows.told (verdict (code x.view.seat x.knows.own.number) st) → IsClearedSo x y st)
    → (st : Stage) × Has x.knows.told (verdict (code x.view.seat x.knows.own.number) st) × IsClearedSo x y st
cleared_so x y won agree known told =
    let has : Has x.knows.told (verdict (code x.view.seat x.knows.own.number) known.0) =
    subst (λ (n : ℕ). Has x.knows.told (verdict (code x.view.seat n) known.0)) (sym agree.number) known.1 in
    (known.0, has, told known.0 has)

pub outcome_still : (x y : Whole) (won : Bool) → HasLearnt x y → KnowsOutcome x won → KnowsOutcome y won
outcome_still x y won l known = let v = l.view.same in (
  known.0,
  subst (λ (s : ℕ). Has y.knows.told (verdict (code s y.view.attempt.number) known.0)) (sym (ap (λ (u : View). u.seat) v))
      (subst (λ (t : OwnAttempt). Has y.knows.told (verdict (code x.view.seat t.number) known.0)) (sym (ap (λ (u : View). u.attempt) v)) (l.told _ known.1)),
  known.2,
)

module _ {H : Type 0} {S : Ghosts H} where
  pub published_learnt : (p q : Pass H S) → IsSamePass p q → HasLearnt (whole p) (whole q) → IsUncleared p → IsUncleared q
  published_learnt p q same l has = pass_published p q same (ap (λ (u : View). u.attempt) l.view.same, ap (λ (u : View). u.posted) l.view.same) has

  pub clean_still : (p q : Pass H S) (i : ℕ) → IsSamePass p q → HasLearnt (whole p) (whole q) → IsCleanAt p i → IsCleanAt q i
  clean_still p q i same l is x at = let v = l.view.same in
      let there : get_elem? (listed p) i ≡ some x = subst (λ (l : List Place). get_elem? l i ≡ some x) (ap (λ v. v.items) same.1) at in
      subst (λ (s : ℕ). Has (view q).notes (clean s (view q).attempt.number x.node x.field)) (sym (ap (λ (u : View). u.seat) v))
      (subst (λ (t : OwnAttempt). Has (view q).notes (clean (view p).seat t.number x.node x.field)) (sym (ap (λ (u : View). u.attempt) v)) (l.view.more _ (is x there)))

  -- a listed word is one of the own exchange
  pub own_entry_of : (p : Pass H S) (i : ℕ) (now : List Place) (d : Place) (op : Ref) → IsUncleared p → now ≡ listed p → i < length (listed p) → op.seat ≡ (view p).seat
      → op.number ≡ (view p).attempt.number → KnowsEntryOf (whole p) op (get_or now i d)
  own_entry_of p i now d op has is lt at counts =
      let x = whole p in let q = get_or now i d in
      let there : get_elem? (listed p) i ≡ some q = subst (λ (l : List Place). get_elem? (listed p) i ≡ some (get_or l i d)) (sym is) (element (listed p) i d lt) in (
        i,
        subst (λ (s : ℕ). KnowsEntry x.knows.noted x.view.seat x.knows.own s op.number i q.node q.field q.old q.new) (sym at)
            (own_entry x (listed p) has p.one_attempt op.number (counts ∙ sym p.one_attempt.number) i q there),
      )

  pub clean_at : (p q : Pass H S) (i : ℕ) (now : List Place) (d : Place) (seat number : ℕ) → now ≡ listed p → IsSamePass p q → HasLearnt (whole p) (whole q)
      → seat ≡ (view p).seat → number ≡ (view p).attempt.number
      → Has (view q).notes (clean seat number (get_or now i d).node (get_or now i d).field) → IsCleanAt q i
  clean_at p q i now d seat number is same l at counts cleaned x at_x =
      let e : get_or now i d ≡ x = read_at now i x d (subst (λ (l : List Place). get_elem? l i ≡ some x) (ap (λ v. v.items) same.1 ∙ sym is) at_x) in
      subst (λ (y : Place). Has (view q).notes (clean (view q).seat (view q).attempt.number y.node y.field)) e
      (subst (λ (s : ℕ). Has (view q).notes (clean s (view q).attempt.number (get_or now i d).node (get_or now i d).field)) (at ∙ sym (ap (λ (u : View). u.seat) l.view.same))
      (subst (λ (m : ℕ). Has (view q).notes (clean seat m (get_or now i d).node (get_or now i d).field)) (counts ∙ sym (ap (λ (u : View). u.attempt.number) l.view.same)) cleaned))
