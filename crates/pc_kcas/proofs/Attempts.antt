-- The attempt that a list is: it is formed, the words that were stored describe it, and once it is published each place of
-- the list is known to be one of it.
use Rattle.std.proofs.Common.{◌≡◌, ◌≢◌, ℕ, zero, suc, ◌+◌, ◌*◌, ◌^◌, ◌<◌, ◌≤◌, true, false, List, [], ◌∷◌, length, map, refl, sym, ap, ap₂, ◌∙◌, subst, inl, inr, ⊎_elim, arith}
use Rattle.std.proofs.lemmas.Bool.{cases_order}
use Rattle.std.proofs.lemmas.List.{length-map}
use Rattle.std.proofs.lemmas.List.Sorted.{All-permutation, IsPermutation-sym}
use Rattle.std.specs.List.Sorted.{IsPermutation}
use mathlib.Core.Option.{some, some-injective, some-ne-none}
use lib.ListN.{get_elem?}
use Rattle.pc_model.specs.declared.cell.Field.{Field}
use Rattle.pc_model.specs.declared.cell.Field.TheVariants.{Version}
use Rattle.pc_model.specs.Cells.{IsNode, IsEven}
use Rattle.pc_model.specs.Forms.{Form, Fits}
use Rattle.pc_model.specs.Exchanges.{Changed, Visited, Seen}
use Rattle.pc_words.specs.declared.status.Stage.TheVariants.{Undecided}
use Rattle.pc_words.specs.Statuses.{packed}
use Rattle.pc_rule_law.specs.Board.{Size, place_number, descriptor_words}
use Rattle.pc_rule_law.specs.Conditions.{IsFree, CanWrite, KnowsWord, KnowsChange}
use Rattle.pc_rule_law.specs.Past.{Has, Attempt, Describes, IsFormed, visits_begin}
use Rattle.pc_rule_law.specs.Plays.{after_publish}
use Rattle.pc_rule_law.specs.Views.{Note, View, clock_at, removed, word_in, with_notes}
use Rattle.pc_rule_law.proofs.Lists.{below_length, has_later}
use Rattle.pc_history.specs.Footprints.{IsAmong}
use Rattle.pc_protocol.specs.Links.{MarksAlone}
use Rattle.pc_protocol.specs.Notes.{Note as ToldNote, clock_was}
use Rattle.pc_exchange_law.specs.Attempts.{word_in as known_word_in}
use Rattle.pc_exchange_law.specs.Changes.{RaisesNodes}
use Rattle.pc_exchange_law.specs.ExchangeConditions.{KnowsOld, KnowsBasis, GoesByPath}
use Rattle.pc_exchange_law.specs.Knowing.{IsAboveSeen}
use Rattle.pc_exchange_law.specs.Passes.{PassKnows}
use Rattle.pc_exchange_law.specs.Slots.{IsHeldOrVisited}
use Rattle.pc_exchange_law.specs.Ties.{exchange_of}
use Rattle.pc_exchange_law.specs.Wholes.{Whole}
use Rattle.pc_exchange_law.proofs.ChangeLists.{among_has, has_among}
use Rattle.pc_rule.specs.declared.opening.Place.{Place}
use Rattle.pc_rule.specs.Attempts.{AgreeOnAttempt}
use Rattle.pc_rule.proofs.Attempts.{describes_too}
use Rattle.pc_rule.proofs.Starting.{element}
use Rattle.pc_rule.specs.declared.refs.Ref.{Ref}
use Rattle.pc_rule.specs.Conditions.{MayPublish}
use Rattle.pc_rule.specs.Listed.{word_number, FitsWord, AreListed}
use Rattle.pc_rule.specs.Starting.{change_of}
use Rattle.pc_rule.proofs.Calls.{read_at}
use Rattle.pc_rule.proofs.Sharing.{from_map}
use Rattle.pc_dcss.specs.Installs.{KnowsPlace}
use Rattle.pc_kcas.specs.Exchanges.{IsOneWord, ListsTo, OnlyPublished, HasPublished, attempt_with}
use Rattle.pc_kcas.proofs.Locks.{old_still, RaisesOrLocks, AllRaiseOrLock, KnowsItsOld, AllKnown, AllTouched}

pub listed_as : (places : List Place) (i : ℕ) (p : Place) → get_elem? places i ≡ some p → get_elem? (map change_of places) i ≡ some (change_of p)
listed_as [] i p at = absurd (some-ne-none p (sym at))
listed_as (q ∷ places) zero p at = ap (λ (r : Place). some (change_of r)) (some-injective q p at)
listed_as (q ∷ places) (suc i) p at = listed_as places i p at

pub describes : (slots m : ℕ) (visits : List Visited) (reads : List Seen) (places : List Place) (word : ℕ → ℕ) → ListsTo m (length visits) places word (length places)
    → ((i : ℕ) (x : Visited) → get_elem? visits i ≡ some x → (word (visits_begin slots + 2 * i) ≡ x.node) × (word (visits_begin slots + (1 + 2 * i)) ≡ x.version))
    → Describes slots (attempt_with m visits reads (map change_of places)) word
describes slots m visits reads places word so each = record {
  mode = so.mode;
  changes = so.changes ∙ sym (length-map places change_of);
  visits = so.visits;
  each_change = λ i x at. let p = from_map change_of places i x at in
      subst (λ (y : Changed). (word (3 + 3 * i) ≡ place_number y.node y.field) × (word (4 + 3 * i) ≡ y.old) × (word (5 + 3 * i) ≡ y.new)) p.2
      (so.each i p.0 (below_length places i p.0 p.1) p.1);
  each_visit = each;
}

module _ (slots : ℕ) (places : List Place) (all : AreListed slots places) where
  fits_at : (i : ℕ) (p : Place) → get_elem? places i ≡ some p → FitsWord slots p
  fits_at i p at = subst (FitsWord slots) (read_at places i p p at) (all.fit i p (below_length places i p at))

  -- the earlier of two listed places isn't of the word of the later
  apart_at : (i j : ℕ) (p q : Place) → i < j → get_elem? places i ≡ some p → get_elem? places j ≡ some q → word_number p ≢ word_number q
  apart_at i j p q lt at_p at_q same = all.apart i j p lt (below_length places j q at_q)
      (ap word_number (read_at places i p p at_p) ∙ (same ∙ sym (ap word_number (read_at places j q p at_q))))

  one_index : (i j : ℕ) (p q : Place) → get_elem? places i ≡ some p → get_elem? places j ≡ some q → word_number p ≡ word_number q → i ≡ j
  unfolding apart_at
  one_index i j p q at_p at_q same = ⊎_elim (λ (e : i ≡ j). e)
      (λ ne. ⊎_elim (λ (lt : i < j). absurd (apart_at i j p q lt at_p at_q same)) (λ (lt : j < i). absurd (apart_at j i q p lt at_q at_p (sym same))) ne) (cases_order i j)

  pub formed : (m : ℕ) (visits : List Visited) (reads : List Seen) → length visits ≤ slots + 1
      → ((x : Visited) → Has visits x → IsNode slots x.node × (x.version < 2 ^ 62)) → IsFormed slots (attempt_with m visits reads (map change_of places))
  unfolding fits_at one_index
  formed m visits reads few_visits visited = record {
    few = (let n = length-map places change_of in let few = all.few in omega arith);
    few_visits = few_visits;
    visited = visited;
    inside = λ x has. let p = from_map change_of places has.0 x has.1 in
        subst (λ (y : Changed). IsNode slots y.node × (y.old < 2 ^ 62) × (y.new < 2 ^ 62)) p.2 (fits_at has.0 p.0 p.1);
    apart = λ i j x y at_x at_y node field. let p = from_map change_of places i x at_x in let q = from_map change_of places j y at_y in
        one_index i j p.0 q.0 p.1 q.1 (ap₂ place_number (ap (λ (c : Changed). c.node) p.2 ∙ (node ∙ sym (ap (λ (c : Changed). c.node) q.2)))
        (ap (λ (c : Changed). c.field) p.2 ∙ (field ∙ sym (ap (λ (c : Changed). c.field) q.2))));
  }

-- the pass that loaded the clock, stored words and published is as it was but for its attempt and its notes
pub only_published : (v u t w : View) (r : ℕ) (words : List (ℕ × ℕ)) → u ≡ with_notes v (clock_at r ∷ [])
    → t ≡ record u { attempt = record u.attempt { words = words } } → w ≡ after_publish t → OnlyPublished v w
only_published v u t w r words looked wrote told =
    let e : w ≡ after_publish (record (with_notes v (clock_at r ∷ [])) { attempt = record v.attempt { words = words } }) =
    told ∙ (ap after_publish wrote ∙ ap (λ (x : View). after_publish (record x { attempt = record x.attempt { words = words } })) looked) in
    subst (OnlyPublished v) (sym e) record {
      same = refl;
      clock = (r, refl);
      number = refl;
      published = refl;
    }

-- a place of a list is in the list in another order
pub has_in_order : (old new : List Place) → IsPermutation old new → (v : Place) → Has old v → Has new v
has_in_order old new same v h = subst (Has new) (read_at old h.0 v v h.1)
    (All-permutation (Has new) new old (IsPermutation-sym old new same) (λ k d lt. (k, element new k d lt)) h.0 v (below_length old h.0 v h.1))

-- and back
has_before : (old new : List Place) → IsPermutation old new → (v : Place) → Has new v → Has old v
unfolding has_in_order
has_before old new same v h = has_in_order new old (IsPermutation-sym old new same) v h

-- the attempt raises its nodes, or locks them, in each order of its words
raises_nodes : (m : ℕ) (visits : List Visited) (reads : List Seen) (old new : List Place) → IsPermutation old new → AllRaiseOrLock old
    → RaisesNodes (attempt_with m visits reads (map change_of new))
unfolding has_before
raises_nodes m visits reads old new same raises a among = let has = among_has (map change_of new) a among in let p = from_map change_of new has.0 a has.1 in
    let r : RaisesOrLocks old p.0 = raises p.0 (has_before old new same p.0 (has.0, p.1)) in
    let v : Place = r.0 in let there = has_in_order old new same v r.1 in let node : p.0.node ≡ a.node = ap (λ (c : Changed). c.node) p.2 in record {
      change = change_of v;
      among = has_among (map change_of new) (change_of v) (there.0, listed_as new there.0 v there.1);
      is_of = (r.2 ∙ node, r.3);
      rises = ⊎_elim (λ rises. inl rises.0) (λ locks. inr (
        locks.0,
        λ b other at. let here = among_has (map change_of new) b other in
            let q = from_map change_of new here.0 b here.1 in
            sym (ap (λ (c : Changed). c.field) q.2)
            ∙ locks.1 q.0 (has_before old new same q.0 (here.0, q.1)) (ap (λ (c : Changed). c.node) q.2 ∙ (at ∙ sym node)),
      )) r.4;
    }

-- a word that marks its node is its one word
marks_alone : (m : ℕ) (visits : List Visited) (reads : List Seen) (old new : List Place) → IsPermutation old new → AllRaiseOrLock old
    → MarksAlone (exchange_of (attempt_with m visits reads (map change_of new)))
unfolding has_before
marks_alone m visits reads old new same raises a b among other version odd node = let has = among_has (map change_of new) a among in let p = from_map change_of new has.0 a has.1 in
    let r : RaisesOrLocks old p.0 = raises p.0 (has_before old new same p.0 (has.0, p.1)) in
    let here = among_has (map change_of new) b other in let q = from_map change_of new here.0 b here.1 in
    let only : IsOneWord old p.0.node → b.field ≡ Version = λ one. sym (ap (λ (c : Changed). c.field) q.2)
    ∙ one q.0 (has_before old new same q.0 (here.0, q.1)) (ap (λ (c : Changed). c.node) q.2 ∙ (node ∙ sym (ap (λ (c : Changed). c.node) p.2))) in ⊎_elim
    (λ rises. ⊎_elim (λ even. let new_is_even : IsEven a.new = subst (λ (c : Changed). IsEven c.new) p.2 even in absurd (omega arith)) only
    (rises.1 (ap (λ (c : Changed). c.field) p.2 ∙ version)))
    (λ locks. only locks.1) r.4

-- its nodes are known to be in use, or were visited
touches_held : (m : ℕ) (visits : List Visited) (reads : List Seen) (k : PassKnows) (seen : List Visited) (old new : List Place) → IsPermutation old new
    → AllTouched k seen old → (a : Changed) → IsAmong a (attempt_with m visits reads (map change_of new)).changes → IsHeldOrVisited k seen a.node
unfolding has_before
touches_held m visits reads k seen old new same touched a among = let has = among_has (map change_of new) a among in let p = from_map change_of new has.0 a has.1 in
    subst (λ (c : Changed). IsHeldOrVisited k seen c.node) p.2 (touched p.0 (has_before old new same p.0 (has.0, p.1)))

-- the old numbers are known in each order of the words
pub known_basis : (m : ℕ) (visits : List Visited) (reads : List Seen) (z : Size) (k k' : PassKnows) (old new : List Place) → ((m : ToldNote) → Has k.told m → Has k'.told m) → IsPermutation old new
    → AllKnown z k old → KnowsBasis z k' (attempt_with m visits reads (map change_of new))
unfolding has_before
known_basis m visits reads z k k' old new more same known a among = let has = among_has (map change_of new) a among in let p = from_map change_of new has.0 a has.1 in
    let r : KnowsItsOld z k old p.0 = known p.0 (has_before old new same p.0 (has.0, p.1)) in
    let v : Place = r.0 in let there = has_in_order old new same v r.1 in (
      v.old,
      record {
        change = change_of v;
        among = has_among (map change_of new) (change_of v) (there.0, listed_as new there.0 v there.1);
        is_of = (r.2 ∙ ap (λ (c : Changed). c.node) p.2, r.3);
        old = refl;
      },
      subst (λ (y : Changed). KnowsOld z k' y.node v.old y.field y.old) p.2 (old_still z k k' p.0.node v.old p.0.field p.0.old more r.4),
    )

-- the words that were stored may be published: those of a list, in some order
pub may_publish : (form : Form) (z : Size) (x : Whole) (k : PassKnows) (mode : ℕ) (visits : List Visited) (reads : List Seen) (old new : List Place) (c status : ℕ)
    → AgreeOnAttempt x → CanWrite x.view → x.view.size ≡ z → x.view.attempt.number + 1 < 2 ^ 28 → AreListed x.view.size.slots new → IsPermutation old new → AllRaiseOrLock old
    → ((ordered : List Place) → IsPermutation old ordered → (keys : List ℕ) × Fits form x.view.size.slots (exchange_of (attempt_with 0 visits reads (map change_of ordered))) keys)
    → AllKnown z k old → AllTouched x.knows x.path.visits old → ((m : ToldNote) → Has k.told m → Has x.knows.told m) → Has x.knows.told (clock_was c) → IsAboveSeen x.knows.told c
    → (length visits ≤ x.view.size.slots + 1) × ((u : Visited) → Has visits u → IsNode x.view.size.slots u.node × (u.version < 2 ^ 62))
    → Describes x.view.size.slots (attempt_with mode visits reads (map change_of new)) (word_in x.view.attempt.words)
    → GoesByPath x.knows x.path c (attempt_with mode visits reads (map change_of new)) → status ≡ packed (record { number = x.view.attempt.number + 1; stage = Undecided }) → MayPublish form z x status
may_publish form z x k mode visits reads old new c status agree may sized lt all same raises fit known touched more clock above inside so goes is =
    let e : Attempt = attempt_with mode visits reads (map change_of new) in
    let slots : x.view.size.slots ≡ z.slots = ap (λ (y : Size). y.slots) sized in
    let fits = fit new same in (
      e,
      c,
      fits.0,
      is ∙ ap (λ (n : ℕ). packed (record { number = n + 1; stage = Undecided })) (sym agree.number),
      refl,
      record {
        rests = agree.busy ∙ may.1;
        room = subst (λ (n : ℕ). n + 1 < 2 ^ 28) (sym agree.number) lt;
        clock = clock;
        above = above;
        formed = subst (λ (s : ℕ). IsFormed s e) slots (formed x.view.size.slots new all mode visits reads inside.0 inside.1);
        raises = raises_nodes mode visits reads old new same raises;
        marks = marks_alone mode visits reads old new same raises;
        touches = touches_held mode visits reads x.knows x.path.visits old new same touched;
        makes = tt;
        seen = goes;
        described = subst (λ (l : List (ℕ × ℕ)). Describes z.slots e (known_word_in l)) (sym agree.words)
            (describes_too z.slots e x.view.attempt.words (subst (λ (s : ℕ). Describes s e (word_in x.view.attempt.words)) slots so));
        fits = subst (λ (s : ℕ). Fits form s (exchange_of e) fits.0) slots fits.1;
        based = known_basis mode visits reads z k x.knows old new more same known;
      },
    )

pub has_published : (v w : View) (mode : ℕ) (visits : List Visited) (reads : List Seen) (places : List Place) → w ≡ after_publish v → v.posted ≡ false
    → v.attempt.number + 1 < 2 ^ 28 → Describes v.size.slots (attempt_with mode visits reads (map change_of places)) (word_in v.attempt.words) → 0 < length places
    → HasPublished w places
has_published v w mode visits reads places told none lt so some' = subst (λ (x : View). HasPublished x places) (sym told) record {
  mode = mode;
  visits = visits;
  reads = reads;
  some_listed = some';
  published = refl;
  none_posted = none;
  number = lt;
  describes = so;
}

module _ (v : View) (places : List Place) (has : HasPublished v places) (all : AreListed v.size.slots places) (seated : v.seat < v.size.seats) where
  knows_word : (place x : ℕ) → place < descriptor_words v.size.slots → word_in v.attempt.words place ≡ x → KnowsWord v v.seat v.attempt.number place x
  knows_word place x lt is = inr (refl, refl, has.none_posted, has.published, lt, is)

  -- a word that is listed is known to be one of the own exchange
  pub knows_place : (op : Ref) (i : ℕ) (p : Place) → op.seat ≡ v.seat → op.number ≡ v.attempt.number → get_elem? places i ≡ some p → KnowsPlace v op p
  unfolding knows_word listed_as
  knows_place op i p seat number at =
      let lt = below_length places i p at in let few = all.few in
      let e = has.describes.each_change i (change_of p) (listed_as places i p at) in
      let change_known : KnowsChange v v.seat v.attempt.number i p.node p.field p.old p.new = record {
        count = length places;
        below = lt;
        known_count = knows_word 1 (length places) (omega arith) (has.describes.changes ∙ length-map places change_of);
        known_place = knows_word (3 + 3 * i) (place_number p.node p.field) (omega arith) e.0;
        known_old = knows_word (4 + 3 * i) p.old (omega arith) e.1;
        known_new = knows_word (5 + 3 * i) p.new (omega arith) e.2;
      } in
      let fits = fits_at v.size.slots places all i p at in
      inr (
        ((subst (λ s. s < v.size.seats) (sym seat) seated, subst (λ a. a < 2 ^ 28) (sym number) has.number), fits.0, fits.1, fits.2),
        i,
        subst (λ s. KnowsChange v s op.number i p.node p.field p.old p.new) (sym seat)
            (subst (λ a. KnowsChange v v.seat a i p.node p.field p.old p.new) (sym number) change_known),
      )

-- of a pass that published no install stands where none stood
pub free_published : (v w : View) → OnlyPublished v w → IsFree v → IsFree w
free_published v w told free = ⊎_elim
    (λ (fresh : v.fresh ≡ true). inl (ap (λ (x : View). x.fresh) told.same ∙ fresh))
    (λ has. inr (subst (λ (n : ℕ). Has w.notes (removed w.seat n)) (sym (ap (λ (x : View). x.install.number) told.same))
    (subst (λ (s : ℕ). Has w.notes (removed s v.install.number)) (sym (ap (λ (x : View). x.seat) told.same))
    (subst (λ (l : List Note). Has l (removed v.seat v.install.number)) (sym told.clock.1) (has_later (clock_at told.clock.0) v.notes (removed v.seat v.install.number) has)))))
    free
