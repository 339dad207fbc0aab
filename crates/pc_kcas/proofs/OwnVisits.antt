-- What a pass knows of the nodes that its own exchange visits, and of the check of these.
use Rattle.std.proofs.Common.{◌≡◌, ◌≢◌, ℕ, ◌+◌, ◌*◌, ◌<◌, ◌≤◌, List, length, map, get_or, Option, Some, None, IfSome, IfNone, Result, Ok, Err, IfOk, IfErr, refl, sym, ap, ap₂, ◌∙◌, subst, inl, inr, arith}
use Rattle.std.proofs.lemmas.List.{length-map}
use mathlib.Core.Logic.{dite}
use mathlib.Core.Option.{some}
use lib.ListN.{get_elem?}
use native.Mathlib.Decide.{ℕ_discrete}
use Rattle.pc_model.specs.declared.cell.Field.TheVariants.{Version}
use Rattle.pc_model.specs.declared.shape.Shape.{Ghosts}
use Rattle.pc_rule_law.specs.Board.{Size, place_number}
use Rattle.pc_rule_law.specs.Past.{Has, visits_begin}
use Rattle.pc_rule_law.specs.Plays.{AddsNotes, StatusLoaded}
use Rattle.pc_rule_law.specs.Views.{View, OwnAttempt, held, word_in}
use Rattle.pc_rule_law.proofs.Lists.{element_at}
use Rattle.pc_words.specs.declared.status.Status.{Status}
use Rattle.pc_exchange_law.specs.Attempts.{KnowsVisit}
use Rattle.pc_exchange_law.specs.ExchangeConditions.{KnowsPassed, KnowsChecked}
use Rattle.pc_exchange_law.specs.Wholes.{Whole}
use Rattle.pc_rule.specs.declared.board.Pass.{Pass}
use Rattle.pc_rule.specs.declared.opening.Place.{Place}
use Rattle.pc_rule.specs.declared.refs.Ref.{Ref}
use Rattle.pc_rule.specs.declared.refs.RefKind.TheVariants.{Exchange as AnExchange}
use Rattle.pc_rule.specs.declared.visit.Visit.{Visit}
use Rattle.pc_rule.specs.Passes.{whole, view, listed, visits, IsSamePass}
use Rattle.pc_rule.specs.Starting.{change_of}
use Rattle.pc_rule.proofs.Starting.{element}
use Rattle.pc_kcas.specs.declared.obstacle.Stuck.{Stuck}
use Rattle.pc_kcas.specs.declared.obstacle.Stuck.TheVariants.{Two, NoLink}
use Rattle.pc_kcas.specs.declared.obstacle.Obstacle.TheVariants.{Stuck as IsStuckThere}
use Rattle.pc_kcas.specs.declared.own_checks.Barred.{Barred}
use Rattle.pc_kcas.specs.declared.own_checks.Barred.TheVariants.{Changed as ByChange, Locked as ByLock, Stuck as ByTwo}
use Rattle.pc_kcas.specs.declared.verdict.Verdict.{Verdict}
use Rattle.pc_kcas.specs.declared.verdict.Verdict.TheVariants.{Won, Changed as ChangedSo, Locked as LockedSo, Blocked, Numbers}
use Rattle.pc_kcas.specs.Checking.{KnowsWordOf, KnowsVisitOf, LeavesVersion, HasPassedAt, IsStuckAtVersion, IsStuckAtVisit, IsBarred}
use Rattle.pc_kcas.specs.Clearing.{HoldsListed}
use Rattle.pc_kcas.specs.Exchanges.{HasPublished, IsUncleared, IsPublished, own_exchange}
use Rattle.pc_kcas.specs.Obstacles.{GoesOn, IsStuckAt}
use Rattle.pc_kcas.specs.Settling.{HasLearnt, HoldsEach, TellsFailure}
use Rattle.pc_kcas.specs.Stops.{IsTwo, AreInTheWay}
use Rattle.pc_kcas.specs.Takings.{HoldsAt, HoldsBelow}
use Rattle.pc_kcas.specs.Verdicts.{HasReached, visits as has_visited, HasEnded, HasMetVisited, EndedSo, IsBlockedSo, IsReason}
use Rattle.pc_kcas.proofs.Cleared.{known_own, own_entry, own_holds}
use Rattle.pc_kcas.proofs.Evidence.{word_goes, stuck_at_since}
use Rattle.pc_kcas.proofs.Collected.{holds_goes}
use Rattle.pc_kcas.proofs.Failing.{failure_before}
use Rattle.pc_kcas.proofs.Going.{goes_learnt}
use Rattle.pc_kcas.proofs.VisitsPassed.{IsOther}

module _ {H : Type 0} {S : Ghosts H} where
  -- ---- the changes of the own exchange

  pub own_other : (p : Pass H S) (i : ℕ) (now : List Place) (d : Place) (n : ℕ) → IsUncleared p → now ≡ listed p → i < length (listed p)
      → place_number (get_or now i d).node (get_or now i d).field ≢ place_number n Version → IsOther (whole p) (own_exchange p) n i
  own_other p i now d n has is lt other = let q = get_or now i d in
      let there : get_elem? (listed p) i ≡ some q = subst (λ (l : List Place). get_elem? (listed p) i ≡ some (get_or l i d)) (sym is) (element (listed p) i d lt) in
      (place_number q.node q.field, (own_entry (whole p) (listed p) has p.one_attempt (view p).attempt.number (sym p.one_attempt.number) i q there).place, other)

  pub others_next : (p : Pass H S) (n i : ℕ) → ((k : ℕ) → k < i → IsOther (whole p) (own_exchange p) n k) → IsOther (whole p) (own_exchange p) n i
      → (k : ℕ) → k < i + 1 → IsOther (whole p) (own_exchange p) n k
  others_next p n i before last k lt = dite (ℕ_discrete k i)
      (λ (here : k ≡ i). subst (IsOther (whole p) (own_exchange p) n) (sym here) last)
      (λ other. before k (omega arith))

  pub own_leaves : (p : Pass H S) (n : ℕ) → IsUncleared p → ((k : ℕ) → k < length (listed p) → IsOther (whole p) (own_exchange p) n k)
      → LeavesVersion (whole p) (own_exchange p) n
  own_leaves p n has others = record {
    count = length (listed p);
    counted = known_own (whole p) (listed p) has p.one_attempt (view p).attempt.number (sym p.one_attempt.number) 1 (length (listed p))
        (has.describes.changes ∙ length-map (listed p) change_of);
    each = others;
  }

  -- ---- its visits

  pub own_visit : (p : Pass H S) (i : ℕ) (now : List Visit) (d : Visit) (op : Ref) → IsPublished p → op ≡ own_exchange p → now ≡ visits p
      → i < word_in (view p).attempt.words 2 → KnowsVisitOf (whole p) op i (get_or now i d).node (get_or now i d).version
  own_visit p i now d op has own is lt = let within = has.2.within in
      let there : get_elem? (visits p) i ≡ some (get_or (visits p) i d) = element (visits p) i d (omega arith) in
      let e = has.2.each i (get_or (visits p) i d) lt there in
      let known = known_own (whole p) (listed p) has.0 p.one_attempt (view p).attempt.number (sym p.one_attempt.number) in
      let slots = (view p).size.slots in
      subst (λ (l : List Visit). KnowsVisitOf (whole p) op i (get_or l i d).node (get_or l i d).version) (sym is)
      (subst (λ (r : Ref). KnowsVisitOf (whole p) r i (get_or (visits p) i d).node (get_or (visits p) i d).version) (sym own) record {
        count = word_in (view p).attempt.words 2;
        counted = known 2 (word_in (view p).attempt.words 2) refl;
        below = lt;
        node_word = known (visits_begin slots + 2 * i) (get_or (visits p) i d).node e.0;
        version_word = known (visits_begin slots + (1 + 2 * i)) (get_or (visits p) i d).version e.1;
      })

  -- each of them has passed its check
  pub own_checked : (p : Pass H S) (op : Ref) (s : ℕ) → IsPublished p → op ≡ own_exchange p
      → ((i : ℕ) → i < word_in (view p).attempt.words 2 → HasPassedAt (whole p) op s i) → KnowsChecked (view p) (whole p).knows op.seat op.number s
  own_checked p op s has own passed = subst (λ (r : Ref). KnowsChecked (view p) (whole p).knows r.seat r.number s) (sym own) record {
    count = word_in (view p).attempt.words 2;
    counted = known_own (whole p) (listed p) has.0 p.one_attempt (view p).attempt.number (sym p.one_attempt.number) 2 (word_in (view p).attempt.words 2) refl;
    each = λ i lt. subst (λ (r : Ref). HasPassedAt (whole p) r s i) own (passed i lt);
  }

  pub same_exchange : (p q : Pass H S) (op : Ref) → IsSamePass p q → HasLearnt (whole p) (whole q) → op ≡ own_exchange p → op ≡ own_exchange q
  same_exchange p q op same l own = own ∙ ap₂ (λ (a b : ℕ). record { kind = AnExchange; seat = a; number = b }) (sym same.0.2)
      (sym (ap (λ (v : View). v.attempt.number) l.view.same))

  -- no reference of the own pass to a later attempt stands anywhere
  pub none_later : (p q : Pass H S) (op : Ref) (s : Status) (m n : ℕ) → IsUncleared p → op ≡ own_exchange p → StatusLoaded (view p) op.seat s (view q)
      → op.number < m → Has (view p).notes (held op.seat m n Version) → ⊥
  none_later p q op s m n has own told lt met =
      let reached : m ≤ s.number = told.held_below m n Version met in
      let mine : s.number ≡ (view p).attempt.number = (told.own (ap (λ (r : Ref). r.seat) own) has.none_posted).0 in
      let number : op.number ≡ (view p).attempt.number = ap (λ (r : Ref). r.number) own in omega arith

  -- each word of the own exchange was seen to hold the reference
  pub all_below : (p : Pass H S) → IsUncleared p → HoldsListed p → HoldsBelow (whole p) (own_exchange p) (length (listed p))
  all_below p has holds i lt = let at = element_at (listed p) i lt in let x = at.0 in (
    x.node,
    x.field,
    (own_entry (whole p) (listed p) has p.one_attempt (view p).attempt.number (sym p.one_attempt.number) i x at.1).place,
    holds i x at.1,
  )

  pub own_holds_each : (p : Pass H S) (op : Ref) → IsUncleared p → op ≡ own_exchange p → HoldsListed p → HoldsEach (whole p) op.seat op.number
  own_holds_each p op has own holds = subst (λ (r : Ref). HoldsEach (whole p) r.seat r.number) (sym own)
      (own_holds (whole p) (listed p) has p.one_attempt has.some_listed holds)

-- what a visited node was reached by
pub own_reached : {H : Type 0} {S : Ghosts H} (p q : Pass H S) (op : Ref) → IsSamePass p q → HasLearnt (whole p) (whole q) → IsUncleared p → op ≡ own_exchange p → HoldsListed p
    → (n i v : ℕ) → KnowsVisitOf (whole q) op i n v → HasReached (whole q) op n Version
own_reached p q op same l has own holds n i v visit =
    let goes = goes_learnt (whole p) (whole q) l in
    let known = known_own (whole p) (listed p) has p.one_attempt (view p).attempt.number (sym p.one_attempt.number) 1 (length (listed p)) (has.describes.changes ∙ length-map (listed p) change_of) in
    has_visited i v (length (listed p)) refl visit
    (subst (λ (r : Ref). KnowsWordOf (whole q) r 1 (length (listed p))) (sym own) (word_goes (whole p) (whole q) goes same.0.2 (view p).seat (view p).attempt.number 1 (length (listed p)) known))
    (λ k lt. holds_goes (whole p) (whole q) op k goes same.0.2 (subst (λ (r : Ref). HoldsAt (whole p) r k) (sym own) (all_below p has holds k lt)))

-- ---- what keeps the exchange from taking effect

pub stuck_version_since : (o x y : Whole) (op : Ref) (n : ℕ) (how : Stuck) → AddsNotes o.view x.view → IsStuckAtVersion x y op n how → IsStuckAtVersion o y op n how
stuck_version_since o x y op n (Two first second) adds h = stuck_at_since o x adds y op n Version first second h
stuck_version_since o x y op n (NoLink met) adds h = h

pub stuck_visit_since : (o x y : Whole) (op : Ref) (how : Stuck) → AddsNotes o.view x.view → IsStuckAtVisit x y op how → IsStuckAtVisit o y op how
unfolding stuck_version_since
stuck_visit_since o x y op how adds h = (h.0, stuck_version_since o x y op h.0 how adds h.1, h.2)

pub barred_since : (o x y : Whole) (op : Ref) (s : ℕ) (b : Barred) → AddsNotes o.view x.view → IsBarred x y op s b → IsBarred o y op s b
unfolding stuck_visit_since
barred_since o x y op s (ByChange n) adds h = h
barred_since o x y op s (ByLock n q) adds h = h
barred_since o x y op s (ByTwo how) adds h = stuck_visit_since o x y op how adds h

pub barred_if : (o x y : Whole) (op : Ref) (s : ℕ) (b : Option Barred) → AddsNotes o.view x.view → IfSome b (IsBarred x y op s) → IfSome b (IsBarred o y op s)
unfolding barred_since
barred_if o x y op s (Some b) adds h = barred_since o x y op s b adds h
barred_if o x y op s None adds h = tt

pub own_passed_if : (y : Whole) (op : Ref) (s i n v : ℕ) (b : Option Barred) → KnowsVisitOf y op i n v
    → IfNone b (KnowsPassed y.view y.knows op.seat op.number s n v) → IfNone b (HasPassedAt y op s i)
own_passed_if y op s i n v (Some b) visit p = tt
own_passed_if y op s i n v None visit p = (n, v, visit, p)

-- ---- what came of the decision

pub failure_if : (x y z : Whole) (p : ℕ) (r : Result Status Stuck) → HasLearnt x y → IfOk r (TellsFailure y z p) → IfOk r (TellsFailure x z p)
failure_if x y z p (Ok s) l h = failure_before x y z p s l h
failure_if x y z p (Err how) l h = tt

pub stuck_if : (o x y : Whole) (op : Ref) (r : Result Status Stuck) → AddsNotes o.view x.view → IfErr r (IsStuckAtVisit x y op) → IfErr r (IsStuckAtVisit o y op)
unfolding stuck_visit_since
stuck_if o x y op (Ok s) adds h = tt
stuck_if o x y op (Err how) adds h = stuck_visit_since o x y op how adds h

-- where nothing was done since the check
pub stuck_by : (x u y : Whole) (op : Ref) (s : ℕ) (b : Barred) (r : Result Status Stuck) → IsBarred x u op s b → IfErr r (λ how. (b ≡ ByTwo how) × (y ≡ u))
    → IfErr r (IsStuckAtVisit x y op)
stuck_by x u y op s b (Ok status) barred h = tt
stuck_by x u y op s b (Err how) barred h = subst (λ (w : Whole). IsStuckAtVisit x w op how) (sym h.1) (subst (IsBarred x u op s) h.0 barred)

-- ---- the end

pub is_two : (x y : Whole) (op : Ref) (how : Stuck) → IsStuckAtVisit x y op how → IsTwo how
is_two x y op (Two first second) h = tt
is_two x y op (NoLink met) h = h.1

pub so_more : (y : Whole) (a : ℕ) (r : Verdict) (X Y : Ref → Ref → Type 0) → ((first second : Ref) → r ≡ Blocked first second → X first second → Y first second)
    → EndedSo y a r X → EndedSo y a r Y
so_more y a (Won s) X Y more so = so
so_more y a (ChangedSo n) X Y more so = so
so_more y a (LockedSo n q) X Y more so = so
so_more y a (Blocked first second) X Y more so = (so.0, more first second refl so.1)
so_more y a (Numbers n) X Y more so = so

-- the two references that the exchange was stuck at
way_visited : (x u y : Whole) (op : Ref) (how : Stuck) (first second : Ref) → GoesOn x u → HasEnded u y → IsStuckAtVisit x u op how
    → ((n i v : ℕ) → KnowsVisitOf u op i n v → HasReached u op n Version) → AreInTheWay (IsStuckThere how) first second → HasMetVisited x y op first second
way_visited x u y op (Two one two) first second goes ended h reach way = (
  u,
  goes,
  ended,
  (
    h.0,
    subst (λ (r : Ref). IsStuckAt x u op h.0 Version r second) (sym way.0) (subst (λ (r : Ref). IsStuckAt x u op h.0 Version one r) (sym way.1) h.1),
    reach h.0 h.2.0 h.2.1 h.2.2,
  ),
)
way_visited x u y op (NoLink met) first second goes ended h reach way = absurd way

pub stuck_so : (x u y : Whole) (op : Ref) (how : Stuck) (a : ℕ) (reason r : Verdict) → GoesOn x u → HasEnded u y → IsStuckAtVisit x u op how
    → ((n i v : ℕ) → KnowsVisitOf u op i n v → HasReached u op n Version) → IsBlockedSo reason (AreInTheWay (IsStuckThere how))
    → EndedSo y a r (λ first second. reason ≡ Blocked first second) → EndedSo y a r (HasMetVisited x y op)
unfolding so_more way_visited
stuck_so x u y op how a reason r goes ended h reach blocked so = so_more y a r (λ first second. reason ≡ Blocked first second) (HasMetVisited x y op)
    (λ first second _ is. way_visited x u y op how first second goes ended h reach (subst (λ (t : Verdict). IsBlockedSo t (AreInTheWay (IsStuckThere how))) is blocked)) so

pub blocked_reason : (y : Whole) (reason : Verdict) (X : Ref → Ref → Type 0) → IsBlockedSo reason X → IsReason y reason
blocked_reason y (Won s) X so = absurd so
blocked_reason y (ChangedSo n) X so = absurd so
blocked_reason y (LockedSo n q) X so = absurd so
blocked_reason y (Blocked first second) X so = tt
blocked_reason y (Numbers n) X so = absurd so
