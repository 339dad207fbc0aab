-- What its own pass holds and meets in the words of an exchange.
use Rattle.std.proofs.Common.{◌≡◌, ℕ, ◌+◌, ◌-◌, ◌*◌, ◌<◌, ◌≤◌, true, List, [], length, get_or, Option, Some, None, IfSome, IfNone, refl, sym, ap, ap₂, ◌∙◌, subst, inl, inr, ⊎_elim, arith}
use mathlib.Core.Option.{some}
use lib.ListN.{get_elem?}
use Rattle.pc_model.specs.declared.cell.Field.TheVariants.{Version}
use Rattle.pc_model.specs.declared.shape.Shape.{Ghosts}
use Rattle.pc_rule_law.specs.Plays.{AddsNotes, IsNotedSince}
use Rattle.pc_rule_law.specs.Conditions.{IsFree}
use Rattle.pc_rule_law.specs.Board.{Size}
use Rattle.pc_rule_law.specs.Past.{Has, visits_begin}
use Rattle.pc_rule_law.specs.Views.{View, OwnAttempt, clean, held, removed, word_in}
use Rattle.pc_rule_law.proofs.Lists.{below_length, element_at}
use Rattle.pc_exchange_law.specs.WholePlays.{after_clear}
use Rattle.pc_exchange_law.specs.Wholes.{Whole}
use Rattle.pc_rule.specs.declared.board.Pass.{Pass}
use Rattle.pc_rule.specs.declared.opening.Place.{Place}
use Rattle.pc_rule.specs.declared.refs.Ref.{Ref}
use Rattle.pc_rule.specs.declared.refs.RefKind.TheVariants.{Exchange}
use Rattle.pc_rule.specs.Passes.{whole, view, listed, IsSeatedAs, IsSamePass, IsSameButSlots}
use Rattle.pc_rule.proofs.Starting.{element}
use Rattle.pc_dcss.specs.Installs.{KnowsPlace}
use Rattle.pc_dcss.proofs.Staying.{adds_then, is_noted}
use Rattle.pc_kcas.specs.declared.answering.Stop.{Stop}
use Rattle.pc_kcas.specs.declared.obstacle.Obstacle.{Obstacle}
use Rattle.pc_kcas.specs.declared.verdict.Verdict.{Verdict}
use Rattle.pc_kcas.specs.declared.verdict.Verdict.TheVariants.{Won, Changed as ChangedSo, Locked as LockedSo, Blocked, Numbers}
use Rattle.pc_kcas.specs.Clearing.{HoldsListed, IsCleanAt}
use Rattle.pc_kcas.specs.Exchanges.{visit_count, CoversNode, IsPublished, IsHeldAt, own_exchange}
use Rattle.pc_kcas.specs.Obstacles.{GoesOn, IsWordOf, HasFollowed, IsObstacle}
use Rattle.pc_kcas.specs.Stops.{HasMetObstacle, HasMetAt, KnowsStopAt, AreInTheWay}
use Rattle.pc_kcas.specs.Takings.{HoldsBelow}
use Rattle.pc_kcas.specs.Verdicts.{KnowsWon, KnowsLost, KnowsChanged, KnowsRival, HasEnded, KeepsAll, changes, WereBlockedBy, KnewBetween, IsBlocked, IsAtLast, EndedSo, IfWon, IfChanged, IfLocked, IfBlocked, IfNumbers}
use Rattle.pc_kcas.proofs.Blocking.{two_blocked, met_blocked, met_known}
use Rattle.pc_kcas.proofs.Evidence.{keeps_notes, goes_then}
use Rattle.pc_kcas.proofs.Attempts.{knows_place}
use Rattle.pc_kcas.proofs.Cleared.{own_entry}
use Rattle.pc_kcas.proofs.Holding.{own_word}

pub if_some : {A : Type 0} (o : Option A) (X Y : A → Type 0) → ((a : A) → X a → Y a) → IfSome o X → IfSome o Y
if_some (Some a) X Y more h = more a h
if_some None X Y more h = tt

pub if_none : {A : Type 0} (o : Option A) (X Y : Type 0) → (X → Y) → IfNone o X → IfNone o Y
if_none (Some a) X Y more h = tt
if_none None X Y more h = more h

-- of a pass whose exchange has ended no install stands where none stood
pub ended_free : (x y : Whole) → HasEnded x y → IsFree x.view → IsFree y.view
ended_free x y e free = subst IsFree (sym e.view) (⊎_elim
    (λ (fresh : x.view.fresh ≡ true). inl fresh)
    (λ has. inr (keeps_notes x.view y.view e.adds (removed x.view.seat x.view.install.number) has)) free)

pub kept_ended : (x u y : Whole) → GoesOn x u → HasEnded u y → KeepsAll x y
kept_ended x u y goes e = record {
  notes = adds_then x.view u.view y.view goes.adds e.adds;
  noted = λ n h. e.noted n (goes.noted n h);
  told = λ n h. e.told n (goes.told n h);
}

-- how an exchange ended, by each answer
module _ (y : Whole) (a : ℕ) (X : Ref → Ref → Type 0) where
  pub so_won : (r : Verdict) → EndedSo y a r X → IfWon r (KnowsWon y a)
  so_won (Won s) so = so
  so_won (ChangedSo n) so = tt
  so_won (LockedSo n by) so = tt
  so_won (Blocked first second) so = tt
  so_won (Numbers n) so = tt

  pub so_lost : (r : Verdict) → EndedSo y a r X → KnowsLost y a r
  so_lost (Won s) so = tt
  so_lost (ChangedSo n) so = so.0
  so_lost (LockedSo n by) so = so.0
  so_lost (Blocked first second) so = so.0
  so_lost (Numbers n) so = so.0

  pub so_changed : (r : Verdict) → EndedSo y a r X → IfChanged r (KnowsChanged y a)
  so_changed (Won s) so = tt
  so_changed (ChangedSo n) so = so.1
  so_changed (LockedSo n by) so = tt
  so_changed (Blocked first second) so = tt
  so_changed (Numbers n) so = tt

  pub so_locked : (r : Verdict) → EndedSo y a r X → IfLocked r (λ n by. (1 ≤ by) × KnowsRival y a n (by - 1))
  so_locked (Won s) so = tt
  so_locked (ChangedSo n) so = tt
  so_locked (LockedSo n by) so = (so.1, so.2)
  so_locked (Blocked first second) so = tt
  so_locked (Numbers n) so = tt

  pub so_covered : (r : Verdict) → EndedSo y a r X → IfChanged r (CoversNode y.view)
  so_covered (Won s) so = tt
  so_covered (ChangedSo n) so = so.2
  so_covered (LockedSo n by) so = tt
  so_covered (Blocked first second) so = tt
  so_covered (Numbers n) so = tt

  pub so_visits : (r : Verdict) → EndedSo y a r X → IfLocked r (λ n by. 0 < visit_count y.view)
  so_visits (Won s) so = tt
  so_visits (ChangedSo n) so = tt
  so_visits (LockedSo n by) so = so.3
  so_visits (Blocked first second) so = tt
  so_visits (Numbers n) so = tt

  pub so_blocked : (r : Verdict) (Y : Ref → Ref → Type 0) → ((first second : Ref) → X first second → Y first second) → EndedSo y a r X → IfBlocked r Y
  so_blocked (Won s) Y more so = tt
  so_blocked (ChangedSo n) Y more so = tt
  so_blocked (LockedSo n by) Y more so = tt
  so_blocked (Blocked first second) Y more so = more first second so.1
  so_blocked (Numbers n) Y more so = tt

  pub so_numbers : (r : Verdict) → EndedSo y a r X → IfNumbers r (IsAtLast y)
  so_numbers (Won s) so = tt
  so_numbers (ChangedSo n) so = tt
  so_numbers (LockedSo n by) so = tt
  so_numbers (Blocked first second) so = tt
  so_numbers (Numbers n) so = so.1

module _ {H : Type 0} {S : Ghosts H} where
  pub seated_then : (p q r : Pass H S) → IsSeatedAs p q → IsSeatedAs q r → IsSeatedAs p r
  seated_then p q r a b = (b.0 ∙ a.0, b.1 ∙ a.1, b.2 ∙ a.2, b.3 ∙ a.3, b.4 ∙ a.4, b.5, b.6 ∙ a.6, b.7 ∙ a.7)

  -- a word that is listed is one of the own exchange
  pub own_place : (p : Pass H S) (i : ℕ) (op : Ref) (now : List Place) (d : Place) → IsPublished p → (view p).seat < (view p).size.seats → op ≡ own_exchange p → now ≡ listed p
      → i < length (listed p) → KnowsPlace (view p) op (get_or now i d)
  own_place p i op now d has seated is same lt = subst (λ (l : List Place). KnowsPlace (view p) op (get_or l i d)) (sym same)
      (knows_place (view p) (listed p) has.0 p.listing seated op i (get_or (listed p) i d) (ap (λ (r : Ref). r.seat) is) (ap (λ (r : Ref). r.number) is) (element (listed p) i d lt))

  pub own_word_of : (p : Pass H S) (i : ℕ) (op : Ref) (now : List Place) (d : Place) → IsPublished p → op ≡ own_exchange p → now ≡ listed p → i < length (listed p)
      → IsWordOf (whole p) op (get_or now i d).node (get_or now i d).field
  own_word_of p i op now d has is same lt = let x = get_or (listed p) i d in
      subst (λ (l : List Place). IsWordOf (whole p) op (get_or l i d).node (get_or l i d).field) (sym same)
      (subst (λ (r : Ref). IsWordOf (whole p) r x.node x.field) (sym is)
      (inl (i, x.old, x.new, own_entry (whole p) (listed p) has.0 p.one_attempt (view p).attempt.number (sym p.one_attempt.number) i x (element (listed p) i d lt))))

  -- what holds of it holds of the word of the exchange that was taken
  own_at : (p q : Pass H S) (i : ℕ) (op : Ref) (now : List Place) (d : Place) (P : Ref → Place → Type 0) → op ≡ own_exchange p → now ≡ listed p → IsSamePass p q
      → GoesOn (whole p) (whole q) → P op (get_or now i d) → (x : Place) → get_elem? (listed q) i ≡ some x → P (own_exchange q) x
  own_at p q i op now d P is same stays goes h = own_word p q i (view p).seat (view p).attempt.number now d P same refl refl stays goes.attempt
      (subst (λ (r : Ref). P r (get_or now i d)) is h)

  pub own_held : (p q : Pass H S) (i : ℕ) (op : Ref) (now : List Place) (d : Place) → op ≡ own_exchange p → now ≡ listed p → IsSamePass p q → GoesOn (whole p) (whole q)
      → IsNotedSince (view p) (view q) (held op.seat op.number (get_or now i d).node (get_or now i d).field) → IsHeldAt p q i
  unfolding own_at
  own_held p q i op now d is same stays goes h = own_at p q i op now d (λ r x. IsNotedSince (view p) (view q) (held r.seat r.number x.node x.field)) is same stays goes h

  pub own_met : (seats : ℕ) (p q : Pass H S) (i : ℕ) (op : Ref) (now : List Place) (d : Place) (passes left : ℕ) (o : Obstacle) → op ≡ own_exchange p → now ≡ listed p → IsSamePass p q
      → GoesOn (whole p) (whole q) → passes ≡ seats → HasFollowed ((passes + 1) - left) (view p) (whole q)
      → IsObstacle (whole p) (whole q) op (get_or now i d).node (get_or now i d).field (passes + 1) left o → HasMetAt seats p q i o
  unfolding own_at
  own_met seats p q i op now d passes left o is same stays goes count followed obstacle = own_at p q i op now d (λ r x. HasMetObstacle seats (view p) (whole q) r x.node x.field o) is same stays goes
      (subst (λ (n : ℕ). HasMetObstacle n (view p) (whole q) op (get_or now i d).node (get_or now i d).field o) count record {
        start = whole p;
        adds = ([], refl);
        left = left;
        followed = followed;
        obstacle = obstacle;
      })

  -- what was met since a later moment
  pub met_since : (seats : ℕ) (o p q : Pass H S) (i : ℕ) (obstacle : Obstacle) → AddsNotes (view o) (view p) → HasMetAt seats p q i obstacle → HasMetAt seats o q i obstacle
  met_since seats o p q i obstacle adds met x at = let m = met x at in record {
    start = m.start;
    adds = adds_then (view o) (view p) m.start.view adds m.adds;
    left = m.left;
    followed = m.followed;
    obstacle = m.obstacle;
  }

  -- each word that was held since is held
  pub all_held : (o q : Pass H S) → ((i : ℕ) → i < length (listed q) → IsHeldAt o q i) → HoldsListed q
  all_held o q each i x at = is_noted (view o) (view q) _ (each i (below_length (listed q) i x at) x at)

  -- and so are those before some index
  pub held_below : (o q : Pass H S) (m : ℕ) → IsPublished q → m ≤ length (listed q) → ((i : ℕ) → i < m → IsHeldAt o q i) → HoldsBelow (whole q) (own_exchange q) m
  held_below o q m has few each i lt = let at = element_at (listed q) i (omega arith) in let x = at.0 in (
    x.node,
    x.field,
    (own_entry (whole q) (listed q) has.0 q.one_attempt (view q).attempt.number (sym q.one_attempt.number) i x at.1).place,
    is_noted (view o) (view q) _ (each i lt x at.1),
  )

  -- what is known of the word that stopped the others
  pub why_stopped : (seats : ℕ) (o q : Pass H S) (stopped : Option Stop) → IfSome stopped (λ stop. HasMetAt seats o q stop.at stop.obstacle) → IfSome stopped (KnowsStopAt q)
  why_stopped seats o q (Some stop) met = λ x at. met_known seats (view o) (whole q) x.node x.field stop.obstacle (met x at)
  why_stopped seats o q None met = tt

  -- two references stood in the way, where the words were stopped by them
  stopped_blocked : (seats : ℕ) (o q : Pass H S) (stop : Stop) → IsPublished q → stop.at < length (listed q)
      → HasMetAt seats o q stop.at stop.obstacle → HoldsBelow (whole q) (own_exchange q) stop.at
      → (first second : Ref) → AreInTheWay stop.obstacle first second
      → IsBlocked seats (view o) (whole q) (own_exchange q) first second
  stopped_blocked seats o q stop has lt met before first second by = let at = element_at (listed q) stop.at lt in let x = at.0 in
      met_blocked seats (view o) (whole q) (own_exchange q) x.node x.field stop.obstacle first second (met x at.1)
      (changes stop.at x.old x.new (own_entry (whole q) (listed q) has.0 q.one_attempt (view q).attempt.number (sym q.one_attempt.number) stop.at x at.1) before) by

  pub own_same : (p q : Pass H S) → IsSamePass p q → GoesOn (whole p) (whole q) → own_exchange q ≡ own_exchange p
  own_same p q same goes = ap₂ (λ (a b : ℕ). record { kind = Exchange; seat = a; number = b }) same.0.2 (ap (λ (t : OwnAttempt). t.number) goes.attempt.0)

  -- or they stood in the version of a node that the exchange visits
  pub blocked_ended : (seats : ℕ) (o q : Pass H S) (y : Whole) (stopped : Option Stop) → IsSamePass o q → GoesOn (whole o) (whole q) → HasEnded (whole q) y → IsPublished q
      → IfSome stopped (λ stop. stop.at < length (listed q)) → IfSome stopped (λ stop. HasMetAt seats o q stop.at stop.obstacle)
      → IfSome stopped (λ stop. HoldsBelow (whole q) (own_exchange q) stop.at)
      → (first second : Ref) → WereBlockedBy stopped (whole q) y (own_exchange q) first second
      → KnewBetween (whole o) y (λ u. IsBlocked seats (view o) u (own_exchange o) first second)
  unfolding stopped_blocked
  blocked_ended seats o q y (Some stop) same goes ended has lt met before first second by = (
    whole q,
    goes,
    ended,
    subst (λ (r : Ref). IsBlocked seats (view o) (whole q) r first second) (own_same o q same goes) (stopped_blocked seats o q stop has lt met before first second by),
  )
  blocked_ended seats o q y None same goes ended has lt met before first second by = (
    by.0,
    goes_then (whole o) (whole q) by.0 goes by.1,
    by.2,
    subst (λ (r : Ref). IsBlocked seats (view o) by.0 r first second) (own_same o q same goes)
        (two_blocked seats (view o) (whole q) by.0 (own_exchange q) by.3.0 Version first second goes.adds by.3.1 by.3.2),
  )

  -- each word that was listed is clean
  pub clean_listed : (p q r : Pass H S) → IsSamePass p q → GoesOn (whole p) (whole q) → IsSameButSlots q r → HasEnded (whole q) (whole r)
      → ((i : ℕ) → i < length (listed r) → IsCleanAt r i) → (i : ℕ) (x : Place) → get_elem? (listed p) i ≡ some x
      → Has (view r).notes (clean (view p).seat (view p).attempt.number x.node x.field)
  clean_listed p q r one goes two e cleaned i x at =
      let there : get_elem? (listed r) i ≡ some x = subst (λ (l : List Place). get_elem? l i ≡ some x) (sym (ap (λ v. v.items) (two.1 ∙ one.1))) at in
      let number : (view r).attempt.number ≡ (view p).attempt.number = ap (λ (v : View). v.attempt.number) e.view ∙ ap (λ (t : OwnAttempt). t.number) goes.attempt.0 in
      subst (λ (s : ℕ). Has (view r).notes (clean s (view p).attempt.number x.node x.field)) (two.0.2 ∙ one.0.2)
      (subst (λ (a : ℕ). Has (view r).notes (clean (view r).seat a x.node x.field)) number (cleaned i (below_length (listed r) i x there) x there))

-- the descriptor is as it was before
pub covers_before : (v w : View) (y : Whole) (r : Verdict) → w.attempt ≡ v.attempt → w.size ≡ v.size → y.view ≡ record (after_clear w) { notes = y.view.notes }
    → IfChanged r (CoversNode y.view) → IfChanged r (CoversNode v)
covers_before v w y (Won s) attempt size is h = tt
covers_before v w y (ChangedSo n) attempt size is h =
    let words : y.view.attempt.words ≡ v.attempt.words = ap (λ (u : View). u.attempt.words) is ∙ ap (λ (a : OwnAttempt). a.words) attempt in
    let slots : y.view.size.slots ≡ v.size.slots = ap (λ (u : View). u.size.slots) is ∙ ap (λ (z : Size). z.slots) size in
    ⊎_elim (λ change. inl (change.0, subst (λ l. change.0 < word_in l 1) words change.1, ap (λ l. word_in l (3 + 3 * change.0)) (sym words) ∙ change.2))
    (λ visit. inr (visit.0, subst (λ l. visit.0 < word_in l 2) words visit.1, ap₂ (λ l s. word_in l (visits_begin s + 2 * visit.0)) (sym words) (sym slots) ∙ visit.2)) h
covers_before v w y (LockedSo n by) attempt size is h = tt
covers_before v w y (Blocked first second) attempt size is h = tt
covers_before v w y (Numbers n) attempt size is h = tt
