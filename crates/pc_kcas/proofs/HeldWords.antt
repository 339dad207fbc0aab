-- What came of one word of an exchange, as evidence of an obstacle.
use Rattle.std.proofs.Common.{◌≡◌, ◌≢◌, ℕ, Option, Some, None, IfSome, IfNone, refl, sym, ap, ◌∙◌, subst, inl, inr, ⊎_elim}
use Rattle.pc_model.specs.declared.cell.Field.{Field}
use Rattle.pc_rule_law.specs.Past.{Has}
use Rattle.pc_rule_law.specs.Plays.{AddsNotes, IsNotedSince}
use Rattle.pc_rule_law.specs.Views.{View, Note, held, removed, decided_below}
use Rattle.pc_protocol.specs.Notes.{outdated}
use Rattle.pc_exchange_law.specs.ExchangeConditions.{KnowsCleared}
use Rattle.pc_exchange_law.specs.Ties.{code}
use Rattle.pc_exchange_law.specs.Wholes.{Whole}
use Rattle.pc_rule.specs.declared.opening.Place.{Place}
use Rattle.pc_rule.specs.declared.refs.Ref.{Ref}
use Rattle.pc_rule.specs.declared.refs.RefKind.{RefKind}
use Rattle.pc_rule.specs.declared.refs.RefKind.TheVariants.{Install as AnInstall, Exchange as AnExchange}
use Rattle.pc_dcss.specs.declared.installed.Installed.{Installed}
use Rattle.pc_dcss.specs.declared.installed.Installed.TheVariants.{Held, Decided as IsOver, Differs, Met, Numbers as NoNumbers}
use Rattle.pc_dcss.specs.Installs.{met_note, IsDecided, IsDecidedSince, KnowsPlace, IsOther, IsGone, IsNews, KnowsOutdated, HasCome as KnowsCome, OnHeld, OnDecided, IfDiffers, IfMet, IfNumbers}
use Rattle.pc_dcss.proofs.Staying.{adds_then, noted_before, noted_after, is_noted, on_held, on_decided}
use Rattle.pc_dcss.proofs.Puts.{place_still}
use Rattle.pc_kcas.specs.declared.helped.Progress.{Progress}
use Rattle.pc_kcas.specs.declared.helped.Progress.TheVariants.{Decided as IsDone, Gone as IsPast, Stuck as IsStuckSo, Numbers as HasNoNumbers}
use Rattle.pc_kcas.specs.Helping.{HasCome, IsCleanOf}
use Rattle.pc_kcas.specs.Holds.{obstacle_by, hindrance_of}
use Rattle.pc_kcas.specs.Obstacles.{GoesOn, IsNotOwn, IsWordOf, IsLink, IsStuckAt, IsObstacle}
use Rattle.pc_kcas.specs.Readings.{HasComeTo}
use Rattle.pc_kcas.specs.declared.obstacle.Obstacle.{Obstacle}
use Rattle.pc_kcas.specs.Takings.{IsMetSince, IsAtLastInstall, IsGoneInstall, IsCompletedSince, AreMetInTurn, IsAnother}
use Rattle.pc_kcas.proofs.Evidence.{keeps_notes, stuck_since, stuck_at_since}

-- ---- the answer of the last install

pub held_by : (X : Type 0) (i : Installed) (first : Ref) → OnHeld i X → IfNone (obstacle_by i first) X
held_by X Held first x = x
held_by X IsOver first x = tt
held_by X (Differs v) first x = tt
held_by X (Met r) first x = tt
held_by X (NoNumbers n) first x = tt

pub obstacle_is : (x y : Whole) (op : Ref) (n : ℕ) (f : Field) (links left : ℕ) (i : Installed) (first : Ref) → OnDecided i (IsDecided y.view op.seat op.number)
    → IfDiffers i (λ v. Has y.knows.told (outdated (code op.seat op.number) n)) → IfMet i (IsStuckAt x y op n f first) → IfNumbers i (IsAtLastInstall y.view)
    → IfSome (obstacle_by i first) (IsObstacle x y op n f links left)
obstacle_is x y op n f links left Held first decided differs met numbers = tt
obstacle_is x y op n f links left IsOver first decided differs met numbers = decided
obstacle_is x y op n f links left (Differs v) first decided differs met numbers = differs
obstacle_is x y op n f links left (Met r) first decided differs met numbers = met
obstacle_is x y op n f links left (NoNumbers k) first decided differs met numbers = numbers

-- ---- a reference that was met is another's

other_install : (kind : RefKind) (seat number own : ℕ) (op : Ref) → IsOther kind seat number own op → kind ≡ AnInstall → seat ≢ own
other_install AnInstall seat number own op other is = other
other_install AnExchange seat number own op other is = cc

other_exchange : (kind : RefKind) (seat number own : ℕ) (op : Ref) → op.kind ≡ AnExchange → IsOther kind seat number own op
    → kind ≡ op.kind → seat ≡ op.seat → number ≢ op.number
other_exchange AnInstall seat number own op exchange other is at = cc
other_exchange AnExchange seat number own op exchange other is at = other at

pub not_own : (v : View) (op r : Ref) → IsOther r.kind r.seat r.number v.seat op → IsNotOwn v r
not_own v op r other kind = other_install r.kind r.seat r.number v.seat op other kind

pub not_its_own : (own : ℕ) (op r : Ref) → op.kind ≡ AnExchange → IsOther r.kind r.seat r.number own op → r ≢ op
not_its_own own op r exchange other is = other_exchange r.kind r.seat r.number own op exchange other
    (ap (λ (x : Ref). x.kind) is) (ap (λ (x : Ref). x.seat) is) (ap (λ (x : Ref). x.number) is)

-- ---- two references, one after the other

pub two_at : (x : Whole) (w : View) (y : Whole) (op : Ref) (place : Place) (first second : Ref) → op.kind ≡ AnExchange
    → IsWordOf y op place.node place.field → IsNotedSince x.view w (met_note first.kind first.seat first.number place.node place.field)
    → IsNotedSince w y.view (met_note second.kind second.seat second.number place.node place.field) → IsOther first.kind first.seat first.number y.view.seat op
    → IsOther second.kind second.seat second.number y.view.seat op → second.kind ≡ first.kind → second ≢ first → IsStuckAt x y op place.node place.field first second
two_at x w y op place first second exchange word before now others other kind different = (
  record {
    exchange = op;
    node = place.node;
    field = place.field;
    word = word;
    between = w;
    first_met = before;
    second_met = now;
    same_kind = kind;
    different = different;
    not_its_own = (not_its_own y.view.seat op first exchange others, not_its_own y.view.seat op second exchange other);
    not_own = (not_own y.view op first others, not_own y.view op second other);
  },
  refl,
  refl,
  refl,
)

another_is : (first r : Ref) → r.kind ≡ AnInstall → IsAnother first r → r ≢ first
another_is first r kind another is = another kind (ap (λ (x : Ref). x.seat) is) (ap (λ (x : Ref). x.number) is)

-- two installs, the first of which was completed when the word was taken
pub installs_in_turn : (x y : Whole) (op : Ref) (place : Place) (completed : Option Ref) (r : Ref) → op.kind ≡ AnExchange → IsWordOf y op place.node place.field
    → r.kind ≡ AnInstall → IsMetSince x.view y.view op place r → IfSome completed (IsCompletedSince x.view y.view op place)
    → IfSome completed (λ k. AreMetInTurn x.view y.view place k r) → IfSome completed (λ k. IsAnother k r) → IfNone completed (r.kind ≡ AnExchange)
    → (k : Ref) × (completed ≡ Some k) × IsStuckAt x y op place.node place.field k r
installs_in_turn x y op place None r exchange word kind met done turn another none = absurd (let e : AnInstall ≡ AnExchange = sym kind ∙ none in cc)
installs_in_turn x y op place (Some k) r exchange word kind met done turn another none = (
  k,
  refl,
  two_at x turn.0 y op place k r exchange word turn.1 turn.2 done.1.1 met.1 (kind ∙ sym done.0) (another_is k r kind another),
)

-- or before
pub installs_at : (x u w y : Whole) (op : Ref) (place : Place) (before completed : Option Ref) (r : Ref) → AddsNotes x.view w.view → AddsNotes u.view w.view
    → y.view.seat ≡ u.view.seat → op.kind ≡ AnExchange → IsWordOf y op place.node place.field → r.kind ≡ AnInstall → IsMetSince w.view y.view op place r
    → IfSome before (IsCompletedSince x.view u.view op place) → IfSome before (λ k. completed ≡ Some k)
    → IfNone before (IfSome completed (IsCompletedSince w.view y.view op place)) → IfNone before (IfSome completed (λ k. AreMetInTurn w.view y.view place k r))
    → IfSome completed (λ k. IsAnother k r) → IfNone completed (r.kind ≡ AnExchange)
    → (k : Ref) × (completed ≡ Some k) × IsStuckAt x y op place.node place.field k r
installs_at x u w y op place None completed r since adds seat exchange word kind met first kept done turn another none =
    let s = installs_in_turn w y op place completed r exchange word kind met done turn another none in
    (s.0, s.1, stuck_at_since x w since y op place.node place.field s.0 r s.2)
installs_at x u w y op place (Some k) completed r since adds seat exchange word kind met first kept done turn another none =
    let other : IsAnother k r = subst (λ (o : Option Ref). IfSome o (λ (j : Ref). IsAnother j r)) kept another in (
      k,
      kept,
      two_at x w.view y op place k r exchange word
          (noted_before x.view u.view w.view (met_note k.kind k.seat k.number place.node place.field) first.1.0 adds) met.0
          (subst (λ s. IsOther k.kind k.seat k.number s op) (sym seat) first.1.1) met.1 (kind ∙ sym first.0) (another_is k r kind other),
    )

-- ---- the first of two is the one that was met before

earlier_install : (x y : Whole) (op : Ref) (n : ℕ) (f : Field) (completed : Option Ref) (first r : Ref) → IfSome completed (λ k. first ≡ k)
    → (k : Ref) × (completed ≡ Some k) × IsStuckAt x y op n f k r → IsStuckAt x y op n f first r
earlier_install x y op n f completed first r is s =
    let e : first ≡ s.0 = subst (λ (o : Option Ref). IfSome o (λ (k : Ref). first ≡ k)) s.1 is in subst (λ k. IsStuckAt x y op n f k r) (sym e) s.2

by_kind : (X : Type 0) (kind : RefKind) → (kind ≡ AnInstall → X) → (kind ≡ AnExchange → X) → X
by_kind X AnInstall install exchange = install refl
by_kind X AnExchange install exchange = exchange refl

pub stuck_of : (x y : Whole) (op : Ref) (n : ℕ) (f : Field) (answer : Installed) (completed : Option Ref) (first : Ref)
    → IfMet answer (λ r. r.kind ≡ AnInstall → IfSome completed (λ k. first ≡ k))
    → ((r : Ref) → answer ≡ Met r → r.kind ≡ AnInstall → (k : Ref) × (completed ≡ Some k) × IsStuckAt x y op n f k r)
    → ((r : Ref) → answer ≡ Met r → r.kind ≡ AnExchange → IsStuckAt x y op n f first r) → IfMet answer (IsStuckAt x y op n f first)
stuck_of x y op n f Held completed first is install exchange = tt
stuck_of x y op n f IsOver completed first is install exchange = tt
stuck_of x y op n f (Differs v) completed first is install exchange = tt
stuck_of x y op n f (Met r) completed first is install exchange = by_kind (IsStuckAt x y op n f first r) r.kind
    (λ kind. earlier_install x y op n f completed first r (is kind) (install r refl kind)) (exchange r refl)
stuck_of x y op n f (NoNumbers k) completed first is install exchange = tt

-- an exchange that is gone from the word isn't met there again
pub other_than : (u z : Whole) (place : Place) (met r : Ref) → met.kind ≡ AnExchange → Has u.view.notes (held met.seat met.number place.node place.field)
    → IsCleanOf u z met → IsNews z place r → r ≢ met
other_than u z place met r kind has cleaned news is =
    let gone : IsGone AnExchange z met.seat met.number place.node place.field = ⊎_elim (λ (all : KnowsCleared z met.seat met.number). inr all)
    (λ each. inl (each place.node place.field has)) cleaned in
    let gone_of : IsGone met.kind z met.seat met.number place.node place.field = subst (λ (k : RefKind). IsGone k z met.seat met.number place.node place.field) (sym kind) gone in
    news (subst (λ (s : Ref). IsGone s.kind z s.seat s.number place.node place.field) (sym is) gone_of)

-- ---- the help of the exchange that was met

-- it can't be tried again
pub hindered : (x u z : Whole) (op : Ref) (n : ℕ) (f : Field) (links left : ℕ) (met : Ref) (progress : Progress) → met.kind ≡ AnExchange → met ≢ op
    → IsNotedSince x.view u.view (held met.seat met.number n f) → AddsNotes u.view z.view → HasCome u z met left progress
    → IfSome (hindrance_of met progress) (IsObstacle x z op n f links left)
hindered x u z op n f links left met IsDone kind other found adds come = tt
hindered x u z op n f links left met IsPast kind other found adds come = tt
hindered x u z op n f links left met (IsStuckSo how) kind other found adds come = record {
  kind = kind;
  found = noted_before x.view u.view z.view (held met.seat met.number n f) found adds;
  other = other;
  stuck = stuck_since x.view u.view (found.0, found.1) z left how come.0;
  apart = come.1;
}
hindered x u z op n f links left met (HasNoNumbers k) kind other found adds come = come

-- it can
pub unhindered : (u z : Whole) (left : ℕ) (met : Ref) (progress : Progress) → hindrance_of met progress ≡ None → HasCome u z met left progress → IsCleanOf u z met
unhindered u z left met IsDone is come = come.1
unhindered u z left met IsPast is come = come.2
unhindered u z left met (IsStuckSo how) is come = cc
unhindered u z left met (HasNoNumbers k) is come = cc

-- ---- one call that takes the word

-- what it tells: before is the install that was completed already, and completed the one that is then
pub record IsTold (x y : Whole) (op : Ref) (place : Place) (before completed : Option Ref) (answer : Installed) : Type 0 where
  pub decided : OnDecided answer (IsDecidedSince x.view y.view op.seat op.number)
  pub outdated : IfDiffers answer (λ v. KnowsOutdated y.knows op place)
  pub met : IfMet answer (IsMetSince x.view y.view op place)
  pub fresh : IfMet answer (IsNews x place)
  pub numbers : IfNumbers answer (IsAtLastInstall y.view)
  pub kept : IfSome before (λ k. completed ≡ Some k)
  pub done : IfNone before (IfSome completed (IsCompletedSince x.view y.view op place))
  pub in_turn : IfNone before (IfSome completed (λ first. IfMet answer (AreMetInTurn x.view y.view place first)))
  pub another : IfSome completed (λ first. IfMet answer (IsAnother first))
  pub exchange : IfNone completed (IfMet answer (λ r. r.kind ≡ AnExchange))

pub told_of : (x y : Whole) (op : Ref) (place : Place) (before completed : Option Ref) (answer : Installed) → OnDecided answer (IsDecidedSince x.view y.view op.seat op.number)
    → IfDiffers answer (λ v. KnowsOutdated y.knows op place) → IfMet answer (IsMetSince x.view y.view op place) → IfMet answer (IsNews x place)
    → IfNumbers answer (IsAtLastInstall y.view) → IfSome before (λ k. completed ≡ Some k) → IfNone before (IfSome completed (IsCompletedSince x.view y.view op place))
    → IfNone before (IfSome completed (λ first. IfMet answer (AreMetInTurn x.view y.view place first))) → IfSome completed (λ first. IfMet answer (IsAnother first))
    → IfNone completed (IfMet answer (λ r. r.kind ≡ AnExchange)) → IsTold x y op place before completed answer
told_of x y op place before completed answer decided past met fresh numbers kept done in_turn another exchange = record {
  decided = decided;
  outdated = past;
  met = met;
  fresh = fresh;
  numbers = numbers;
  kept = kept;
  done = done;
  in_turn = in_turn;
  another = another;
  exchange = exchange;
}

-- the install that was completed is gone still
pub completed_gone : (o v w : View) (op : Ref) (place : Place) (completed : Option Ref) → AddsNotes v w → IfSome completed (IsCompletedSince o v op place)
    → IfSome completed (IsGoneInstall w)
completed_gone o v w op place None adds told = tt
completed_gone o v w op place (Some k) adds told = (told.0, keeps_notes v w adds (removed k.seat k.number) told.2)

-- the word held the reference
pub held_since : (x w y : Whole) (note : Note) → AddsNotes x.view w.view → (answer : Installed) (first : Ref) (result : Option Obstacle) → result ≡ obstacle_by answer first
    → OnHeld answer (IsNotedSince w.view y.view note) → IfNone result (IsNotedSince x.view y.view note)
held_since x w y note adds answer first result is told = subst (λ (o : Option Obstacle). IfNone o (IsNotedSince x.view y.view note)) (sym is)
    (held_by (IsNotedSince x.view y.view note) answer first
    (on_held (IsNotedSince w.view y.view note) (IsNotedSince x.view y.view note) answer (noted_after x.view w.view y.view note adds) told))

-- a word that was known to be one of the exchange is known still
pub place_goes : (x y : Whole) → GoesOn x y → y.view.seat ≡ x.view.seat → y.view.size ≡ x.view.size → (op : Ref) (place : Place) → KnowsPlace x.view op place
    → KnowsPlace y.view op place
place_goes x y goes seat size op place known = place_still x.view y.view
    record { notes = keeps_notes x.view y.view goes.adds; seat = seat; size = size; attempt = goes.attempt.0; posted = goes.attempt.1 } op place known

met_at : (P : Ref → Type 0) (i : Installed) (r : Ref) → i ≡ Met r → IfMet i P → P r
met_at P i r is told = subst (λ a. IfMet a P) is told

some_met : (P : Ref → Ref → Type 0) (completed : Option Ref) (i : Installed) (r : Ref) → i ≡ Met r → IfSome completed (λ k. IfMet i (P k)) → IfSome completed (λ k. P k r)
some_met P None i r is told = tt
some_met P (Some k) i r is told = subst (λ a. IfMet a (P k)) is told

none_met : (P : Ref → Type 0) (completed : Option Ref) (i : Installed) (r : Ref) → i ≡ Met r → IfNone completed (IfMet i P) → IfNone completed (P r)
none_met P None i r is told = subst (λ a. IfMet a P) is told
none_met P (Some k) i r is told = tt

turn_met : (P : Ref → Ref → Type 0) (before completed : Option Ref) (i : Installed) (r : Ref) → i ≡ Met r → IfNone before (IfSome completed (λ k. IfMet i (P k)))
    → IfNone before (IfSome completed (λ k. P k r))
turn_met P None completed i r is told = some_met P completed i r is told
turn_met P (Some k) completed i r is told = tt

decided_now : (v w : View) (p a : ℕ) (i : Installed) → OnDecided i (IsDecidedSince v w p a) → OnDecided i (IsDecided w p a)
decided_now v w p a i told = on_decided (IsDecidedSince v w p a) (IsDecided w p a) i (λ d. (d.0, is_noted v w (decided_below p d.0) d.1, d.2)) told

-- why the word doesn't hold the reference after it, where two references stood there as is said of them
obstacle_told : (x w y : Whole) (op : Ref) (place : Place) (links left : ℕ) (before completed : Option Ref) (answer : Installed) (first : Ref) (result : Option Obstacle)
    → result ≡ obstacle_by answer first → IsTold w y op place before completed answer → IfMet answer (IsStuckAt x y op place.node place.field first)
    → IfSome result (IsObstacle x y op place.node place.field links left)
obstacle_told x w y op place links left before completed answer first result is told stuck =
    subst (λ (o : Option Obstacle). IfSome o (IsObstacle x y op place.node place.field links left)) (sym is)
    (obstacle_is x y op place.node place.field links left answer first (decided_now w.view y.view op.seat op.number answer told.decided) told.outdated stuck told.numbers)

-- it is the first in this word, and meets no exchange
pub first_obstacle : (x y : Whole) (op : Ref) (place : Place) (links : ℕ) (completed : Option Ref) (answer : Installed) (first : Ref) (result : Option Obstacle)
    → op.kind ≡ AnExchange → IsWordOf y op place.node place.field → IsTold x y op place None completed answer → IfMet answer (λ r. r.kind ≡ AnInstall)
    → IfMet answer (λ r. r.kind ≡ AnInstall → IfSome completed (λ k. first ≡ k)) → result ≡ obstacle_by answer first
    → IfSome result (IsObstacle x y op place.node place.field links links)
first_obstacle x y op place links completed answer first result exchange word told none earlier is = obstacle_told x x y op place links links None completed answer first result is told
    (stuck_of x y op place.node place.field answer completed first earlier
    (λ r at kind. installs_in_turn x y op place completed r exchange word kind (met_at (IsMetSince x.view y.view op place) answer r at told.met) told.done
    (some_met (AreMetInTurn x.view y.view place) completed answer r at told.in_turn) (some_met IsAnother completed answer r at told.another)
    (none_met (λ s. s.kind ≡ AnExchange) completed answer r at told.exchange))
    (λ r at kind. absurd (let e : AnInstall ≡ AnExchange = sym (met_at (λ s. s.kind ≡ AnInstall) answer r at none) ∙ kind in cc)))

-- ---- the exchange that was met

held_met : (v w : View) (op : Ref) (place : Place) (met : Ref) → met.kind ≡ AnExchange → IsMetSince v w op place met
    → IsNotedSince v w (held met.seat met.number place.node place.field)
held_met v w op place met kind m = subst (λ (k : RefKind). IsNotedSince v w (met_note k met.seat met.number place.node place.field)) kind m.0

module _ (x u : Whole) (op : Ref) (place : Place) (completed : Option Ref) (answer : Installed) (met : Ref) (told : IsTold x u op place None completed answer)
    (is : (answer ≡ Met met) × (met.kind ≡ AnExchange)) (exchange : op.kind ≡ AnExchange) where
  pub met_since : IsMetSince x.view u.view op place met
  met_since = met_at (IsMetSince x.view u.view op place) answer met is.0 told.met

  pub met_held : IsNotedSince x.view u.view (held met.seat met.number place.node place.field)
  met_held = held_met x.view u.view op place met is.1 met_since

  pub met_other : met ≢ op
  met_other = not_its_own u.view.seat op met exchange met_since.1

  pub met_link : IsWordOf u op place.node place.field → IsLink x.view u.view u met
  met_link word = record {
    exchange = op;
    node = place.node;
    field = place.field;
    word = word;
    kind = is.1;
    found = met_held;
    other = met_other;
  }

  pub met_come : IfMet answer (KnowsCome u.knows) → HasComeTo u met
  met_come came = (
    (place.node, place.field, is_noted x.view u.view (held met.seat met.number place.node place.field) met_held),
    met_at (KnowsCome u.knows) answer met is.0 came is.1,
  )

  -- it was helped, and no more can be done for it
  pub beyond : (z : Whole) (links left : ℕ) (progress : Progress) (result : Option Obstacle) (obstacle : Obstacle) → AddsNotes u.view z.view
      → HasCome u z met left progress → result ≡ hindrance_of met progress → result ≡ Some obstacle
      → IsObstacle x z op place.node place.field links left obstacle
  beyond z links left progress result obstacle adds come by at =
      subst (λ (o : Option Obstacle). IfSome o (IsObstacle x z op place.node place.field links left)) (sym by ∙ at)
      (hindered x u z op place.node place.field links left met progress is.1 met_other met_held adds come)

  -- or it is gone from the word, which is taken once more
  module _ (z y : Whole) (left : ℕ) (progress : Progress) (again : Option Ref) (answer' : Installed) (first : Ref) (result : Option Obstacle)
      (on : AddsNotes u.view z.view) (seat_z : z.view.seat ≡ u.view.seat) (seat_y : y.view.seat ≡ z.view.seat) (word : IsWordOf y op place.node place.field)
      (come : HasCome u z met left progress) (free : hindrance_of met progress ≡ None) (told' : IsTold z y op place completed again answer') where
    exchanges_at : (r : Ref) → answer' ≡ Met r → r.kind ≡ AnExchange → IsStuckAt x y op place.node place.field met r
    exchanges_at r at kind = let now : IsMetSince z.view y.view op place r = met_at (IsMetSince z.view y.view op place) answer' r at told'.met in
        two_at x z.view y op place met r exchange word
        (noted_before x.view u.view z.view (met_note met.kind met.seat met.number place.node place.field) met_since.0 on) now.0
        (subst (λ s. IsOther met.kind met.seat met.number s op) (sym (seat_y ∙ seat_z)) met_since.1) now.1 (kind ∙ sym is.1)
        (other_than u z place met r is.1 (is_noted x.view u.view (held met.seat met.number place.node place.field) met_held) (unhindered u z left met progress free come)
        (met_at (IsNews z place) answer' r at told'.fresh))

    pub second_obstacle : (links : ℕ) → IfMet answer' (λ r. r.kind ≡ AnInstall → IfSome again (λ k. first ≡ k))
        → IfMet answer' (λ r. r.kind ≡ AnExchange → first ≡ met) → result ≡ obstacle_by answer' first
        → IfSome result (IsObstacle x y op place.node place.field links left)
    second_obstacle links install other by = obstacle_told x z y op place links left completed again answer' first result by told'
        (stuck_of x y op place.node place.field answer' again first install
        (λ r at kind. installs_at x u z y op place completed again r
        (adds_then x.view u.view z.view (met_since.0.0, met_since.0.1) on) on (seat_y ∙ seat_z) exchange word kind
        (met_at (IsMetSince z.view y.view op place) answer' r at told'.met) told.done told'.kept told'.done
        (turn_met (AreMetInTurn z.view y.view place) completed again answer' r at told'.in_turn) (some_met IsAnother again answer' r at told'.another)
        (none_met (λ s. s.kind ≡ AnExchange) again answer' r at told'.exchange))
        (λ r at kind. subst (λ (s : Ref). IsStuckAt x y op place.node place.field s r) (sym (met_at (λ s. s.kind ≡ AnExchange → first ≡ met) answer' r at other kind))
        (exchanges_at r at kind)))
