-- What one install after another tells of a word.
use Rattle.std.proofs.Common.{◌≡◌, ℕ, Option, Some, None, IfNone, true, [], ◌∷◌, inl, inr, ⊎_elim, refl, sym, ap, ◌∙◌, subst}
use Rattle.pc_model.specs.declared.numbers.Numbers.{Numbers}
use Rattle.pc_words.specs.declared.word.WordKind.TheVariants.{Plain}
use Rattle.pc_rule_law.specs.Past.{Has}
use Rattle.pc_rule_law.specs.Conditions.{IsFree}
use Rattle.pc_rule_law.specs.Plays.{AddsNotes, IsLater, found}
use Rattle.pc_rule_law.specs.Views.{View, removed}
use Rattle.pc_rule.specs.declared.opening.Place.{Place}
use Rattle.pc_rule.specs.declared.refs.Ref.{Ref}
use Rattle.pc_rule.specs.declared.refs.RefKind.{RefKind}
use Rattle.pc_rule.specs.declared.refs.RefKind.TheVariants.{Install as AnInstall}
use Rattle.pc_dcss.specs.declared.installed.Installed.{Installed}
use Rattle.pc_dcss.specs.declared.installed.Installed.TheVariants.{Held, Decided, Differs, Met, Numbers as OutOfNumbers}
use Rattle.pc_exchange_law.specs.Wholes.{Whole}
use Rattle.pc_dcss.specs.Installs.{KnowsPlace, KeepsAttempt, IsMet, IsOther, IsGone, IsNews, IsDifferent, HasNoNumber, IfDiffers, IfMet, IfNumbers, met_note}
use Rattle.pc_dcss.proofs.Puts.{place_still}
use Rattle.pc_dcss.proofs.Staying.{noted_before, noted_after}
use Rattle.pc_kcas.specs.Takings.{IsMetSince, IsDifferentSince, IsAtLastInstall, IsCompletedSince, AreMetInTurn, IsAnother}

-- what holds where this is the answer, by what held before
pub if_met : (X Y : Ref → Type 0) (i : Installed) → ((r : Ref) → X r → Y r) → IfMet i X → IfMet i Y
if_met X Y Held f x = tt
if_met X Y Decided f x = tt
if_met X Y (Differs y) f x = tt
if_met X Y (Met r) f x = f r x
if_met X Y (OutOfNumbers n) f x = tt

pub if_differs : (X Y : ℕ → Type 0) (i : Installed) → ((v : ℕ) → X v → Y v) → IfDiffers i X → IfDiffers i Y
if_differs X Y Held f x = tt
if_differs X Y Decided f x = tt
if_differs X Y (Differs y) f x = f y x
if_differs X Y (Met r) f x = tt
if_differs X Y (OutOfNumbers n) f x = tt

pub if_numbers : (X Y : Numbers → Type 0) (i : Installed) → ((n : Numbers) → X n → Y n) → IfNumbers i X → IfNumbers i Y
if_numbers X Y Held f x = tt
if_numbers X Y Decided f x = tt
if_numbers X Y (Differs y) f x = tt
if_numbers X Y (Met r) f x = tt
if_numbers X Y (OutOfNumbers n) f x = f n x

pub if_none : (X : Type 0) (o : Option Ref) → X → IfNone o X
if_none X None x = x
if_none X (Some r) x = tt

-- ---- by an install, after other notes
module _ (o u w : View) (op : Ref) (place : Place) (adds : AddsNotes o u) where
  pub met_since : (i : Installed) → IfMet i (IsMet u w op place) → IfMet i (IsMetSince o w op place)
  met_since i told = if_met (IsMet u w op place) (IsMetSince o w op place) i (λ r m. (
    noted_after o u w (met_note r.kind r.seat r.number place.node place.field) adds (met_note r.kind r.seat r.number place.node place.field ∷ [], m.0, (0, refl)),
    m.1,
  )) told

  pub different_since : (i : Installed) → IfDiffers i (IsDifferent u w place) → IfDiffers i (IsDifferentSince o w place)
  different_since i told = if_differs (IsDifferent u w place) (IsDifferentSince o w place) i
      (λ x d. (d.0, λ m has. noted_after o u w m adds (found place.node place.field (Plain x), d.1, has))) told

  pub last_since : (i : Installed) → IfNumbers i (HasNoNumber u w) → IfNumbers i (IsAtLastInstall w)
  last_since i told = if_numbers (HasNoNumber u w) (IsAtLastInstall w) i
      (λ n h. (h.0, h.1 ∙ sym (ap (λ (v : View). v.install.number) h.3), h.2)) told

  -- what was said since a later moment is so since an earlier one
  pub met_longer : (i : Installed) → IfMet i (IsMetSince u w op place) → IfMet i (IsMetSince o w op place)
  met_longer i told = if_met (IsMetSince u w op place) (IsMetSince o w op place) i
      (λ r m. (noted_after o u w (met_note r.kind r.seat r.number place.node place.field) adds m.0, m.1)) told

  pub different_longer : (i : Installed) → IfDiffers i (IsDifferentSince u w place) → IfDiffers i (IsDifferentSince o w place)
  different_longer i told = if_differs (IsDifferentSince u w place) (IsDifferentSince o w place) i
      (λ x d. (d.0, λ m has. noted_after o u w m adds (d.1 m has))) told

-- ---- after a completion
pub free_later : (v w : View) → IsLater v w → IsFree v → IsFree w
free_later v w later free = subst IsFree (sym later.same)
    (⊎_elim (λ (fresh : v.fresh ≡ true). inl fresh) (λ has. inr (later.more (removed v.seat v.install.number) has)) free)

pub place_later : (v w : View) → IsLater v w → (op : Ref) (place : Place) → KnowsPlace v op place → KnowsPlace w op place
place_later v w later op place known = place_still v w record {
  notes = later.more;
  seat = ap (λ (u : View). u.seat) later.same;
  size = ap (λ (u : View). u.size) later.same;
  attempt = ap (λ (u : View). u.attempt) later.same;
  posted = ap (λ (u : View). u.posted) later.same;
} op place known

pub attempt_later : (v u w : View) → IsLater v u → KeepsAttempt u w → KeepsAttempt v w
attempt_later v u w later keeps = (keeps.0 ∙ ap (λ (x : View). x.attempt) later.same, keeps.1 ∙ ap (λ (x : View). x.posted) later.same)

-- an install that is met isn't one that is gone
pub another_met : (x : Whole) (place : Place) (first : Ref) (i : Installed) → Has x.view.notes (removed first.seat first.number)
    → IfMet i (IsNews x place) → IfMet i (IsAnother first)
another_met x place first i gone told = if_met (IsNews x place) (IsAnother first) i
    (λ r news is seat number. news (subst (λ (k : RefKind). IsGone k x r.seat r.number place.node place.field) (sym is)
    (subst (λ s. Has x.view.notes (removed s r.number)) (sym seat) (subst (λ m. Has x.view.notes (removed first.seat m)) (sym number) gone)))) told

-- it was met before the reference that was met when the word was taken again
pub met_in_turn : (o u w : View) (op : Ref) (place : Place) (answer again : Installed) (first : Ref) → answer ≡ Met first → IfMet answer (IsMet o u op place)
    → IfMet again (IsMetSince u w op place) → IfMet again (AreMetInTurn o w place first)
met_in_turn o u w op place answer again first is told more =
    let m : IsMet o u op place first = subst (λ a. IfMet a (IsMet o u op place)) is told in
    if_met (IsMetSince u w op place) (AreMetInTurn o w place first) again
    (λ r later. (u, (met_note first.kind first.seat first.number place.node place.field ∷ [], m.0, (0, refl)), later.0)) more

-- the install that was met first, and completed
pub completed_since : (o u w : View) (op : Ref) (place : Place) (answer : Installed) (first : Ref) → answer ≡ Met first → first.kind ≡ AnInstall
    → IfMet answer (IsMet o u op place) → AddsNotes u w → w.seat ≡ u.seat → Has w.notes (removed first.seat first.number) → IsCompletedSince o w op place first
completed_since o u w op place answer first is install told adds seat gone =
    let m : IsMet o u op place first = subst (λ a. IfMet a (IsMet o u op place)) is told in (
      install,
      (
        noted_before o u w (met_note first.kind first.seat first.number place.node place.field)
            (met_note first.kind first.seat first.number place.node place.field ∷ [], m.0, (0, refl)) adds,
        subst (λ s. IsOther first.kind first.seat first.number s op) (sym seat) m.1,
      ),
      gone,
    )
