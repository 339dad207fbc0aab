-- What holds of a published exchange, and of its words that held, after more installs.
use Rattle.std.proofs.Common.{◌≡◌, ◌⊎◌, ℕ, ◌+◌, ◌<◌, ◌≤◌, ◌^◌, List, [], length, map, get_or, refl, sym, ap, ap₂, ◌∙◌, subst, inl, inr, ⊎_elim, arith}
use Rattle.std.proofs.lemmas.Bool.{cases_order}
use mathlib.Core.Option.{some}
use lib.ListN.{get_elem?}
use Rattle.pc_model.specs.declared.shape.Shape.{Ghosts}
use Rattle.pc_rule_law.specs.Board.{Size}
use Rattle.pc_rule_law.specs.Past.{Describes}
use Rattle.pc_rule_law.specs.Plays.{AddsNotes, IsNotedSince}
use Rattle.pc_rule_law.specs.Views.{View, OwnAttempt, held, word_in}
use Rattle.pc_rule.specs.declared.board.Pass.{Pass}
use Rattle.pc_rule.specs.declared.opening.Place.{Place}
use Rattle.pc_rule.specs.declared.refs.Ref.{Ref}
use Rattle.pc_rule.specs.declared.refs.RefKind.TheVariants.{Exchange}
use Rattle.pc_rule.specs.Passes.{view, listed, IsSamePass}
use Rattle.pc_rule.proofs.Calls.{read_at}
use Rattle.pc_rule.specs.Starting.{change_of}
use Rattle.pc_dcss.specs.declared.installed.Installed.{Installed}
use Rattle.pc_dcss.specs.declared.installed.Installed.TheVariants.{Held, Decided, Differs, Met, Numbers as OutOfNumbers}
use Rattle.pc_dcss.specs.Installs.{KnowsPlace, KeepsNotes, KeepsAttempt, HasNoNumber, IsOutOfNumbers, last_install, OnHeld, IfNumbers}
use Rattle.pc_dcss.proofs.Puts.{place_still}
use Rattle.pc_dcss.proofs.Staying.{adds_then, noted_before, noted_after}
use Rattle.pc_kcas.specs.Exchanges.{HasPublished, attempt_with, IsUncleared, IsHeldAt, IsStopped, IsStoppedAt, own_exchange}

pub published_still : (v w : View) (old new : List Place) → KeepsAttempt v w → w.size ≡ v.size → new ≡ old → HasPublished v old → HasPublished w new
published_still v w old new keeps sized same has = record {
  some_listed = subst (λ (l : List Place). 0 < length l) (sym same) has.some_listed;
  published = ap (λ (a : OwnAttempt). a.published) keeps.0 ∙ has.published;
  none_posted = keeps.1 ∙ has.none_posted;
  number = subst (λ (a : OwnAttempt). a.number < 2 ^ 28) (sym keeps.0) has.number;
  mode = has.mode;
  visits = has.visits;
  reads = has.reads;
  describes = let e = λ (l : List Place). attempt_with has.mode has.visits has.reads (map change_of l) in
      subst (λ (l : List Place). Describes w.size.slots (e l) (word_in w.attempt.words)) (sym same)
      (subst (λ (z : Size). Describes z.slots (e old) (word_in w.attempt.words)) (sym sized)
      (subst (λ (a : OwnAttempt). Describes v.size.slots (e old) (word_in a.words)) (sym keeps.0) has.describes));
}

below_or : (m n : ℕ) → (m < n) ⊎ (n ≤ m)
below_or m n = ⊎_elim (λ e. inr (omega arith)) (λ ne. ⊎_elim (λ lt. inl lt) (λ (gt : n < m). inr (omega arith)) ne) (cases_order m n)

-- an install takes one number, or none where there is none
none_taken : (v w : View) (i : Installed) → IsOutOfNumbers i → IfNumbers i (HasNoNumber v w) → w ≡ v
none_taken v w Held out told = absurd out
none_taken v w Decided out told = absurd out
none_taken v w (Differs x) out told = absurd out
none_taken v w (Met r) out told = absurd out
none_taken v w (OutOfNumbers n) out told = told.3

pub at_most_one : (v w : View) (i : Installed) → (v.install.number < last_install → w.install.number ≡ v.install.number + 1)
    → (last_install ≤ v.install.number → IsOutOfNumbers i) → IfNumbers i (HasNoNumber v w) → w.install.number ≤ v.install.number + 1
unfolding none_taken
at_most_one v w i more out told = ⊎_elim
    (λ lt. let e = more lt in omega arith)
    (λ le. let e : w.install.number ≡ v.install.number = ap (λ (x : View). x.install.number) (none_taken v w i (out le) told) in omega arith)
    (below_or v.install.number last_install)

module _ {H : Type 0} {S : Ghosts H} where
  pub pass_published : (p q : Pass H S) → IsSamePass p q → KeepsAttempt (view p) (view q) → IsUncleared p → IsUncleared q
  pass_published p q same keeps has = published_still (view p) (view q) (listed p) (listed q) keeps same.0.1 (ap (λ v. v.items) same.1) has

  -- what holds of the exchange that was named and of the word that was read holds of the pass's own exchange and word
  pub own_word : (p q : Pass H S) (i seat number : ℕ) (now : List Place) (d : Place) (P : Ref → Place → Type 0) → now ≡ listed p → seat ≡ (view p).seat
      → number ≡ (view p).attempt.number → IsSamePass p q → KeepsAttempt (view p) (view q) → P (record { kind = Exchange; seat = seat; number = number }) (get_or now i d)
      → (x : Place) → get_elem? (listed q) i ≡ some x → P (own_exchange q) x
  own_word p q i seat number now d P is s n same keeps holds x at =
      let read : get_or now i d ≡ x = read_at now i x d (subst (λ (l : List Place). get_elem? l i ≡ some x) (ap (λ v. v.items) same.1 ∙ sym is) at) in
      let op : record { kind = Exchange; seat = seat; number = number } ≡ own_exchange q =
      ap₂ (λ (a b : ℕ). record { kind = Exchange; seat = a; number = b }) (s ∙ sym same.0.2) (n ∙ sym (ap (λ (a : OwnAttempt). a.number) keeps.0)) in
      subst (λ (r : Ref). P r x) op (subst (P (record { kind = Exchange; seat = seat; number = number })) read holds)

  pub held_at : (p q : Pass H S) (i seat number : ℕ) (now : List Place) (d : Place) (answer : Installed) → now ≡ listed p → seat ≡ (view p).seat
      → number ≡ (view p).attempt.number → IsSamePass p q → KeepsAttempt (view p) (view q) → answer ≡ Held
      → OnHeld answer (IsNotedSince (view p) (view q) (held seat number (get_or now i d).node (get_or now i d).field)) → IsHeldAt p q i
  unfolding own_word
  held_at p q i seat number now d answer is s n same keeps at_held told = own_word p q i seat number now d
      (λ r x. IsNotedSince (view p) (view q) (held r.seat r.number x.node x.field)) is s n same keeps
      (subst (λ a. OnHeld a (IsNotedSince (view p) (view q) (held seat number (get_or now i d).node (get_or now i d).field))) at_held told)

  pub stopped_at : (p q : Pass H S) (i seat number : ℕ) (now : List Place) (d : Place) → now ≡ listed p → seat ≡ (view p).seat
      → number ≡ (view p).attempt.number → IsSamePass p q → KeepsAttempt (view p) (view q)
      → IsStopped (view p) (view q) (record { kind = Exchange; seat = seat; number = number }) (get_or now i d) → IsStoppedAt p q i
  unfolding own_word
  stopped_at p q i seat number now d is s n same keeps stopped = own_word p q i seat number now d
      (λ r x. (v : View) × AddsNotes (view p) v × IsStopped v (view q) r x) is s n same keeps (view p, ([], refl), stopped)

  -- what held before more installs, and in them
  pub held_still : (o p q : Pass H S) (i : ℕ) → IsSamePass p q → KeepsAttempt (view p) (view q) → AddsNotes (view p) (view q) → IsHeldAt o p i → IsHeldAt o q i
  held_still o p q i same keeps adds is x at =
      let there : get_elem? (listed p) i ≡ some x = subst (λ (l : List Place). get_elem? l i ≡ some x) (ap (λ v. v.items) same.1) at in
      subst (λ s. IsNotedSince (view o) (view q) (held s (view q).attempt.number x.node x.field)) (sym same.0.2)
      (subst (λ (a : OwnAttempt). IsNotedSince (view o) (view q) (held (view p).seat a.number x.node x.field)) (sym keeps.0)
      (noted_before (view o) (view p) (view q) (held (view p).seat (view p).attempt.number x.node x.field) (is x there) adds))

  pub held_since : (o p q : Pass H S) (i : ℕ) → AddsNotes (view o) (view p) → IsHeldAt p q i → IsHeldAt o q i
  held_since o p q i adds is x at = noted_after (view o) (view p) (view q) (held (view q).seat (view q).attempt.number x.node x.field) adds (is x at)

  pub stopped_since : (o p q : Pass H S) (i : ℕ) → AddsNotes (view o) (view p) → IsStoppedAt p q i → IsStoppedAt o q i
  stopped_since o p q i adds is x at = let s = is x at in (s.0, adds_then (view o) (view p) s.0 adds s.1, s.2)

  pub adds_more : (o p q : Pass H S) → AddsNotes (view o) (view p) → AddsNotes (view p) (view q) → AddsNotes (view o) (view q)
  adds_more o p q a b = adds_then (view o) (view p) (view q) a b

  -- a word that was known to be one of the own exchange is known still
  pub knows_still : (p q : Pass H S) → IsSamePass p q → KeepsAttempt (view p) (view q) → KeepsNotes (view p) (view q) → (place : Place)
      → KnowsPlace (view p) (own_exchange p) place → KnowsPlace (view q) (own_exchange q) place
  knows_still p q same keeps notes place known =
      let op : own_exchange p ≡ own_exchange q =
      ap₂ (λ (a b : ℕ). record { kind = Exchange; seat = a; number = b }) (sym same.0.2) (sym (ap (λ (a : OwnAttempt). a.number) keeps.0)) in
      subst (λ (r : Ref). KnowsPlace (view q) r place) op
      (place_still (view p) (view q) record { notes = notes; seat = same.0.2; size = same.0.1; attempt = keeps.0; posted = keeps.1 } (own_exchange p) place known)
