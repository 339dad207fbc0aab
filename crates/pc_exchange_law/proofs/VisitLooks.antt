-- What a look at a version tells of each exchange for which a stamp was drawn.
use Rattle.std.proofs.Common.{◌≡◌, ℕ, ◌<◌, ◌⊎◌, inl, inr, ⊎_elim, List, [], ◌∷◌, ◌++◌, Option, Some, None, refl, sym, ap, subst, arith}
use Rattle.std.proofs.lemmas.Bool.{cases_eq, cases_lt}
use Rattle.pc_model.specs.declared.cell.Field.{Field}
use Rattle.pc_model.specs.declared.cell.Field.TheVariants.{Version}
use Rattle.pc_model.specs.Cells.{field_number}
use Rattle.pc_model.specs.Exchanges.{Visited, Changed}
use Rattle.pc_model.proofs.Writes.{same_field}
use Rattle.pc_history.specs.Footprints.{IsAmong, IsOfWord}
use Rattle.pc_rule_law.specs.Past.{Has}
use Rattle.pc_rule_law.proofs.Lists.{has_first, has_later, has_left, has_right, all_more, all_both, all_one, all_none}
use Rattle.pc_protocol.specs.Histories.{changed, History, cells_now, IsPublished, IsSpare}
use Rattle.pc_protocol.specs.Rules.{IsCause, Rule}
use Rattle.pc_protocol.specs.Notes.{Found, Note, looked, drew, rival, outdated, IsTrueNote}
use Rattle.pc_protocol.specs.Telling.{found_in}
use Rattle.pc_protocol.proofs.Loads.{loads_tell}
use Rattle.pc_exchange_law.proofs.NoteLists.{learnt, has_learnt, all_learnt}

-- whether it is so can be told
abbrev Told : Type 0 → Type 0
Told A = A ⊎ (A → ⊥)

both : {A B : Type 0} → Told A → Told B → Told (A × B)
both a b = ⊎_elim (λ is_a. ⊎_elim (λ is_b. inl (is_a, is_b)) (λ no. inr (λ is. no is.1)) b) (λ no. inr (λ is. no is.0)) a

less_or_not : (x y : ℕ) → Told (x < y)
less_or_not x y = ⊎_elim (λ lt. inl lt) (λ le. inr (λ lt. absurd (omega arith))) (cases_lt x y)

version_or_not : (f : Field) → Told (f ≡ Version)
version_or_not f = ⊎_elim (λ e. inl (same_field f Version e)) (λ ne. inr (λ is. ne (ap field_number is)))
    (cases_eq (field_number f) (field_number Version))

-- whether some element of a list is so
some_or_none : {X : Type 0} (P : X → Type 0) → ((x : X) → Told (P x)) → (xs : List X)
    → ((x : X) × IsAmong x xs × P x) ⊎ ((x : X) → IsAmong x xs → P x → ⊥)
some_or_none P tell [] = inr (λ x among _. among)
some_or_none P tell (y ∷ ys) = ⊎_elim
    (λ is. inl (y, inl refl, is))
    (λ no. ⊎_elim (λ later. inl (later.0, inr later.1, later.2))
    (λ none'. inr (λ x among is. ⊎_elim (λ e. no (subst P e is)) (λ l. none' x l is) among))
    (some_or_none P tell ys))
    (tell y)

module _ (h : History) (n : ℕ) where
  -- a visit, or a change of the version, from a version that is past
  abbrev PastVisit : Visited → Type 0
  PastVisit v = (v.node ≡ n) × (v.version < cells_now h n Version)

  abbrev PastChange : Changed → Type 0
  PastChange a = IsOfWord n Version a × (a.old < cells_now h n Version)

  -- whether an exchange is outdated at this node
  outdated_or_not : (x : ℕ) → Told (IsCause h x (changed n))
  outdated_or_not x = let now : ℕ = cells_now h n Version in ⊎_elim
      (λ visit. inl (visit.0.version, inl (record { visit = visit.0; among = visit.1; node = visit.2.0; version = refl }), visit.2.1))
      (λ no_visit. ⊎_elim
      (λ change. inl (change.0.old, inr (record { change = change.0; among = change.1; is_of = change.2.0; old = refl }), change.2.1))
      (λ no_change. inr (λ cause. ⊎_elim
      (λ visits. no_visit visits.visit visits.among (visits.node, subst (λ (u : ℕ). u < now) (sym visits.version) cause.2))
      (λ changes. no_change changes.change changes.among (changes.is_of, subst (λ (u : ℕ). u < now) (sym changes.old) cause.2))
      cause.1))
      (some_or_none PastChange (λ a. both (both (cases_eq a.node n) (version_or_not a.field)) (less_or_not a.old now)) (h.op x).changes))
      (some_or_none PastVisit (λ v. both (cases_eq v.node n) (less_or_not v.version now)) (h.op x).visits)

  -- the note that it is, where it is
  outdated_note : (x : ℕ) → (more : List Note) × (IsPublished (h.stage x) → (m : Note) → Has more m → IsTrueNote h m)
      × (IsCause h x (changed n) → Has more (outdated x n))
  outdated_note x = ⊎_elim
      (λ cause. (
        outdated x n ∷ [],
        λ published. all_one (IsTrueNote h) (outdated x n) (published, cause),
        λ _. has_first (outdated x n) [],
      ))
      (λ no. ([], (λ _. all_none (IsTrueNote h)), λ cause. absurd (no cause)))
      (outdated_or_not x)

module _ (h : History) (rule : Rule h) (n : ℕ) (no_spare : IsSpare (h.slot n) → ⊥) where
  -- what is found in the version's word
  abbrev pub version_found : Found
  version_found = found_in (h.reference n Version) (h.plain n Version)

  -- the pass whose reference stands there is a rival
  abbrev rivals_in : Option ℕ → ℕ → List Note
  rivals_in None s = []
  rivals_in (Some y) s = rival (h.owner y) n s ∷ []

  rivals_true : (o : Option ℕ) (s : ℕ) → h.reference n Version ≡ o → s < h.clock → (m : Note) → Has (rivals_in o s) m → IsTrueNote h m
  rivals_true None s is below = all_none (IsTrueNote h)
  rivals_true (Some y) s is below = all_one (IsTrueNote h) (rival (h.owner y) n s)
      ((loads_tell h rule).rival_reference n y s (omega arith) is)

  -- for each stamp that was drawn for an exchange
  abbrev looked_by : Note → List Note
  looked_by (drew x s) = looked s n version_found ∷ (rivals_in (h.reference n Version) s ++ (outdated_note h n x).0)
  looked_by _ = []

  looked_true : (k : Note) → IsTrueNote h k → (m : Note) → Has (looked_by k) m → IsTrueNote h m
  unfolding outdated_note
  looked_true (drew x s) is = let rivals = rivals_in (h.reference n Version) s in let late = outdated_note h n x in
      all_more (IsTrueNote h) (looked s n version_found) (rivals ++ late.0) ((loads_tell h rule).look s n is.0 no_spare)
      (all_both (IsTrueNote h) rivals late.0 (rivals_true (h.reference n Version) s refl is.0) (late.1 (rule.drawn x s is).0))
  looked_true _ is = all_none (IsTrueNote h)

  -- all that is told, by what the pass was told before
  pub looks_for : List Note → List Note
  looks_for told = learnt looked_by told

  module _ (told : List Note) where
    pub looks_true : ((k : Note) → Has told k → IsTrueNote h k) → (m : Note) → Has (looks_for told) m → IsTrueNote h m
    unfolding looks_for
    looks_true true_ones = all_learnt (IsTrueNote h) looked_by told (λ k has. looked_true k (true_ones k has))

    module _ (x s : ℕ) (has : Has told (drew x s)) where
      by_draw : (m : Note) → Has (looked_by (drew x s)) m → Has (looks_for told) m
      unfolding looks_for
      by_draw m here = has_learnt looked_by told (drew x s) m has here

      pub has_looked : Has (looks_for told) (looked s n version_found)
      has_looked = by_draw (looked s n version_found)
          (has_first (looked s n version_found) (rivals_in (h.reference n Version) s ++ (outdated_note h n x).0))

      pub has_rival : (y : ℕ) → h.reference n Version ≡ Some y → Has (looks_for told) (rival (h.owner y) n s)
      has_rival y is = by_draw (rival (h.owner y) n s) (has_later (looked s n version_found)
          (rivals_in (h.reference n Version) s ++ (outdated_note h n x).0) (rival (h.owner y) n s)
          (has_left (rivals_in (h.reference n Version) s) (outdated_note h n x).0 (rival (h.owner y) n s)
          (subst (λ (o : Option ℕ). Has (rivals_in o s) (rival (h.owner y) n s)) (sym is) (has_first (rival (h.owner y) n s) []))))

      pub has_outdated : IsCause h x (changed n) → Has (looks_for told) (outdated x n)
      has_outdated cause = by_draw (outdated x n) (has_later (looked s n version_found)
          (rivals_in (h.reference n Version) s ++ (outdated_note h n x).0) (outdated x n)
          (has_right (rivals_in (h.reference n Version) s) (outdated_note h n x).0 (outdated x n) ((outdated_note h n x).2 cause)))
