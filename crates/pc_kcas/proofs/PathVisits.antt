-- What an exchange takes of the path of its pass: its visits and reads, by its mode.
use Rattle.std.proofs.Common.{◌≡◌, ◌≢◌, ◌⊎◌, ℕ, ◌+◌, ◌*◌, ◌<◌, ◌≤◌, ◌^◌, List, [], ◌∷◌, length, map, refl, sym, ap, ◌∙◌, subst, inl, inr, arith}
use Rattle.std.proofs.lemmas.List.{length-map}
use Rattle.std.specs.List.{All}
use Rattle.std.specs.List.Sorted.{IsPermutation}
use mathlib.Core.Option.{some, some-ne-none}
use lib.ListN.{get_elem?}
use Rattle.pc_model.specs.declared.cell.Field.TheVariants.{Version}
use Rattle.pc_model.specs.Cells.{IsNode}
use Rattle.pc_history.specs.Footprints.{IsAmong}
use Rattle.pc_model.specs.Exchanges.{Changed, Visited}
use Rattle.pc_rule_law.specs.Past.{Has, Attempt, visits_begin}
use Rattle.pc_rule_law.specs.Plays.{after_publish}
use Rattle.pc_rule_law.specs.Views.{View, word_in}
use Rattle.pc_rule_law.proofs.Lists.{below_length}
use Rattle.pc_protocol.specs.Notes.{saw}
use Rattle.pc_exchange_law.specs.ExchangeConditions.{GoesByPath}
use Rattle.pc_exchange_law.specs.Passes.{PassKnows}
use Rattle.pc_exchange_law.specs.Paths.{Path, read_of}
use Rattle.pc_exchange_law.proofs.ChangeLists.{has_among}
use Rattle.pc_rule.specs.declared.opening.Place.{Place}
use Rattle.pc_rule.specs.declared.visit.Visit.{Visit}
use Rattle.pc_rule.specs.Starting.{change_of}
use Rattle.pc_rule.specs.Walking.{visited_of, path_with, FitsVisit}
use Rattle.pc_rule.proofs.Calls.{read_at}
use Rattle.pc_rule.proofs.Sharing.{from_map}
use Rattle.pc_kcas.specs.declared.mode.Mode.{Mode}
use Rattle.pc_kcas.specs.declared.mode.Mode.TheVariants.{Words, Path as OfPath, LockedPath as OfLockedPath}
use Rattle.pc_kcas.specs.Exchanges.{VisitsTo, VisitsHeld, attempt_with, mode_word, visits_by, reads_by}
use Rattle.pc_kcas.specs.Locks.{with_locks, words_by, WhereLocked, CanLock}
use Rattle.pc_kcas.proofs.Attempts.{listed_as, has_in_order}
use Rattle.pc_kcas.proofs.Locks.{covered_by}

-- the mode word of so many visits
pub mode_none : (mode : Mode) (visits : List Visited) → length visits ≡ 0 → 0 ≡ mode_word mode visits
mode_none mode [] n = refl
mode_none mode (v ∷ visits) n = absurd (omega arith)

pub mode_words : (visits : List Visited) → 0 ≡ mode_word Words visits
mode_words [] = refl
mode_words (v ∷ visits) = refl

pub mode_path : (visits : List Visited) → length visits ≢ 0 → 1 ≡ mode_word OfPath visits
mode_path [] n = absurd (n refl)
mode_path (v ∷ visits) n = refl

pub mode_locked : (visits : List Visited) → length visits ≢ 0 → 2 ≡ mode_word OfLockedPath visits
mode_locked [] n = absurd (n refl)
mode_locked (v ∷ visits) n = refl

-- an exchange with visits, of the path that was seen so
some_visits : (k : PassKnows) (p : Path) (c : ℕ) (v : Visited) (visits : List Visited) (changes : List Changed) → Has k.told (saw c (read_of p)) → p.visits ≡ v ∷ visits
    → GoesByPath k p c (attempt_with (mode_word OfPath p.visits) p.visits p.reads changes)
some_visits k p c v visits changes seen is = inr (
  (λ none. let one : mode_word OfPath p.visits ≡ 1 = ap (mode_word OfPath) is in absurd (omega arith)),
  record {
    seen = seen;
    visits = λ u among. among;
    covered = λ u among. inl record { visit = u; among = among; node = refl; version = refl };
    reads = refl;
  },
)

-- the changes of these words change each visited version
abbrev pub CoversVisits : List Visited → List Changed → Type 0
CoversVisits visits changes = (u : Visited) → IsAmong u visits
    → (a : Changed) × IsAmong a changes × (a.node ≡ u.node) × (a.field ≡ Version) × (a.old ≡ u.version)

-- an exchange that locks the path that was seen so
some_locks : (k : PassKnows) (p : Path) (c : ℕ) (v : Visited) (visits : List Visited) (changes : List Changed) → Has k.told (saw c (read_of p)) → p.visits ≡ v ∷ visits
    → CoversVisits p.visits changes → GoesByPath k p c (attempt_with (mode_word OfLockedPath p.visits) [] p.reads changes)
some_locks k p c v visits changes seen is covers = inr (
  (λ none. let two : mode_word OfLockedPath p.visits ≡ 2 = ap (mode_word OfLockedPath) is in absurd (omega arith)),
  record {
    seen = seen;
    visits = λ u among. absurd among;
    covered = λ u among. let a = covers u among in inr record { change = a.0; among = a.1; is_of = (a.2, a.3); old = a.4 };
    reads = refl;
  },
)

pub covers_by : (mode : Mode) (p : Path) (held : List Visit) (places new : List Place) → p.visits ≡ map visited_of held → IsPermutation (words_by mode p places) new
    → WhereLocked mode (CanLock held places) → WhereLocked mode (CoversVisits p.visits (map change_of new))
covers_by Words p held places new is same can = tt
covers_by OfPath p held places new is same can = tt
covers_by OfLockedPath p held places new is same can = λ u among. let r = covered_by OfLockedPath p held places is can u among in let q : Place = r.0 in
    let there = has_in_order (with_locks places p.visits) new same q r.1 in
    (change_of q, has_among (map change_of new) (change_of q) (there.0, listed_as new there.0 q there.1), r.2, r.3, r.4)

-- by its mode the exchange is one of words alone, or one of the path
pub goes_by : (k : PassKnows) (p : Path) (held : List Visit) (c : ℕ) (mode : Mode) (changes : List Changed)
    → WhereLocked mode (CoversVisits (path_with held p).visits changes) → Has k.told (saw c (read_of p))
    → (path_with held p).visits ≡ map visited_of held
    → GoesByPath k p c (attempt_with (mode_word mode (path_with held p).visits) (visits_by mode (path_with held p)) (reads_by mode (path_with held p)) changes)
unfolding some_visits some_locks
goes_by k p [] c Words changes covers seen is = inl (refl, (refl, refl))
goes_by k p (v ∷ held) c Words changes covers seen is = inl (ap (mode_word Words) is, (refl, refl))
goes_by k p [] c OfPath changes covers seen is = inl (refl, (refl, refl))
goes_by k p (v ∷ held) c OfPath changes covers seen is = some_visits k p c (visited_of v) (map visited_of held) changes seen is
goes_by k p [] c OfLockedPath changes covers seen is = inl (refl, (refl, refl))
goes_by k p (v ∷ held) c OfLockedPath changes covers seen is = some_locks k p c (visited_of v) (map visited_of held) changes seen is covers

-- its reads are none, or those of the path
pub reads_go : (mode : Mode) (p : Path) (held : List Visit) → (path_with held p).visits ≡ map visited_of held
    → ((mode_word mode (path_with held p).visits ≡ 0) × (reads_by mode (path_with held p) ≡ []))
    ⊎ ((mode_word mode (path_with held p).visits ≢ 0) × (reads_by mode (path_with held p) ≡ p.reads))
reads_go Words p [] is = inl (refl, refl)
reads_go Words p (v ∷ held) is = inl (ap (mode_word Words) is, refl)
reads_go OfPath p [] is = inl (refl, refl)
reads_go OfPath p (v ∷ held) is = inr ((λ none. let one : mode_word OfPath p.visits ≡ 1 = ap (mode_word OfPath) is in absurd (omega arith)), refl)
reads_go OfLockedPath p [] is = inl (refl, refl)
reads_go OfLockedPath p (v ∷ held) is = inr ((λ none. let two : mode_word OfLockedPath p.visits ≡ 2 = ap (mode_word OfLockedPath) is in absurd (omega arith)), refl)

module _ (slots : ℕ) (p : Path) (held : List Visit) (is : p.visits ≡ map visited_of held) where
  -- its visits are of nodes, at versions in range
  pub visits_inside : (mode : Mode) → All (FitsVisit slots) held → length held ≤ slots + 1
      → (length (visits_by mode p) ≤ slots + 1) × ((u : Visited) → Has (visits_by mode p) u → IsNode slots u.node × (u.version < 2 ^ 62))
  visits_inside Words fit few = (omega arith, λ u has. absurd (some-ne-none u (sym has.1)))
  visits_inside OfPath fit few = let n = ap length is ∙ length-map held visited_of in (
    omega arith,
    (λ u has. let v = from_map visited_of held has.0 u (subst (λ (l : List Visited). get_elem? l has.0 ≡ some u) is has.1) in
        let fits : FitsVisit slots v.0 = subst (FitsVisit slots) (read_at held has.0 v.0 v.0 v.1) (fit has.0 v.0 (below_length held has.0 v.0 v.1)) in
        let low = fits.1 in subst (λ (w : Visited). IsNode slots w.node × (w.version < 2 ^ 62)) v.2 (fits.0, omega arith)),
  )
  visits_inside OfLockedPath fit few = (omega arith, λ u has. absurd (some-ne-none u (sym has.1)))

  -- and the words that were stored of them are theirs
  pub visits_described : (mode : Mode) (word : ℕ → ℕ) → VisitsTo slots held word (length (visits_by mode p)) → (i : ℕ) (u : Visited) → get_elem? (visits_by mode p) i ≡ some u
      → (word (visits_begin slots + 2 * i) ≡ u.node) × (word (visits_begin slots + (1 + 2 * i)) ≡ u.version)
  visits_described Words word so i u at = absurd (some-ne-none u (sym at))
  visits_described OfPath word so i u at = let v = from_map visited_of held i u (subst (λ (l : List Visited). get_elem? l i ≡ some u) is at) in
      subst (λ (w : Visited). (word (visits_begin slots + 2 * i) ≡ w.node) × (word (visits_begin slots + (1 + 2 * i)) ≡ w.version)) v.2
      (so i v.0 (below_length p.visits i u at) v.1)
  visits_described OfLockedPath word so i u at = absurd (some-ne-none u (sym at))
