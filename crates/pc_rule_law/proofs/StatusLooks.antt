-- The load of a status: which attempts of the pass are decided. Where the present one isn't, each install that is
-- known to be for it was placed while it was undecided, since a number is undecided only once. A word in which an attempt was
-- met that is cleared by now is clean of it, since a reference stands, and an early install too, only until then.
use Rattle.std.proofs.Common.{◌≡◌, ℕ, zero, suc, ◌+◌, ◌*◌, ◌^◌, ◌<◌, ◌≤◌, Bool, true, false, ◌==◌, List, [], ◌∷◌, ◌++◌, length, refl, sym, ap, ◌∙◌, subst, ⊎_elim, nat_lt, eqb-true, eq-eqb, arith}
use Rattle.std.proofs.lemmas.Bool.{ltb-true, lt-ltb}
use mathlib.Core.Logic.{dite}
use mathlib.Core.Option.{none}
use native.Mathlib.Decide.{ℕ_discrete}
use Rattle.atomic_table.specs.Table.{step, Allows}
use Rattle.pc_model.specs.declared.cell.Field.{Field}
use Rattle.pc_model.specs.Cells.{Cells, IsNode}
use Rattle.pc_words.specs.declared.word.WordKind.{WordKind}
use Rattle.pc_words.specs.declared.word.WordKind.TheVariants.{Plain, Install, Exchange}
use Rattle.pc_words.specs.declared.status.Stage.{Stage}
use Rattle.pc_words.specs.declared.status.Stage.TheVariants.{Idle, Undecided, Succeeded, Withdrawn, Changed, Locked}
use Rattle.pc_words.specs.declared.status.Status.{Status}
use Rattle.pc_words.specs.Words.{raw}
use Rattle.pc_words.specs.Statuses.{packed, unpacked}
use Rattle.pc_words.proofs.Statuses.{unpacked_packed}
use Rattle.pc_rule_law.specs.Board.{Size, own_status, at_own, address, Inside, Board}
use Rattle.pc_rule_law.specs.Past.{Has, Past, placing_word, visits_begin}
use Rattle.pc_rule_law.specs.Stages.{IsIdle, IsOpen, IsUndecided, decided_from, decided_by, IsCleared}
use Rattle.pc_rule_law.specs.Views.{Note, entry, install_word, early, decided_below, held, clean, word_loaded, attempt_word, View, IsClean, NoteHolds, AllNotes, with_notes}
use Rattle.pc_rule_law.specs.Rule.{CellOk, Known, Shared, Holds}
use Rattle.pc_rule_law.specs.Plays.{Mine, SameSeat, StatusLoaded, IsPlaceIn, LoadedStatus, loads_status}
use Rattle.pc_rule_law.proofs.Lists.{element_at, all_none, all_more, all_both, has_left, has_right, has_first, has_later}
use Rattle.pc_rule_law.proofs.Keeping.{noted_more}
use Rattle.pc_rule_law.proofs.Learning.{learnt, has_learnt, all_learnt, only_if, has_only_if, all_only_if, when, has_if_same, all_if_same, has_when, all_when, later_more}
use Rattle.pc_rule_law.proofs.Stages.{open_not_idle, unmade_not_idle, decided_not_undecided}
use Rattle.pc_rule_law.proofs.Steps.{Looks, looked}

-- whether a stage is undecided
abbrev is_open : Stage → Bool
is_open Idle = false
is_open Undecided = true
is_open (Succeeded t) = false
is_open Withdrawn = false
is_open (Changed n) = false
is_open (Locked n p) = false

open_is : (s : Stage) → IsOpen s → is_open s ≡ true
open_is Idle o = absurd o
open_is Undecided o = refl
open_is (Succeeded t) o = absurd o
open_is Withdrawn o = absurd o
open_is (Changed n) o = absurd o
open_is (Locked n p) o = absurd o

is_open_then : (s : Stage) → is_open s ≡ true → IsOpen s
is_open_then Idle e = absurd (cc)
is_open_then Undecided e = tt
is_open_then (Succeeded t) e = absurd (cc)
is_open_then Withdrawn e = absurd (cc)
is_open_then (Changed n) e = absurd (cc)
is_open_then (Locked n p) e = absurd (cc)

-- a status says which attempts are decided
decided_so : (k : ℕ) (s : Stage) → (decided_from k s ≤ k + 1) × (decided_from k s ≡ k + 1 → IsOpen s → ⊥)
decided_so k Idle = (omega arith, λ e o. o)
decided_so k Undecided = (omega arith, λ e o. absurd (omega arith))
decided_so k (Succeeded t) = (omega arith, λ e o. o)
decided_so k Withdrawn = (omega arith, λ e o. o)
decided_so k (Changed n) = (omega arith, λ e o. o)
decided_so k (Locked n p) = (omega arith, λ e o. o)

-- and an attempt that is decided by a status is so by what it says
decided_as_said : (k m : ℕ) (s : Stage) → m ≤ k + 1 → (m ≡ k + 1 → IsOpen s → ⊥) → m ≤ decided_from k s
decided_as_said k m Idle le over = le
decided_as_said k m Undecided le over = below_or_last (λ is. over is tt)
  where
    below_or_last : (m ≡ k + 1 → ⊥) → m ≤ k
    below_or_last ne = dite (ℕ_discrete m (k + 1)) (λ is. absurd (ne is)) (λ other. let ne' = other in omega arith)
decided_as_said k m (Succeeded t) le over = le
decided_as_said k m Withdrawn le over = le
decided_as_said k m (Changed n) le over = le
decided_as_said k m (Locked n p) le over = le

-- what a load of the status of p tells, of each note: attempt m is undecided
abbrev learn_status : ℕ → ℕ → Note → List Note
learn_status p m (install_word q k (suc zero) x) = only_if (x == raw (Exchange p m)) (early q k)
learn_status p m _ = []

-- of each word of the present descriptor that was loaded, that it is a word of attempt m
abbrev learn_words : ℕ → ℕ → Note → List Note
learn_words p m (word_loaded q a place x) = when (q == p) (only_if (a == m) (attempt_word q a place x))
learn_words p m _ = []

-- whether a stage isn't idle
abbrev is_busy : Stage → Bool
is_busy Idle = false
is_busy Undecided = true
is_busy (Succeeded t) = true
is_busy Withdrawn = true
is_busy (Changed n) = true
is_busy (Locked n p) = true

busy_is : (s : Stage) → (IsIdle s → ⊥) → is_busy s ≡ true
busy_is Idle busy = absurd (busy tt)
busy_is Undecided busy = refl
busy_is (Succeeded t) busy = refl
busy_is Withdrawn busy = refl
busy_is (Changed n) busy = refl
busy_is (Locked n p) busy = refl

is_busy_then : (s : Stage) → is_busy s ≡ true → IsIdle s → ⊥
is_busy_then Idle e i = absurd (cc)
is_busy_then Undecided e i = i
is_busy_then (Succeeded t) e i = i
is_busy_then Withdrawn e i = i
is_busy_then (Changed n) e i = i
is_busy_then (Locked n p) e i = i

-- the attempts with numbers below this one are cleared, as a status says
abbrev cleared_from : ℕ → Stage → ℕ
cleared_from k Idle = k + 1
cleared_from k Undecided = k
cleared_from k (Succeeded t) = k
cleared_from k Withdrawn = k
cleared_from k (Changed n) = k
cleared_from k (Locked n p) = k

last_idle : (k : ℕ) (s : Stage) → IsIdle s → k < cleared_from k s
last_idle k Idle i = omega arith
last_idle k Undecided i = absurd i
last_idle k (Succeeded t) i = absurd i
last_idle k Withdrawn i = absurd i
last_idle k (Changed n) i = absurd i
last_idle k (Locked n p) i = absurd i

past_ones : (k a : ℕ) (s : Stage) → a < k → a < cleared_from k s
past_ones k a Idle lt = omega arith
past_ones k a Undecided lt = lt
past_ones k a (Succeeded t) lt = lt
past_ones k a Withdrawn lt = lt
past_ones k a (Changed n) lt = lt
past_ones k a (Locked n p) lt = lt

-- of the last one that is cleared: it isn't the present one, or that is idle
cleared_so : (k a : ℕ) (s : Stage) → a < cleared_from k s → (a ≤ k) × (k ≡ a → IsIdle s)
cleared_so k a Idle lt = (omega arith, λ _. tt)
cleared_so k a Undecided lt = (omega arith, λ e. absurd (omega arith))
cleared_so k a (Succeeded t) lt = (omega arith, λ e. absurd (omega arith))
cleared_so k a Withdrawn lt = (omega arith, λ e. absurd (omega arith))
cleared_so k a (Changed n) lt = (omega arith, λ e. absurd (omega arith))
cleared_so k a (Locked n p) lt = (omega arith, λ e. absurd (omega arith))

below_cleared : (s : Status) (a : ℕ) → IsCleared s a → a < cleared_from s.number s.stage
below_cleared s a c = ⊎_elim (λ lt. past_ones s.number a s.stage lt)
    (λ last. subst (λ (i : ℕ). i < cleared_from s.number s.stage) (sym last.0) (last_idle s.number s.stage last.1)) c

-- of each word in which an attempt was met, that it is clean of it where the attempt's number is below m
abbrev learn_cleans : ℕ → ℕ → Note → List Note
learn_cleans p m (held q a n f) = when (q == p) (only_if (nat_lt a m) (clean q a n f))
learn_cleans p m _ = []

bool_cases : (P : Type 0) (c : Bool) → (c ≡ true → P) → (c ≡ false → P) → P
bool_cases P true t f = t refl
bool_cases P false t f = f refl

module _ (sound : ℕ → Cells → Cells → Type 0) (z : Size) (b : Board) (h : Past) (few : z.seats ≤ 32)
    (s : Shared sound z b h) where
  -- the exchange of an install that was placed, from its word
  named : (q k p a : ℕ) → 1 ≤ h.course q k → p < z.seats → placing_word (h.placing q k) k 1 ≡ raw (Exchange p a)
      → ((h.placing q k).seat ≡ p) × ((h.placing q k).number ≡ a)
  named q k p a has lt e = let y = s.installs q k has in let x = h.placing q k in
      let low : x.seat < z.seats = y.seat in
      let is : (2 + 4 * x.seat) + 1024 * x.number ≡ (2 + 4 * p) + 1024 * a = e in (omega arith, omega arith)

  status_learnt : (p : ℕ) → p < z.seats → IsOpen (b.status p).stage → (x : Note) → NoteHolds z b h x
      → AllNotes (NoteHolds z b h) (learn_status p (b.status p).number x)
  status_learnt p lt undecided (install_word q k (suc zero) x) g = all_if_same (NoteHolds z b h) x
      (raw (Exchange p (b.status p).number)) (early q k) (λ e. let m : ℕ = (b.status p).number in
      let is = named q k p m g.0.0 lt (g.0.1 ∙ e) in let y = s.installs q k g.0.0 in (
        (
          g.0.0,
          bool_cases ((h.placing q k).early ≡ true) (h.placing q k).early (λ yes. yes)
              (λ no. absurd (decided_not_undecided b.status (h.placing q k).seat (h.placing q k).number
              ((h.placing q k).number + 1) (y.late no) (omega arith)
              (subst (λ (i : ℕ × ℕ). IsUndecided b.status i.0 i.1) (λ j. (sym is.0 j, sym is.1 j))
              (refl, undecided)))),
        ),
        g.1.0,
      ))
  status_learnt p lt undecided _ g = all_none (NoteHolds z b h)

  words_learnt : (p : ℕ) → (IsIdle (b.status p).stage → ⊥) → (x : Note) → NoteHolds z b h x
      → AllNotes (NoteHolds z b h) (learn_words p (b.status p).number x)
  words_learnt p busy (word_loaded q a place x) g = all_when (NoteHolds z b h) (q == p)
      (only_if (a == (b.status p).number) (attempt_word q a place x))
      (λ e. all_only_if (NoteHolds z b h) (a == (b.status p).number) (attempt_word q a place x) (λ d.
      let seat : q ≡ p = eqb-true q p e in let number : a ≡ (b.status p).number = eqb-true a (b.status p).number d in
      let now : (b.status q).number ≡ a = ap (λ (r : ℕ). (b.status r).number) seat ∙ sym number in
      let there : IsIdle (b.status q).stage → ⊥ = λ idle. busy (subst (λ (r : ℕ). IsIdle (b.status r).stage) seat idle) in
      let stands : b.word q place ≡ h.words q (b.status q).number place = s.written q there place g.1.1 in (
        (g.0.0, ap (λ (c : ℕ). h.words q c place) (sym now) ∙ (sym stands ∙ g.0.1 now there)),
        g.1,
      )))
  words_learnt p busy _ g = all_none (NoteHolds z b h)

  -- a word is clean of an attempt that is cleared
  clean_of : (p a n : ℕ) (f : Field) → ((b.status p).number ≡ a → IsIdle (b.status p).stage) → (c : WordKind)
      → CellOk z.seats b.status h.attempt h.placing h.course (h.plain n f) n f c → IsClean h.placing p a c
  clean_of p a n f over (Plain x) ok = tt
  clean_of p a n f over (Install q k) ok = λ seat number early.
      let y = s.installs q k (let e : h.course q k ≡ 1 = ok.stands in omega arith) in let there = y.alive ok.stands early in
      let to_p : ℕ × ℕ → Type 0 = λ i. ((b.status i.0).number ≡ i.1) × (IsIdle (b.status i.0).stage → ⊥) in
      let now = subst to_p (λ j. (seat j, number j)) (there.0, unmade_not_idle (b.status (h.placing q k).seat).stage there.1) in
      now.1 (over now.0)
  clean_of p a n f over (Exchange q c) ok = λ seat number.
      let to_p : ℕ × ℕ → Type 0 = λ i. ((b.status i.0).number ≡ i.1) × (IsIdle (b.status i.0).stage → ⊥) in
      let now = subst to_p (λ j. (seat j, number j)) (ok.present, ok.uncleared) in now.1 (over now.0)

  cleans_learnt : (p : ℕ) (x : Note) → NoteHolds z b h x
      → AllNotes (NoteHolds z b h) (learn_cleans p (cleared_from (b.status p).number (b.status p).stage) x)
  cleans_learnt p (held q a n f) g = let st : Status = b.status p in let m : ℕ = cleared_from st.number st.stage in
      all_when (NoteHolds z b h) (q == p) (only_if (nat_lt a m) (clean q a n f))
      (λ e. all_only_if (NoteHolds z b h) (nat_lt a m) (clean q a n f) (λ d.
      let seat : p ≡ q = sym (eqb-true q p e) in let so = cleared_so st.number a st.stage (ltb-true a m d) in
      let at_q = subst (λ (i : ℕ). (a ≤ (b.status i).number) × ((b.status i).number ≡ a → IsIdle (b.status i).stage)) seat so in
      let le = at_q.0 in (
        (
          (omega arith, λ last o. open_not_idle (b.status q).stage o (at_q.1 (omega arith))),
          clean_of q a n f at_q.1 (b.cell n f) (s.each_cell n f),
        ),
        g.1,
      )))
  cleans_learnt p _ g = all_none (NoteHolds z b h)

  -- what was loaded of the present attempt, which isn't cleared, is what that has
  word_stands : (p place x : ℕ) → (IsIdle (b.status p).stage → ⊥) → NoteHolds z b h (word_loaded p (b.status p).number place x)
      → h.words p (b.status p).number place ≡ x
  word_stands p place x busy g = sym (s.written p busy place g.1.1) ∙ g.0.1 refl busy

  count_ranged : (p count : ℕ) → (IsIdle (b.status p).stage → ⊥) → NoteHolds z b h (word_loaded p (b.status p).number 1 count)
      → count ≤ 25 + z.slots
  unfolding word_stands
  count_ranged p count busy g = let e = sym (word_stands p 1 count busy g) ∙ (s.described p (b.status p).number).changes in
      let few = (s.formed p (b.status p).number).few in omega arith

  visits_ranged : (p count : ℕ) → (IsIdle (b.status p).stage → ⊥) → NoteHolds z b h (word_loaded p (b.status p).number 2 count)
      → count ≤ z.slots + 1
  unfolding word_stands
  visits_ranged p count busy g = let e = sym (word_stands p 2 count busy g) ∙ (s.described p (b.status p).number).visits in
      let few = (s.formed p (b.status p).number).few_visits in omega arith

  change_ranged : (p count i place old new : ℕ) → (IsIdle (b.status p).stage → ⊥) → NoteHolds z b h (word_loaded p (b.status p).number 1 count)
      → i < count → NoteHolds z b h (word_loaded p (b.status p).number (3 + 3 * i) place)
      → NoteHolds z b h (word_loaded p (b.status p).number (4 + 3 * i) old) → NoteHolds z b h (word_loaded p (b.status p).number (5 + 3 * i) new)
      → IsPlaceIn z.slots place × (old < 2 ^ 62) × (new < 2 ^ 62)
  unfolding word_stands
  change_ranged p count i place old new busy counted lt at_place at_old at_new = let d = s.described p (b.status p).number in
      let e = sym (word_stands p 1 count busy counted) ∙ d.changes in
      let x = element_at (h.attempt p (b.status p).number).changes i (subst (λ (m : ℕ). i < m) e lt) in
      let words = d.each_change i x.0 x.1 in
      let inside = (s.formed p (b.status p).number).inside x.0 (i, x.1) in (
        (x.0.node, x.0.field, sym (word_stands p (3 + 3 * i) place busy at_place) ∙ words.0, inside.0),
        subst (λ (y : ℕ). y < 2 ^ 62) (sym words.1 ∙ word_stands p (4 + 3 * i) old busy at_old) inside.1,
        subst (λ (y : ℕ). y < 2 ^ 62) (sym words.2 ∙ word_stands p (5 + 3 * i) new busy at_new) inside.2,
      )

  visit_ranged : (p count i node found : ℕ) → (IsIdle (b.status p).stage → ⊥) → NoteHolds z b h (word_loaded p (b.status p).number 2 count)
      → i < count → NoteHolds z b h (word_loaded p (b.status p).number (visits_begin z.slots + 2 * i) node)
      → NoteHolds z b h (word_loaded p (b.status p).number (visits_begin z.slots + (1 + 2 * i)) found)
      → IsNode z.slots node × (found < 2 ^ 62)
  unfolding word_stands
  visit_ranged p count i node found busy counted lt at_node at_version = let d = s.described p (b.status p).number in
      let e = sym (word_stands p 2 count busy counted) ∙ d.visits in
      let x = element_at (h.attempt p (b.status p).number).visits i (subst (λ (m : ℕ). i < m) e lt) in
      let words = d.each_visit i x.0 x.1 in
      let inside = (s.formed p (b.status p).number).visited x.0 (i, x.1) in (
        subst (λ (y : ℕ). IsNode z.slots y) (sym words.0 ∙ word_stands p (visits_begin z.slots + 2 * i) node busy at_node) inside.0,
        subst (λ (y : ℕ). y < 2 ^ 62) (sym words.1 ∙ word_stands p (visits_begin z.slots + (1 + 2 * i)) found busy at_version) inside.1,
      )

  -- what a load of a status adds to what the pass knows
  abbrev pub learnt_of_status : View → ℕ → List Note
  learnt_of_status v p = when (is_open (b.status p).stage) (learnt (learn_status p (b.status p).number) v.notes)
      ++ (when (is_busy (b.status p).stage) (learnt (learn_words p (b.status p).number) v.notes)
      ++ learnt (learn_cleans p (cleared_from (b.status p).number (b.status p).stage)) v.notes)

  status_loaded : (id : ℕ) (v : View) (more : List Note) (p : ℕ) → p < z.seats → v.live ≡ true → Known z b h id v
      → more ≡ decided_below p (decided_by (b.status p)) ∷ learnt_of_status v p
      → StatusLoaded v p (b.status p) (with_notes v more)
  status_loaded id v more p lt live mine is = let m : ℕ = (b.status p).number in
      let good : AllNotes (NoteHolds z b h) v.notes = mine.noted in
      let first = decided_below p (decided_by (b.status p)) in
      let opened = when (is_open (b.status p).stage) (learnt (learn_status p m) v.notes) in
      let settled = when (is_busy (b.status p).stage) (learnt (learn_words p m) v.notes) in
      let to : ℕ = cleared_from m (b.status p).stage in
      let cleans = learnt (learn_cleans p to) v.notes in
      let more' = opened ++ (settled ++ cleans) in record {
        later = later_more v more;
        decided = (more, refl, subst (λ (l : List Note). Has l first) (sym is) (has_first first more'));
        still_decided = λ c has. let g = (good (decided_below p c) has).0 in decided_as_said m c (b.status p).stage g.0 g.1;
        undecided = λ o q k has. has_left more v.notes (early q k)
            (subst (λ (l : List Note). Has l (early q k)) (sym is) (has_later first more' (early q k)
            (has_left opened (settled ++ cleans) (early q k)
            (has_when (is_open (b.status p).stage) (learnt (learn_status p m) v.notes) (early q k)
            (open_is (b.status p).stage o)
            (has_learnt (learn_status p m) v.notes (install_word q k 1 (raw (Exchange p m))) (early q k) has
            (has_if_same (raw (Exchange p m)) (raw (Exchange p m)) (early q k) refl))))));
        installs_below = λ q k a has. let g = good (install_word q k 1 (raw (Exchange p a))) has in
            let n = named q k p a g.0.0 lt g.0.1 in let y = s.installs q k g.0.0 in
            subst (λ (i : ℕ × ℕ). i.1 ≤ (b.status i.0).number) (λ j. (n.0 j, n.1 j)) y.published;
        entries_below = λ a x has. (good (entry p a x) has).0.0;
        held_below = λ a n f has. (good (held p a n f) has).0.0;
        settles = λ busy place x has. has_left more v.notes (attempt_word p m place x)
            (subst (λ (l : List Note). Has l (attempt_word p m place x)) (sym is)
            (has_later first more' (attempt_word p m place x) (has_right opened (settled ++ cleans) (attempt_word p m place x)
            (has_left settled cleans (attempt_word p m place x)
            (has_when (is_busy (b.status p).stage) (learnt (learn_words p m) v.notes) (attempt_word p m place x)
            (busy_is (b.status p).stage busy)
            (has_learnt (learn_words p m) v.notes (word_loaded p m place x) (attempt_word p m place x) has
            (has_when (p == p) (only_if (m == m) (attempt_word p m place x)) (attempt_word p m place x) (eq-eqb p p refl)
            (has_only_if (m == m) (attempt_word p m place x) (eq-eqb m m refl)))))))));
        words_below = λ a place x has. (good (attempt_word p a place x) has).0.0;
        cleared = λ a n f has over. has_left more v.notes (clean p a n f)
            (subst (λ (l : List Note). Has l (clean p a n f)) (sym is)
            (has_later first more' (clean p a n f) (has_right opened (settled ++ cleans) (clean p a n f)
            (has_right settled cleans (clean p a n f)
            (has_learnt (learn_cleans p to) v.notes (held p a n f) (clean p a n f) has
            (has_when (p == p) (only_if (nat_lt a to) (clean p a n f)) (clean p a n f) (eq-eqb p p refl)
            (has_only_if (nat_lt a to) (clean p a n f) (lt-ltb a to (below_cleared (b.status p) a over)))))))));
        counts = λ busy count has. subst (λ (y : Size). count ≤ 25 + y.slots) (sym (mine.own live).sized)
            (count_ranged p count busy (good (word_loaded p m 1 count) has));
        visits = λ busy count has. subst (λ (y : Size). count ≤ y.slots + 1) (sym (mine.own live).sized)
            (visits_ranged p count busy (good (word_loaded p m 2 count) has));
        changes = λ busy count i place old new counted below has_place has_old has_new.
            subst (λ (y : Size). IsPlaceIn y.slots place × (old < 2 ^ 62) × (new < 2 ^ 62)) (sym (mine.own live).sized)
            (change_ranged p count i place old new busy (good (word_loaded p m 1 count) counted) below
            (good (word_loaded p m (3 + 3 * i) place) has_place) (good (word_loaded p m (4 + 3 * i) old) has_old)
            (good (word_loaded p m (5 + 3 * i) new) has_new));
        visited = subst (λ (y : Size). (IsIdle (b.status p).stage → ⊥) → (count i node found : ℕ) → Has v.notes (word_loaded p m 2 count)
            → i < count → Has v.notes (word_loaded p m (visits_begin y.slots + 2 * i) node)
            → Has v.notes (word_loaded p m (visits_begin y.slots + (1 + 2 * i)) found) → IsNode y.slots node × (found < 2 ^ 62))
            (sym (mine.own live).sized)
            (λ busy count i node found counted below has_node has_version. visit_ranged p count i node found busy
            (good (word_loaded p m 2 count) counted) below (good (word_loaded p m (visits_begin z.slots + 2 * i) node) has_node)
            (good (word_loaded p m (visits_begin z.slots + (1 + 2 * i)) found) has_version));
        own = λ seat none'. let own = mine.own live in let t = (mine.tries live none').1 in let self : p ≡ id = seat ∙ own.seated.0 in
            subst (λ (q : ℕ). ((b.status q).number ≡ v.attempt.number) × (v.attempt.published ≡ false → IsIdle (b.status q).stage)
            × (v.attempt.published ≡ true → IsIdle (b.status q).stage → ⊥)) (sym self) (t.number, t.resting, t.running);
      }

module _ (sound : ℕ → Cells → Cells → Type 0) (z : Size) where
  pub status_looks : (id : ℕ) (v : View) (p : ℕ) → v.live ≡ true → Inside z (at_own p own_status)
      → Looks sound z id v (at_own p own_status) (λ r w. SameSeat v w × LoadedStatus v r w (at_own p own_status))
  status_looks id v p live in_p b h views k at =
      let st : Status = b.status p in let mine = k.each_view id v at in
      let first = decided_below p (decided_by st) in
      let opened = when (is_open st.stage) (learnt (learn_status p st.number) v.notes) in
      let settled = when (is_busy st.stage) (learnt (learn_words p st.number) v.notes) in
      let cleans = learnt (learn_cleans p (cleared_from st.number st.stage)) v.notes in
      let more = first ∷ (opened ++ (settled ++ cleans)) in
      let good : AllNotes (NoteHolds z b h) v.notes = mine.noted in
      let small = k.shared.statuses p in
      let same : unpacked (packed st) ≡ st = unpacked_packed st small in
      let now = decided_so st.number st.stage in let low : st.number < 2 ^ 28 = small.0 in
      let here : NoteHolds z b h first = (now, (in_p.0, (let le = now.0 in omega arith))) in (
        with_notes v more,
        noted_more sound z b h views id v more k at live
            (all_more (NoteHolds z b h) first (opened ++ (settled ++ cleans)) here
            (all_both (NoteHolds z b h) opened (settled ++ cleans)
            (all_when (NoteHolds z b h) (is_open st.stage) (learnt (learn_status p st.number) v.notes)
            (λ o. all_learnt (NoteHolds z b h) (learn_status p st.number) v.notes
            (λ x has. status_learnt sound z b h k.few k.shared p in_p.0 (is_open_then st.stage o) x (good x has))))
            (all_both (NoteHolds z b h) settled cleans
            (all_when (NoteHolds z b h) (is_busy st.stage) (learnt (learn_words p st.number) v.notes)
            (λ o. all_learnt (NoteHolds z b h) (learn_words p st.number) v.notes
            (λ x has. words_learnt sound z b h k.few k.shared p (is_busy_then st.stage o) x (good x has))))
            (all_learnt (NoteHolds z b h) (learn_cleans p (cleared_from st.number st.stage)) v.notes
            (λ x has. cleans_learnt sound z b h k.few k.shared p x (good x has)))))),
        (
          (refl, refl, refl, refl, refl),
          (
            (st, small, refl),
            subst (λ (u : Status). StatusLoaded v p u (with_notes v more)) (sym same)
                (status_loaded sound z b h k.few k.shared id v more p in_p.0 live mine refl),
          ),
        ),
      )

  -- a load of the status of p
  pub load_status : (slots id : ℕ) (me : Mine) (p : ℕ) → me.0.size ≡ z → me.0.live ≡ true
      → Inside z (at_own p own_status)
      → Allows (Holds sound z) slots id me (address z (at_own p own_status)) (λ r. r)
      (loads_status (step slots (address z (at_own p own_status)) 0 0 none) me)
  load_status slots id me p sized live in_p = looked sound z slots id me (at_own p own_status)
      (LoadedStatus me.0) in_p sized (status_looks id me.0 p live in_p)
