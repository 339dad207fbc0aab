-- A board that opens as it may keeps the rule: its words of nodes are plain, and the descriptors of the exchanges
-- that are given are written.
use Rattle.std.proofs.Common.{◌≡◌, ℕ, zero, suc, ◌+◌, ◌*◌, ◌<◌, Bool, true, false, List, [], ◌∷◌, length, refl, sym, ap, ◌∙◌, subst, arith}
use mathlib.Core.Option.{some, some-injective, some-ne-none}
use lib.ListN.{get_elem?}
use Rattle.pc_model.specs.Cells.{Cells}
use Rattle.pc_model.specs.Exchanges.{Changed}
use Rattle.pc_words.specs.Statuses.{StageInRange, StatusInRange}
use Rattle.pc_rule_law.specs.Board.{Size, place_number}
use Rattle.pc_rule_law.specs.Past.{Has, Describes, IsFormed}
use Rattle.pc_rule_law.specs.Stages.{IsIdle}
use Rattle.pc_rule_law.specs.Views.{Note, entry, NoteHolds, AllNotes}
use Rattle.pc_rule_law.specs.Seats.{opening_past}
use Rattle.pc_rule_law.specs.Rule.{OwnTries, opening_own}
use Rattle.pc_rule_law.specs.Openings.{opening_words, Posted, posted_stage, opening_status, opening_changes, attempt_of, opening_attempt, changes_word, descriptor_word, entries_of, opening_notes, opening_board, MayOpen}
use Rattle.pc_rule_law.proofs.Lists.{all_none, all_more, all_both, none_has}
use Rattle.pc_rule_law.proofs.Seats.{Opens}

-- three words a change
pub changes_words : (xs : List Changed) (i : ℕ) (x : Changed) → get_elem? xs i ≡ some x
    → (changes_word xs (3 * i) ≡ place_number x.node x.field) × (changes_word xs (1 + 3 * i) ≡ x.old)
    × (changes_word xs (2 + 3 * i) ≡ x.new)
changes_words [] i x at = absurd (some-ne-none x (sym at))
changes_words (y ∷ ys) zero x at = let e = some-injective y x at in (
  ap (λ (u : Changed). place_number u.node u.field) e,
  ap (λ (u : Changed). u.old) e,
  ap
      (λ (u : Changed). u.new) e,
)
changes_words (y ∷ ys) (suc i) x at = let r = changes_words ys i x at in (
  ap (changes_word (y ∷ ys)) (triple i) ∙ r.0,
  ap (changes_word (y ∷ ys)) (one_more i) ∙ r.1,
  ap (changes_word (y ∷ ys)) (two_more i) ∙ r.2,
)
  where
    triple : (i : ℕ) → 3 * suc i ≡ suc (suc (suc (3 * i)))
    triple i = omega arith

    one_more : (i : ℕ) → 1 + 3 * suc i ≡ suc (suc (suc (1 + 3 * i)))
    one_more i = omega arith

    two_more : (i : ℕ) → 2 + 3 * suc i ≡ suc (suc (suc (2 + 3 * i)))
    two_more i = omega arith

-- the words that are written are those of the attempt
describes_itself : (slots : ℕ) (xs : List Changed) → Describes slots (attempt_of xs) (descriptor_word xs)
describes_itself slots xs = record {
  mode = refl;
  changes = refl;
  visits = refl;
  each_change = λ i x at. let r = changes_words xs i x at in (
    ap (descriptor_word xs) (three (3 * i)) ∙ r.0,
    ap (descriptor_word xs) (four (3 * i)) ∙ r.1,
    ap (descriptor_word xs) (five (3 * i)) ∙ r.2,
  );
  each_visit = λ i x at. absurd (some-ne-none x (sym at));
}
  where
    three : (k : ℕ) → 3 + k ≡ suc (suc (suc k))
    three k = omega arith

    four : (k : ℕ) → 4 + k ≡ suc (suc (suc (1 + k)))
    four k = omega arith

    five : (k : ℕ) → 5 + k ≡ suc (suc (suc (2 + k)))
    five k = omega arith

posted_in_range : (c : Bool) → StageInRange (posted_stage c)
posted_in_range true = tt
posted_in_range false = tt

status_in_range : (start : ℕ) (posted : List Posted) (p : ℕ) → start < 268435456
    → StatusInRange (opening_status start posted p)
status_in_range start [] p small = (small, tt)
status_in_range start (x ∷ xs) zero small = (omega arith, posted_in_range x.undecided)
status_in_range start (x ∷ xs) (suc p) small = status_in_range start xs p small

-- a pass that isn't idle was given its first attempt
given_first : (start : ℕ) (posted : List Posted) (p : ℕ) → (IsIdle (opening_status start posted p).stage → ⊥)
    → (opening_status start posted p).number ≡ 1
given_first start [] p busy = absurd (busy tt)
given_first start (x ∷ xs) zero busy = refl
given_first start (x ∷ xs) (suc p) busy = given_first start xs p busy

none_formed : (slots : ℕ) → IsFormed slots (attempt_of [])
none_formed slots = record {
  few = omega arith;
  few_visits = omega arith;
  inside = λ x has. absurd (none_has x has);
  visited = λ x has. absurd (none_has x has);
  apart = λ i j x y at. absurd (some-ne-none x (sym at));
}

formed_all : (slots : ℕ) (posted : List Posted) (p a : ℕ) → IsFormed slots (attempt_of (opening_changes posted p))
    → IsFormed slots (opening_attempt posted p a)
formed_all slots posted p zero formed = none_formed slots
formed_all slots posted p (suc zero) formed = formed
formed_all slots posted p (suc (suc a)) formed = none_formed slots

-- each note of an opening is of a change that a pass was given
all_entries : (P : Note → Type 0) (p : ℕ) (xs : List Changed) → ((x : Changed) → Has xs x → P (entry p 1 x))
    → AllNotes P (entries_of p xs)
all_entries P p [] each = all_none P
all_entries P p (x ∷ xs) each = all_more P (entry p 1 x) (entries_of p xs) (each x (zero, refl))
    (all_entries P p xs (λ y h. each y (suc h.0, h.1)))

all_opening : (P : Note → Type 0) (first : ℕ) (posted : List Posted)
    → ((p : ℕ) (x : Changed) → p < length posted → Has (opening_changes posted p) x → P (entry (first + p) 1 x))
    → AllNotes P (opening_notes first posted)
all_opening P first [] each = all_none P
all_opening P first (x ∷ xs) each = all_both P (entries_of first x.places) (opening_notes (suc first) xs)
    (all_entries P first x.places (λ y h. subst (λ (i : ℕ). P (entry i 1 y)) (omega arith)
    (each zero y (omega arith) h)))
    (all_opening P (suc first) xs (λ p y lt h. subst (λ (i : ℕ). P (entry i 1 y)) (omega arith)
    (each (suc p) y (omega arith) h)))

given_number : (start : ℕ) (posted : List Posted) (p : ℕ) → p < length posted
    → (opening_status start posted p).number ≡ 1
given_number start [] p lt = absurd (omega arith)
given_number start (x ∷ xs) zero lt = refl
given_number start (x ∷ xs) (suc p) lt = given_number start xs p (omega arith)

described_all : (slots : ℕ) (posted : List Posted) (p a : ℕ) → Describes slots (opening_attempt posted p a) (opening_words posted p a)
described_all slots posted p zero = describes_itself slots []
described_all slots posted p (suc zero) = describes_itself slots (opening_changes posted p)
described_all slots posted p (suc (suc a)) = describes_itself slots []

pub no_words : (place : ℕ) → descriptor_word [] place ≡ 0
no_words zero = refl
no_words (suc zero) = refl
no_words (suc (suc zero)) = refl
no_words (suc (suc (suc place))) = refl

module _ (sound : ℕ → Cells → Cells → Type 0) (z : Size) (cells : Cells) (given : Bool) (posted : List Posted)
    (may : MayOpen (λ slots c. sound slots c c) z cells given posted) where
  noted_at : (p : ℕ) (x : Changed) → p < length posted → Has (opening_changes posted p) x
      → NoteHolds z (opening_board z cells posted) (opening_past cells (opening_attempt posted) (opening_words posted) given) (entry p 1 x)
  noted_at p x lt has = let number :
      (opening_status z.starts.attempt posted p).number ≡ 1 = given_number z.starts.attempt posted p lt in
      let few = may.few in
      ((omega arith, has), let i = (may.formed p).inside x has in ((omega arith, omega arith), i.0, i.1, i.2))

  untried : (j : ℕ) → given ≡ false → OwnTries z.slots (opening_board z cells posted) j (opening_own z)
  untried j none' = subst (λ (l : List Posted). OwnTries z.slots (opening_board z cells l) j (opening_own z)) (sym (may.none none')) record {
    number = refl;
    resting = λ _. tt;
    running = λ yes. absurd (cc);
    words = λ place _. no_words place;
  }

  pub may_open : Opens sound z (opening_board z cells posted) cells (opening_attempt posted) (opening_words posted) given (opening_notes 0 posted)
  may_open = record {
    few = may.seats.1;
    seat = may.seats.0;
    sound_now = may.sound_cells;
    plain = λ n f. refl;
    small = may.small;
    install = λ j place lt. refl;
    statuses = λ p. status_in_range z.starts.attempt posted p may.attempt;
    formed = λ p a. formed_all z.slots posted p a (may.formed p);
    described = described_all z.slots posted;
    written = λ p busy place _. subst (λ (a : ℕ). descriptor_word (opening_changes posted p) place ≡ opening_words posted p a place)
        (sym (given_first z.starts.attempt posted p busy)) refl;
    untried = untried;
    noted = all_opening (NoteHolds z (opening_board z cells posted)
        (opening_past cells (opening_attempt posted) (opening_words posted) given)) 0 posted
        (λ p x lt has. subst (λ (i : ℕ). NoteHolds z (opening_board z cells posted)
        (opening_past cells (opening_attempt posted) (opening_words posted) given) (entry i 1 x)) (omega arith) (noted_at p x lt has));
  }
