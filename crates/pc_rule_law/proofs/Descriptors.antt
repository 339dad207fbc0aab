-- What a pass knows of the words of a descriptor is so: by its notes, or since they are its own. So a change that it knows by
-- its words is one of the attempt.
use Rattle.std.proofs.Common.{◌≡◌, ℕ, ◌+◌, ◌*◌, ◌<◌, ◌≤◌, false, sym, ap, ◌∙◌, subst, inl, inr, ⊎_elim, arith}
use mathlib.Core.Option.{some}
use Rattle.pc_model.specs.declared.cell.Field.{Field}
use Rattle.pc_model.specs.Cells.{Cells}
use Rattle.pc_rule_law.specs.Board.{Size, Board, descriptor_words, place_number}
use Rattle.pc_rule_law.specs.Past.{Has, Attempt, Past, change, Describes, IsFormed}
use Rattle.pc_rule_law.specs.Stages.{IsIdle}
use Rattle.pc_rule_law.specs.Views.{entry, attempt_word, OwnAttempt, word_in, View, NoteHolds, AllNotes}
use Rattle.pc_rule_law.specs.Rule.{Own, OwnTries, Shared}
use Rattle.pc_rule_law.specs.Conditions.{KnowsWord, KnowsStill, KnowsChange, KnowsEntry}
use Rattle.pc_rule_law.proofs.Lists.{below_length, element_at}
use Rattle.pc_rule_law.proofs.Places.{one_word}

-- what is known of a descriptor is known still
word_still : (v w : View) → KnowsStill v w → (p a place x : ℕ) → KnowsWord v p a place x → KnowsWord w p a place x
word_still v w k p a place x known = ⊎_elim (λ read. inl (k.notes (attempt_word p a place x) read)) (λ own. inr (
  own.0 ∙ sym k.seat,
  own.1 ∙ ap (λ (o : OwnAttempt). o.number) (sym k.attempt),
  k.posted ∙ own.2,
  ap (λ (o : OwnAttempt). o.published) k.attempt ∙ own.3,
  subst (λ (z : Size). place < descriptor_words z.slots) (sym k.size) own.4,
  ap (λ (o : OwnAttempt). word_in o.words place) k.attempt ∙ own.5,
)) known

pub change_still : (v w : View) → KnowsStill v w → (p a i n : ℕ) (f : Field) (old new : ℕ) → KnowsChange v p a i n f old new
    → KnowsChange w p a i n f old new
change_still v w k p a i n f old new c = record {
  count = c.count;
  below = c.below;
  known_count = word_still v w k p a 1 c.count c.known_count;
  known_place = word_still v w k p a (3 + 3 * i) (place_number n f) c.known_place;
  known_old = word_still v w k p a (4 + 3 * i) old c.known_old;
  known_new = word_still v w k p a (5 + 3 * i) new c.known_new;
}

-- a change at a place of a list whose words are those of the descriptor
pub change_of_words : (slots : ℕ) (a : Attempt) (word : ℕ → ℕ) → Describes slots a word → (i n : ℕ) (f : Field) (old new : ℕ)
    → i < word 1 → word (3 + 3 * i) ≡ place_number n f → word (4 + 3 * i) ≡ old → word (5 + 3 * i) ≡ new
    → Has a.changes (change n f old new)
change_of_words slots a word d i n f old new lt place is_old is_new =
    let y = element_at a.changes i (subst (λ (c : ℕ). i < c) d.changes lt) in let w = d.each_change i y.0 y.1 in
    let same = one_word y.0.node n y.0.field f (sym w.0 ∙ place) in
    let e : y.0 ≡ change n f old new = λ t. record { node = same.0 t; field = same.1 t; old = (sym w.1 ∙ is_old) t; new = (sym w.2 ∙ is_new) t } in
    (i, y.1 ∙ ap some e)

-- words that are the same where the descriptor has words are described alike
pub described_alike : (slots : ℕ) (a : Attempt) (word word' : ℕ → ℕ) → IsFormed slots a → Describes slots a word
    → ((place : ℕ) → place < descriptor_words slots → word' place ≡ word place) → Describes slots a word'
described_alike slots a word word' formed d same = record {
  mode = same 0 (omega arith) ∙ d.mode;
  changes = same 1 (omega arith) ∙ d.changes;
  visits = same 2 (omega arith) ∙ d.visits;
  each_change = λ i x at. let lt = below_length a.changes i x at in let few = formed.few in let w = d.each_change i x at in (
    same (3 + 3 * i) (omega arith) ∙ w.0,
    same (4 + 3 * i) (omega arith) ∙ w.1,
    same (5 + 3 * i) (omega arith) ∙ w.2,
  );
  each_visit = λ i x at. let lt = below_length a.visits i x at in let few = formed.few_visits in let w = d.each_visit i x at in (
    same (78 + 3 * slots + 2 * i) (omega arith) ∙ w.0,
    same (78 + 3 * slots + (1 + 2 * i)) (omega arith) ∙ w.1,
  );
}

module _ (sound : ℕ → Cells → Cells → Type 0) (z : Size) (b : Board) (h : Past) (s : Shared sound z b h) where
  -- while an attempt isn't cleared, its words stand in its pass's descriptor
  pub described_now : (p : ℕ) → (IsIdle (b.status p).stage → ⊥) → Describes z.slots (h.attempt p (b.status p).number) (b.word p)
  described_now p busy = described_alike z.slots (h.attempt p (b.status p).number) (h.words p (b.status p).number) (b.word p)
      (s.formed p (b.status p).number) (s.described p (b.status p).number) (s.written p busy)

  module _ (id : ℕ) (v : View) (own : Own z b.install h.course id v) (noted : AllNotes (NoteHolds z b h) v.notes)
      (tries : v.posted ≡ false → (h.posted ≡ false) × OwnTries z.slots b id v.attempt) where
    -- a word that is known of a descriptor is that word
    pub known_word : (p a place x : ℕ) → KnowsWord v p a place x → (a ≤ (b.status p).number) × (h.words p a place ≡ x)
    known_word p a place x known = ⊎_elim (λ read. (noted (attempt_word p a place x) read).0)
        (λ self. let t = (tries self.2).1 in let seat : p ≡ id = self.0 ∙ own.seated.0 in
        let number : (b.status id).number ≡ a = t.number ∙ sym self.1 in
        let lt : place < descriptor_words z.slots = subst (λ (y : Size). place < descriptor_words y.slots) own.sized self.4 in
        let here : h.words id a place ≡ x = ap (λ (c : ℕ). h.words id c place) (sym number)
        ∙ (sym (s.written id (t.running self.3) place lt) ∙ (t.words place lt ∙ self.5)) in
        subst (λ (q : ℕ). (a ≤ (b.status q).number) × (h.words q a place ≡ x)) (sym seat) ((omega arith), here)) known

    known_change : (p a i n : ℕ) (f : Field) (old new : ℕ) → KnowsChange v p a i n f old new
        → (a ≤ (b.status p).number) × Has (h.attempt p a).changes (change n f old new)
    known_change p a i n f old new k = let count = known_word p a 1 k.count k.known_count in
        let below : i < h.words p a 1 = subst (λ (c : ℕ). i < c) (sym count.1) k.below in (
          count.0,
          change_of_words z.slots (h.attempt p a) (h.words p a) (s.described p a) i n f old new below
              (known_word p a (3 + 3 * i) (place_number n f) k.known_place).1 (known_word p a (4 + 3 * i) old k.known_old).1
              (known_word p a (5 + 3 * i) new k.known_new).1,
        )

    -- a change that is known is one of the attempt's
    pub known_entry : (p a n : ℕ) (f : Field) (x : ℕ) → KnowsEntry v p a n f x
        → (new : ℕ) × (a ≤ (b.status p).number) × Has (h.attempt p a).changes (change n f x new)
    known_entry p a n f x known = let is : (a ≤ (b.status p).number) × Has (h.attempt p a).changes (change n f x known.0) = ⊎_elim
        (λ given. (noted (entry p a (change n f x known.0)) given).0) (λ k. known_change p a k.0 n f x known.0 k.1) known.1 in
        (known.0, is.0, is.1)
