-- Notes of attempts stay true, and tell what an attempt is.
use Rattle.std.proofs.Common.{◌≡◌, ◌≢◌, ℕ, ◌+◌, ◌*◌, ◌<◌, ◌≤◌, ⊎_elim, List, length, refl, sym, ◌∙◌, subst, arith}
use mathlib.Core.Option.{some}
use lib.ListN.{get_elem?}
use Rattle.pc_model.specs.declared.cell.Field.{Field}
use Rattle.pc_model.specs.Exchanges.{Visited, Changed}
use Rattle.pc_words.specs.declared.word.WordKind.{WordKind}
use Rattle.pc_words.specs.declared.word.WordKind.TheVariants.{Plain, Install, Exchange}
use Rattle.pc_rule_law.specs.Board.{Board, place_number}
use Rattle.pc_rule_law.specs.Past.{Has, Past, change, Describes, visits_begin}
use Rattle.pc_rule_law.specs.Stages.{DecidedBelow}
use Rattle.pc_rule_law.proofs.Lists.{below_length, element_at}
use Rattle.pc_rule_law.proofs.Places.{one_word}
use Rattle.pc_protocol.specs.Histories.{withdrawn, aborted, History}
use Rattle.pc_exchange_law.specs.Ties.{code}
use Rattle.pc_exchange_law.specs.Attempts.{Scripts, AreScripts, OwnAttempt, OwnsAttempt, AttemptNote, came_to, loaded_word}
use Rattle.pc_exchange_law.specs.Attempts.{listed_word, calm, calm_but, IsCalm, IsCalmBut, IsTrueAttemptNote}
use Rattle.pc_exchange_law.specs.Attempts.{KnowsWord, KnowsEntry, KnowsVisit, KnowsPlaces}
use Rattle.pc_exchange_law.specs.AttemptLaws.{AttemptsGrow, LeavesAttempts, AttemptNotesStay, AttemptsAreKnown}

module _ (b : Board) (t : Past) (w : Scripts) (b' : Board) (t' : Past) (w' : Scripts) (g : AttemptsGrow b t w b' t' w') where
  still_calm : (p a n : ℕ) (f : Field) (c : WordKind) → b'.cell n f ≡ c → DecidedBelow b.status p (a + 1)
      → IsCalm t.placing p a (b.cell n f) → IsCalm t'.placing p a c
  still_calm p a n f (Plain x) is decided was = tt
  still_calm p a n f (Install q k) is decided was = λ early. let before = g.calms p a n f q k decided is early in
      subst (IsCalm t.placing p a) before.0 was before.1
  still_calm p a n f (Exchange q k) is decided was = tt

  still_calm_but : (p a n : ℕ) (f : Field) (r i : ℕ) (c : WordKind) → b'.cell n f ≡ c → DecidedBelow b.status p (a + 1)
      → IsCalmBut t.placing p a r i (b.cell n f) → IsCalmBut t'.placing p a r i c
  still_calm_but p a n f r i (Plain x) is decided was = tt
  still_calm_but p a n f r i (Install q k) is decided was = λ early. let before = g.calms p a n f q k decided is early in
      subst (IsCalmBut t.placing p a r i) before.0 was before.1
  still_calm_but p a n f r i (Exchange q k) is decided was = tt

  pub attempt_note_stays : (k : AttemptNote) → IsTrueAttemptNote b t w k → IsTrueAttemptNote b' t' w' k
  attempt_note_stays (came_to p a) is = let up = g.numbers p in let le : a ≤ (b.status p).number = is in omega arith
  attempt_note_stays (loaded_word p a place x) is = let up = g.numbers p in let le = is.0 in (
    omega arith,
    λ present busy. let same : (b'.status p).number ≡ (b.status p).number = omega arith in
        let before = g.words p same busy in
        before.1 place ∙ is.1 (sym same ∙ present) before.0,
  )
  attempt_note_stays (listed_word p a place x) is = let up = g.numbers p in let le = is.0 in
      (omega arith, g.scripts p a place is.0 ∙ is.1)
  attempt_note_stays (calm p a n f) is = (
    g.decisions p (a + 1) is.0,
    still_calm p a n f (b'.cell n f) refl is.0 is.1,
  )
  attempt_note_stays (calm_but p a n f q k) is = (
    g.decisions p (a + 1) is.0,
    still_calm_but p a n f q k (b'.cell n f) refl is.0 is.1,
  )

-- a step of another seat leaves the own attempt
pub attempt_stays : (id j : ℕ) (b : Board) (h : History) (b' : Board) (h' : History) (o : OwnAttempt)
    → LeavesAttempts id b h b' h' → j < 64 → j ≢ id → OwnsAttempt b h j o → OwnsAttempt b' h' j o
attempt_stays id j b h b' h' o l small ne own = record {
  number = l.numbers j ne ∙ own.number;
  resting = λ rests. l.resting j ne (own.resting rests);
  working = λ works idle. own.working works (l.working j ne idle);
  words = λ place. l.words j place ne ∙ own.words place;
  kept = λ not_own is. own.kept not_own (subst (λ (a : ℕ). h.stage (code j a) ≡ aborted withdrawn) own.number
      (l.kept j small ne (subst (λ (a : ℕ). h'.stage (code j a) ≡ aborted withdrawn) (sym own.number) is)));
}

pub attempt_notes_stay : AttemptNotesStay
attempt_notes_stay = record { notes = attempt_note_stays; owned = attempt_stays }

module _ (slots : ℕ) (b : Board) (t : Past) (w : Scripts) (h : History) (seat : ℕ) (o : OwnAttempt) (notes : List AttemptNote)
    (scripts : AreScripts slots b t w) (own : OwnsAttempt b h seat o)
    (noted : (k : AttemptNote) → Has notes k → IsTrueAttemptNote b t w k) where
  known_word : (p a place x : ℕ) → KnowsWord notes seat o p a place x → (a ≤ (b.status p).number) × (w p a place ≡ x)
  known_word p a place x knows = ⊎_elim
      (λ note. noted (listed_word p a place x) note)
      (λ mine. subst (λ (i : ℕ × ℕ). (i.1 ≤ (b.status i.0).number) × (w i.0 i.1 place ≡ x))
      (λ i. (sym mine.0 i, (own.number ∙ sym mine.1) i))
      (omega arith, sym (scripts.present seat (own.working mine.2) place) ∙ (own.words place ∙ mine.3)))
      knows

  entry_at : (p a i n : ℕ) (f : Field) → KnowsWord notes seat o p a (3 + 3 * i) (place_number n f)
      → (c : ℕ) → KnowsWord notes seat o p a 1 c → i < c
      → (x : Changed) × (get_elem? (t.attempt p a).changes i ≡ some x) × (x.node ≡ n) × (x.field ≡ f)
  entry_at p a i n f place c counted lt =
      let d : Describes slots (t.attempt p a) (w p a) = scripts.describe p a in
      let count : w p a 1 ≡ length (t.attempt p a).changes = d.changes in
      let is_c : w p a 1 ≡ c = (known_word p a 1 c counted).1 in
      let found = element_at (t.attempt p a).changes i (omega arith) in
      let x = found.0 in
      let same = one_word x.node n x.field f (sym (d.each_change i x found.1).0 ∙ (known_word p a (3 + 3 * i) (place_number n f) place).1) in
      (x, found.1, same.0, same.1)

  known_entry : (p a i n : ℕ) (f : Field) (old new : ℕ) → KnowsEntry notes seat o p a i n f old new
      → (a ≤ (b.status p).number) × Has (t.attempt p a).changes (change n f old new)
  known_entry p a i n f old new knows =
      let d : Describes slots (t.attempt p a) (w p a) = scripts.describe p a in
      let found = entry_at p a i n f knows.place knows.count knows.counted knows.below in
      let x = found.0 in let words = d.each_change i x found.1 in
      let is_old : x.old ≡ old = sym words.1 ∙ (known_word p a (4 + 3 * i) old knows.old_word).1 in
      let is_new : x.new ≡ new = sym words.2 ∙ (known_word p a (5 + 3 * i) new knows.new_word).1 in
      let same : x ≡ change n f old new = λ j. record { node = found.2 j; field = found.3 j; old = is_old j; new = is_new j } in (
        (known_word p a 1 knows.count knows.counted).0,
        (i, subst (λ (y : Changed). get_elem? (t.attempt p a).changes i ≡ some y) same found.1),
      )

  known_visit : (p a i n v : ℕ) → KnowsVisit slots notes seat o p a i n v
      → (a ≤ (b.status p).number) × (get_elem? (t.attempt p a).visits i ≡ some (record { node = n; version = v }))
  known_visit p a i n v knows =
      let d : Describes slots (t.attempt p a) (w p a) = scripts.describe p a in
      let count : w p a 2 ≡ length (t.attempt p a).visits = d.visits in
      let known_count = known_word p a 2 knows.count knows.counted in
      let is_c : w p a 2 ≡ knows.count = known_count.1 in
      let below : i < knows.count = knows.below in
      let found = element_at (t.attempt p a).visits i (omega arith) in
      let x = found.0 in let words = d.each_visit i x found.1 in
      let is_node : x.node ≡ n = sym words.0 ∙ (known_word p a (visits_begin slots + 2 * i) n knows.node_word).1 in
      let is_version : x.version ≡ v = sym words.1
      ∙ (known_word p a (visits_begin slots + (1 + 2 * i)) v knows.version_word).1 in
      let same : x ≡ record { node = n; version = v } = λ j. record { node = is_node j; version = is_version j } in
      (known_count.0, subst (λ (y : Visited). get_elem? (t.attempt p a).visits i ≡ some y) same found.1)

  known_places : (p a : ℕ) (k : KnowsPlaces notes seat o p a) (x : Changed) → Has (t.attempt p a).changes x
      → (i : ℕ) × (below : i < k.count) × ((k.each i below).0 ≡ x.node) × ((k.each i below).1 ≡ x.field)
  known_places p a k x has =
      let d : Describes slots (t.attempt p a) (w p a) = scripts.describe p a in
      let i = has.0 in
      let in_list : i < length (t.attempt p a).changes = below_length (t.attempt p a).changes i x has.1 in
      let count : w p a 1 ≡ length (t.attempt p a).changes = d.changes in
      let is_c : w p a 1 ≡ k.count = (known_word p a 1 k.count k.counted).1 in
      let below : i < k.count = omega arith in
      let e = k.each i below in
      let same = one_word x.node e.0 x.field e.1 (sym (d.each_change i x has.1).0
      ∙ (known_word p a (3 + 3 * i) (place_number e.0 e.1) e.2).1) in
      (i, below, sym same.0, sym same.1)

  -- what is known of the word of each entry is so of each word of the attempt
  pub known_each : (p a : ℕ) (P : ℕ → Field → Type 0) (k : KnowsPlaces notes seat o p a)
      → ((i : ℕ) (below : i < k.count) → P (k.each i below).0 (k.each i below).1) → (x : Changed)
      → Has (t.attempt p a).changes x
      → P x.node x.field
  known_each p a P k each x has = let at = known_places p a k x has in
      subst (λ (j : ℕ × Field). P j.0 j.1) (λ j. (at.2 j, at.3 j)) (each at.0 at.1)

  pub attempts_are_known : AttemptsAreKnown slots b t w h seat o notes
  attempts_are_known = record {
    word = known_word;
    entry = known_entry;
    visit = known_visit;
    visits = λ p a c counted. sym (scripts.describe p a).visits ∙ (known_word p a 2 c counted).1;
    places = known_places;
    settles = λ p place x loaded busy. (
      omega arith,
      sym (scripts.present p busy place) ∙ loaded.1 refl busy,
    );
  }
