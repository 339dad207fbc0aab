-- What becomes of an install that is taken away, and of its word. Only an install that is known to be early becomes the
-- reference, and only one whose exchange is known to be decided the old value.
use Rattle.std.proofs.Common.{◌≡◌, ◌≢◌, ℕ, ◌+◌, ◌*◌, ◌<◌, ◌≤◌, ◌⊎◌, inl, inr, ⊎_elim, true, List, refl, sym, ap₂, ◌∙◌, subst, arith}
use mathlib.Core.Logic.{dite}
use native.Mathlib.Decide.{ℕ_discrete}
use Rattle.pc_model.specs.declared.cell.Field.{Field}
use Rattle.pc_model.specs.Cells.{Cells, IsNode}
use Rattle.pc_words.specs.declared.word.WordKind.{WordKind}
use Rattle.pc_words.specs.declared.word.WordKind.TheVariants.{Plain, Install, Exchange}
use Rattle.pc_words.specs.Words.{raw, InRange}
use Rattle.pc_rule_law.specs.Board.{Size, Board, put2, put_cell, place_number}
use Rattle.pc_rule_law.specs.Past.{Has, Past, change}
use Rattle.pc_rule_law.specs.Stages.{IsUnmade, IsUndecided, DecidedBelow}
use Rattle.pc_rule_law.specs.Views.{Note, install_word, View, IsClean, NoteHolds, IsAttempt, with_notes}
use Rattle.pc_rule_law.specs.Rule.{Standing, Holding, CellOk, Placed, Own, Shared}
use Rattle.pc_rule_law.proofs.Places.{one_word}
use Rattle.pc_rule_law.proofs.Updates.{put2-else, at_put2}
use Rattle.pc_rule_law.proofs.Stages.{undecided_or_decided, decided_not_undecided, unmade_not_idle, unmade_value}
use Rattle.pc_rule_law.proofs.WordKinds.{plain_not_exchange, install_not_exchange, install_seat, install_number, seat_of, number_of}
use Rattle.pc_rule_law.proofs.WordMoves.{WordMoves, IsKept, IsEnded, IsBegun}

-- what is known of the install that is taken: it was placed in this word for this exchange, and is early where the
-- new word is the reference, or else its exchange is decided and the new word is its old value
pub record Known (z : Size) (b : Board) (h : Past) (q k n : ℕ) (f : Field) (c : WordKind) (p a : ℕ) : Type 0 where
  pub attempt : IsAttempt z p a
  pub has : 1 ≤ h.course q k
  pub seat : (h.placing q k).seat ≡ p
  pub number : (h.placing q k).number ≡ a
  pub at_node : (h.placing q k).node ≡ n
  pub at_field : (h.placing q k).field ≡ f
  pub becomes : ((c ≡ Exchange p a) × ((h.placing q k).early ≡ true))
      ⊎ ((c ≡ Plain (h.placing q k).old) × DecidedBelow b.status p (a + 1))

module _ (sound : ℕ → Cells → Cells → Type 0) (z : Size) (b : Board) (h : Past) (few : z.seats ≤ 32)
    (s : Shared sound z b h) where
  -- from the words of its descriptor
  pub named_in : (q k n : ℕ) (f : Field) (p a : ℕ) → NoteHolds z b h (install_word q k 1 (raw (Exchange p a)))
      → NoteHolds z b h (install_word q k 2 (place_number n f)) → p < 256
      → (1 ≤ h.course q k) × ((h.placing q k).seat ≡ p) × ((h.placing q k).number ≡ a) × ((h.placing q k).node ≡ n)
      × ((h.placing q k).field ≡ f)
  named_in q k n f p a op place small = let y = s.installs q k op.0.0 in let x = h.placing q k in
      let low : x.seat < z.seats = y.seat in
      let is : (2 + 4 * x.seat) + 1024 * x.number ≡ (2 + 4 * p) + 1024 * a = op.0.1 in
      let w = one_word x.node n x.field f place.0.1 in
      (op.0.0, omega arith, omega arith, w.0, w.1)

  module _ (id : ℕ) (v : View) (own : Own z b.install h.course id v) (q k n : ℕ) (f : Field) (c : WordKind) (p a : ℕ)
      (kn : Known z b h q k n f c p a) (in_n : IsNode z.slots n) where
    abbrev pub course' : ℕ → ℕ → ℕ
    course' = put2 h.course q k 2

    -- an install that was placed in the word and isn't found there was taken away
    pub gone_if : b.cell n f ≢ Install q k → 2 ≤ h.course q k
    gone_if ne = let y = s.installs q k kn.has in let few_courses : h.course q k ≤ 2 = y.ended in
        let some_course : 1 ≤ h.course q k = kn.has in
        dite (ℕ_discrete (h.course q k) 1)
        (λ one. absurd (ne (sym (ap₂ b.cell kn.at_node kn.at_field) ∙ y.there one))) (λ more. omega arith)

    -- where the word holds neither it nor the reference, the exchange is decided
    pub decided_if : b.cell n f ≢ Install q k → b.cell n f ≢ Exchange p a → DecidedBelow b.status p (a + 1)
    decided_if ne other = let y = s.installs q k kn.has in let few_courses : h.course q k ≤ 2 = y.ended in
        let two : h.course q k ≡ 2 = let g : 2 ≤ h.course q k = gone_if ne in omega arith in
        let published : a ≤ (b.status p).number = subst (λ (i : ℕ × ℕ). i.1 ≤ (b.status i.0).number)
        (λ j. (kn.seat j, kn.number j)) y.published in
        ⊎_elim (λ u. absurd (other (sym (ap₂ b.cell kn.at_node kn.at_field)
        ∙ (y.won two (subst (λ (i : ℕ × ℕ). IsUndecided b.status i.0 i.1)
        (λ j. (sym kn.seat j, sym kn.number j)) u) ∙ ap₂ Exchange kn.seat kn.number))))
        (λ d. d) (undecided_or_decided b.status p a published)

    module _ (is : b.cell n f ≡ Install q k) where
      stands : Standing h.placing h.course (h.plain n f) n f q k
      stands = subst (CellOk z.seats b.status h.attempt h.placing h.course (h.plain n f) n f) is (s.each_cell n f)

      -- the reference is right where the install is early: its exchange isn't cleared and hasn't succeeded
      holds_reference : (h.placing q k).early ≡ true → Holding z.seats b.status h.attempt (h.plain n f) n f p a
      holds_reference e = let y = s.installs q k kn.has in let x = h.placing q k in
          let alive : ((b.status p).number ≡ a)
          × IsUnmade (b.status p).stage = subst
          (λ (i : ℕ × ℕ). ((b.status i.0).number ≡ i.1) × IsUnmade (b.status i.0).stage)
          (λ j. (kn.seat j, kn.number j)) (y.alive stands.stands e) in
          let l = y.listed in record {
            owner = kn.attempt.0;
            present = alive.0;
            uncleared = unmade_not_idle (b.status p).stage alive.1;
            listed = (
              x.old,
              l.0,
              subst (λ (i : (ℕ × ℕ) × (ℕ × Field)). Has (h.attempt i.0.0 i.0.1).changes
                  (change i.1.0 i.1.1 x.old l.0))
                  (λ j. ((kn.seat j, kn.number j), (kn.at_node j, kn.at_field j))) l.1,
              unmade_value (b.status p).stage x.old l.0 alive.1 ∙ stands.old,
              λ _. let o : x.old ≡ h.plain n f = stands.old in omega arith,
            );
          }

      here : CellOk z.seats b.status h.attempt h.placing course' (h.plain n f) n f c
      here = ⊎_elim (λ e. subst (CellOk z.seats b.status h.attempt h.placing course' (h.plain n f) n f) (sym e.0)
          (holds_reference e.1))
          (λ d. subst (CellOk z.seats b.status h.attempt h.placing course' (h.plain n f) n f)
          (sym d.0) stands.old) kn.becomes

      in_range : InRange c
      in_range = let y = s.installs q k kn.has in ⊎_elim
          (λ e. subst InRange (sym e.0) ((let lt = kn.attempt.0 in omega arith), kn.attempt.1))
          (λ d. subst InRange (sym d.0) y.small.2) kn.becomes

      each : (r i : ℕ) → IsKept z b h id n f c h.placing course' r i
          ⊎ (IsEnded z b h id n f c h.placing course' r i ⊎ IsBegun z b h id n f c h.placing course' r i)
      each r i = at_put2 h.course q k 2
          (λ t j u. ((u ≡ h.course t j) × (h.placing t j ≡ h.placing t j)
          × (h.course t j ≡ 1 → b.cell n f ≢ Install t j))
          ⊎ (((h.course t j ≡ 1) × (u ≡ 2) × (h.placing t j ≡ h.placing t j) × (b.cell n f ≡ Install t j)
          × (IsUndecided b.status (h.placing t j).seat (h.placing t j).number
          → c ≡ Exchange (h.placing t j).seat (h.placing t j).number))
          ⊎ ((h.course t j ≡ 0) × (t ≡ id)
          × Placed z b.status (put_cell b.cell n f c) b.install h.attempt u t j (h.placing t j)
          × ((h.placing t j).early ≡ true
          → IsUndecided b.status (h.placing t j).seat (h.placing t j).number)))) r i
          (inr (inl (stands.stands, refl, refl, is, becomes_reference)))
          (λ ne. inl (
            refl,
            refl,
            λ _ there. ne (install_seat r i q k (sym there ∙ is))
                (install_number r i q k (sym there ∙ is)),
          ))
        where
          becomes_reference : IsUndecided b.status (h.placing q k).seat (h.placing q k).number
              → c ≡ Exchange (h.placing q k).seat (h.placing q k).number
          becomes_reference u = ⊎_elim (λ e. e.0 ∙ ap₂ Exchange (sym kn.seat) (sym kn.number))
              (λ d. absurd (decided_not_undecided b.status p a (a + 1) d.1 (omega arith)
              (subst (λ (i : ℕ × ℕ). IsUndecided b.status i.0 i.1) (λ j. (kn.seat j, kn.number j)) u))) kn.becomes

      -- the word wasn't clean of the reference that comes into it
      not_clean : (r i : ℕ) → c ≡ Exchange r i → DecidedBelow b.status r (i + 1)
          → IsClean h.placing r i (b.cell n f) → ⊥
      not_clean r i e _ clean = ⊎_elim
          (λ reference. let same : Exchange p a ≡ Exchange r i = sym reference.0 ∙ e in
          subst (IsClean h.placing r i) is clean (kn.seat ∙ seat_of p a r i same)
          (kn.number ∙ number_of p a r i same) reference.1)
          (λ old. plain_not_exchange (h.placing q k).old r i (sym old.0 ∙ e)) kn.becomes

      pub moves : WordMoves z b h id n f c h.placing course'
      moves = record {
        in_range = in_range;
        here = here;
        each = each;
        decided = λ r i there. absurd (install_not_exchange q k r i (sym is ∙ there));
        unclean = not_clean;
      }

      pub own_after : (more : List Note) → Own z b.install course' id (with_notes v more)
      own_after more = record {
        sized = own.sized;
        seated = own.seated;
        known = own.known;
        ahead = λ j lt. stays_none j (own.ahead j lt);
        unplaced = λ new. stays_none v.install.number (own.unplaced new);
      }
        where
          stays_none : (j : ℕ) → h.course id j ≡ 0 → course' id j ≡ 0
          stays_none j none' = put2-else h.course q k id j 2
              (λ e d. let one : h.course id j ≡ 1 = ap₂ h.course e d ∙ stands.stands in absurd (omega arith)) ∙ none'
