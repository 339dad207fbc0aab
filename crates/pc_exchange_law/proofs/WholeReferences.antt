-- A number in place of a reference under the whole rule: then the word is clean of the reference's attempt.
use Rattle.std.proofs.Common.{Bool, ◌≡◌, ◌≢◌, ℕ, eqb, ◌+◌, ◌<◌, ◌≤◌, true, List, ◌∷◌, ◌++◌, None, refl, sym, ap, ◌∙◌, subst, arith}
use mathlib.Core.Option.{some, none}
use lib.ListN.{get_elem?}
use prog.Atomic.{either}
use Rattle.atomic_table.specs.Table.{step, Allows}
use Rattle.pc_model.specs.declared.cell.Field.{Field}
use Rattle.pc_model.specs.Forms.{Form}
use Rattle.pc_words.specs.declared.word.WordKind.{WordKind}
use Rattle.pc_words.specs.declared.word.WordKind.TheVariants.{Plain, Exchange}
use Rattle.pc_words.specs.Words.{raw, kind, InRange}
use Rattle.pc_words.proofs.Words.{raw_injective, kind_raw, raw_is_word}
use Rattle.pc_rule_law.specs.Board.{Size, Board, at_cell, address, Inside}
use Rattle.pc_rule_law.specs.Past.{Has, Past, change}
use Rattle.pc_protocol.specs.Histories.{History, IsUsed}
use Rattle.pc_protocol.proofs.Stages.{used_not_spare}
use Rattle.pc_rule_law.specs.Plays.{SameSeat, found}
use Rattle.pc_rule_law.specs.Rule.{CellOk}
use Rattle.pc_rule_law.specs.Stages.{DecidedBelow}
use Rattle.pc_rule_law.specs.Views.{Note, clean, IsClean, IsAttempt, NoteHolds, AllNotes, with_notes}
use Rattle.pc_rule_law.proofs.Frames.{only_cell}
use Rattle.pc_rule_law.proofs.Learning.{later_more}
use Rattle.pc_rule_law.proofs.Lists.{all_more, has_first, has_later}
use Rattle.pc_rule_law.proofs.Looks.{found_holds}
use Rattle.pc_rule_law.proofs.Updates.{put_cell-here}
use Rattle.pc_rule_law.proofs.WordKinds.{seat_of, number_of}
use Rattle.pc_protocol.specs.Notes.{verdict}
use Rattle.pc_protocol.specs.Steps.{refer}
use Rattle.pc_exchange_law.specs.Changes.{with_word}
use Rattle.pc_exchange_law.specs.ExchangeConditions.{MayTakeReference}
use Rattle.pc_exchange_law.specs.Knowing.{WordSeen}
use Rattle.pc_exchange_law.specs.Ties.{code, CellsAreSound}
use Rattle.pc_exchange_law.specs.Wholes.{Whole, WholeKept, WholeHolds}
use Rattle.pc_exchange_law.specs.WholePlays.{WholeMine, IsFoundCalm, CellSeen, ReferenceTaken, TookReference}
use Rattle.pc_exchange_law.specs.WholeSteps.{whole_takes_reference}
use Rattle.pc_exchange_law.proofs.Calms.{calms_serve}
use Rattle.pc_exchange_law.proofs.ExchangeSteps.{take_step}
use Rattle.pc_exchange_law.proofs.Knowing.{decided_on_board}
use Rattle.pc_exchange_law.proofs.WholeCells.{found_calm, clean_note, cell_looks_on}
use Rattle.pc_exchange_law.specs.Attempts.{OwnAttempt, OwnsAttempt}
use Rattle.pc_exchange_law.specs.OwnSlots.{OwnSlots, OwnsSlots}
use Rattle.pc_exchange_law.proofs.AttemptNotes.{attempts_are_known}
use Rattle.pc_exchange_law.proofs.Slots.{entry_used}
use Rattle.pc_exchange_law.proofs.WholeKeeping.{owned_here, steps_here, mine, own_here, known_here, path_here, path_kept, whole_goes}
use Rattle.pc_exchange_law.proofs.WholeLooks.{plain_there}
use Rattle.pc_exchange_law.proofs.WholeSteps.{WholeHits, WholeMisses, whole_swapped}
use Rattle.pc_exchange_law.proofs.WordsSeen.{loads_tell_passes}

-- a step that hits doesn't miss
never_missed : (x : Whole) (n : ℕ) (f : Field) (old r : ℕ) (y : Whole) → r ≡ old → r ≢ old → CellSeen x n f r y
never_missed x n f old r y hit ne = absurd (ne hit)

module _ (form : Form) (z : Size) where
  -- the word of a reference tells the attempt
  one_reference : (p a q e : ℕ) → IsAttempt z p a → z.seats ≤ 32 → kind (raw (Exchange p a)) ≡ Exchange q e → (p ≡ q) × (a ≡ e)
  one_reference p a q e attempt few is = let lt = attempt.0 in
      let one : Exchange p a ≡ Exchange q e = sym (kind_raw (Exchange p a) ((let below : p < 256 = omega arith in below), attempt.1)) ∙ is in
      (seat_of p a q e one, number_of p a q e one)

  -- the word is of a node in use
  taken_used : (id : ℕ) (x : Whole) (n : ℕ) (f : Field) (p a v : ℕ) → x.view.live ≡ true → (b : Board) (t : Past) (h : History)
      (late : ℕ → Bool) (views : List Whole) → WholeKept form z b t h late views → get_elem? views id ≡ some x → p < 64
      → MayTakeReference x.view x.knows p a n f v → IsUsed (h.slot n)
  taken_used id x n f p a v live b t h late views k at small may =
      let known = known_here form z b t h late views k id x at live in
      let own = own_here form z b t h late views k id x at live in
      let entry = (attempts_are_known z.slots b t t.words h x.view.seat x.knows.own x.knows.noted k.world.scripts
      (subst (λ (i : ℕ). OwnsAttempt b h i x.knows.own) (sym own.seated.0) known.own) known.noted).entry p a may.entry n f may.old
      may.new may.known in
      entry_used b t h k.world.tied k.world.slots.changed p a (change n f may.old may.new) small entry.0 entry.1

  reference_hits : (id : ℕ) (x : Whole) (n : ℕ) (f : Field) (p a v : ℕ) → x.view.live ≡ true → IsAttempt z p a
      → MayTakeReference x.view x.knows p a n f v → Inside z (at_cell n f)
      → WholeHits form z id x (at_cell n f) (raw (Exchange p a)) (raw (Plain v))
      (λ r y. SameSeat x.view y.view × ReferenceTaken x n f (raw (Exchange p a)) (raw (Plain v)) r y)
  reference_hits id x n f p a v live attempt may in_p b t h late views k at hit =
      let few : z.seats ≤ 32 = k.kept.few in let lt = attempt.0 in let small : p < 64 = omega arith in
      let s = k.kept.shared in let own = own_here form z b t h late views k id x at live in
      let known = known_here form z b t h late views k id x at live in
      let is : b.cell n f ≡ Exchange p a = raw_injective (b.cell n f) (Exchange p a) (s.ranges n f)
      ((let below : p < 256 = omega arith in below), attempt.1) hit in
      let step = take_step form z few id b t t.words h late s k.world x.view own
      (mine form z b t h late views k id x at live).noted x.knows known (owned_here form z b t h late views k id x at live) p a n f v is small may in
      let b' : Board = with_word b n f (Plain v) in let h' = refer h n f None in
      let is_used = taken_used id x n f p a v live b t h late views k at small may in
      let here : b'.cell n f ≡ Plain v = put_cell-here b.cell n f (Plain v) in
      let in_range : InRange (Plain v) = subst InRange here (step.0.shared.ranges n f) in
      let learnt = (loads_tell_passes z.slots z.seats b' t t.words h' late id x.knows step.0.world.scripts step.0.world.rule
      step.0.world.tied step.0.world.clock step.1).word n f (used_not_spare (h'.slot n) is_used) (plain_there form z b' t step.0.shared n f) in
      let decided : DecidedBelow b'.status p (a + 1) = decided_on_board b t h k.world.tied p a may.stage small
      (known.told (verdict (code p a) may.stage) may.decided) in
      let more : List Note = clean p a n f ∷ found n f (Plain v) in
      let good : AllNotes (NoteHolds z b' t) more = all_more (NoteHolds z b' t) (clean p a n f) (found n f (Plain v))
      ((decided, subst (IsClean t.placing p a) (sym here) tt), (attempt, in_p))
      (found_holds (CellsAreSound form) z b' t step.0.shared n f (Plain v) here in_p in_range
      (subst (CellOk z.seats b'.status t.attempt t.placing t.course (t.plain n f) n f) here (step.0.shared.each_cell n f))) in
      let y : Whole = record x { view = with_notes x.view more; knows = learnt.0 } in
      let back : kind (raw (Plain v)) ≡ Plain v = kind_raw (Plain v) in_range in record {
        view = y;
        board = b';
        past = t;
        history = h';
        late = late;
        only = only_cell b n f (Plain v);
        is = ap raw here;
        kept = whole_goes form z b t h late views k id x at live b' t h' late y more (step.0, learnt.2)
            (subst (λ (i : OwnAttempt × OwnSlots). OwnsSlots z h' id i.0 i.1) (λ i. (sym learnt.1.learns.own i, sym learnt.1.learns.slots i))
            ((steps_here form z b t h late views k id x at live).takes p a n f v is small may).owned) (refl, refl, refl, refl) refl refl
            (record { sized = own.sized; seated = own.seated; known = own.known; ahead = own.ahead; unplaced = own.unplaced })
            (λ no. let was = (mine form z b t h late views k id x at live).tries live no in (
              was.0,
              record { number = was.1.number; resting = was.1.resting; running = was.1.running; words = was.1.words },
            ))
            good (path_kept form z b t h late views k id x at live h' step.0.keeps step.0.unread);
        told = (
          (refl, refl, refl, refl, refl),
          record {
            word = raw_is_word (b.cell n f) (s.ranges n f);
            later = later_more x.view more;
            aim = refl;
            path = refl;
            cleaned = λ _ q e is_it. let one = one_reference p a q e attempt few is_it in
                subst (λ (i : ℕ × ℕ). Has y.view.notes (clean i.0 i.1 n f)) (λ j. (one.0 j, one.1 j))
                (has_first (clean p a n f) (found n f (Plain v) ++ x.view.notes));
            becomes = λ _ m has. (
              more,
              refl,
              has_later (clean p a n f) (found n f (Plain v)) m (subst (λ (w : WordKind). Has (found n f w) m) back has),
            );
            learnt = λ _. subst (λ (w : WordKind). WordSeen x.knows n f w learnt.0) (here ∙ sym back) learnt.1;
            miss = never_missed x n f (raw (Exchange p a)) (raw (b.cell n f)) y hit;
            missed_clean = λ ne. absurd (ne hit);
          },
        );
      }

  -- where the step misses, it is a look; and the word is noted to be clean of the attempt, where it is
  reference_misses : (id : ℕ) (x : Whole) (n : ℕ) (f : Field) (p a v : ℕ) → x.view.live ≡ true → IsAttempt z p a
      → MayTakeReference x.view x.knows p a n f v → Inside z (at_cell n f)
      → WholeMisses form z id x (at_cell n f) (raw (Exchange p a))
      (λ r y. SameSeat x.view y.view × ReferenceTaken x n f (raw (Exchange p a)) (raw (Plain v)) r y)
  reference_misses id x n f p a v live attempt may in_p b t h late views k at miss =
      let few : z.seats ≤ 32 = k.kept.few in let lt = attempt.0 in let small : p < 64 = omega arith in
      let known = known_here form z b t h late views k id x at live in
      let decided : DecidedBelow b.status p (a + 1) = decided_on_board b t h k.world.tied p a may.stage small
      (known.told (verdict (code p a) may.stage) may.decided) in
      let cleans = clean_note form z b t p a n f decided attempt in_p in
      let is_used = taken_used id x n f p a v live b t h late views k at small may in
      let g = cell_looks_on form z id x n f live in_p b t h late views k at is_used cleans.0 cleans.1 x.path (path_here form z b t h late views k id x at live) in
      let same : kind (raw (b.cell n f)) ≡ b.cell n f = kind_raw (b.cell n f) (k.kept.shared.ranges n f) in
      let other : b.cell n f ≢ Exchange p a = λ e. miss (ap raw e) in
      let truly : IsFoundCalm x.knows p a n f (kind (raw (b.cell n f))) → Has g.0.view.notes (clean p a n f) = λ calmed.
      let calm_now = found_calm b t h late id x.knows k.world.tied known p a n f small (subst (IsFoundCalm x.knows p a n f) same calmed) in
      g.2.2 (clean p a n f) (cleans.2 ((calms_serve b t t.words p a n f).clean calm_now other)) in (
        g.0,
        g.1,
        (
          g.2.0,
          record {
            word = g.2.1.word;
            later = g.2.1.later;
            aim = g.2.1.aim;
            path = g.2.3;
            cleaned = λ e. absurd (miss e);
            becomes = λ e. absurd (miss e);
            learnt = λ e. absurd (miss e);
            miss = λ _. g.2.1;
            missed_clean = λ _ q e is_it calmed. let one = one_reference p a q e attempt few is_it in
                subst (λ (i : ℕ × ℕ). Has g.0.view.notes (clean i.0 i.1 n f)) (λ j. (one.0 j, one.1 j))
                (truly (subst (λ (i : ℕ × ℕ). IsFoundCalm x.knows i.0 i.1 n f (kind (raw (b.cell n f))))
                (λ j. (sym one.0 j, sym one.1 j)) calmed));
          },
        ),
      )

  -- the number v in place of the reference to attempt a of pass p in a word of node n
  pub whole_take_reference : (slots id : ℕ) (me : WholeMine) (n : ℕ) (f : Field) (p a v : ℕ) → me.0.view.size ≡ z
      → me.0.view.live ≡ true → IsAttempt z p a → MayTakeReference me.0.view me.0.knows p a n f v → Inside z (at_cell n f)
      → let old : ℕ = raw (Exchange p a) in let new : ℕ = raw (Plain v) in
      Allows (WholeHolds form z) slots id me (address z (at_cell n f)) (λ i. either (eqb i old) new i)
      (whole_takes_reference (step slots (address z (at_cell n f)) old new none) me)
  whole_take_reference slots id me n f p a v sized live attempt may in_p = whole_swapped form z slots id me (at_cell n f)
      (raw (Exchange p a)) (raw (Plain v)) (TookReference me.0 (raw (Exchange p a)) (raw (Plain v))) in_p sized
      (reference_hits id me.0 n f p a v live attempt may in_p)
      (reference_misses id me.0 n f p a v live attempt may in_p)
