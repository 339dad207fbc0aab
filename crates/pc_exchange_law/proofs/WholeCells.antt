-- A load of a word of a node under the whole rule. Where what the pass knows shows that the word is clean of its own
-- attempt, that is noted too.
use Rattle.std.proofs.Common.{◌≡◌, ◌≢◌, ℕ, ◌^◌, ◌<◌, ◌≤◌, ◌⊎◌, inl, inr, ⊎_elim, Bool, true, false, List, [], ◌∷◌, ◌++◌, ◌+◌, set, refl, sym, ap, ◌∙◌, subst, arith}
use Rattle.std.proofs.lemmas.Bool.{cases_eq}
use mathlib.Core.Option.{some, none}
use lib.ListN.{get_elem?}
use Rattle.atomic_table.specs.Table.{step, Allows}
use Rattle.pc_model.specs.declared.cell.Field.{Field}
use Rattle.pc_model.specs.Cells.{IsNode}
use Rattle.pc_model.specs.Forms.{Form}
use Rattle.pc_words.specs.declared.word.WordKind.{WordKind}
use Rattle.pc_words.specs.declared.word.WordKind.TheVariants.{Plain, Install, Exchange}
use Rattle.pc_words.specs.Words.{raw, kind}
use Rattle.pc_words.proofs.Words.{kind_raw, raw_is_word}
use Rattle.pc_rule_law.specs.Board.{Size, Board, at_cell, address, Inside}
use Rattle.pc_rule_law.specs.Past.{Has, Placing, Past}
use Rattle.pc_rule_law.specs.Plays.{SameSeat, found}
use Rattle.pc_rule_law.specs.Stages.{IsOpen, DecidedBelow}
use Rattle.pc_rule_law.specs.Views.{Note, clean, IsClean, IsAttempt, NoteHolds, AllNotes, with_notes}
use Rattle.pc_rule_law.proofs.InstallPlacing.{not_removed, none_own, not_clean}
use Rattle.pc_rule_law.proofs.Keeping.{noted_more}
use Rattle.pc_rule_law.proofs.Learning.{later_more}
use Rattle.pc_rule_law.proofs.Lists.{has_first, has_left, has_right, all_both, all_none, all_one}
use Rattle.pc_rule_law.proofs.Looks.{found_holds}
use Rattle.pc_rule_law.proofs.Stages.{open_or_not}
use Rattle.pc_protocol.specs.Histories.{History, IsUsed}
use Rattle.pc_protocol.specs.Notes.{Note as RunNote, visited, verdict, in_use, IsTrueNote}
use Rattle.pc_exchange_law.specs.Attempts.{IsCalm, calm, calm_but, IsTrueAttemptNote}
use Rattle.pc_exchange_law.specs.Knowing.{with_more}
use Rattle.pc_exchange_law.specs.Passes.{PassKnows, IsKnown}
use Rattle.pc_exchange_law.specs.Paths.{Path, IsPathOf}
use Rattle.pc_exchange_law.specs.Slots.{IsHeld}
use Rattle.pc_exchange_law.specs.Ties.{code, IsTied, CellsAreSound}
use Rattle.pc_exchange_law.specs.Wholes.{Whole, views_of, WholeKept, WholeHolds}
use Rattle.pc_exchange_law.specs.WholePlays.{WholeMine, IsFoundCalm, CellSeen, SeesCell}
use Rattle.pc_exchange_law.specs.WholeSteps.{whole_loads_cell}
use Rattle.pc_exchange_law.proofs.Calms.{calms_serve}
use Rattle.pc_exchange_law.proofs.ExchangeSteps.{true_or_false}
use Rattle.pc_exchange_law.proofs.Knowing.{decided_on_board, more_known, more_learns}
use Rattle.pc_exchange_law.proofs.Slots.{held_is_used}
use Rattle.pc_exchange_law.proofs.WholeFound.{not_cleared, version_rises, visit_rises, sentinel_even, leads_by, leads_has, leads_true}
use Rattle.pc_exchange_law.proofs.WholeKeeping.{at_view, own_here, known_here, path_here, whole_looked}
use Rattle.pc_exchange_law.proofs.WholeLooks.{word_seen}
use Rattle.pc_exchange_law.proofs.WholeSteps.{WholeLooks, whole_looked_at}
use Rattle.pc_exchange_law.proofs.WordsSeen.{seen_still}

-- whether a word is clean of an attempt can be told
clean_or_not : (placing : ℕ → ℕ → Placing) (p a : ℕ) (c : WordKind) → IsClean placing p a c ⊎ (IsClean placing p a c → ⊥)
clean_or_not placing p a (Plain x) = inl tt
clean_or_not placing p a (Install q k) = ⊎_elim
    (λ seat. ⊎_elim
    (λ number. ⊎_elim (λ early. inr (λ is. is seat number early))
    (λ late. inl (λ _ _ early. absurd (let clash : false ≡ true = sym late ∙ early in cc)))
    (true_or_false (placing q k).early))
    (λ other. inl (λ _ number. absurd (other number)))
    (cases_eq (placing q k).number a))
    (λ other. inl (λ seat. absurd (other seat)))
    (cases_eq (placing q k).seat p)
clean_or_not placing p a (Exchange q b) = ⊎_elim
    (λ seat. ⊎_elim (λ number. inr (λ is. is seat number)) (λ other. inl (λ _. other)) (cases_eq b a))
    (λ other. inl (λ seat. absurd (other seat)))
    (cases_eq q p)

-- a word that holds no install is calm
calm_alone : (placing : ℕ → ℕ → Placing) (p a : ℕ) (c : WordKind) → ((q i : ℕ) → c ≢ Install q i) → IsCalm placing p a c
calm_alone placing p a (Plain x) none' = tt
calm_alone placing p a (Install q k) none' = absurd (none' q k refl)
calm_alone placing p a (Exchange q b) none' = tt

-- what is found to be calm is so
pub found_calm : (b : Board) (t : Past) (h : History) (late : ℕ → Bool) (id : ℕ) (k : PassKnows) → IsTied b t h
    → IsKnown b t t.words h late id k → (p a n : ℕ) (f : Field) → p < 64 → IsFoundCalm k p a n f (b.cell n f)
    → IsTrueAttemptNote b t t.words (calm p a n f)
found_calm b t h late id k tied known p a n f small calmed = ⊎_elim
    (λ has. known.noted (calm p a n f) has)
    (λ other. ⊎_elim
    (λ but. (calms_serve b t t.words p a n f).gone but.0 but.1 (known.noted (calm_but p a n f but.0 but.1) but.2) but.3)
    (λ alone. (
      decided_on_board b t h tied p a alone.0 small (known.told (verdict (code p a) alone.0) alone.1),
      calm_alone t.placing p a (b.cell n f) alone.2,
    ))
    other) calmed

module _ (form : Form) (z : Size) where
  -- the note that this word is clean of an attempt that is decided, where it is
  pub clean_note : (b : Board) (t : Past) (p a n : ℕ) (f : Field) → DecidedBelow b.status p (a + 1) → IsAttempt z p a
      → IsNode z.slots n
      → (more : List Note) × AllNotes (NoteHolds z b t) more × (IsClean t.placing p a (b.cell n f) → Has more (clean p a n f))
  clean_note b t p a n f decided attempt in_n = ⊎_elim
      (λ is. (
        clean p a n f ∷ [],
        all_one (NoteHolds z b t) (clean p a n f) ((decided, is), (attempt, in_n)),
        λ _. has_first (clean p a n f) [],
      ))
      (λ no. ([], all_none (NoteHolds z b t), λ is. absurd (no is)))
      (clean_or_not t.placing p a (b.cell n f))

  -- the same of the present attempt of a pass, if it is decided
  clean_notes : (b : Board) (t : Past) (p a n : ℕ) (f : Field) → p < z.seats → (b.status p).number ≡ a → a < 2 ^ 28
      → IsNode z.slots n
      → (more : List Note) × AllNotes (NoteHolds z b t) more
      × ((IsOpen (b.status p).stage → ⊥) → IsClean t.placing p a (b.cell n f) → Has more (clean p a n f))
  clean_notes b t p a n f lt same small in_n = ⊎_elim
      (λ pending. ([], all_none (NoteHolds z b t), λ closed. absurd (closed pending)))
      (λ closed. let one = clean_note b t p a n f ((let e = same in omega arith), λ _ pending. closed pending) (lt, small) in_n in
      (one.0, one.1, λ _ is. one.2 is))
      (open_or_not (b.status p).stage)

  -- a look at a word of a node, with some notes more of both kinds, which are true, and with a path that is so
  pub cell_looks_more : (id : ℕ) (x : Whole) (n : ℕ) (f : Field) → x.view.live ≡ true → Inside z (at_cell n f) → (b : Board)
      (t : Past) (h : History) (late : ℕ → Bool) (views : List Whole) → WholeKept form z b t h late views
      → get_elem? views id ≡ some x → IsUsed (h.slot n) → (extra : List Note) → AllNotes (NoteHolds z b t) extra
      → (told : List RunNote) → ((m : RunNote) → Has told m → IsTrueNote h m)
      → (p : Path) → IsPathOf h id p
      → (y : Whole) × WholeKept form z b t h late (set views id y)
      × (SameSeat x.view y.view × CellSeen x n f (raw (b.cell n f)) y × ((m : Note) → Has extra m → Has y.view.notes m)
      × (y.path ≡ p) × ((m : RunNote) → Has told m → Has y.knows.told m))
  cell_looks_more id x n f live in_p b t h late views k at is_used extra true_ones told_too truly_told p path =
      let s = k.kept.shared in let w : WordKind = b.cell n f in let in_range = s.ranges n f in
      let own = own_here form z b t h late views k id x at live in
      let known = known_here form z b t h late views k id x at live in
      let seat : x.view.seat ≡ id = own.seated.0 in let a : ℕ = x.knows.own.number in
      let few : z.seats ≤ 32 = k.kept.few in
      let number : (b.status id).number ≡ a = known.own.number in
      let here : (b.status x.view.seat).number ≡ a = ap (λ (i : ℕ). (b.status i).number) seat ∙ number in
      let small : a < 2 ^ 28 = let low : (b.status id).number < 2 ^ 28 = (s.statuses id).0 in omega arith in
      let mine_below : x.view.seat < z.seats = let lt = own.seated.1 in omega arith in
      let cleaned = clean_notes b t x.view.seat a n f mine_below here small in_p in
      let seen : List Note = cleaned.0 ++ found n f w in
      let more : List Note = extra ++ seen in
      let leads : List RunNote = leads_by form z f w in let told : List RunNote = leads ++ told_too in
      let learnt = word_seen form z b t h late views k id x.knows known n f is_used in
      let y : Whole = record { view = with_notes x.view more; knows = with_more learnt.0 [] told; aim = x.aim; path = p; taken = x.taken } in
      let same : kind (raw w) ≡ w = kind_raw w in_range in
      let truly : kind (raw w) ≢ Exchange x.view.seat a → IsFoundCalm x.knows x.view.seat a n f (kind (raw w))
      → Has cleaned.0 (clean x.view.seat a n f) = λ other calmed.
      let calm_now : IsTrueAttemptNote b t t.words (calm x.view.seat a n f) = found_calm b t h late id x.knows k.world.tied known
      x.view.seat a n f (omega arith) (subst (IsFoundCalm x.knows x.view.seat a n f) same calmed) in
      cleaned.2 (λ pending. calm_now.0.1 (let e = here in omega arith) pending)
      ((calms_serve b t t.words x.view.seat a n f).clean calm_now (λ e. other (same ∙ e))) in (
        y,
        whole_looked form z b t h late views k id x at live y
            (noted_more (CellsAreSound form) z b t (views_of views) id x.view more k.kept
            (at_view form z b t h late views k id x at live) live
            (all_both (NoteHolds z b t) extra seen true_ones (all_both (NoteHolds z b t) cleaned.0 (found n f w) cleaned.1
            (found_holds (CellsAreSound form) z b t s n f w refl in_p in_range (s.each_cell n f)))))
            (more_known z.slots b t t.words h late id learnt.0 learnt.2 [] told (all_none (IsTrueAttemptNote b t t.words))
            (all_both (IsTrueNote h) leads told_too (leads_true form z b t h late views k n f is_used w refl) truly_told))
            (learnt.1.learns.own, learnt.1.learns.slots, refl) path,
        (
          (refl, refl, refl, refl, refl),
          record {
            word = raw_is_word w in_range;
            later = later_more x.view more;
            notes = λ m has. (
              more,
              refl,
              has_right extra seen m
                  (has_right cleaned.0 (found n f w) m (subst (λ (c : WordKind). Has (found n f c) m) same has)),
            );
            seen = seen_still x.knows n f (kind (raw w)) learnt.0 y.knows learnt.1
                (more_learns z.slots b t t.words h late id learnt.0 learnt.2 [] told);
            aim = refl;
            cleans = λ other calmed. has_left more x.view.notes (clean x.view.seat a n f)
                (has_right extra seen (clean x.view.seat a n f)
                (has_left cleaned.0 (found n f w) (clean x.view.seat a n f) (truly other calmed)));
            present = λ q j found_it has. not_removed (CellsAreSound form) z b t x.view n f s
                (k.kept.each_view id x.view (at_view form z b t h late views k id x at live)).noted q j (sym same ∙ found_it) has;
            other = λ free q j found_it. none_own (CellsAreSound form) z b t id x.view n f s own
                (k.kept.each_view id x.view (at_view form z b t h late views k id x at live)).noted free q j (sym same ∙ found_it);
            unclean = λ p a found_it has. not_clean (CellsAreSound form) z b t x.view n f
                (k.kept.each_view id x.view (at_view form z b t h late views k id x at live)).noted p a (sym same ∙ found_it) has;
            uncleared = not_cleared form z id x live b t h late views k at n f;
            rises = λ v moment v_now is_version found_it has. version_rises form z b t h late views k n v moment v_now is_used
                (subst (λ (g : Field). b.cell n g ≡ Plain v_now) is_version (sym same ∙ found_it)) (known.told (visited n v moment) has);
            after_visits = λ v v_now is_version found_it among here. visit_rises form z b t h late views k id x at live v n v_now here among
                (subst (λ (g : Field). b.cell n g ≡ Plain v_now) is_version (sym same ∙ found_it));
            sentinel = λ v_now first is_version found_it. sentinel_even form z b t h late views k v_now
                (subst (λ (i : ℕ × Field). b.cell i.0 i.1 ≡ Plain v_now) (λ i. (first i, is_version i)) (sym same ∙ found_it));
            leads = λ m link found_it ne. has_left told learnt.0.told (in_use m) (has_left leads told_too (in_use m)
                (leads_has form z f w m (sym same ∙ found_it) link ne));
          },
          λ m has. has_left more x.view.notes m (has_left extra seen m has),
          refl,
          λ m has. has_left told learnt.0.told m (has_right leads told_too m has),
        ),
      )

  pub cell_looks_on : (id : ℕ) (x : Whole) (n : ℕ) (f : Field) → x.view.live ≡ true → Inside z (at_cell n f) → (b : Board)
      (t : Past) (h : History) (late : ℕ → Bool) (views : List Whole) → WholeKept form z b t h late views
      → get_elem? views id ≡ some x → IsUsed (h.slot n) → (extra : List Note) → AllNotes (NoteHolds z b t) extra
      → (p : Path) → IsPathOf h id p
      → (y : Whole) × WholeKept form z b t h late (set views id y)
      × (SameSeat x.view y.view × CellSeen x n f (raw (b.cell n f)) y × ((m : Note) → Has extra m → Has y.view.notes m) × (y.path ≡ p))
  cell_looks_on id x n f live in_p b t h late views k at is_used extra true_ones p path =
      let g = cell_looks_more id x n f live in_p b t h late views k at is_used extra true_ones [] (all_none (IsTrueNote h)) p path in
      (g.0, g.1, (g.2.0, g.2.1, g.2.2, g.2.3))

  -- a node that the pass holds is in use
  pub held_here : (b : Board) (t : Past) (h : History) (late : ℕ → Bool) (views : List Whole) → WholeKept form z b t h late views
      → (id : ℕ) (x : Whole) → get_elem? views id ≡ some x → x.view.live ≡ true → (n : ℕ) → IsHeld x.knows n → IsUsed (h.slot n)
  held_here b t h late views k id x at live n held = held_is_used z b h k.world.slots x.knows n
      (λ m has. (known_here form z b t h late views k id x at live).told (in_use m) has) held

  pub whole_cell_looks : (id : ℕ) (x : Whole) (n : ℕ) (f : Field) → x.view.live ≡ true → IsHeld x.knows n → Inside z (at_cell n f)
      → WholeLooks form z id x (at_cell n f) (λ r y. SameSeat x.view y.view × SeesCell x r y (at_cell n f))
  whole_cell_looks id x n f live held in_p b t h late views k at =
      let g = cell_looks_on id x n f live in_p b t h late views k at (held_here b t h late views k id x at live n held) [] (all_none (NoteHolds z b t)) x.path
      (path_here form z b t h late views k id x at live) in
      (g.0, g.1, (g.2.0, (g.2.1, g.2.3)))

  pub whole_load_cell : (slots id : ℕ) (me : WholeMine) (n : ℕ) (f : Field) → me.0.view.size ≡ z → me.0.view.live ≡ true
      → IsHeld me.0.knows n → Inside z (at_cell n f)
      → Allows (WholeHolds form z) slots id me (address z (at_cell n f)) (λ r. r)
      (whole_loads_cell (step slots (address z (at_cell n f)) 0 0 none) me)
  whole_load_cell slots id me n f sized live held in_p = whole_looked_at form z slots id me (at_cell n f)
      (SeesCell me.0) in_p sized (whole_cell_looks id me.0 n f live held in_p)
