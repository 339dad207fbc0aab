-- The own install in place of a plain value. Whether the exchange is undecided is decided here, once, by the status
-- of this moment; the pass doesn't learn it.
use Rattle.std.proofs.Common.{◌≡◌, ◌≢◌, ℕ, zero, suc, ◌+◌, ◌<◌, ◌≤◌, eqb, ◌⊎◌, inl, inr, ⊎_elim, Bool, true, false, [], ◌∷◌, refl, sym, ap, ap₂, ◌∙◌, subst, arith}
use mathlib.Core.Option.{none}
use prog.Atomic.{either}
use Rattle.atomic_table.specs.Table.{step, Allows}
use Rattle.pc_model.specs.declared.cell.Field.{Field}
use Rattle.pc_model.specs.Cells.{Cells, IsNode}
use Rattle.pc_words.specs.declared.word.WordKind.{WordKind}
use Rattle.pc_words.specs.declared.word.WordKind.TheVariants.{Plain, Install, Exchange}
use Rattle.pc_words.specs.declared.status.Status.{Status}
use Rattle.pc_words.specs.Words.{raw, kind}
use Rattle.pc_words.proofs.Words.{kind_raw, raw_is_word, raw_injective}
use Rattle.pc_rule_law.specs.Board.{Size, at_cell, address, Inside, Board, put2, put_cell}
use Rattle.pc_rule_law.specs.Past.{Has, Placing, Past, change, placing_word}
use Rattle.pc_rule_law.specs.Stages.{IsUndecided, DecidedBelow}
use Rattle.pc_rule_law.specs.Views.{Note, placed, install_word, removed, clean, IsClean, View, NoteHolds, IsInstall, AllNotes, with_notes}
use Rattle.pc_rule_law.specs.Rule.{Standing, CellOk, Placed, Own, Shared, Holds}
use Rattle.pc_rule_law.specs.Conditions.{IsFree, CanPlace}
use Rattle.pc_rule_law.specs.Plays.{Mine, SameSeat, InstallTried, InstallPlaced, found, own_notes, after_place, PlacedInstall, places_install}
use Rattle.pc_rule_law.specs.Tables.{KeepsOpening}
use Rattle.pc_rule_law.proofs.Lists.{all_more, all_none}
use Rattle.pc_rule_law.proofs.Updates.{put2-here, put2-else, at_put2, put_cell-here}
use Rattle.pc_rule_law.proofs.Frames.{only_cell}
use Rattle.pc_rule_law.proofs.Stages.{undecided_or_decided, open_is_unmade}
use Rattle.pc_rule_law.proofs.WordKinds.{plain_not_exchange, plain_not_install, install_not_exchange}
use Rattle.pc_rule_law.proofs.Descriptors.{known_entry}
use Rattle.pc_rule_law.proofs.Keeping.{kept_after, noted_more}
use Rattle.pc_rule_law.proofs.WordMoves.{with_cell, with_installs, WordMoves, IsKept, IsEnded, IsBegun, word_moved}
use Rattle.pc_rule_law.proofs.Looks.{found_holds, told_kind, plain_at_opening}
use Rattle.pc_rule_law.proofs.Steps.{MovesWord, Hits, Misses, swapped}

-- an attempt that was published is undecided, or decided: as a number that is remembered
early_or_late : (status : ℕ → Status) (p a : ℕ) → a ≤ (status p).number
    → (e : Bool) × (e ≡ true → IsUndecided status p a) × (e ≡ false → DecidedBelow status p (a + 1))
early_or_late status p a le = ⊎_elim (λ u. (true, (λ _. u), λ no. absurd (cc)))
    (λ d. (false, (λ no. absurd (cc)), λ _. d)) (undecided_or_decided status p a le)

module _ (sound : ℕ → Cells → Cells → Type 0) (z : Size) (b : Board) (h : Past) (id : ℕ) (v : View) (n : ℕ) (f : Field)
    (x p a : ℕ) where
  abbrev k : ℕ
  k = v.install.number

  abbrev c : WordKind
  c = Install id k

  abbrev cell' : ℕ → Field → WordKind
  cell' = put_cell b.cell n f c

  -- what is remembered of the install
  abbrev for_it : Bool → Placing
  for_it e = record { seat = p; number = a; node = n; field = f; old = x; early = e }

  abbrev placing' : Bool → ℕ → ℕ → Placing
  placing' e = put2 h.placing id k (for_it e)

  abbrev course' : ℕ → ℕ → ℕ
  course' = put2 h.course id k 1

  module _ (few : z.seats ≤ 32) (s : Shared sound z b h) (own : Own z b.install h.course id v)
      (can : CanPlace z v n f x p a) (in_n : IsNode z.slots n) (is : b.cell n f ≡ Plain x) where
    -- the words of the descriptor are those of what it is placed for
    described : (e : Bool) (place : ℕ) → place < 4 → b.install id place ≡ placing_word (for_it e) k place
    described e zero lt = own.known zero lt
    described e (suc zero) lt = own.known 1 lt ∙ can.op
    described e (suc (suc zero)) lt = own.known 2 lt ∙ can.place
    described e (suc (suc (suc j))) lt = own.known (suc (suc (suc j))) lt ∙ can.old

    begun_placed : (e : Bool) (published : a ≤ (b.status p).number) (new : ℕ)
        → Has (h.attempt p a).changes (change n f x new) → (e ≡ true → IsUndecided b.status p a)
        → (e ≡ false → DecidedBelow b.status p (a + 1))
        → Placed z b.status cell' b.install h.attempt 1 id k (for_it e)
    begun_placed e published new listed undecided decided = record {
      owner = own.seated.1;
      seat = can.attempt.0;
      inside = in_n;
      small = (can.small.0, can.attempt.1, can.small.1);
      ended = omega arith;
      number = (let i : b.install id 0 ≡ k = own.known 0 (omega arith) in omega arith);
      published = published;
      listed = (new, listed);
      present = λ _. own.known 0 (omega arith);
      there = λ _. put_cell-here b.cell n f c;
      described = λ _ place lt. described e place lt;
      late = decided;
      alive = λ _ yes. let u = undecided yes in (u.0, open_is_unmade (b.status p).stage u.1);
      won = λ no. absurd (one_not_two 1 refl no);
    }
      where
        one_not_two : (t : ℕ) → t ≡ 1 → t ≡ 2 → ⊥
        one_not_two t e d = absurd (omega arith)

    plain_value : x ≡ h.plain n f
    plain_value = subst (CellOk z.seats b.status h.attempt h.placing h.course (h.plain n f) n f) is (s.each_cell n f)

    stands_here : (e : Bool) → Standing (placing' e) course' (h.plain n f) n f id k
    stands_here e = let here : placing' e id k ≡ for_it e = put2-here h.placing id k (for_it e) in record {
      stands = put2-here h.course id k 1;
      at_node = ap (λ (y : Placing). y.node) here;
      at_field = ap (λ (y : Placing). y.field) here;
      old = ap (λ (y : Placing). y.old) here ∙ plain_value;
    }

    -- the number was fresh, so no install had it
    was_none : h.course id k ≡ 0
    was_none = own.unplaced can.fresh

    each : (e : Bool) → Placed z b.status cell' b.install h.attempt 1 id k (for_it e)
        → (e ≡ true → IsUndecided b.status p a) → (q j : ℕ)
        → IsKept z b h id n f c (placing' e) course' q j
        ⊎ (IsEnded z b h id n f c (placing' e) course' q j ⊎ IsBegun z b h id n f c (placing' e) course' q j)
    each e begun undecided q j = at_put2 h.course id k 1
        (λ r i u. ((u ≡ h.course r i) × (placing' e r i ≡ h.placing r i)
        × (h.course r i ≡ 1 → b.cell n f ≢ Install r i))
        ⊎ (((h.course r i ≡ 1) × (u ≡ 2) × (placing' e r i ≡ h.placing r i) × (b.cell n f ≡ Install r i)
        × (IsUndecided b.status (h.placing r i).seat (h.placing r i).number
        → c ≡ Exchange (h.placing r i).seat (h.placing r i).number))
        ⊎ ((h.course r i ≡ 0) × (r ≡ id) × Placed z b.status cell' b.install h.attempt u r i (placing' e r i)
        × ((placing' e r i).early ≡ true
        → IsUndecided b.status (placing' e r i).seat (placing' e r i).number)))) q j
        (inr (inr (
          was_none,
          refl,
          subst (λ (y : Placing). Placed z b.status cell' b.install h.attempt 1 id k y)
              (sym here) begun,
          subst (λ (y : Placing). y.early ≡ true → IsUndecided b.status y.seat y.number)
              (sym here) undecided,
        )))
        (λ ne. inl (
          refl,
          put2-else h.placing id k q j (for_it e) ne,
          λ _ there. plain_not_install x q j
              (sym is ∙ there),
        ))
      where
        here : placing' e id k ≡ for_it e
        here = put2-here h.placing id k (for_it e)

    moves : (e : Bool) → Placed z b.status cell' b.install h.attempt 1 id k (for_it e)
        → (e ≡ true → IsUndecided b.status p a) → WordMoves z b h id n f c (placing' e) course'
    moves e begun undecided = record {
      in_range = ((let lt = own.seated.1 in omega arith), can.small.0);
      here = stands_here e;
      each = each e begun undecided;
      decided = λ q i there. absurd (plain_not_exchange x q i (sym is ∙ there));
      unclean = λ q i no. absurd (install_not_exchange id k q i no);
    }

    -- the pass knows its own install
    notes_good : (e : Bool) → let b' = with_cell b n f c in let h' = with_installs h (placing' e) course' in
        AllNotes (NoteHolds z b' h') (own_notes v n f)
    notes_good e = let b' = with_cell b n f c in let h' = with_installs h (placing' e) course' in
        let P : Note → Type 0 = NoteHolds z b' h' in
        let seat : id ≡ v.seat = sym own.seated.0 in
        let here : placing' e id k ≡ for_it e = put2-here h.placing id k (for_it e) in
        let placed_now : 1 ≤ course' id k = let one : course' id k ≡ 1 = put2-here h.course id k 1 in omega arith in
        let word : (j : ℕ) → placing_word (placing' e id k) k j ≡ placing_word (for_it e) k j = λ j. ap
        (λ (y : Placing). placing_word y k j) here in
        let inst : IsInstall z id k = (own.seated.1, can.small.0) in
        subst (λ (i : ℕ). AllNotes P (placed i k n f ∷ install_word i k 1 v.install.op
        ∷ install_word i k 2 v.install.place ∷ install_word i k 3 v.install.old ∷ [])) seat
        (all_more P (placed id k n f) (install_word id k 1 v.install.op ∷ install_word id k 2 v.install.place
        ∷ install_word id k 3 v.install.old ∷ []) (
          (
            placed_now,
            ap (λ (y : Placing). y.node) here,
            ap (λ (y : Placing). y.field) here,
            λ _. let o :
                (placing' e id k).old ≡ x = ap (λ (y : Placing). y.old) here in
                let q : x ≡ h.plain n f = plain_value in omega arith,
          ),
          (inst, in_n),
        )
        (all_more P (install_word id k 1 v.install.op)
        (install_word id k 2 v.install.place ∷ install_word id k 3 v.install.old ∷ [])
        ((placed_now, word 1 ∙ sym can.op), (inst, (p, a, can.op, can.attempt.0, can.attempt.1)))
        (all_more P (install_word id k 2 v.install.place) (install_word id k 3 v.install.old ∷ [])
        ((placed_now, word 2 ∙ sym can.place), (inst, (n, f, can.place, in_n)))
        (all_more P (install_word id k 3 v.install.old) [] (
          (placed_now, word 3 ∙ sym can.old),
          (inst, (refl, (let o : v.install.old ≡ x = can.old in let small = can.small.1 in omega arith))),
        )
        (all_none P)))))

    own_after : (e : Bool) → Own z b.install course' id (after_place v n f)
    own_after e = record {
      sized = own.sized;
      seated = own.seated;
      known = own.known;
      ahead = λ j lt. put2-else h.course id k id j 1
          (λ _ d. let q : v.install.number < j = lt in absurd (omega arith)) ∙ own.ahead j lt;
      unplaced = λ no. absurd (cc);
    }

module _ (sound : ℕ → Cells → Cells → Type 0) (z : Size) where
  -- no install of the pass stands while its number is fresh
  not_own : (sound : ℕ → Cells → Cells → Type 0) (z : Size) (b : Board) (h : Past) (id : ℕ) (v : View) (n : ℕ)
      (f : Field) → Shared sound z b h → Own z b.install h.course id v → v.fresh ≡ true → (q j : ℕ)
      → b.cell n f ≡ Install q j → q ≡ id → ⊥
  not_own sound z b h id v n f s own fresh q j is e = let st : Standing h.placing h.course
      (h.plain n f) n f q j = subst (CellOk z.seats b.status h.attempt h.placing h.course (h.plain n f) n f) is
      (s.each_cell n f) in
      let one : h.course q j ≡ 1 = st.stands in
      let y = s.installs q j (omega arith) in
      let number : v.install.number ≡ j = sym (own.known 0 (omega arith))
      ∙ (ap (λ (i : ℕ). b.install i 0) (sym e) ∙ y.present st.stands) in
      let zero_course : h.course q j ≡ 0 = ap₂ h.course e (sym number) ∙ own.unplaced fresh in omega arith

  -- an install that is gone stands nowhere
  pub not_removed : (b : Board) (h : Past) (v : View) (n : ℕ) (f : Field) → Shared sound z b h → AllNotes (NoteHolds z b h) v.notes
      → (q j : ℕ) → b.cell n f ≡ Install q j → Has v.notes (removed q j) → ⊥
  not_removed b h v n f s good q j is has = let st : Standing h.placing h.course (h.plain n f) n f q j =
      subst (CellOk z.seats b.status h.attempt h.placing h.course (h.plain n f) n f) is (s.each_cell n f) in
      let one : h.course q j ≡ 1 = st.stands in let two : 2 ≤ h.course q j = (good (removed q j) has).0 in omega arith

  -- no install of the pass stands where it is free
  pub none_own : (b : Board) (h : Past) (id : ℕ) (v : View) (n : ℕ) (f : Field) → Shared sound z b h → Own z b.install h.course id v
      → AllNotes (NoteHolds z b h) v.notes → IsFree v → (q j : ℕ) → b.cell n f ≡ Install q j → q ≢ v.seat
  none_own b h id v n f s own good free q j is mine = ⊎_elim
      (λ fresh. not_own sound z b h id v n f s own fresh q j is (mine ∙ own.seated.0))
      (λ gone.
      let st : Standing h.placing h.course (h.plain n f) n f q j =
      subst (CellOk z.seats b.status h.attempt h.placing h.course (h.plain n f) n f) is (s.each_cell n f) in
      let one : h.course q j ≡ 1 = st.stands in
      let y = s.installs q j (omega arith) in
      let number : v.install.number ≡ j = sym (own.known 0 (omega arith))
      ∙ (ap (λ (i : ℕ). b.install i 0) (sym (mine ∙ own.seated.0)) ∙ y.present st.stands) in
      not_removed b h v n f s good q j is (subst (λ (i : ℕ × ℕ). Has v.notes (removed i.0 i.1)) (λ i. (sym mine i, number i)) gone)) free

  -- a word that is clean of an attempt doesn't hold its reference
  pub not_clean : (b : Board) (h : Past) (v : View) (n : ℕ) (f : Field) → AllNotes (NoteHolds z b h) v.notes
      → (p a : ℕ) → b.cell n f ≡ Exchange p a → Has v.notes (clean p a n f) → ⊥
  not_clean b h v n f good p a is has = let no : p ≡ p → a ≢ a = subst (IsClean h.placing p a) is (good (clean p a n f) has).0.1 in no refl refl

  -- where the plain value is found, the own install is placed
  pub place_hits : (id : ℕ) (v : View) (n : ℕ) (f : Field) (x p a : ℕ) → CanPlace z v n f x p a → Inside z (at_cell n f)
      → Hits sound z (MovesWord z id n f (Install id v.install.number)) id v (at_cell n f) (raw (Plain x))
      (raw (Install v.seat v.install.number)) (λ r w. SameSeat v w × InstallTried v n f (raw (Plain x)) r w)
  place_hits id v n f x p a can in_p b h views kept at hit =
      let s = kept.shared in let mine = kept.each_view id v at in
      let own = mine.own can.live in
      let is : b.cell n f ≡ Plain x = raw_injective (b.cell n f) (Plain x) (s.ranges n f) can.small.1 hit in
      let known = known_entry sound z b h s id v own mine.noted (mine.tries can.live) p a n f x can.listed in
      let el = early_or_late b.status p a known.1 in let e = el.0 in
      let begun = begun_placed sound z b h id v n f x p a kept.few s own can in_p is e known.1 known.0 known.2 el.1 el.2 in
      let c' : WordKind = Install id v.install.number in
      let pl = placing' sound z b h id v n f x p a e in
      let co = course' sound z b h id v n f x p a in
      let w : View = after_place v n f in
      let good = notes_good sound z b h id v n f x p a kept.few s own can in_p is e in
      record {
        view = w;
        board = with_cell b n f c';
        past = with_installs h pl co;
        only = only_cell b n f c';
        is = ap raw (put_cell-here b.cell n f c')
            ∙ ap (λ (i : ℕ). raw (Install i v.install.number)) (sym own.seated.0);
        kept = kept_after sound z b h views id v (with_cell b n f c') (with_installs h pl co) w
            (own_notes v n f) kept at can.live
            (word_moved z b h id n f c' pl co sound s
            (moves sound z b h id v n f x p a kept.few s own can in_p is e begun el.1) v w (own_notes v n f)
            (refl, refl, refl, refl) refl
            (own_after sound z b h id v n f x p a kept.few s own can in_p is e) (mine.tries can.live) good);
        happens = record { placing' = pl; course' = co; moves = moves sound z b h id v n f x p a kept.few s own can in_p is e begun el.1; board = refl; past = refl };
        told = (
          (refl, refl, refl, refl, refl),
          record {
            word = raw_is_word (b.cell n f) (s.ranges n f);
            hit = λ _. refl;
            miss = λ ne. absurd (ne hit);
            other = λ q j found_it. absurd
                (plain_not_install x q j (sym is
                ∙ (sym (told_kind (b.cell n f) (s.ranges n f) (raw (b.cell n f)) refl) ∙ found_it)));
            present = λ q j found_it has. absurd
                (plain_not_install x q j (sym is
                ∙ (sym (told_kind (b.cell n f) (s.ranges n f) (raw (b.cell n f)) refl) ∙ found_it)));
            unclean = λ q j found_it has. absurd
                (plain_not_exchange x q j (sym is
                ∙ (sym (told_kind (b.cell n f) (s.ranges n f) (raw (b.cell n f)) refl) ∙ found_it)));
          },
        );
      }

  pub place_misses : (id : ℕ) (v : View) (n : ℕ) (f : Field) (x p a : ℕ) → CanPlace z v n f x p a → Inside z (at_cell n f)
      → Misses sound z id v (at_cell n f) (raw (Plain x)) (λ r w. SameSeat v w × InstallTried v n f (raw (Plain x)) r w)
  place_misses id v n f x p a can in_p b h views kept at miss =
      let s = kept.shared in let mine = kept.each_view id v at in
      let own = mine.own can.live in let w = b.cell n f in let small = s.ranges n f in
      let same : kind (raw w) ≡ w = kind_raw w small in (
        with_notes v (found n f w),
        noted_more sound z b h views id v (found n f w) kept at can.live
            (found_holds sound z b h s n f w refl in_p small (s.each_cell n f)),
        (
          (refl, refl, refl, refl, refl),
          record {
            word = raw_is_word w small;
            hit = λ e. absurd (miss e);
            miss = λ _. ap (λ (u : WordKind). with_notes v (found n f u)) (sym same);
            other = λ q j found_it own_seat. not_own sound z b h id v n f s own can.fresh q j (sym same ∙ found_it)
                (own_seat ∙ own.seated.0);
            present = λ q j found_it has. not_removed b h v n f s mine.noted q j (sym same ∙ found_it) has;
            unclean = λ q j found_it has. not_clean b h v n f mine.noted q j (sym same ∙ found_it) has;
          },
        ),
      )

  -- what was tried, where sound cells are those of the opening
  placed_at_opening : KeepsOpening sound z → (b : Board) (h : Past) → Shared sound z b h → (v : View) → v.size ≡ z → (n : ℕ)
      (f : Field) (old : ℕ) (w : View) → InstallTried v n f old (raw (b.cell n f)) w
      → InstallPlaced v n f old (raw (b.cell n f)) w
  placed_at_opening keeps b h s v sized n f old w t = record { word = t.word; hit = t.hit; miss = t.miss; other = t.other; plain = plain_at_opening sound z keeps b h s v sized n f (raw (b.cell n f)) refl }

  -- the own install in place of the plain value x of a word of node n, for attempt a of pass p
  pub place_install : KeepsOpening sound z → (slots id : ℕ) (me : Mine) (n : ℕ) (f : Field) (x p a : ℕ) → CanPlace z me.0 n f x p a
      → Inside z (at_cell n f)
      → let old : ℕ = raw (Plain x) in let new : ℕ = raw (Install me.0.seat me.0.install.number) in
      Allows (Holds sound z) slots id me (address z (at_cell n f)) (λ i. either (eqb i old) new i)
      (places_install (step slots (address z (at_cell n f)) old new none) me)
  place_install keeps slots id me n f x p a can in_p = let v = me.0 in let old : ℕ = raw (Plain x) in
      let new : ℕ = raw (Install v.seat v.install.number) in
      swapped sound z (MovesWord z id n f (Install id v.install.number)) slots id me (at_cell n f) old new (PlacedInstall v old) in_p can.sized
      (λ b h views kept at hit. let g = place_hits id v n f x p a can in_p b h views kept at hit in record {
        view = g.view;
        board = g.board;
        past = g.past;
        only = g.only;
        is = g.is;
        kept = g.kept;
        happens = g.happens;
        told = (g.told.0, placed_at_opening keeps b h kept.shared v can.sized n f old g.view g.told.1);
      })
      (λ b h views kept at miss. let g = place_misses id v n f x p a can in_p b h views kept at miss in
      (g.0, g.1, (g.2.0, placed_at_opening keeps b h kept.shared v can.sized n f old g.0 g.2.1)))
