-- The exchange's reference, or the old value, in place of an install. Hit or missed, the install is gone.
use Rattle.std.proofs.Common.{◌≡◌, ◌≢◌, ℕ, ◌+◌, ◌*◌, ◌<◌, ◌≤◌, eqb, inl, inr, Bool, true, false, not, ◌==◌, List, ◌∷◌, ◌++◌, eq-eqb, ne_eqb, refl, sym, ap, ap₂, ◌∙◌, subst, arith}
use mathlib.Core.Option.{none}
use prog.Atomic.{either}
use Rattle.atomic_table.specs.Table.{step, Allows}
use Rattle.pc_model.specs.declared.cell.Field.{Field}
use Rattle.pc_model.specs.Cells.{Cells}
use Rattle.pc_words.specs.declared.word.WordKind.{WordKind}
use Rattle.pc_words.specs.declared.word.WordKind.TheVariants.{Plain, Install, Exchange}
use Rattle.pc_words.specs.Words.{raw}
use Rattle.pc_words.proofs.Words.{raw_is_word, raw_injective}
use Rattle.pc_rule_law.specs.Board.{Size, at_cell, address, Inside, Board, place_number}
use Rattle.pc_rule_law.specs.Past.{Has, Past}
use Rattle.pc_rule_law.specs.Views.{Note, install_word, early, removed, decided_below, View, NoteHolds, IsInstall, AllNotes, with_notes}
use Rattle.pc_rule_law.specs.Rule.{Shared, Holds}
use Rattle.pc_rule_law.specs.Conditions.{MayTake, CanTake}
use Rattle.pc_rule_law.specs.Plays.{IsNotedSince, Mine, SameSeat, InstallTaken, found, TookInstall, takes_install}
use Rattle.pc_rule_law.proofs.Lists.{all_more, all_both, has_first, has_later, has_left, has_right}
use Rattle.pc_rule_law.proofs.Updates.{put2-here, put_cell-here}
use Rattle.pc_rule_law.proofs.Frames.{only_cell}
use Rattle.pc_rule_law.proofs.Stages.{decided_less}
use Rattle.pc_rule_law.proofs.InstallEnds.{Known, named_in, course', moves, own_after, gone_if, decided_if}
use Rattle.pc_rule_law.proofs.Keeping.{kept_after, noted_more}
use Rattle.pc_rule_law.proofs.WordMoves.{with_cell, with_installs, word_shared, word_moved}
use Rattle.pc_rule_law.proofs.Learning.{only_if, has_only_if, all_only_if, later_more}
use Rattle.pc_rule_law.proofs.Looks.{found_holds, told_kind}
use Rattle.pc_rule_law.proofs.Steps.{MovesWord, Hits, Misses, swapped}

not_both : (c : Bool) → not c ≡ true → c ≡ true → ⊥
not_both true e d = absurd (cc)
not_both false e d = absurd (cc)

module _ (sound : ℕ → Cells → Cells → Type 0) (z : Size) where
  -- what is known of an install, from the notes that its taking asks for
  pub known_of : (b : Board) (h : Past) (v : View) (q k n : ℕ) (f : Field) (c : WordKind) → z.seats ≤ 32
      → Shared sound z b h → AllNotes (NoteHolds z b h) v.notes → MayTake z v q k n f c
      → (p : ℕ) × (a : ℕ) × Known z b h q k n f c p a × Has v.notes (install_word q k 1 (raw (Exchange p a)))
      × IsInstall z q k
  known_of b h v q k n f (Plain x) few s good may = let p = may.0 in let a = may.1 in let i = may.3 in
      let op = good (install_word q k 1 (raw (Exchange p a))) i.1 in
      let place = good (install_word q k 2 (place_number n f)) i.2 in
      let old = good (install_word q k 3 x) may.4 in let below = (good (decided_below p may.2) may.5).0 in
      let lt = i.0.0 in
      let named = named_in sound z b h few s q k n f p a op place (omega arith) in
      (p, a, record { attempt = i.0; has = named.0; seat = named.1; number = named.2; at_node = named.3; at_field = named.4; becomes = inr (ap Plain (sym old.0.1), decided_less b.status p may.2 (a + 1) (let m = may.6 in omega arith) below) }, i.1, op.1.0)
  known_of b h v q k n f (Install r j) few s good may = absurd may
  known_of b h v q k n f (Exchange p a) few s good may = let i = may.0 in
      let op = good (install_word q k 1 (raw (Exchange p a))) i.1 in
      let place = good (install_word q k 2 (place_number n f)) i.2 in
      let is_early = good (early q k) may.1 in let lt = i.0.0 in
      let named = named_in sound z b h few s q k n f p a op place (omega arith) in
      (p, a, record { attempt = i.0; has = named.0; seat = named.1; number = named.2; at_node = named.3; at_field = named.4; becomes = inl (refl, is_early.0.1) }, i.1, op.1.0)

  -- two references to installs with the same number are one
  one_install : (q k r j : ℕ) → q < 256 → r < 256 → raw (Install q k) ≡ raw (Install r j) → (q ≡ r) × (k ≡ j)
  one_install q k r j a b e = let is : (1 + 4 * q) + 1024 * k ≡ (1 + 4 * r) + 1024 * j = e in
      (omega arith, omega arith)

  one_exchange : (q k r j : ℕ) → q < 256 → r < 256 → raw (Exchange q k) ≡ raw (Exchange r j) → (q ≡ r) × (k ≡ j)
  one_exchange q k r j a b e = let is : (2 + 4 * q) + 1024 * k ≡ (2 + 4 * r) + 1024 * j = e in
      (omega arith, omega arith)

  gone_too : (v : View) (more : List Note) (q k r j : ℕ) → (q ≡ r) × (k ≡ j) → Has more (removed q k)
      → Has (more ++ v.notes) (removed r j)
  gone_too v more q k r j same has = has_left more v.notes (removed r j)
      (subst (λ (u : ℕ × ℕ). Has more (removed u.0 u.1)) (λ d. (same.0 d, same.1 d)) has)

  -- where the install is found, the word becomes c
  pub take_hits : (id : ℕ) (v : View) (n : ℕ) (f : Field) (q k : ℕ) (c : WordKind) → CanTake z v q k n f c
      → Inside z (at_cell n f)
      → Hits sound z (MovesWord z id n f c) id v (at_cell n f) (raw (Install q k)) (raw c)
      (λ r w. SameSeat v w × InstallTaken v n f (raw (Install q k)) (raw c) r w)
  take_hits id v n f q k c can in_p b h views kept at hit =
      let old : ℕ = raw (Install q k) in let new : ℕ = raw c in
      let s = kept.shared in let mine = kept.each_view id v at in
      let own = mine.own can.live in
      let ko = known_of b h v q k n f c kept.few s mine.noted can.may in let p = ko.0 in let a = ko.1 in
      let kn = ko.2 in
      let few_seats : z.seats ≤ 32 = kept.few in let q_seat = ko.4.0 in let q_small : q < 256 = omega arith in
      let is : b.cell n f ≡ Install q k = raw_injective (b.cell n f) (Install q k) (s.ranges n f)
      (q_small, ko.4.1) hit in
      let co = course' sound z b h kept.few s id v own q k n f c p a kn in_p in
      let wm = moves sound z b h kept.few s id v own q k n f c p a kn in_p is in
      let b' = with_cell b n f c in let h' = with_installs h h.placing co in
      let more = removed q k ∷ found n f c in
      let gone : NoteHolds z b' h' (removed q k) =
      ((let two : co q k ≡ 2 = put2-here h.course q k 2 in omega arith), ko.4) in
      let good : AllNotes (NoteHolds z b' h') more = all_more (NoteHolds z b' h') (removed q k) (found n f c) gone
      (found_holds sound z b' h' (word_shared z b h id n f c h.placing co sound s wm) n f c
      (put_cell-here b.cell n f c) in_p wm.in_range wm.here) in
      record {
        view = with_notes v more;
        board = b';
        past = h';
        only = only_cell b n f c;
        is = ap raw (put_cell-here b.cell n f c);
        kept = kept_after sound z b h views id v b' h' (with_notes v more) more kept at can.live
            (word_moved z b h id n f c h.placing co sound s wm v (with_notes v more) more
            (refl, refl, refl, refl) refl (own_after sound z b h kept.few s id v own q k n f c p a kn in_p is more) (mine.tries can.live) good);
        happens = record { placing' = h.placing; course' = co; moves = wm; board = refl; past = refl };
        told = (
          (refl, refl, refl, refl, refl),
          record {
            word = raw_is_word (b.cell n f) (s.ranges n f);
            later = later_more v more;
            gone = λ r j e small. gone_too v more q k r j (one_install q k r j q_small small e)
                (has_first (removed q k) (found n f c));
            hit = λ _ x has. (
              more,
              refl,
              has_later (removed q k) (found n f c) x
                  (subst (λ (u : WordKind). Has (found n f u) x) (told_kind c wm.in_range new refl) has),
            );
            miss = λ ne. absurd (ne hit);
            decided = λ ne. absurd (ne hit);
          },
        );
      }

  -- where it isn't found, it is gone
  pub take_misses : (id : ℕ) (v : View) (n : ℕ) (f : Field) (q k : ℕ) (c : WordKind) → CanTake z v q k n f c
      → Inside z (at_cell n f)
      → Misses sound z id v (at_cell n f) (raw (Install q k))
      (λ r w. SameSeat v w × InstallTaken v n f (raw (Install q k)) (raw c) r w)
  take_misses id v n f q k c can in_p b h views kept at miss =
      let old : ℕ = raw (Install q k) in let new : ℕ = raw c in
      let s = kept.shared in let mine = kept.each_view id v at in
      let own = mine.own can.live in
      let ko = known_of b h v q k n f c kept.few s mine.noted can.may in let p = ko.0 in let a = ko.1 in
      let kn = ko.2 in
      let few_seats : z.seats ≤ 32 = kept.few in let q_seat = ko.4.0 in let q_small : q < 256 = omega arith in
      let w = b.cell n f in let small = s.ranges n f in let r : ℕ = raw w in
      let not_it : w ≢ Install q k = λ e. miss (ap raw e) in
      let over = only_if (not (r == raw (Exchange p a))) (decided_below p (a + 1)) in
      let more = removed q k ∷ (found n f w ++ over) in
      let holds_over : AllNotes (NoteHolds z b h) over = all_only_if (NoteHolds z b h) (not (r == raw (Exchange p a)))
      (decided_below p (a + 1)) (λ other. (
        decided_if sound z b h kept.few s id v own q k n f c p a kn in_p not_it
            (λ e. not_both (r == raw (Exchange p a)) other (eq-eqb r (raw (Exchange p a)) (ap raw e))),
        (kn.attempt.0, (let lt = kn.attempt.1 in omega arith)),
      )) in
      let good : AllNotes (NoteHolds z b h) more = all_more (NoteHolds z b h) (removed q k) (found n f w ++ over)
      (gone_if sound z b h kept.few s id v own q k n f c p a kn in_p not_it, ko.4)
      (all_both (NoteHolds z b h) (found n f w) over
      (found_holds sound z b h s n f w refl in_p small (s.each_cell n f)) holds_over) in (
        with_notes v more,
        noted_more sound z b h views id v more kept at can.live good,
        (
          (refl, refl, refl, refl, refl),
          record {
            word = raw_is_word w small;
            later = later_more v more;
            gone = λ t j e low. gone_too v more q k t j (one_install q k t j q_small low e)
                (has_first (removed q k) (found n f w ++ over));
            hit = λ e. absurd (miss e);
            miss = λ _ x has. (
              more,
              refl,
              has_later (removed q k) (found n f w ++ over) x
                  (has_left (found n f w) over x
                  (subst (λ (u : WordKind). Has (found n f u) x) (told_kind w small r refl) has)),
            );
            decided = λ _ t j e i is low lt has ne. let same = one_install q k t j q_small low is in
                let has' : Has v.notes (install_word q k 1 (raw (Exchange e i))) = subst
                (λ (u : ℕ × ℕ). Has v.notes (install_word u.0 u.1 1 (raw (Exchange e i))))
                (λ d. (sym same.0 d, sym same.1 d)) has in
                let first_word = (mine.noted (install_word q k 1 (raw (Exchange e i))) has').0.1 in
                let second_word = (mine.noted (install_word q k 1 (raw (Exchange p a))) ko.3).0.1 in
                let p_seat = kn.attempt.0 in
                let one = one_exchange p a e i (omega arith) lt (sym second_word ∙ first_word) in
                subst (λ (u : ℕ × ℕ). IsNotedSince v (with_notes v more) (decided_below u.0 (u.1 + 1)))
                (λ d. (one.0 d, one.1 d)) (
                  more,
                  refl,
                  has_later (removed q k) (found n f w ++ over) (decided_below p (a + 1))
                      (has_right (found n f w) over (decided_below p (a + 1))
                      (has_only_if (not (r == raw (Exchange p a))) (decided_below p (a + 1))
                      (ap not (ne_eqb r (raw (Exchange p a))
                      (λ d. ne (d ∙ ap₂ (λ (x y : ℕ). raw (Exchange x y)) one.0 one.1)))))),
                );
          },
        ),
      )

  -- the word c in place of install k of pass q in a word of node n
  pub take_install : (slots id : ℕ) (me : Mine) (n : ℕ) (f : Field) (q k : ℕ) (c : WordKind)
      → CanTake z me.0 q k n f c → Inside z (at_cell n f)
      → let old : ℕ = raw (Install q k) in let new : ℕ = raw c in
      Allows (Holds sound z) slots id me (address z (at_cell n f)) (λ i. either (eqb i old) new i)
      (takes_install (step slots (address z (at_cell n f)) old new none) me)
  take_install slots id me n f q k c can in_p = let v = me.0 in let old : ℕ = raw (Install q k) in
      let new : ℕ = raw c in
      swapped sound z (MovesWord z id n f c) slots id me (at_cell n f) old new (TookInstall v old new) in_p can.sized
      (take_hits id v n f q k c can in_p) (take_misses id v n f q k c can in_p)
