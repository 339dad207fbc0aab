-- The load of a word of an install descriptor: of each install of that pass that was met, the word while its number
-- is the present one; and by the number, which of them stand no more, and which words stand for good.
use Rattle.std.proofs.Common.{◌≡◌, ◌≢◌, ℕ, zero, suc, ◌<◌, ◌≤◌, Bool, true, false, not, ◌==◌, List, [], ◌∷◌, eqb-true, eq-eqb, ne_eqb, refl, sym, ap, ◌∙◌, subst, arith}
use mathlib.Core.Option.{none}
use mathlib.Core.Logic.{dite}
use native.Mathlib.Decide.{ℕ_discrete}
use Rattle.atomic_table.specs.Table.{step, Allows}
use Rattle.pc_model.specs.declared.cell.Field.{Field}
use Rattle.pc_model.specs.Cells.{Cells}
use Rattle.pc_rule_law.specs.Board.{Size, own_install, at_own, address, Inside, Board}
use Rattle.pc_rule_law.specs.Past.{Has, Placing, Past, placing_word}
use Rattle.pc_rule_law.specs.Views.{Note, placed, loaded, install_word, removed, View, NoteHolds, IsInstall, InstallWordInRange, AllNotes, with_notes}
use Rattle.pc_rule_law.specs.Rule.{Placed, Shared, Holds}
use Rattle.pc_rule_law.specs.Plays.{Mine, SameSeat, InstallLoaded, LoadedInstall, loads_install}
use Rattle.pc_rule_law.proofs.Lists.{all_none, all_one, all_more, has_left, has_first, has_later}
use Rattle.pc_rule_law.proofs.Keeping.{noted_more}
use Rattle.pc_rule_law.proofs.Learning.{learnt, has_learnt, all_learnt, only_if, when, has_if_same, has_only_if, all_only_if, has_when, all_when, later_more}
use Rattle.pc_rule_law.proofs.Steps.{Looks, looked}

not_both : (c : Bool) → not c ≡ true → c ≡ true → ⊥
not_both true e d = absurd (cc)
not_both false e d = absurd (cc)

module _ (sound : ℕ → Cells → Cells → Type 0) (z : Size) where
  -- the numbers of the words of an install that was placed are those of the board
  placing_in_range : (b : Board) (h : Past) (c q k : ℕ) (x : Placing)
      → Placed z b.status b.cell b.install h.attempt c q k x → (j : ℕ) → j < 4
      → InstallWordInRange z k j (placing_word x k j)
  placing_in_range b h c q k x p zero lt = refl
  placing_in_range b h c q k x p (suc zero) lt = (x.seat, x.number, refl, p.seat, p.small.1)
  placing_in_range b h c q k x p (suc (suc zero)) lt = (x.node, x.field, refl, p.inside)
  placing_in_range b h c q k x p (suc (suc (suc j))) lt = (omega arith, p.small.2)

  -- what a load of a word of an install descriptor of q that finds r tells, of each note
  abbrev learn_install : ℕ → ℕ → ℕ → Note → List Note
  learn_install q zero r (placed t k n f) = when (t == q) (loaded q k zero r ∷ only_if (not (k == r)) (removed q k))
  learn_install q zero r (loaded t k j x) = when (t == q) (only_if (k == r) (install_word q k j x))
  learn_install q (suc place) r (placed t k n f) = when (t == q) (loaded q k (suc place) r ∷ [])
  learn_install q place r _ = []

  install_learnt : (b : Board) (h : Past) (s : Shared sound z b h) (q place : ℕ) → place < 4 → (x : Note)
      → NoteHolds z b h x → AllNotes (NoteHolds z b h) (learn_install q place (b.install q place) x)
  install_learnt b h s q zero lt (placed t k n f) g = all_when (NoteHolds z b h) (t == q)
      (loaded q k zero (b.install q zero) ∷ only_if (not (k == b.install q zero)) (removed q k))
      (λ same. let e : t ≡ q = eqb-true t q same in
      let has : 1 ≤ h.course q k = subst (λ (u : ℕ). 1 ≤ h.course u k) e g.0.0 in
      let ranged : IsInstall z q k = subst (λ (u : ℕ). IsInstall z u k) e g.1.0 in
      all_more (NoteHolds z b h) (loaded q k zero (b.install q zero))
      (only_if (not (k == b.install q zero)) (removed q k)) ((has, λ _. refl), (ranged, lt))
      (all_only_if (NoteHolds z b h) (not (k == b.install q zero)) (removed q k)
      (λ other. let y = s.installs q k has in let ended : h.course q k ≤ 2 = y.ended in
      let ne : k ≢ b.install q zero = λ d. not_both (k == b.install q zero) other (eq-eqb k (b.install q zero) d) in (
        (dite (ℕ_discrete (h.course q k) 1) (λ one. absurd (ne (sym (y.present one))))
            (λ more. omega arith)),
        ranged,
      ))))
  install_learnt b h s q zero lt (loaded t k j x) g = all_when (NoteHolds z b h) (t == q)
      (only_if (k == b.install q zero) (install_word q k j x)) (λ same. let e : t ≡ q = eqb-true t q same in
      let has : 1 ≤ h.course q k = subst (λ (u : ℕ). 1 ≤ h.course u k) e g.0.0 in
      let ranged : IsInstall z q k × (j < 4) = subst (λ (u : ℕ). IsInstall z u k × (j < 4)) e g.1 in
      let while : b.install q 0 ≡ k → b.install q j ≡ x = subst
      (λ (u : ℕ). b.install u 0 ≡ k → b.install u j ≡ x) e g.0.1 in
      all_only_if (NoteHolds z b h) (k == b.install q zero) (install_word q k j x)
      (λ now. let d : b.install q zero ≡ k = sym (eqb-true k (b.install q zero) now) in
      let y = s.installs q k has in let is : placing_word (h.placing q k) k j ≡ x = sym (y.described d j ranged.1)
      ∙ while d in (
        (has, is),
        (
          ranged.0,
          subst (InstallWordInRange z k j) is
              (placing_in_range b h (h.course q k) q k (h.placing q k) y j ranged.1),
        ),
      )))
  install_learnt b h s q (suc place) lt (placed t k n f) g = all_when (NoteHolds z b h) (t == q)
      (loaded q k (suc place) (b.install q (suc place)) ∷ []) (λ same. let e : t ≡ q = eqb-true t q same in
      all_one (NoteHolds z b h) (loaded q k (suc place) (b.install q (suc place))) (
        (subst (λ (u : ℕ). 1 ≤ h.course u k) e g.0.0, λ _. refl),
        (subst (λ (u : ℕ). IsInstall z u k) e g.1.0, lt),
      ))
  install_learnt b h s q zero lt _ g = all_none (NoteHolds z b h)
  install_learnt b h s q (suc place) lt _ g = all_none (NoteHolds z b h)

  pub install_looks : (id : ℕ) (v : View) (q place : ℕ) → v.live ≡ true → Inside z (at_own q (own_install place))
      → Looks sound z id v (at_own q (own_install place)) (λ r w. SameSeat v w × InstallLoaded v q place r w)
  install_looks id v q place live in_p b h views k at = let r : ℕ = b.install q place in
      let more = learnt (learn_install q place r) v.notes in let mine = k.each_view id v at in (
        with_notes v more,
        noted_more sound z b h views id v more k at live
            (all_learnt (NoteHolds z b h) (learn_install q place r) v.notes
            (λ x has. install_learnt b h k.shared q place in_p.1 x (mine.noted x has))),
        ((refl, refl, refl, refl, refl), install_loaded v q place r),
      )
    where
      loads_now : (v : View) (q place r k n : ℕ) (f : Field) → Has v.notes (placed q k n f)
          → Has (learnt (learn_install q place r) v.notes) (loaded q k place r)
      loads_now v q zero r k n f has = has_learnt (learn_install q zero r) v.notes (placed q k n f)
          (loaded q k zero r) has (has_when (q == q) (loaded q k zero r ∷ only_if (not (k == r)) (removed q k))
          (loaded q k zero r) (eq-eqb q q refl)
          (has_first (loaded q k zero r) (only_if (not (k == r)) (removed q k))))
      loads_now v q (suc place) r k n f has = has_learnt (learn_install q (suc place) r) v.notes (placed q k n f)
          (loaded q k (suc place) r) has
          (has_when (q == q) (loaded q k (suc place) r ∷ []) (loaded q k (suc place) r) (eq-eqb q q refl)
          (has_first (loaded q k (suc place) r) []))

      settles_now : (v : View) (q r j x : ℕ) → Has v.notes (loaded q r j x)
          → Has (learnt (learn_install q zero r) v.notes) (install_word q r j x)
      settles_now v q r j x has = has_learnt (learn_install q zero r) v.notes (loaded q r j x)
          (install_word q r j x) has (has_when (q == q) (only_if (r == r) (install_word q r j x))
          (install_word q r j x) (eq-eqb q q refl) (has_if_same r r (install_word q r j x) refl))

      removes_now : (v : View) (q r k n : ℕ) (f : Field) → Has v.notes (placed q k n f) → k ≢ r
          → Has (learnt (learn_install q zero r) v.notes) (removed q k)
      removes_now v q r k n f has ne = has_learnt (learn_install q zero r) v.notes (placed q k n f) (removed q k) has
          (has_when (q == q) (loaded q k zero r ∷ only_if (not (k == r)) (removed q k)) (removed q k)
          (eq-eqb q q refl)
          (has_later (loaded q k zero r) (only_if (not (k == r)) (removed q k)) (removed q k)
          (has_only_if (not (k == r)) (removed q k) (ap not (ne_eqb k r ne)))))

      install_loaded : (v : View) (q place r : ℕ)
          → InstallLoaded v q place r (with_notes v (learnt (learn_install q place r) v.notes))
      install_loaded v q place r = let more = learnt (learn_install q place r) v.notes in record {
        later = later_more v more;
        loads = λ k n f has. has_left more v.notes (loaded q k place r) (loads_now v q place r k n f has);
        settles = λ zero_place j x has. has_left more v.notes (install_word q r j x)
            (subst (λ (u : ℕ). Has (learnt (learn_install q u r) v.notes) (install_word q r j x)) (sym zero_place)
            (settles_now v q r j x has));
        removes = λ zero_place k n f has ne. has_left more v.notes (removed q k)
            (subst (λ (u : ℕ). Has (learnt (learn_install q u r) v.notes) (removed q k)) (sym zero_place)
            (removes_now v q r k n f has ne));
      }

  -- a load of a word of the install descriptor of q
  pub load_install : (slots id : ℕ) (me : Mine) (q place : ℕ) → me.0.size ≡ z → me.0.live ≡ true
      → Inside z (at_own q (own_install place))
      → Allows (Holds sound z) slots id me (address z (at_own q (own_install place))) (λ r. r)
      (loads_install (step slots (address z (at_own q (own_install place))) 0 0 none) me)
  load_install slots id me q place sized live in_p = looked sound z slots id me
      (at_own q (own_install place)) (LoadedInstall me.0) in_p sized (install_looks id me.0 q place live in_p)
