-- A store to a word of the own install descriptor. Its number rises first, when no own install stands, so no note and
-- no word of a node speaks of the new number yet; the fields are written while it is fresh.
use Rattle.std.proofs.Common.{◌≡◌, ◌≢◌, ℕ, zero, suc, ◌<◌, ◌≤◌, ⊎_elim, true, false, [], refl, sym, ap, ap₂, ◌∙◌, subst, arith}
use mathlib.Core.Option.{none}
use mathlib.Core.Logic.{dite}
use native.Mathlib.Decide.{ℕ_discrete}
use Rattle.atomic_table.specs.Table.{step, Allows}
use Rattle.pc_model.specs.Cells.{Cells}
use Rattle.pc_rule_law.specs.Board.{Size, own_install, at_own, address, Inside, Board, Only, put2}
use Rattle.pc_rule_law.specs.Past.{Past, placing_word}
use Rattle.pc_rule_law.specs.Views.{removed, OwnInstall, own_install_word, View, NoteHolds, AllNotes}
use Rattle.pc_rule_law.specs.Rule.{Placed, Own, OwnTries, Shared, Holds}
use Rattle.pc_rule_law.specs.Conditions.{IsFree, CanStore}
use Rattle.pc_rule_law.specs.Plays.{Mine, SameSeat, with_install_word, fresh_after, after_store, Stored, stores}
use Rattle.pc_rule_law.proofs.Lists.{all_none}
use Rattle.pc_rule_law.proofs.Updates.{put2-here, put2-else}
use Rattle.pc_rule_law.proofs.Frames.{only_install}
use Rattle.pc_rule_law.proofs.Keeping.{Moves, kept_after}
use Rattle.pc_rule_law.proofs.Steps.{StoresInstall, Owes, allowed}

-- the words of a descriptor, one of them changed
word_here : (d : OwnInstall) (place x : ℕ) → place < 4 → own_install_word (with_install_word d place x) place ≡ x
word_here d zero x lt = refl
word_here d (suc zero) x lt = refl
word_here d (suc (suc zero)) x lt = refl
word_here d (suc (suc (suc j))) x lt = refl

word_else : (d : OwnInstall) (place x j : ℕ) → place < 4 → j < 4 → j ≢ place
    → own_install_word (with_install_word d place x) j ≡ own_install_word d j
word_else d zero x zero a b ne = absurd (ne refl)
word_else d zero x (suc zero) a b ne = refl
word_else d zero x (suc (suc zero)) a b ne = refl
word_else d zero x (suc (suc (suc j))) a b ne = refl
word_else d (suc zero) x zero a b ne = refl
word_else d (suc zero) x (suc zero) a b ne = absurd (ne refl)
word_else d (suc zero) x (suc (suc zero)) a b ne = refl
word_else d (suc zero) x (suc (suc (suc j))) a b ne = refl
word_else d (suc (suc zero)) x zero a b ne = refl
word_else d (suc (suc zero)) x (suc zero) a b ne = refl
word_else d (suc (suc zero)) x (suc (suc zero)) a b ne = absurd (ne refl)
word_else d (suc (suc zero)) x (suc (suc (suc j))) a b ne = refl
word_else d (suc (suc (suc i))) x zero a b ne = refl
word_else d (suc (suc (suc i))) x (suc zero) a b ne = refl
word_else d (suc (suc (suc i))) x (suc (suc zero)) a b ne = refl
word_else d (suc (suc (suc i))) x (suc (suc (suc j))) a b ne = absurd (ne (omega arith))

module _ (sound : ℕ → Cells → Cells → Type 0) (z : Size) (b : Board) (h : Past) (id : ℕ) (v : View) (s : Shared sound z b h)
    (own : Own z b.install h.course id v) (noted : AllNotes (NoteHolds z b h) v.notes) where
  -- a pass that is free has no install that stands
  pub none_stands : IsFree v → (j : ℕ) → h.course id j ≢ 1
  none_stands free j one = let y = s.installs id j (let e : h.course id j ≡ 1 = one in omega arith) in
      let present : v.install.number ≡ j = sym (own.known 0 (omega arith)) ∙ y.present one in
      ⊎_elim
      (λ fresh. let none' : h.course id j ≡ 0 = ap (h.course id) (sym present) ∙ own.unplaced fresh in
      let e : h.course id j ≡ 1 = one in absurd (omega arith))
      (λ gone. let g : 2 ≤ h.course v.seat v.install.number = (noted (removed v.seat v.install.number) gone).0 in
      let same : h.course v.seat v.install.number ≡ h.course id j = ap₂ h.course own.seated.0 present in
      let e : h.course id j ≡ 1 = one in absurd (omega arith)) free

  module _ (tries : v.posted ≡ false → (h.posted ≡ false) × OwnTries z.slots b id v.attempt) (place x : ℕ)
      (can : CanStore v place x) (lt : place < 4) where
    abbrev install' : ℕ → ℕ → ℕ
    install' = put2 b.install id place x

    abbrev b' : Board
    b' = record b { install = install' }

    -- the words of other passes stay
    others : (q j : ℕ) → q ≢ id → install' q j ≡ b.install q j
    others q j ne = put2-else b.install id place q j x (λ e _. ne e)

    -- the descriptor of an install that was placed and has the present number stays as it is
    same_words : (q k : ℕ) → 1 ≤ h.course q k → install' q 0 ≡ k
        → (b.install q 0 ≡ k) × ((j : ℕ) → install' q j ≡ b.install q j)
    same_words q k has e = dite (ℕ_discrete q id)
        (λ mine. absurd (not_mine place can lt (subst (λ (u : ℕ). 1 ≤ h.course u k) mine has)
        (subst (λ (u : ℕ). put2 b.install id place x u 0 ≡ k) mine e)))
        (λ ne. (sym (others q 0 ne) ∙ e, λ j. others q j ne))
      where
        not_mine : (i : ℕ) → CanStore v i x → i < 4 → 1 ≤ h.course id k → put2 b.install id i x id 0 ≡ k → ⊥
        not_mine zero can low has e = let new : x ≡ k = sym (put2-here b.install id 0 x) ∙ e in let up = can.1 in
            let none' : h.course id k ≡ 0 = own.ahead k (omega arith) in omega arith
        not_mine (suc i) fresh low has e = let old : v.install.number ≡ k = sym (own.known 0 (omega arith))
            ∙ (sym (put2-else b.install id (suc i) id 0 x (λ _ d. absurd (omega arith))) ∙ e) in
            let none' : h.course id k ≡ 0 = ap (h.course id) (sym old) ∙ own.unplaced fresh in omega arith

    -- the number of each pass is at least what it was, and stays while an install of it stands
    number_rises : (q : ℕ) → b.install q 0 ≤ install' q 0
    number_rises q = dite (ℕ_discrete q id)
        (λ mine. subst (λ (u : ℕ). b.install u 0 ≤ put2 b.install id place x u 0) (sym mine) (rises place can lt))
        (λ ne. let e : install' q 0 ≡ b.install q 0 = others q 0 ne in omega arith)
      where
        rises : (i : ℕ) → CanStore v i x → i < 4 → b.install id 0 ≤ put2 b.install id i x id 0
        rises zero can low = let up = can.1 in
            let now : b.install id 0 ≡ v.install.number = own.known 0 (omega arith) in
            let new : put2 b.install id 0 x id 0 ≡ x = put2-here b.install id 0 x in omega arith
        rises (suc i) fresh low = let e : put2 b.install id (suc i) x id 0 ≡ b.install id 0 = put2-else b.install id
            (suc i) id 0 x (λ _ d. absurd (omega arith)) in omega arith

    number_stays : (q k : ℕ) → h.course q k ≡ 1 → install' q 0 ≡ b.install q 0
    number_stays q k one = dite (ℕ_discrete q id)
        (λ mine. subst (λ (u : ℕ). put2 b.install id place x u 0 ≡ b.install u 0) (sym mine)
        (stays place can lt (subst (λ (u : ℕ). h.course u k ≡ 1) mine one))) (λ ne. others q 0 ne)
      where
        stays : (i : ℕ) → CanStore v i x → i < 4 → h.course id k ≡ 1 → put2 b.install id i x id 0 ≡ b.install id 0
        stays zero can low one = absurd (none_stands can.0 k one)
        stays (suc i) fresh low one = put2-else b.install id (suc i) id 0 x (λ _ d. absurd (omega arith))

    shared : Shared sound z b' h
    shared = let installs : (q k : ℕ) → 1 ≤ h.course q k
        → Placed z b.status b.cell install' h.attempt (h.course q k) q k
        (h.placing q k) = λ q k has. let y = s.installs q k has in let u = h.placing q k in
        let number : k ≤ install' q 0 = let a = y.number in let c = number_rises q in omega arith in
        let present : h.course q k ≡ 1 → install' q 0 ≡ k = λ one. number_stays q k one ∙ y.present one in
        let described : install' q 0 ≡ k → (j : ℕ) → j < 4
        → install' q j ≡ placing_word u k j = λ e j low. let w = same_words q k has e in w.1 j
        ∙ y.described w.0 j low in
        assumption (number, present, described, y) in
        assumption (installs, s)

    own_after : Own z install' h.course id (after_store v place x)
    own_after = record {
      sized = own.sized;
      seated = own.seated;
      known = λ j low. known j low;
      ahead = λ j. ahead place can lt j;
      unplaced = unplaced place can lt;
    }
      where
        known : (j : ℕ) → j < 4 → install' id j ≡ own_install_word (with_install_word v.install place x) j
        known j low = dite (ℕ_discrete j place)
            (λ e. subst (λ (u : ℕ). install' id u ≡ own_install_word (with_install_word v.install place x) u) (sym e)
            (put2-here b.install id place x ∙ sym (word_here v.install place x lt)))
            (λ ne. put2-else b.install id place id j x (λ _. ne)
            ∙ (own.known j low ∙ sym (word_else v.install place x j lt low ne)))

        ahead : (i : ℕ) → CanStore v i x → i < 4 → (j : ℕ) → (with_install_word v.install i x).number < j
            → h.course id j ≡ 0
        ahead zero can low j up = let more = can.1 in own.ahead j (omega arith)
        ahead (suc zero) can low j up = own.ahead j up
        ahead (suc (suc zero)) can low j up = own.ahead j up
        ahead (suc (suc (suc i))) can low j up = own.ahead j up

        unplaced : (i : ℕ) → CanStore v i x → i < 4 → fresh_after i v.fresh ≡ true
            → h.course id (with_install_word v.install i x).number ≡ 0
        unplaced zero can low _ = own.ahead x can.1
        unplaced (suc zero) fresh low new = own.unplaced new
        unplaced (suc (suc zero)) fresh low new = own.unplaced new
        unplaced (suc (suc (suc i))) fresh low new = own.unplaced new

    moves : Moves sound z b h id v b' h (after_store v place x) []
    moves = record {
      same = (refl, refl, refl, refl);
      notes = refl;
      grows = record {
        versions = λ n. omega arith;
        numbers = λ p. omega arith;
        attempts = λ p a le. refl;
        decisions = λ p m d. d;
        references = λ p a n f u e. e;
        cleans = λ p a n f d c. c;
        courses = λ q k. omega arith;
        placings = λ q k c. refl;
        descriptors = same_words;
        clock = omega arith;
        words = λ p a le place. refl;
        written = λ p a le e busy. (e, busy, λ place. refl);
      };
      leaves = record { count = refl; lives = λ j. refl; install = λ j ne i. others j i ne; unplaced = λ j ne k e. e; absent = λ j ne k e. e; posted = refl; tries = λ j ne. record { number = refl; idle = λ i. i; busy = λ i. i; words = λ place. refl } };
      shared = shared;
      own = own_after;
      tries = λ no. let t = tries no in
          (t.0, record { number = t.1.number; resting = t.1.resting; running = t.1.running; words = t.1.words });
      noted = all_none (NoteHolds z b' h);
    }

module _ (sound : ℕ → Cells → Cells → Type 0) (z : Size) where
  pub store_owes : (id : ℕ) (v : View) (place x : ℕ) → v.live ≡ true → CanStore v place x
      → Inside z (at_own v.seat (own_install place))
      → Owes sound z (StoresInstall id place x) id v (at_own v.seat (own_install place)) (λ _. x)
      (λ _ w. SameSeat v w × Stored v x w (at_own v.seat (own_install place)))
  store_owes id v place x live can in_p b h views kept at =
      let s = kept.shared in let mine = kept.each_view id v at in let own = mine.own live in
      let b' : Board = record b { install = put2 b.install id place x } in
      let w : View = after_store v place x in
      record {
        view = w;
        board = b';
        past = h;
        only = subst (λ (i : ℕ). Only (at_own i (own_install place)) b b') (sym own.seated.0)
            (only_install b id place x);
        is = ap (λ (i : ℕ). put2 b.install id place x i place) own.seated.0 ∙ put2-here b.install id place x;
        kept = kept_after sound z b h views id v b' h w [] kept at live
            (moves sound z b h id v s own mine.noted (mine.tries live) place x can in_p.1);
        happens = (refl, refl);
        told = ((refl, refl, refl, refl, refl), λ _. refl);
      }

  -- a store of x to this word of the own install descriptor
  pub store_install : (slots id : ℕ) (me : Mine) (place x : ℕ) → me.0.size ≡ z → me.0.live ≡ true
      → CanStore me.0 place x → Inside z (at_own me.0.seat (own_install place))
      → Allows (Holds sound z) slots id me (address z (at_own me.0.seat (own_install place))) (λ _. x)
      (λ _. stores (step slots (address z (at_own me.0.seat (own_install place))) x 0 none) me x)
  store_install slots id me place x sized live can in_p = let v = me.0 in
      allowed sound z (StoresInstall id place x) slots id me (at_own v.seat (own_install place)) (λ _. x) (λ _. Stored v x) in_p sized
      (store_owes id v place x live can in_p)
