-- One word of a node changes: what the row that changes it shows, and that this is all the rule asks. An install is
-- put into the word, or taken away, or a reference is replaced; statuses, attempts, descriptors and plain values
-- stay.
use Rattle.std.proofs.Common.{◌≡◌, ◌≢◌, ℕ, ◌+◌, ◌≤◌, true, false, List, ◌++◌, refl, sym, ap, ap₂, ◌∙◌, subst, ◌⊎◌, ⊎_elim, arith}
use Rattle.pc_model.specs.declared.cell.Field.{Field}
use Rattle.pc_model.specs.Cells.{Cells}
use Rattle.pc_words.specs.declared.word.WordKind.{WordKind}
use Rattle.pc_words.specs.declared.word.WordKind.TheVariants.{Plain, Install, Exchange}
use Rattle.pc_words.specs.Words.{InRange}
use Rattle.pc_rule_law.specs.Board.{Size, Board, put_cell}
use Rattle.pc_rule_law.specs.Past.{Placing, Past}
use Rattle.pc_rule_law.specs.Stages.{IsUnmade, IsUndecided, DecidedBelow}
use Rattle.pc_rule_law.specs.Views.{Note, View, IsClean, NoteHolds, AllNotes}
use Rattle.pc_rule_law.specs.Rule.{Standing, CellOk, Placed, Own, OwnTries, Shared}
use Rattle.pc_rule_law.proofs.Updates.{put_cell-here, put_cell-else, at_put_cell}
use Rattle.pc_rule_law.proofs.Stages.{decided_not_undecided}
use Rattle.pc_rule_law.proofs.Keeping.{Grows, Leaves, Moves}

-- the board and the past after the word of node n and field f became c
abbrev pub with_cell : Board → ℕ → Field → WordKind → Board
with_cell b n f c = record b { cell = put_cell b.cell n f c }

abbrev pub with_installs : Past → (ℕ → ℕ → Placing) → (ℕ → ℕ → ℕ) → Past
with_installs h placing' course' = record h { placing = placing'; course = course' }

two_not_one : (t : ℕ) → t ≡ 2 → t ≡ 1 → ⊥
two_not_one t e d = absurd (omega arith)

module _ (z : Size) (b : Board) (h : Past) (id n : ℕ) (f : Field) (c : WordKind) (placing' : ℕ → ℕ → Placing)
    (course' : ℕ → ℕ → ℕ) where
  -- the install stays as it is, and if it stands, it stands in another word
  abbrev pub IsKept : ℕ → ℕ → Type 0
  IsKept q k = (course' q k ≡ h.course q k) × (placing' q k ≡ h.placing q k)
      × (h.course q k ≡ 1 → b.cell n f ≢ Install q k)

  -- the install was taken away from the word, and became the reference if its exchange is undecided
  abbrev pub IsEnded : ℕ → ℕ → Type 0
  IsEnded q k = (h.course q k ≡ 1) × (course' q k ≡ 2) × (placing' q k ≡ h.placing q k) × (b.cell n f ≡ Install q k)
      × (IsUndecided b.status (h.placing q k).seat (h.placing q k).number
      → c ≡ Exchange (h.placing q k).seat (h.placing q k).number)

  -- the install was placed by the pass that steps
  abbrev pub IsBegun : ℕ → ℕ → Type 0
  IsBegun q k = (h.course q k ≡ 0) × (q ≡ id)
      × Placed z b.status (put_cell b.cell n f c) b.install h.attempt (course' q k) q k (placing' q k)
      × ((placing' q k).early ≡ true → IsUndecided b.status (placing' q k).seat (placing' q k).number)

  pub record WordMoves : Type 0 where
    pub in_range : InRange c
    pub here : CellOk z.seats b.status h.attempt placing' course' (h.plain n f) n f c
    pub each : (q k : ℕ) → IsKept q k ⊎ (IsEnded q k ⊎ IsBegun q k)
    -- a reference leaves the word only where its attempt is decided
    pub decided : (p a : ℕ) → b.cell n f ≡ Exchange p a → IsUndecided b.status p a → ⊥
    -- a reference comes only into a word that isn't clean of it
    pub unclean : (p a : ℕ) → c ≡ Exchange p a → DecidedBelow b.status p (a + 1)
        → IsClean h.placing p a (b.cell n f) → ⊥

  abbrev b' : Board
  b' = with_cell b n f c

  abbrev h' : Past
  h' = with_installs h placing' course'

  module _ (sound : ℕ → Cells → Cells → Type 0) (s : Shared sound z b h) (w : WordMoves) where
    -- an install that stands in another word stays there
    elsewhere : (q k m : ℕ) (g : Field) → (m ≡ n → g ≢ f) → Standing h.placing h.course (h.plain m g) m g q k
        → IsKept q k
    elsewhere q k m g ne st = ⊎_elim (λ kept. kept) (λ other. ⊎_elim
        (λ ended. let at : Standing h.placing h.course (h.plain n f) n f q k = subst
        (CellOk z.seats b.status h.attempt h.placing h.course (h.plain n f) n f) ended.3 (s.each_cell n f) in
        absurd (ne (sym st.at_node ∙ at.at_node) (sym st.at_field ∙ at.at_field)))
        (λ begun. let no : h.course q k ≡ 0 = begun.0 in
        let yes : h.course q k ≡ 1 = st.stands in absurd (omega arith)) other) (w.each q k)

    cell_there : (m : ℕ) (g : Field) → (m ≡ n → g ≢ f) → (d : WordKind)
        → CellOk z.seats b.status h.attempt h.placing h.course (h.plain m g) m g d
        → CellOk z.seats b.status h.attempt placing' course' (h.plain m g) m g d
    cell_there m g ne (Plain x) ok = ok
    cell_there m g ne (Install q k) ok = let kept = elsewhere q k m g ne ok in record {
      stands = kept.0 ∙ ok.stands;
      at_node = ap (λ (x : Placing). x.node) kept.1 ∙ ok.at_node;
      at_field = ap (λ (x : Placing). x.field) kept.1 ∙ ok.at_field;
      old = ap (λ (x : Placing). x.old) kept.1 ∙ ok.old;
    }
    cell_there m g ne (Exchange p a) ok = ok

    -- a word that held the install, or the reference, and isn't this one, still does
    word_stays : (d : WordKind) (m : ℕ) (g : Field) → b.cell m g ≡ d → (b.cell n f ≡ d → ⊥)
        → put_cell b.cell n f c m g ≡ d
    word_stays d m g is not_here = put_cell-else b.cell n f m g c (λ e1 e2. not_here (sym (ap₂ b.cell e1 e2) ∙ is))
        ∙ is

    placed_still : (q k : ℕ) (x : Placing) (u : ℕ) → u ≡ h.course q k → x ≡ h.placing q k
        → (h.course q k ≡ 1 → b.cell n f ≢ Install q k)
        → Placed z b.status b.cell b.install h.attempt (h.course q k) q k (h.placing q k)
        → Placed z b.status (put_cell b.cell n f c) b.install h.attempt u q k x
    placed_still q k x u eu ex not_here p = subst
        (λ (y : Placing). Placed z b.status (put_cell b.cell n f c) b.install h.attempt u q k y) (sym ex)
        (subst (λ (v : ℕ). Placed z b.status (put_cell b.cell n f c) b.install h.attempt v q k (h.placing q k))
        (sym eu) (
        let y = h.placing q k in
        let there : h.course q k ≡ 1 → put_cell b.cell n f c y.node y.field ≡ Install q k = λ stands. word_stays
        (Install q k) y.node y.field (p.there stands) (not_here stands) in
        let won : h.course q k ≡ 2 → IsUndecided b.status y.seat y.number
        → put_cell b.cell n f c y.node y.field ≡ Exchange y.seat y.number = λ gone is.
        word_stays (Exchange y.seat y.number) y.node y.field (p.won gone is) (λ e. w.decided y.seat y.number e is) in
        assumption (there, won, p)))

    placed_before : (q k : ℕ) → IsEnded q k
        → Placed z b.status (put_cell b.cell n f c) b.install h.attempt (course' q k) q k (placing' q k)
    placed_before q k e = subst (λ (y : Placing). Placed z b.status (put_cell b.cell n f c) b.install h.attempt
        (course' q k) q k y) (sym e.2) (
        let y = h.placing q k in let u : ℕ = course' q k in
        let one : 1 ≤ h.course q k = let is : h.course q k ≡ 1 = e.0 in omega arith in
        let p = s.installs q k one in
        let at : Standing h.placing h.course (h.plain n f) n f q k = subst
        (CellOk z.seats b.status h.attempt h.placing h.course (h.plain n f) n f) e.3 (s.each_cell n f) in
        let ended : u ≤ 2 = let is : u ≡ 2 = e.1 in omega arith in
        let present : u ≡ 1 → b.install q 0 ≡ k = λ no. absurd (two_not_one u e.1 no) in
        let there : u ≡ 1 → put_cell b.cell n f c y.node y.field ≡ Install q k = λ no. absurd
        (two_not_one u e.1 no) in
        let alive : u ≡ 1 → y.early ≡ true
        → ((b.status y.seat).number ≡ y.number)
        × IsUnmade (b.status y.seat).stage = λ no. absurd (two_not_one u e.1 no) in
        let won : u ≡ 2 → IsUndecided b.status y.seat y.number
        → put_cell b.cell n f c y.node y.field ≡ Exchange y.seat y.number = λ _ is.
        ap₂ (put_cell b.cell n f c) at.at_node at.at_field ∙ (put_cell-here b.cell n f c ∙ e.4 is) in
        assumption (ended, present, there, alive, won, p))

    pub word_shared : Shared sound z b' h'
    word_shared =
        let ranges : (m : ℕ) (g : Field)
        → InRange (put_cell b.cell n f c m g) = λ m g. at_put_cell b.cell n f c
        (λ _ _ d. InRange d) m g w.in_range (λ _. s.ranges m g) in
        let each_cell : (m : ℕ) (g : Field)
        → CellOk z.seats b.status h.attempt placing' course' (h.plain m g) m g (put_cell b.cell n f c m g) =
        λ m g. at_put_cell b.cell n f c
        (λ i l d. CellOk z.seats b.status h.attempt placing' course' (h.plain i l) i l d) m g w.here
        (λ ne. cell_there m g ne (b.cell m g) (s.each_cell m g)) in
        let installs : (q k : ℕ) → 1 ≤ course' q k
        → Placed z b.status (put_cell b.cell n f c) b.install h.attempt (course' q k) q k
        (placing' q k) = λ q k some. ⊎_elim
        (λ kept. let is : course' q k ≡ h.course q k = kept.0 in placed_still q k (placing' q k)
        (course' q k) kept.0 kept.1 kept.2 (s.installs q k (omega arith)))
        (λ other. ⊎_elim (λ ended. placed_before q k ended) (λ begun. begun.2) other) (w.each q k) in
        assumption (ranges, each_cell, installs, s)

    -- an install that was placed before stays what it was placed for
    placing_before : (q k : ℕ) → 1 ≤ h.course q k → placing' q k ≡ h.placing q k
    placing_before q k some = ⊎_elim (λ kept. kept.1)
        (λ other. ⊎_elim (λ ended. ended.2)
        (λ begun. let no : h.course q k ≡ 0 = begun.0 in absurd (omega arith)) other) (w.each q k)

    -- the new word is clean of what the old one was clean of
    clean_here : (p a : ℕ) → DecidedBelow b.status p (a + 1) → IsClean h.placing p a (b.cell n f) → (d : WordKind)
        → c ≡ d → CellOk z.seats b.status h.attempt placing' course' (h.plain n f) n f d → IsClean placing' p a d
    clean_here p a over was (Plain x) is ok = tt
    clean_here p a over was (Exchange q e) is ok = λ seat number. w.unclean p a
        (is ∙ ap₂ Exchange seat number) over was
    clean_here p a over was (Install q k) is ok = λ seat number early. ⊎_elim
        (λ kept. let stands : h.course q k ≡ 1 = sym kept.0 ∙ ok.stands in
        let y = s.installs q k (omega arith) in
        let e : b.cell n f ≡ Install q k = sym
        (ap₂ b.cell (ap (λ (x : Placing). x.node) (sym kept.1) ∙ ok.at_node)
        (ap (λ (x : Placing). x.field) (sym kept.1) ∙ ok.at_field)) ∙ y.there stands in
        kept.2 stands e)
        (λ other. ⊎_elim
        (λ ended. let no : course' q k ≡ 2 = ended.1 in let yes : course' q k ≡ 1 = ok.stands in absurd (omega arith))
        (λ begun. let u = begun.3 early in decided_not_undecided b.status p a (a + 1) over (omega arith)
        (subst (λ (i : ℕ × ℕ). IsUndecided b.status i.0 i.1) (λ i. (seat i, number i)) u))
        other) (w.each q k)

    -- another word is clean of what it was clean of
    clean_there : (p a m : ℕ) (g : Field) → (d : WordKind)
        → CellOk z.seats b.status h.attempt h.placing h.course (h.plain m g) m g d → IsClean h.placing p a d
        → IsClean placing' p a d
    clean_there p a m g (Plain x) ok was = tt
    clean_there p a m g (Exchange q e) ok was = was
    clean_there p a m g (Install q k) ok was = let stands : h.course q k ≡ 1 = ok.stands in
        subst (λ (y : Placing). y.seat ≡ p → y.number ≡ a → y.early ≡ true → ⊥)
        (sym (placing_before q k (omega arith))) was

    pub word_grows : Grows b h b' h'
    word_grows = record {
      versions = λ m. omega arith;
      numbers = λ p. omega arith;
      attempts = λ p a le. refl;
      decisions = λ p m d. d;
      references = λ p a m g u is. word_stays (Exchange p a) m g is (λ e. w.decided p a e u);
      cleans = λ p a m g over was. at_put_cell b.cell n f c
          (λ i l d. IsClean h.placing p a (b.cell i l) → IsClean placing' p a d) m g
          (λ old. clean_here p a over old c refl w.here)
          (λ _. clean_there p a m g (b.cell m g) (s.each_cell m g)) was;
      courses = λ q k. ⊎_elim (λ kept. let e : course' q k ≡ h.course q k = kept.0 in omega arith) (λ other. ⊎_elim
          (λ ended. let e : h.course q k ≡ 1 = ended.0 in let d : course' q k ≡ 2 = ended.1 in omega arith)
          (λ begun. let e : h.course q k ≡ 0 = begun.0 in omega arith) other) (w.each q k);
      placings = placing_before;
      descriptors = λ q k some e. (e, λ place. refl);
      clock = omega arith;
      words = λ p a le place. refl;
      written = λ p a le e busy. (e, busy, λ place. refl);
    }

    pub word_leaves : Leaves id b h b' h'
    word_leaves = record {
      count = refl;
      lives = λ j. refl;
      install = λ j ne place. refl;
      unplaced = λ j ne k none. ⊎_elim (λ kept. kept.0 ∙ none) (λ other. ⊎_elim
          (λ ended. let e : h.course j k ≡ 1 = ended.0 in absurd (omega arith)) (λ begun. absurd (ne begun.1)) other)
          (w.each j k);
      absent = λ j ne k no. ⊎_elim (λ kept. λ e. no (sym kept.0 ∙ e)) (λ other. ⊎_elim
          (λ ended. absurd (no ended.0)) (λ begun. absurd (ne begun.1)) other) (w.each j k);
      posted = refl;
      tries = λ j ne. record { number = refl; idle = λ i. i; busy = λ i. i; words = λ place. refl };
    }

    -- what a step on this word owes the rule, with its own view v afterwards u
    pub word_moved : (v u : View) (more : List Note)
        → (u.live ≡ v.live) × (u.seat ≡ v.seat) × (u.last ≡ v.last) × (u.rest ≡ v.rest) → u.notes ≡ more ++ v.notes
        → Own z b.install course' id u → (u.posted ≡ false → (h.posted ≡ false) × OwnTries z.slots b id u.attempt)
        → AllNotes (NoteHolds z b' h') more → Moves sound z b h id v b' h' u more
    word_moved v u more same notes own tries noted = record {
      same = same;
      notes = notes;
      grows = word_grows;
      leaves = word_leaves;
      shared = word_shared;
      own = own;
      tries = λ no. let t = tries no in
          (t.0, record { number = t.1.number; resting = t.1.resting; running = t.1.running; words = t.1.words });
      noted = noted;
    }
