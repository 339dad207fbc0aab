-- One status changes: an attempt is published, decided or cleared. What the row that changes it shows, and that this
-- is all the rule asks. Words, installs and descriptors stay; the plain values may change, in the words of that
-- attempt alone.
use Rattle.std.proofs.Common.{◌≡◌, ◌≢◌, ℕ, ◌+◌, ◌<◌, ◌≤◌, true, false, List, ◌++◌, refl, sym, ap, ◌∙◌, subst, arith}
use mathlib.Core.Logic.{dite}
use native.Mathlib.Decide.{ℕ_discrete}
use Rattle.pc_model.specs.declared.cell.Field.{Field}
use Rattle.pc_model.specs.declared.cell.Field.TheVariants.{Version}
use Rattle.pc_model.specs.Cells.{Cells}
use Rattle.pc_words.specs.declared.word.WordKind.{WordKind}
use Rattle.pc_words.specs.declared.word.WordKind.TheVariants.{Plain, Install, Exchange}
use Rattle.pc_words.specs.declared.status.Status.{Status}
use Rattle.pc_words.specs.Statuses.{StatusInRange}
use Rattle.pc_rule_law.specs.Board.{Size, Board, descriptor_words, put}
use Rattle.pc_rule_law.specs.Past.{Has, Attempt, Past, change, Describes, IsFormed}
use Rattle.pc_rule_law.specs.Stages.{IsIdle, IsOpen, IsUnmade, value_by, IsUndecided, DecidedBelow}
use Rattle.pc_rule_law.specs.Views.{Note, View, NoteHolds, AllNotes}
use Rattle.pc_rule_law.specs.Rule.{Holding, CellOk, Placed, Own, OwnTries, Shared}
use Rattle.pc_rule_law.proofs.WordKinds.{plain_not_exchange, install_not_exchange, seat_of}
use Rattle.pc_rule_law.proofs.Updates.{put-here, put-else, at_put}
use Rattle.pc_rule_law.proofs.Keeping.{Grows, LeavesTries, Moves}

abbrev pub with_status : Board → ℕ → Status → Board
with_status b p t = record b { status = put b.status p t }

abbrev pub with_values : Past → Cells → Cells → (ℕ → ℕ → Attempt) → (ℕ → ℕ → ℕ → ℕ) → Past
with_values h cells' plain' attempt' words' = record h { cells = cells'; plain = plain'; attempt = attempt'; words = words' }

module _ (sound : ℕ → Cells → Cells → Type 0) (z : Size) (b : Board) (h : Past) (id p : ℕ) (t : Status)
    (cells' plain' : Cells) (attempt' : ℕ → ℕ → Attempt) (words' : ℕ → ℕ → ℕ → ℕ) where
  pub record StatusMoves : Type 0 where
    pub in_range : StatusInRange t
    pub number : (b.status p).number ≤ t.number
    -- a number is undecided only once
    pub once : t.number ≡ (b.status p).number → IsOpen t.stage → IsOpen (b.status p).stage
    pub attempts : (q a : ℕ) → a ≤ (b.status q).number → attempt' q a ≡ h.attempt q a
    pub formed : (q a : ℕ) → IsFormed z.slots (attempt' q a)
    pub words_stay : (q a : ℕ) → a ≤ (b.status q).number → (place : ℕ) → words' q a place ≡ h.words q a place
    pub described : (q a : ℕ) → Describes z.slots (attempt' q a) (words' q a)
    pub written : (IsIdle t.stage → ⊥) → (place : ℕ) → place < descriptor_words z.slots → b.word p place ≡ words' p t.number place
    -- an attempt that is present and uncleared afterwards was so before, or is new; and another pass's stays what it was
    pub uncleared : t.number ≡ (b.status p).number → (IsIdle t.stage → ⊥) → IsIdle (b.status p).stage → ⊥
    pub foreign : p ≢ id → (t.number ≡ (b.status p).number) × (IsIdle t.stage → ⊥) × (IsIdle (b.status p).stage → ⊥)
    -- only the words that hold the reference change their plain value, and versions rise
    pub versions : (n : ℕ) → h.plain n Version ≤ plain' n Version
    pub others : (n : ℕ) (f : Field) → b.cell n f ≢ Exchange p (b.status p).number → plain' n f ≡ h.plain n f
    -- a word that holds it has the change's value by the new stage
    pub words : (n : ℕ) (f : Field) (old new : ℕ) → b.cell n f ≡ Exchange p (b.status p).number
        → (IsIdle (b.status p).stage → ⊥) → Has (h.attempt p (b.status p).number).changes (change n f old new)
        → value_by (b.status p).stage old new ≡ h.plain n f
        → (t.number ≡ (b.status p).number) × (IsIdle t.stage → ⊥) × (value_by t.stage old new ≡ plain' n f)
    -- while an early install of it stands, it doesn't succeed and isn't cleared
    pub installs : (q k : ℕ) → h.course q k ≡ 1 → (h.placing q k).early ≡ true → (h.placing q k).seat ≡ p
        → (h.placing q k).number ≡ (b.status p).number → IsUnmade (b.status p).stage
        → (t.number ≡ (b.status p).number) × IsUnmade t.stage
    pub sound_now : sound z.slots cells' plain'

  abbrev b' : Board
  b' = with_status b p t

  abbrev h' : Past
  h' = with_values h cells' plain' attempt' words'

  module _ (s : Shared sound z b h) (m : StatusMoves) where
    -- a fact on the new statuses: of the one that changed, and of the others
    on_status : (P : ℕ → Status → Type 0) (q : ℕ) → P p t → (q ≢ p → P q (b.status q)) → P q (b'.status q)
    on_status P q here there = at_put b.status p t P q here there

    numbers : (q : ℕ) → (b.status q).number ≤ (b'.status q).number
    numbers q = on_status (λ r u. (b.status r).number ≤ u.number) q m.number (λ _. omega arith)

    decisions : (q k : ℕ) → DecidedBelow b.status q k → DecidedBelow b'.status q k
    decisions q k = on_status (λ r u. DecidedBelow b.status r k
        → (k ≤ u.number + 1) × (k ≡ u.number + 1 → IsOpen u.stage → ⊥)) q
        (λ d. let le = m.number in let was = d.0 in (
          omega arith,
          λ e o. let same : t.number ≡ (b.status p).number = omega arith in d.1 (omega arith)
              (m.once same o),
        ))
        (λ _ d. d)

    -- what is undecided now was so before, where it was published before
    undecided_before : (q a : ℕ) → a ≤ (b.status q).number → IsUndecided b'.status q a → IsUndecided b.status q a
    undecided_before q a = on_status
        (λ r u. a ≤ (b.status r).number → ((u.number ≡ a) × IsOpen u.stage) → IsUndecided b.status r a) q
        (λ le is. let e : t.number ≡ a = is.0 in let up = m.number in
        let same : t.number ≡ (b.status p).number = omega arith in (sym same ∙ is.0, m.once same is.1))
        (λ _ _ is. is)

    cell_still : (n : ℕ) (f : Field) (d : WordKind) → b.cell n f ≡ d
        → CellOk z.seats b.status h.attempt h.placing h.course (h.plain n f) n f d
        → CellOk z.seats b'.status attempt' h.placing h.course (plain' n f) n f d
    cell_still n f (Plain x) is ok = ok
        ∙ sym (m.others n f (λ e. plain_not_exchange x p (b.status p).number (sym is ∙ e)))
    cell_still n f (Install q k) is ok = record {
      stands = ok.stands;
      at_node = ok.at_node;
      at_field = ok.at_field;
      old = ok.old ∙ sym (m.others n f (λ e. install_not_exchange q k p (b.status p).number (sym is ∙ e)));
    }
    cell_still n f (Exchange q a) is ok = dite (ℕ_discrete q p)
        (λ e. let own : b.cell n f ≡ Exchange p (b.status p).number = is
        ∙ (ap (λ (r : ℕ). Exchange r a) e
        ∙ ap (λ (c : ℕ). Exchange p c) (sym ok.present ∙ ap (λ (r : ℕ). (b.status r).number) e)) in
        let at : Holding z.seats b.status h.attempt (h.plain n f) n f p (b.status p).number = subst
        (CellOk z.seats b.status h.attempt h.placing h.course (h.plain n f) n f) own (s.each_cell n f) in
        let l = at.listed in
        let next = m.words n f l.0 l.1 own at.uncleared l.2 l.3 in
        let here : b'.status p ≡ t = put-here b.status p t in
        let now : Holding z.seats b'.status attempt' (plain' n f) n f p (b.status p).number = record {
          owner = at.owner;
          present = ap (λ (u : Status). u.number) here ∙ next.0;
          uncleared = λ i. next.1 (subst (λ (u : Status). IsIdle u.stage) here i);
          listed = (
            l.0,
            l.1,
            subst (λ (y : Attempt). Has y.changes (change n f l.0 l.1))
                (sym (m.attempts p (b.status p).number (omega arith))) l.2,
            ap (λ (u : Status). value_by u.stage l.0 l.1) here ∙ next.2,
            λ v. let le : l.0 ≤ h.plain n f = l.4 v in
                let up : h.plain n f ≤ plain' n f = subst (λ (g : Field). h.plain n g ≤ plain' n g) (sym v)
                (m.versions n) in omega arith,
          );
        } in
        subst (CellOk z.seats b'.status attempt' h.placing h.course (plain' n f) n f) (sym own ∙ is) now)
        (λ ne. let same : b'.status q ≡ b.status q = put-else b.status p q t ne in
        let value : plain' n f ≡ h.plain n f = m.others n f
        (λ e. ne (seat_of q a p (b.status p).number (sym is ∙ e))) in
        let l = ok.listed in let le : a ≤ (b.status q).number = let e :
        (b.status q).number ≡ a = ok.present in omega arith in record {
          owner = ok.owner;
          present = ap (λ (u : Status). u.number) same ∙ ok.present;
          uncleared = λ i. ok.uncleared (subst (λ (u : Status). IsIdle u.stage) same i);
          listed = (
            l.0,
            l.1,
            subst (λ (y : Attempt). Has y.changes (change n f l.0 l.1)) (sym (m.attempts q a le)) l.2,
            ap (λ (u : Status). value_by u.stage l.0 l.1) same ∙ (l.3 ∙ sym value),
            λ v. let old : l.0 ≤ h.plain n f = l.4 v in omega arith,
          );
        })

    placed_still : (q k : ℕ) → 1 ≤ h.course q k
        → Placed z b'.status b.cell b.install attempt' (h.course q k) q k (h.placing q k)
    placed_still q k some = let x = h.placing q k in let y = s.installs q k some in
        let published : x.number ≤ (b'.status x.seat).number = let up = numbers x.seat in
        let was = y.published in omega arith in
        let l = y.listed in
        let listed : (new : ℕ) × Has (attempt' x.seat x.number).changes (change x.node x.field x.old new) = (
          l.0,
          subst (λ (u : Attempt). Has u.changes (change x.node x.field x.old l.0))
              (sym (m.attempts x.seat x.number y.published)) l.1,
        ) in
        let late : x.early ≡ false → DecidedBelow b'.status x.seat (x.number + 1) = λ e. decisions x.seat
        (x.number + 1) (y.late e) in
        let alive : h.course q k ≡ 1 → x.early ≡ true
        → ((b'.status x.seat).number ≡ x.number)
        × IsUnmade (b'.status x.seat).stage = λ stands e. let was = y.alive stands e in
        on_status (λ r u. x.seat ≡ r → (u.number ≡ x.number) × IsUnmade u.stage) x.seat
        (λ is. let at : (b.status p).number ≡ x.number = ap (λ (r : ℕ). (b.status r).number) (sym is) ∙ was.0 in
        let next = m.installs q k stands e is (sym at) (subst (λ (r : ℕ). IsUnmade (b.status r).stage) is was.1) in
        (next.0 ∙ at, next.1))
        (λ _ _. was) refl in
        let won : h.course q k ≡ 2 → IsUndecided b'.status x.seat x.number
        → b.cell x.node x.field ≡ Exchange x.seat x.number = λ gone is. y.won gone
        (undecided_before x.seat x.number y.published is) in
        assumption (published, listed, late, alive, won, y)

    pub status_shared : Shared sound z b' h'
    status_shared =
        let statuses : (q : ℕ) → StatusInRange (b'.status q) = λ q. on_status (λ _ u. StatusInRange u) q m.in_range
        (λ _. s.statuses q) in
        let described = m.described in
        let written : (q : ℕ) → (IsIdle (b'.status q).stage → ⊥) → (place : ℕ) → place < descriptor_words z.slots
        → b.word q place ≡ words' q (b'.status q).number place =
        λ q. on_status (λ r u. (IsIdle u.stage → ⊥) → (place : ℕ) → place < descriptor_words z.slots
        → b.word r place ≡ words' r u.number place) q m.written
        (λ _ busy place lt. s.written q busy place lt ∙ sym (m.words_stay q (b.status q).number (omega arith) place)) in
        let each_cell : (n : ℕ) (f : Field)
        → CellOk z.seats b'.status attempt' h.placing h.course (plain' n f) n f
        (b.cell n f) = λ n f. cell_still n f (b.cell n f) refl (s.each_cell n f) in
        let formed = m.formed in let sound_now = m.sound_now in
        assumption (statuses, described, written, each_cell, placed_still, formed, sound_now, s)

    pub status_grows : Grows b h b' h'
    status_grows = record {
      versions = m.versions;
      numbers = numbers;
      attempts = λ q a le. m.attempts q a le;
      decisions = decisions;
      references = λ q a n f u is. is;
      cleans = λ q a n f d c. c;
      courses = λ q k. omega arith;
      placings = λ q k c. refl;
      descriptors = λ q k c e. (e, λ place. refl);
      clock = omega arith;
      words = m.words_stay;
      written = λ q a. on_status (λ r u. a ≤ (b.status r).number → u.number ≡ a → (IsIdle u.stage → ⊥)
          → ((b.status r).number ≡ a) × (IsIdle (b.status r).stage → ⊥) × ((place : ℕ) → b.word r place ≡ b.word r place)) q
          (λ le e busy. let up = m.number in let same : t.number ≡ (b.status p).number = omega arith in
          (sym same ∙ e, m.uncleared same busy, λ place. refl))
          (λ _ le e busy. (e, busy, λ place. refl));
    }

    pub status_tries : (j : ℕ) → j ≢ id → LeavesTries b b' j
    status_tries j ne = record {
      number = on_status (λ r u. r ≢ id → u.number ≡ (b.status r).number) j (λ other. (m.foreign other).0) (λ _ _. refl) ne;
      idle = on_status (λ r u. r ≢ id → IsIdle (b.status r).stage → IsIdle u.stage) j
          (λ other i. absurd ((m.foreign other).2 i)) (λ _ _ i. i) ne;
      busy = on_status (λ r u. r ≢ id → IsIdle u.stage → IsIdle (b.status r).stage) j
          (λ other i. absurd ((m.foreign other).1 i)) (λ _ _ i. i) ne;
      words = λ place. refl;
    }

    -- what a step on this status owes the rule, with its own view v afterwards u
    pub status_moved : (v u : View) (more : List Note)
        → (u.live ≡ v.live) × (u.seat ≡ v.seat) × (u.last ≡ v.last) × (u.rest ≡ v.rest) → u.notes ≡ more ++ v.notes
        → Own z b.install h.course id u → (u.posted ≡ false → (h.posted ≡ false) × OwnTries z.slots b' id u.attempt)
        → AllNotes (NoteHolds z b' h') more → Moves sound z b h id v b' h' u more
    status_moved v u more same notes own tries noted = record {
      same = same;
      notes = notes;
      grows = status_grows;
      leaves = record { count = refl; lives = λ j. refl; install = λ j ne place. refl; unplaced = λ j ne k e. e; absent = λ j ne k e. e; posted = refl; tries = status_tries };
      shared = status_shared;
      own = own;
      tries = tries;
      noted = noted;
    }
