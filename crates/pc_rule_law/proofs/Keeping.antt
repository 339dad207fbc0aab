-- How a step keeps the rule, once for all steps but splits and joins. A step of one seat shows what grew, what it
-- left to others, and the topics afterwards; then every note of every view is still true, and the rule holds.
use Rattle.std.proofs.Common.{◌≡◌, ◌≢◌, ℕ, ◌+◌, ◌<◌, ◌≤◌, true, false, List, ◌++◌, set, length-set, refl, sym, ap, ◌∙◌, subst, ⊎_elim, arith}
use mathlib.Core.Option.{some}
use lib.ListN.{get_elem?}
use Rattle.pc_model.specs.declared.cell.Field.{Field}
use Rattle.pc_model.specs.declared.cell.Field.TheVariants.{Version}
use Rattle.pc_model.specs.Cells.{Cells}
use Rattle.pc_words.specs.declared.word.WordKind.TheVariants.{Exchange}
use Rattle.pc_rule_law.specs.Board.{Size, Board}
use Rattle.pc_rule_law.specs.Past.{Has, Attempt, Placing, Past, change, placing_word}
use Rattle.pc_rule_law.specs.Stages.{IsIdle, IsUndecided, DecidedBelow}
use Rattle.pc_rule_law.specs.Views.{Note, version, entry, placed, loaded, install_word, early, removed, decided_below, held, clean, clock_at, word_loaded, attempt_word, had, OwnAttempt, View, IsClean, IsNoted, NoteHolds, AllNotes, with_notes}
use Rattle.pc_rule_law.specs.Rule.{Own, OwnTries, opening_own, Known, Shared, Kept}
use Rattle.pc_rule_law.proofs.Lists.{each_moved, below_length, all_both}
use Rattle.pc_rule_law.proofs.Stages.{undecided_or_decided, decided_not_undecided}

-- what no step takes back: every note is stable under it
pub record Grows (b : Board) (h : Past) (b' : Board) (h' : Past) : Type 0 where
  pub versions : (n : ℕ) → h.plain n Version ≤ h'.plain n Version
  pub numbers : (p : ℕ) → (b.status p).number ≤ (b'.status p).number
  pub attempts : (p a : ℕ) → a ≤ (b.status p).number → h'.attempt p a ≡ h.attempt p a
  pub decisions : (p m : ℕ) → DecidedBelow b.status p m → DecidedBelow b'.status p m
  -- a reference of an attempt that is undecided afterwards stays in its word
  pub references : (p a n : ℕ) (f : Field) → IsUndecided b'.status p a → b.cell n f ≡ Exchange p a
      → b'.cell n f ≡ Exchange p a
  pub cleans : (p a n : ℕ) (f : Field) → DecidedBelow b.status p (a + 1) → IsClean h.placing p a (b.cell n f)
      → IsClean h'.placing p a (b'.cell n f)
  -- an install that was placed stays what it was placed for, and its descriptor changes only with its number
  pub courses : (q k : ℕ) → h.course q k ≤ h'.course q k
  pub placings : (q k : ℕ) → 1 ≤ h.course q k → h'.placing q k ≡ h.placing q k
  pub descriptors : (q k : ℕ) → 1 ≤ h.course q k → b'.install q 0 ≡ k
      → (b.install q 0 ≡ k) × ((place : ℕ) → b'.install q place ≡ b.install q place)
  pub clock : b.clock ≤ b'.clock
  -- an attempt keeps its words, and they stand in the descriptor until it is cleared
  pub words : (p a : ℕ) → a ≤ (b.status p).number → (place : ℕ) → h'.words p a place ≡ h.words p a place
  pub written : (p a : ℕ) → a ≤ (b.status p).number → (b'.status p).number ≡ a → (IsIdle (b'.status p).stage → ⊥)
      → ((b.status p).number ≡ a) × (IsIdle (b.status p).stage → ⊥) × ((place : ℕ) → b'.word p place ≡ b.word p place)

-- the attempts of a pass are left alone: its number, whether it is idle, and its descriptor
pub record LeavesTries (b b' : Board) (j : ℕ) : Type 0 where
  pub number : (b'.status j).number ≡ (b.status j).number
  pub idle : IsIdle (b.status j).stage → IsIdle (b'.status j).stage
  pub busy : IsIdle (b'.status j).stage → IsIdle (b.status j).stage
  pub words : (place : ℕ) → b'.word j place ≡ b.word j place

-- what a step of the seat id leaves to the others: their installs
pub record Leaves (id : ℕ) (b : Board) (h : Past) (b' : Board) (h' : Past) : Type 0 where
  pub count : h'.count ≡ h.count
  pub lives : (j : ℕ) → h'.live j ≡ h.live j
  pub install : (j : ℕ) → j ≢ id → (place : ℕ) → b'.install j place ≡ b.install j place
  pub unplaced : (j : ℕ) → j ≢ id → (k : ℕ) → h.course j k ≡ 0 → h'.course j k ≡ 0
  pub absent : (j : ℕ) → j ≢ id → (k : ℕ) → h.course j k ≢ 1 → h'.course j k ≢ 1
  pub posted : h'.posted ≡ h.posted
  pub tries : (j : ℕ) → j ≢ id → LeavesTries b b' j

-- a note that is true stays true
pub note_stays : (b b' : Board) (h h' : Past) → Grows b h b' h' → (x : Note) → IsNoted b h x → IsNoted b' h' x
note_stays b b' h h' g (version n v) t = let m = g.versions n in omega arith
note_stays b b' h h' g (entry p a x) t = let m = g.numbers p in let le = t.0 in
    (omega arith, subst (λ (u : Attempt). Has u.changes x) (sym (g.attempts p a t.0)) t.1)
note_stays b b' h h' g (placed q k n f) t = let m = g.courses q k in let le = t.0 in let same = g.placings q k t.0 in (
  omega arith,
  ap (λ (x : Placing). x.node) same ∙ t.1,
  ap (λ (x : Placing). x.field) same ∙ t.2,
  λ is. let old : h.plain n f ≤ h'.plain n f = subst (λ (u : Field). h.plain n u ≤ h'.plain n u) (sym is)
      (g.versions n) in
      let was : (h.placing q k).old ≤ h.plain n f = t.3 is in
      let e : (h'.placing q k).old ≡ (h.placing q k).old = ap (λ (x : Placing). x.old) same in omega arith,
)
note_stays b b' h h' g (loaded q k place x) t = let m = g.courses q k in let le = t.0 in
    (omega arith, λ e. let d = g.descriptors q k t.0 e in d.1 place ∙ t.1 d.0)
note_stays b b' h h' g (install_word q k place x) t = let m = g.courses q k in let le = t.0 in
    (omega arith, ap (λ (y : Placing). placing_word y k place) (g.placings q k t.0) ∙ t.1)
note_stays b b' h h' g (early q k) t = let m = g.courses q k in let le = t.0 in
    (omega arith, ap (λ (y : Placing). y.early) (g.placings q k t.0) ∙ t.1)
note_stays b b' h h' g (removed q k) t = let m = g.courses q k in omega arith
note_stays b b' h h' g (decided_below p m) t = g.decisions p m t
note_stays b b' h h' g (held p a n f) t = let m = g.numbers p in let le = t.0 in (
  omega arith,
  λ after. ⊎_elim (λ before. g.references p a n f after (t.1 before))
      (λ decided. absurd (decided_not_undecided b'.status p a (a + 1) (g.decisions p (a + 1) decided)
      (omega arith) after)) (undecided_or_decided b.status p a t.0),
  let e = t.2 in (
    e.0,
    e.1,
    subst (λ (u : Attempt). Has u.changes (change n f e.0 e.1)) (sym (g.attempts p a t.0)) e.2,
    λ is. let old : h.plain n f ≤ h'.plain n f = subst (λ (u : Field). h.plain n u ≤ h'.plain n u) (sym is)
        (g.versions n) in let was : e.0 ≤ h.plain n f = e.3 is in omega arith,
  ),
)
note_stays b b' h h' g (clean p a n f) t = (g.decisions p (a + 1) t.0, g.cleans p a n f t.0 t.1)
note_stays b b' h h' g (clock_at c) t = let m = g.clock in omega arith
note_stays b b' h h' g (word_loaded p a place x) t = let m = g.numbers p in let le = t.0 in
    (omega arith, λ e busy. let was = g.written p a t.0 e busy in was.2 place ∙ t.1 was.0 was.1)
note_stays b b' h h' g (attempt_word p a place x) t = let m = g.numbers p in let le = t.0 in
    (omega arith, g.words p a t.0 place ∙ t.1)
note_stays b b' h h' g (had n f x) t = t

-- what a pass knows of its attempts stays true while others step
pub tries_stay : (slots : ℕ) (b b' : Board) (j : ℕ) (own : OwnAttempt) → LeavesTries b b' j → OwnTries slots b j own
    → OwnTries slots b' j own
tries_stay slots b b' j own l t = record {
  number = l.number ∙ t.number;
  resting = λ no. l.idle (t.resting no);
  running = λ yes idle. t.running yes (l.busy idle);
  words = λ place lt. l.words place ∙ t.words place lt;
}

pub tries_alone : (b : Board) (j : ℕ) → LeavesTries b b j
tries_alone b j = record { number = refl; idle = λ i. i; busy = λ i. i; words = λ place. refl }

module _ (sound : ℕ → Cells → Cells → Type 0) (z : Size) where
  -- what a step of the seat id shows, whose view goes from v to w with these notes more
  pub record Moves (b : Board) (h : Past) (id : ℕ) (v : View) (b' : Board) (h' : Past) (w : View)
      (more : List Note) : Type 0 where
    pub same : (w.live ≡ v.live) × (w.seat ≡ v.seat) × (w.last ≡ v.last) × (w.rest ≡ v.rest)
    pub notes : w.notes ≡ more ++ v.notes
    pub grows : Grows b h b' h'
    pub leaves : Leaves id b h b' h'
    pub shared : Shared sound z b' h'
    pub own : Own z b'.install h'.course id w
    pub tries : w.posted ≡ false → (h'.posted ≡ false) × OwnTries z.slots b' id w.attempt
    pub noted : AllNotes (NoteHolds z b' h') more

  -- a view of another seat is still right
  others_stay : (b : Board) (h : Past) (b' : Board) (h' : Past) (id j : ℕ) (u : View) → Grows b h b' h'
      → Leaves id b h b' h' → h.live id ≡ true → j ≢ id → Known z b h j u → Known z b' h' j u
  others_stay b h b' h' id j u g l alive ne k = record {
    own = λ live. let o = k.own live in record {
      sized = o.sized;
      seated = o.seated;
      known = λ place lt. l.install j ne place ∙ o.known place lt;
      ahead = λ i lt. l.unplaced j ne i (o.ahead i lt);
      unplaced = λ new. l.unplaced j ne u.install.number (o.unplaced new);
    };
    tries = λ live no. let t = k.tries live no in (l.posted ∙ t.0, tries_stay z.slots b b' j u.attempt (l.tries j ne) t.1);
    counted = record {
      live_is = k.counted.live_is ∙ sym (l.lives j);
      last_is = λ live is. l.count ∙ k.counted.last_is live is;
      taken = λ live is i le lt other. let t = k.counted.taken live is i le
          (subst (λ (c : ℕ). i < c) l.count lt) other in
          let not_id = λ (e : i ≡ id). true_not_false (sym alive ∙ (ap h.live (sym e) ∙ t.0)) in
          (l.lives i ∙ t.0, λ c. l.absent i not_id c (t.1 c));
    };
    noted = λ x has. let t = k.noted x has in (note_stays b b' h h' g x t.0, t.1);
  }
    where
      true_not_false : true ≡ false → ⊥
      true_not_false e = absurd (cc)

  own_stays : (b : Board) (h : Past) (id : ℕ) (v : View) (b' : Board) (h' : Past) (w : View) (more : List Note)
      → Known z b h id v → v.live ≡ true → Moves b h id v b' h' w more → Known z b' h' id w
  own_stays b h id v b' h' w more k live m = let seat : v.seat ≡ id = (k.own live).seated.0 in record {
    own = λ _. m.own;
    tries = λ _. m.tries;
    counted = record {
      live_is = m.same.0 ∙ (k.counted.live_is ∙ sym (m.leaves.lives id));
      last_is = λ now is. m.leaves.count
          ∙ (k.counted.last_is live (sym m.same.2 ∙ is) ∙ ap (λ (s : ℕ). s + 1) (sym m.same.1));
      taken = λ now is i le lt other. let t = k.counted.taken live (sym m.same.2 ∙ is) i
          (subst (λ (r : ℕ). r ≤ i) m.same.3 le) (subst (λ (c : ℕ). i < c) m.leaves.count lt)
          (λ e. other (e ∙ sym m.same.1)) in
          (m.leaves.lives i ∙ t.0, λ c. m.leaves.absent i (λ e. other (e ∙ (sym seat ∙ sym m.same.1))) c (t.1 c));
    };
    noted = subst (AllNotes (NoteHolds z b' h')) (sym m.notes)
        (all_both (NoteHolds z b' h') more v.notes m.noted (λ x has. let t = k.noted x has in
        (note_stays b b' h h' m.grows x t.0, t.1)));
  }

  -- the rule is kept by what a step shows
  pub kept_after : (b : Board) (h : Past) (views : List View) (id : ℕ) (v : View) (b' : Board) (h' : Past) (w : View)
      (more : List Note) → Kept sound z b h views → get_elem? views id ≡ some v → v.live ≡ true
      → Moves b h id v b' h' w more → Kept sound z b' h' (set views id w)
  kept_after b h views id v b' h' w more k at live m = let mine = k.each_view id v at in let l = m.leaves in
      let alive : h.live id ≡ true = sym mine.counted.live_is ∙ live in
      let made : id < h.count = subst (λ (c : ℕ). id < c) k.counted (below_length views id v at) in record {
        few = k.few;
        room = subst (λ (c : ℕ). c ≤ z.seats) (sym l.count) k.room;
        counted = length-set views id w ∙ (k.counted ∙ sym l.count);
        blank = λ j le lt. let old = k.blank j (subst (λ (c : ℕ). c ≤ j) l.count le) lt in
            let ne = λ (e : j ≡ id). let c : h'.count ≡ h.count = l.count in absurd (omega arith) in record {
              words = λ place small. l.install j ne place ∙ old.words place small;
              unplaced = λ i. l.unplaced j ne i (old.unplaced i);
              alive = l.lives j ∙ old.alive;
            };
        untried = λ j le lt no. let c : h'.count ≡ h.count = l.count in
            tries_stay z.slots b b' j (opening_own z) (l.tries j (λ e. absurd (omega arith)))
            (k.untried j (subst (λ (c : ℕ). c ≤ j) l.count le) lt (sym l.posted ∙ no));
        shared = m.shared;
        each_view = each_moved views id w (Known z b h) (Known z b' h') k.each_view
            (own_stays b h id v b' h' w more mine live m)
            (λ j u ne _ known. others_stay b h b' h' id j u m.grows l alive ne known);
      }

  pub nothing_grows : (b : Board) (h : Past) → Grows b h b h
  nothing_grows b h = record {
    versions = λ n. omega arith;
    numbers = λ p. omega arith;
    attempts = λ p a le. refl;
    decisions = λ p m d. d;
    references = λ p a n f u e. e;
    cleans = λ p a n f d c. c;
    courses = λ q k. omega arith;
    placings = λ q k c. refl;
    descriptors = λ q k c e. (e, λ place. refl);
    clock = omega arith;
    words = λ p a le place. refl;
    written = λ p a le e busy. (e, busy, λ place. refl);
  }

  pub leaves_all : (id : ℕ) (b : Board) (h : Past) → Leaves id b h b h
  leaves_all id b h = record { count = refl; lives = λ j. refl; install = λ j ne place. refl; unplaced = λ j ne k e. e; absent = λ j ne k e. e; posted = refl; tries = λ j ne. tries_alone b j }

  -- a look changes no word: it adds notes that are true
  pub noted_more : (b : Board) (h : Past) (views : List View) (id : ℕ) (v : View) (more : List Note)
      → Kept sound z b h views → get_elem? views id ≡ some v → v.live ≡ true
      → AllNotes (NoteHolds z b h) more → Kept sound z b h (set views id (with_notes v more))
  noted_more b h views id v more k at live noted = kept_after b h views id v b h
      (with_notes v more) more k at live record {
        same = (refl, refl, refl, refl);
        notes = refl;
        grows = nothing_grows b h;
        leaves = leaves_all id b h;
        shared = k.shared;
        own = let o = (k.each_view id v at).own live in
            record { sized = o.sized; seated = o.seated; known = o.known; ahead = o.ahead; unplaced = o.unplaced };
        tries = (k.each_view id v at).tries live;
        noted = noted;
      }
