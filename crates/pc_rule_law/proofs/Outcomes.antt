-- What the steps of an exchange of several words show the families: that an attempt is published, fails, succeeds or
-- is cleared is a move of one status, and that a reference is taken away is a move of one word. No step uses these
-- yet; they show that the rule has room for them.
use Rattle.std.proofs.Common.{◌≡◌, ◌≢◌, ℕ, ◌+◌, ◌^◌, ◌<◌, ◌≤◌, inl, refl, sym, ap, ◌∙◌, subst, arith}
use Rattle.pc_model.specs.declared.cell.Field.{Field}
use Rattle.pc_model.specs.declared.cell.Field.TheVariants.{Version}
use Rattle.pc_model.specs.Cells.{Cells}
use Rattle.pc_model.specs.Exchanges.{Changed}
use Rattle.pc_words.specs.declared.word.WordKind.TheVariants.{Plain, Exchange}
use Rattle.pc_words.specs.declared.status.Stage.{Stage}
use Rattle.pc_words.specs.declared.status.Stage.TheVariants.{Idle, Undecided, Succeeded}
use Rattle.pc_words.specs.declared.status.Status.{Status}
use Rattle.pc_words.specs.Statuses.{StageInRange}
use Rattle.pc_rule_law.specs.Board.{Size, Board, put2}
use Rattle.pc_rule_law.specs.Past.{Has, Attempt, Past, change, Describes, IsFormed}
use Rattle.pc_rule_law.specs.Stages.{IsIdle, IsOpen, IsUnmade, IsUndecided, DecidedBelow}
use Rattle.pc_rule_law.specs.Views.{IsClean}
use Rattle.pc_rule_law.specs.Rule.{Shared}
use Rattle.pc_rule_law.proofs.Updates.{put2-here, put2-else, at_put2}
use Rattle.pc_rule_law.proofs.Stages.{open_not_idle, open_is_unmade, unmade_not_idle, unmade_value, decided_not_undecided}
use Rattle.pc_rule_law.proofs.WordKinds.{plain_not_exchange, install_not_exchange, seat_of, number_of}
use Rattle.pc_rule_law.proofs.StatusMoves.{StatusMoves}
use Rattle.pc_rule_law.proofs.WordMoves.{WordMoves}

module _ (sound : ℕ → Cells → Cells → Type 0) (z : Size) (b : Board) (h : Past) (s : Shared sound z b h) (id p : ℕ) where
  abbrev a : ℕ
  a = (b.status p).number

  abbrev at_number : ℕ → Stage → Status
  at_number k stage = record { number = k; stage = stage }

  -- an attempt is published: its descriptor is written, and the status was idle
  pub publishes : p ≡ id → (e : Attempt) → IsIdle (b.status p).stage → a + 1 < 2 ^ 28 → IsFormed z.slots e
      → Describes z.slots e (b.word p)
      → StatusMoves sound z b h id p (at_number (a + 1) Undecided) h.cells h.plain (put2 h.attempt p (a + 1) e)
      (put2 h.words p (a + 1) (b.word p))
  publishes own e idle small formed described = record {
    in_range = (small, tt);
    number = omega arith;
    once = λ same. absurd (omega arith);
    attempts = λ q c le. put2-else h.attempt p (a + 1) q c e
        (λ is d. absurd (let n : (b.status q).number ≡ a = ap (λ (r : ℕ). (b.status r).number) is in omega arith));
    formed = λ q c. at_put2 h.attempt p (a + 1) e (λ _ _ y. IsFormed z.slots y) q c formed (λ _. s.formed q c);
    words_stay = λ q c le place. ap (λ (w : ℕ → ℕ). w place) (put2-else h.words p (a + 1) q c (b.word p)
        (λ is d. absurd (let n : (b.status q).number ≡ a = ap (λ (r : ℕ). (b.status r).number) is in omega arith)));
    described = λ q c. described_then q c;
    written = λ _ place lt. sym (ap (λ (w : ℕ → ℕ). w place) (put2-here h.words p (a + 1) (b.word p)));
    uncleared = λ same. absurd (omega arith);
    foreign = λ ne. absurd (ne own);
    versions = λ n. omega arith;
    others = λ n f _. refl;
    words = λ n f old new _ busy. absurd (busy idle);
    installs = λ q k _ _ _ _ unmade. absurd (unmade_not_idle (b.status p).stage unmade idle);
    sound_now = s.sound_now;
  }
    where
      described_then : (q c : ℕ) → Describes z.slots (put2 h.attempt p (a + 1) e q c) (put2 h.words p (a + 1) (b.word p) q c)
      described_then q c = at_put2 h.attempt p (a + 1) e
          (λ r i y. Describes z.slots y (put2 h.words p (a + 1) (b.word p) r i)) q c
          (subst (Describes z.slots e) (sym (put2-here h.words p (a + 1) (b.word p))) described)
          (λ ne. subst (Describes z.slots (h.attempt q c)) (sym (put2-else h.words p (a + 1) q c (b.word p) ne)) (s.described q c))

  -- an undecided attempt fails: no plain value changes
  pub fails : (stage : Stage) → StageInRange stage → IsOpen (b.status p).stage → IsUnmade stage → (IsOpen stage → ⊥)
      → StatusMoves sound z b h id p (at_number a stage) h.cells h.plain h.attempt h.words
  fails stage in_range pending unmade closed = record {
    in_range = ((s.statuses p).0, in_range);
    number = omega arith;
    once = λ _ o. absurd (closed o);
    attempts = λ q c le. refl;
    formed = s.formed;
    words_stay = λ q c le place. refl;
    described = s.described;
    written = λ _. s.written p (open_not_idle (b.status p).stage pending);
    uncleared = λ _ _. open_not_idle (b.status p).stage pending;
    foreign = λ _. (refl, unmade_not_idle stage unmade, open_not_idle (b.status p).stage pending);
    versions = λ n. omega arith;
    others = λ n f _. refl;
    words = λ n f old new _ _ _ is. (
      refl,
      unmade_not_idle stage unmade,
      unmade_value stage old new unmade
          ∙ (sym (unmade_value (b.status p).stage old new (open_is_unmade (b.status p).stage pending)) ∙ is),
    );
    installs = λ q k _ _ _ _ _. (refl, unmade);
    sound_now = s.sound_now;
  }

  -- where every word of an attempt holds its reference, no install of it stands
  none_where_held : ((x : Changed) → Has (h.attempt p a).changes x → b.cell x.node x.field ≡ Exchange p a)
      → (q k : ℕ) → h.course q k ≡ 1 → (h.placing q k).seat ≡ p → (h.placing q k).number ≡ a → ⊥
  none_where_held held q k stands seat number = let y = s.installs q k
      (let one : h.course q k ≡ 1 = stands in omega arith) in let x = h.placing q k in let l = y.listed in
      let here : b.cell x.node x.field ≡ Exchange p a = held (change x.node x.field x.old l.0)
      (subst (λ (i : ℕ × ℕ). Has (h.attempt i.0 i.1).changes (change x.node x.field x.old l.0))
      (λ j. (seat j, number j)) l.1) in
      install_not_exchange q k p a (sym (y.there stands) ∙ here)

  -- an undecided attempt all of whose words hold its reference succeeds: these words get their new values, and no
  -- other word changes
  pub succeeds : (stamp : ℕ) (cells' plain' : Cells) → stamp < 2 ^ 34 → IsOpen (b.status p).stage
      → ((x : Changed) → Has (h.attempt p a).changes x → b.cell x.node x.field ≡ Exchange p a)
      → ((x : Changed) → Has (h.attempt p a).changes x → plain' x.node x.field ≡ x.new)
      → ((n : ℕ) (f : Field) → b.cell n f ≢ Exchange p a → plain' n f ≡ h.plain n f)
      → ((n : ℕ) → h.plain n Version ≤ plain' n Version) → sound z.slots cells' plain'
      → StatusMoves sound z b h id p (at_number a (Succeeded stamp)) cells' plain' h.attempt h.words
  succeeds stamp cells' plain' small pending held gets stays rises sound_now = record {
    in_range = ((s.statuses p).0, small);
    number = omega arith;
    once = λ _ o. absurd o;
    attempts = λ q c le. refl;
    formed = s.formed;
    words_stay = λ q c le place. refl;
    described = s.described;
    written = λ _. s.written p (open_not_idle (b.status p).stage pending);
    uncleared = λ _ _. open_not_idle (b.status p).stage pending;
    foreign = λ _. (refl, (λ idle. idle), open_not_idle (b.status p).stage pending);
    versions = rises;
    others = stays;
    words = λ n f old new _ _ has _. (refl, (λ idle. idle), sym (gets (change n f old new) has));
    installs = λ q k stands _ seat number _. absurd (none_where_held held q k stands seat number);
    sound_now = sound_now;
  }

  -- a decided attempt all of whose words are clean is cleared
  pub clears : p ≡ id → (IsOpen (b.status p).stage → ⊥)
      → ((x : Changed) → Has (h.attempt p a).changes x → IsClean h.placing p a (b.cell x.node x.field))
      → StatusMoves sound z b h id p (at_number a Idle) h.cells h.plain h.attempt h.words
  clears own closed clean = record {
    in_range = ((s.statuses p).0, tt);
    number = omega arith;
    once = λ _ o. absurd o;
    attempts = λ q c le. refl;
    formed = s.formed;
    words_stay = λ q c le place. refl;
    described = s.described;
    written = λ busy. absurd (busy tt);
    uncleared = λ _ busy. absurd (busy tt);
    foreign = λ ne. absurd (ne own);
    versions = λ n. omega arith;
    others = λ n f _. refl;
    words = λ n f old new is _ has _. absurd
        (subst (IsClean h.placing p a) is (clean (change n f old new) has) refl refl);
    installs = λ q k stands early seat number _. absurd (
        let y = s.installs q k (let one : h.course q k ≡ 1 = stands in omega arith) in let x = h.placing q k in
        let l = y.listed in
        let here = clean (change x.node x.field x.old l.0)
        (subst (λ (i : ℕ × ℕ). Has (h.attempt i.0 i.1).changes (change x.node x.field x.old l.0))
        (λ j. (seat j, number j)) l.1) in
        subst (IsClean h.placing p a) (y.there stands) here seat number early);
    sound_now = s.sound_now;
  }

  -- the reference of a decided attempt leaves a word, whose plain value stays
  pub takes_reference : (n : ℕ) (f : Field) (c : ℕ) → b.cell n f ≡ Exchange p c → DecidedBelow b.status p (c + 1)
      → h.plain n f < 2 ^ 62 → WordMoves z b h id n f (Plain (h.plain n f)) h.placing h.course
  takes_reference n f c is decided small = record {
    in_range = small;
    here = refl;
    each = λ q k. inl (refl, refl, λ _ there. install_not_exchange q k p c (sym there ∙ is));
    decided = λ r i there u. let same : Exchange r i ≡ Exchange p c = sym there ∙ is in
        decided_not_undecided b.status p c (c + 1) decided (omega arith)
        (subst (λ (j : ℕ × ℕ). IsUndecided b.status j.0 j.1)
        (λ t. (seat_of r i p c same t, number_of r i p c same t)) u);
    unclean = λ r i no. absurd (plain_not_exchange (h.plain n f) r i no);
  }
