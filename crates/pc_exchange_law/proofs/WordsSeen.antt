-- What a pass knows after it found a word of a node is so.
use Rattle.std.proofs.Common.{◌≡◌, ℕ, ◌+◌, ◌<◌, ◌≤◌, ⊎_elim, Bool, ◌==◌, List, [], ◌∷◌, ◌++◌, refl, sym, ◌∙◌, subst}
use Rattle.std.proofs.lemmas.Bool.{cases_lt}
use Rattle.pc_model.specs.declared.cell.Field.{Field}
use Rattle.pc_model.specs.declared.cell.Field.TheVariants.{Version, Key, Value, Left, Right, Parent, Height, Spare}
use Rattle.pc_words.specs.declared.word.WordKind.{WordKind}
use Rattle.pc_words.specs.declared.word.WordKind.TheVariants.{Plain, Install, Exchange}
use Rattle.pc_rule_law.specs.Board.{Board}
use Rattle.pc_rule_law.specs.Past.{Has, Past}
use Rattle.pc_rule_law.specs.Stages.{DecidedBelow}
use Rattle.pc_rule_law.proofs.Lists.{has_first, has_left, has_right, all_both, all_none, all_one}
use Rattle.pc_protocol.specs.Histories.{Stage, History, IsPublished, IsSpare}
use Rattle.pc_protocol.specs.Rules.{Rule}
use Rattle.pc_protocol.specs.Notes.{Note, clock_was, visited, read_word, saw, looked, published, held, drew, verdict, in_use, rival, in_run, cleared, outdated, IsTrueNote}
use Rattle.pc_protocol.proofs.Stages.{absent_not_published}
use Rattle.pc_exchange_law.specs.Ties.{code, seat_in, number_in, IsSeated, IsTied}
use Rattle.pc_exchange_law.specs.Attempts.{Scripts, AreScripts, AttemptNote, came_to, calm, calm_but, IsTrueAttemptNote}
use Rattle.pc_exchange_law.specs.ClockEnds.{ClockIsBounded}
use Rattle.pc_exchange_law.specs.Passes.{PassKnows, IsKnown}
use Rattle.pc_exchange_law.specs.Knowing.{with_more, Learns, WordSeen, LoadsTellPasses}
use Rattle.pc_exchange_law.proofs.Calms.{calms_serve}
use Rattle.pc_exchange_law.proofs.Codes.{of_code, number_of_code, seat_is_small, code_of}
use Rattle.pc_exchange_law.proofs.Knowing.{decided_on_board, more_known, more_learns, descriptor_loaded, status_seen, clock_seen}
use Rattle.pc_exchange_law.proofs.NoteLists.{learnt, has_learnt, all_learnt, only_if, has_if_same, all_if_same}
use Rattle.pc_exchange_law.proofs.TieTelling.{board_tells}

-- a published attempt is not above the number of its pass's status
pub published_below : (b : Board) (t : Past) (h : History) → IsTied b t h → (p a : ℕ) → p < 64
    → IsPublished (h.stage (code p a)) → a ≤ (b.status p).number
published_below b t h tied p a small is = ⊎_elim
    (λ lt. absurd (absent_not_published (h.stage (code p a)) ((tied.stages p a small).later lt) is))
    (λ le. le)
    (cases_lt (b.status p).number a)

module _ (slots : ℕ) (b : Board) (t : Past) (w : Scripts) (h : History) (late : ℕ → Bool) (id : ℕ) (k : PassKnows)
    (known : IsKnown b t w h late id k) (rule : Rule h) (tied : IsTied b t h) (n : ℕ) (f : Field)
    (no_spare : IsSpare (h.slot n) → ⊥) (worth : (x : ℕ) → b.cell n f ≡ Plain x → t.plain n f ≡ x) where
  calm_by : ℕ → ℕ → WordKind → List AttemptNote
  calm_by p a (Plain x) = []
  calm_by p a (Install q i) = calm_but p a n f q i ∷ []
  calm_by p a (Exchange q e) = calm p a n f ∷ []

  calm_true : (p a : ℕ) → DecidedBelow b.status p (a + 1) → (c : WordKind) → b.cell n f ≡ c → (m : AttemptNote)
      → Has (calm_by p a c) m
      → IsTrueAttemptNote b t w m
  unfolding calm_by
  calm_true p a decided (Plain x) is = all_none (IsTrueAttemptNote b t w)
  calm_true p a decided (Install q i) is = all_one (IsTrueAttemptNote b t w) (calm_but p a n f q i)
      ((calms_serve b t w p a n f).install q i decided is)
  calm_true p a decided (Exchange q e) is = all_one (IsTrueAttemptNote b t w) (calm p a n f)
      ((calms_serve b t w p a n f).reference q e decided is)

  calms_of : WordKind → Note → List AttemptNote
  calms_of c (clock_was x) = []
  calms_of c (visited m v x) = []
  calms_of c (read_word m v g x y) = []
  calms_of c (saw x e) = []
  calms_of c (looked x m g) = []
  calms_of c (published x e y) = []
  calms_of c (held x m g) = []
  calms_of c (drew x y) = []
  calms_of c (verdict x st) = calm_by (seat_in x) (number_in x) c
  calms_of c (in_use m) = []
  calms_of c (rival x m y) = []
  calms_of c (in_run x e) = []
  calms_of c (cleared x) = []
  calms_of c (outdated x m) = []

  calms_true : (o : Note) → IsTrueNote h o → (m : AttemptNote) → Has (calms_of (b.cell n f) o) m
      → IsTrueAttemptNote b t w m
  unfolding calms_of
  calms_true (clock_was x) is = all_none (IsTrueAttemptNote b t w)
  calms_true (visited m v x) is = all_none (IsTrueAttemptNote b t w)
  calms_true (read_word m v g x y) is = all_none (IsTrueAttemptNote b t w)
  calms_true (saw x e) is = all_none (IsTrueAttemptNote b t w)
  calms_true (looked x m g) is = all_none (IsTrueAttemptNote b t w)
  calms_true (published x e y) is = all_none (IsTrueAttemptNote b t w)
  calms_true (held x m g) is = all_none (IsTrueAttemptNote b t w)
  calms_true (drew x y) is = all_none (IsTrueAttemptNote b t w)
  calms_true (verdict x st) is = calm_true (seat_in x) (number_in x)
      (decided_on_board b t h tied (seat_in x) (number_in x) st (seat_is_small x)
      (subst (λ (y : ℕ). IsTrueNote h (verdict y st)) (sym (code_of x)) is)) (b.cell n f) refl
  calms_true (in_use m) is = all_none (IsTrueAttemptNote b t w)
  calms_true (rival x m y) is = all_none (IsTrueAttemptNote b t w)
  calms_true (in_run x e) is = all_none (IsTrueAttemptNote b t w)
  calms_true (cleared x) is = all_none (IsTrueAttemptNote b t w)
  calms_true (outdated x m) is = all_none (IsTrueAttemptNote b t w)

  -- what is noted for a verdict on an attempt
  has_calm : (c : WordKind) (p a : ℕ) (st : Stage) → p < 64 → Has k.told (verdict (code p a) st)
      → (m : AttemptNote) → Has (calm_by p a c) m → Has (learnt (calms_of c) k.told) m
  unfolding calms_of
  has_calm c p a st small has m here = has_learnt (calms_of c) k.told (verdict (code p a) st) m has
      (subst (λ (i : ℕ × ℕ). Has (calm_by i.0 i.1 c) m)
      (λ i. (sym (of_code p a small) i, sym (number_of_code p a small) i)) here)

  -- the pass of a reference that is found has come to its attempt
  came_by : WordKind → List AttemptNote
  came_by (Plain x) = []
  came_by (Install q i) = []
  came_by (Exchange p a) = came_to p a ∷ []

  came_true : (c : WordKind) → b.cell n f ≡ c → (m : AttemptNote) → Has (came_by c) m → IsTrueAttemptNote b t w m
  unfolding came_by
  came_true (Plain x) is = all_none (IsTrueAttemptNote b t w)
  came_true (Install q i) is = all_none (IsTrueAttemptNote b t w)
  came_true (Exchange p a) is = all_one (IsTrueAttemptNote b t w) (came_to p a)
      (published_below b t h tied p a (subst IsSeated is (tied.seated n f)) ((board_tells b t h rule tied).reference n f p a is).0)

  -- a version, and another word at each version that was visited
  version_by : Field → ℕ → List Note
  version_by Version x = visited n x b.clock ∷ []
  version_by Key x = []
  version_by Value x = []
  version_by Left x = []
  version_by Right x = []
  version_by Parent x = []
  version_by Height x = []
  version_by Spare x = []

  version_true : (g : Field) (x : ℕ) → t.plain n g ≡ x → (m : Note) → Has (version_by g x) m → IsTrueNote h m
  unfolding version_by
  version_true Version x is = all_one (IsTrueNote h) (visited n x b.clock)
      (subst (λ (v : ℕ). IsTrueNote h (visited n v b.clock)) is ((board_tells b t h rule tied).version n no_spare))
  version_true Key x is = all_none (IsTrueNote h)
  version_true Value x is = all_none (IsTrueNote h)
  version_true Left x is = all_none (IsTrueNote h)
  version_true Right x is = all_none (IsTrueNote h)
  version_true Parent x is = all_none (IsTrueNote h)
  version_true Height x is = all_none (IsTrueNote h)
  version_true Spare x is = all_none (IsTrueNote h)

  reads_by : ℕ → Note → List Note
  reads_by x (clock_was y) = []
  reads_by x (visited m v y) = only_if (m == n) (read_word n v f x b.clock)
  reads_by x (read_word m v g y u) = []
  reads_by x (saw y e) = []
  reads_by x (looked y m g) = []
  reads_by x (published y e u) = []
  reads_by x (held y m g) = []
  reads_by x (drew y u) = []
  reads_by x (verdict y st) = []
  reads_by x (in_use m) = []
  reads_by x (rival y m u) = []
  reads_by x (in_run y e) = []
  reads_by x (cleared y) = []
  reads_by x (outdated y m) = []

  reads_true : (x : ℕ) → t.plain n f ≡ x → (o : Note) → IsTrueNote h o → (m : Note) → Has (reads_by x o) m
      → IsTrueNote h m
  unfolding reads_by
  reads_true x is (clock_was y) o = all_none (IsTrueNote h)
  reads_true x is (visited m v y) o = all_if_same (IsTrueNote h) m n (read_word n v f x b.clock)
      (λ same. subst (λ (u : ℕ). IsTrueNote h (read_word n v f u b.clock)) is
      ((board_tells b t h rule tied).word n v y f no_spare (subst (λ (i : ℕ). IsTrueNote h (visited i v y)) same o)))
  reads_true x is (read_word m v g y u) o = all_none (IsTrueNote h)
  reads_true x is (saw y e) o = all_none (IsTrueNote h)
  reads_true x is (looked y m g) o = all_none (IsTrueNote h)
  reads_true x is (published y e u) o = all_none (IsTrueNote h)
  reads_true x is (held y m g) o = all_none (IsTrueNote h)
  reads_true x is (drew y u) o = all_none (IsTrueNote h)
  reads_true x is (verdict y st) o = all_none (IsTrueNote h)
  reads_true x is (in_use m) o = all_none (IsTrueNote h)
  reads_true x is (rival y m u) o = all_none (IsTrueNote h)
  reads_true x is (in_run y e) o = all_none (IsTrueNote h)
  reads_true x is (cleared y) o = all_none (IsTrueNote h)
  reads_true x is (outdated y m) o = all_none (IsTrueNote h)

  told_by : WordKind → List Note
  told_by (Plain x) = version_by f x ++ learnt (reads_by x) k.told
  told_by (Install q i) = []
  told_by (Exchange p a) = held (code p a) n f ∷ []

  told_true : (c : WordKind) → b.cell n f ≡ c → (m : Note) → Has (told_by c) m → IsTrueNote h m
  unfolding told_by
  told_true (Plain x) is = all_both (IsTrueNote h) (version_by f x) (learnt (reads_by x) k.told)
      (version_true f x (worth x is))
      (all_learnt (IsTrueNote h) (reads_by x) k.told (λ o has. reads_true x (worth x is) o (known.told o has)))
  told_true (Install q i) is = all_none (IsTrueNote h)
  told_true (Exchange p a) is = all_one (IsTrueNote h) (held (code p a) n f)
      ((board_tells b t h rule tied).reference n f p a is)

  has_version : (g : Field) (x : ℕ) → g ≡ Version → Has (version_by g x) (visited n x b.clock)
  unfolding version_by
  has_version g x is = subst (λ (u : Field). Has (version_by u x) (visited n x b.clock)) (sym is)
      (has_first (visited n x b.clock) [])

  has_read : (x v was : ℕ) → Has k.told (visited n v was) → Has (learnt (reads_by x) k.told) (read_word n v f x b.clock)
  unfolding reads_by
  has_read x v was has = has_learnt (reads_by x) k.told (visited n v was) (read_word n v f x b.clock) has
      (has_if_same n n (read_word n v f x b.clock) refl)

  pub word_seen : (k' : PassKnows) × WordSeen k n f (b.cell n f) k' × IsKnown b t w h late id k'
  unfolding calm_by came_by told_by
  word_seen = let c = b.cell n f in let calms = learnt (calms_of c) k.told in let more = came_by c ++ calms in
      let told = told_by c in (
        with_more k more told,
        record {
          learns = more_learns slots b t w h late id k known more told;
          came = λ p a is. has_left more k.noted (came_to p a) (has_left (came_by c) calms (came_to p a)
              (subst (λ (u : WordKind). Has (came_by u) (came_to p a)) (sym is) (has_first (came_to p a) [])));
          holds = λ p a is. has_left told k.told (held (code p a) n f)
              (subst (λ (u : WordKind). Has (told_by u) (held (code p a) n f)) (sym is)
              (has_first (held (code p a) n f) []));
          version = λ x field is. (
            b.clock,
            has_left told k.told (visited n x b.clock)
                (subst (λ (u : WordKind). Has (told_by u) (visited n x b.clock)) (sym is)
                (has_left (version_by f x) (learnt (reads_by x) k.told) (visited n x b.clock) (has_version f x field))),
          );
          number = λ x v was is has. (
            b.clock,
            has_left told k.told (read_word n v f x b.clock)
                (subst (λ (u : WordKind). Has (told_by u) (read_word n v f x b.clock)) (sym is)
                (has_right (version_by f x) (learnt (reads_by x) k.told) (read_word n v f x b.clock)
                (has_read x v was has))),
          );
          reference = λ p a q e st small is has. has_left more k.noted (calm p a n f)
              (has_right (came_by c) calms (calm p a n f) (has_calm c p a st small has (calm p a n f)
              (subst (λ (u : WordKind). Has (calm_by p a u) (calm p a n f)) (sym is) (has_first (calm p a n f) []))));
          install = λ p a q i st small is has. has_left more k.noted (calm_but p a n f q i)
              (has_right (came_by c) calms (calm_but p a n f q i) (has_calm c p a st small has (calm_but p a n f q i)
              (subst (λ (u : WordKind). Has (calm_by p a u) (calm_but p a n f q i)) (sym is)
              (has_first (calm_but p a n f q i) []))));
        },
        more_known slots b t w h late id k known more told
            (all_both (IsTrueAttemptNote b t w) (came_by c) calms (came_true c refl)
            (all_learnt (IsTrueAttemptNote b t w) (calms_of c) k.told (λ o has. calms_true o (known.told o has))))
            (told_true c refl),
      )

-- what was found is known still to a pass that has learnt more
pub seen_still : (k : PassKnows) (n : ℕ) (f : Field) (c : WordKind) (k' k2 : PassKnows) → WordSeen k n f c k' → Learns k' k2
    → WordSeen k n f c k2
seen_still k n f c k' k2 seen more = record {
  learns = record {
    own = more.own ∙ seen.learns.own;
    ready = more.ready ∙ seen.learns.ready;
    slots = more.slots ∙ seen.learns.slots;
    noted = λ m has. more.noted m (seen.learns.noted m has);
    told = λ m has. more.told m (seen.learns.told m has);
  };
  came = λ p a is. more.noted (came_to p a) (seen.came p a is);
  holds = λ p a is. more.told (held (code p a) n f) (seen.holds p a is);
  version = λ x field is. let there = seen.version x field is in (there.0, more.told (visited n x there.0) there.1);
  number = λ x v was is has. let there = seen.number x v was is has in
      (there.0, more.told (read_word n v f x there.0) there.1);
  reference = λ p a q e st small is has. more.noted (calm p a n f) (seen.reference p a q e st small is has);
  install = λ p a q i st small is has. more.noted (calm_but p a n f q i) (seen.install p a q i st small is has);
}

pub loads_tell_passes : (slots seats : ℕ) (b : Board) (t : Past) (w : Scripts) (h : History) (late : ℕ → Bool) (id : ℕ)
    (k : PassKnows) → AreScripts slots b t w → Rule h → IsTied b t h → ClockIsBounded seats b.clock late
    → IsKnown b t w h late id k → LoadsTellPasses b t w h late id k
loads_tell_passes slots seats b t w h late id k scripts rule tied bounded known = record {
  descriptor = descriptor_loaded slots b t w h late id k known;
  status = status_seen slots b t w h late id k known scripts rule tied;
  word = word_seen slots b t w h late id k known rule tied;
  clock = clock_seen slots b t w h late id k known seats bounded rule tied;
}
