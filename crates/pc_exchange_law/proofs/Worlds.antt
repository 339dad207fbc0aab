-- Each kind of step, whole but for views: from what it owes follow the topics of the board's rule and of the world
-- afterwards, that nothing is taken back, and what is left to the passes of other seats.
use Rattle.std.proofs.Common.{◌≡◌, ◌≢◌, ℕ, suc, ◌≤◌, le_refl, ⊎_elim, Bool, refl, sym, ◌∙◌, subst, arith, ◌<◌, true, false}
use Rattle.std.proofs.lemmas.Bool.{cases_eq, cases_lt}
use Rattle.pc_model.specs.declared.cell.Field.{Field}
use Rattle.pc_model.specs.Forms.{Form, Fits}
use Rattle.pc_model.specs.Linked.{IsLinked}
use Rattle.pc_words.specs.declared.word.WordKind.{WordKind}
use Rattle.pc_rule_law.specs.Board.{Size, Board, put}
use Rattle.pc_rule_law.specs.Past.{Attempt, Placing, Past}
use Rattle.pc_rule_law.specs.Stages.{IsIdle}
use Rattle.pc_rule_law.specs.Rule.{Shared}
use Rattle.pc_rule_law.proofs.Updates.{put-else, put2-else}
use Rattle.pc_rule_law.proofs.Keeping.{Grows, Leaves}
use Rattle.pc_rule_law.proofs.WordMoves.{WordMoves, word_shared, word_grows, word_leaves}
use Rattle.pc_protocol.specs.Histories.{Purpose, for_exchange, for_read}
use Rattle.pc_protocol.specs.Histories.{History, cells_now, IsUsed}
use Rattle.pc_protocol.specs.Owned.{IsUnread}
use Rattle.pc_protocol.specs.Steps.{Keeps, draw, CanDraw, refer}
use Rattle.pc_protocol.proofs.Bases.{bases_still}
use Rattle.pc_protocol.proofs.Owned.{steps_keep_owned}
use Rattle.pc_exchange_law.specs.OwnSlots.{OwnSlots, OwnsSlots}
use Rattle.pc_exchange_law.specs.Slots.{SlotsKept}
use Rattle.pc_exchange_law.specs.Ties.{last_stamp, reference_in, exchange_of, CellsAreSound}
use Rattle.pc_exchange_law.specs.Changes.{with_word, with_next_stamp, with_installs}
use Rattle.pc_exchange_law.specs.Changes.{Leads, ShowsSame}
use Rattle.pc_exchange_law.specs.Attempts.{Scripts, OwnAttempt}
use Rattle.pc_exchange_law.specs.AttemptLaws.{AttemptsGrow, LeavesAttempts}
use Rattle.pc_exchange_law.specs.AttemptSteps.{with_own_word, KeepsAttempts}
use Rattle.pc_exchange_law.specs.ClockEnds.{ClockIsBounded}
use Rattle.pc_exchange_law.specs.Worlds.{World}
use Rattle.pc_exchange_law.proofs.AttemptSteps.{steps_keep_attempts, steps_leave_attempts}
use Rattle.pc_exchange_law.proofs.ClockEnds.{clock_ends}
use Rattle.pc_exchange_law.proofs.OwnAttempts.{steps_keep_scripts}
use Rattle.pc_exchange_law.proofs.SeenPaths.{paths_still}
use Rattle.pc_exchange_law.proofs.TieDraws.{nothing_changes, look_leads, draw_leads, other_draw_leads}
use Rattle.pc_exchange_law.proofs.TieMoves.{may_become, brings}
use Rattle.pc_exchange_law.proofs.OwnSlots.{same_slots}
use Rattle.pc_exchange_law.proofs.SlotCounts.{made_past}
use Rattle.pc_exchange_law.proofs.Slots.{look_slots, word_slots, draw_slots, read_draw_slots}
use Rattle.pc_exchange_law.proofs.TieRuns.{run_leaves_sound}
use Rattle.pc_exchange_law.proofs.TieWords.{may_refer, word_leads}

module _ (form : Form) (z : Size) (id : ℕ) (b : Board) (t : Past) (w : Scripts) (h : History) (late : ℕ → Bool) where
  -- what a step of the pass at seat id comes to
  pub record Goes (b' : Board) (t' : Past) (w' : Scripts) (h' : History) (late' : ℕ → Bool) : Type 0 where
    pub shared : Shared (CellsAreSound form) z b' t'
    pub world : World form z b' t' w' h' late'
    pub keeps : Keeps h h'
    pub grows : Grows b t b' t'
    pub attempts : AttemptsGrow b t w b' t' w'
    pub leaves : Leaves id b t b' t'
    pub leaves_attempts : LeavesAttempts id b h b' h'
    pub leaves_late : (j : ℕ) → j ≢ id → late' j ≡ late j
    pub unread : (j s : ℕ) → IsUnread h j s → IsUnread h' j s
    pub stays : (j : ℕ) (a : OwnAttempt) (o : OwnSlots) → j < 64 → j ≢ id → OwnsSlots z h j a o → OwnsSlots z h' j a o

  -- the cells that the run leaves are linked
  pub linked_now : World form z b t w h late → IsLinked z.slots (cells_now h)
  linked_now world = subst (IsLinked z.slots) (λ i n f. world.tied.cells n f i) (world.lawful z.slots t.cells
      (run_leaves_sound form z.slots b t h world.charged world.rule world.tied world.fits world.opening))

  module _ (few : z.seats ≤ 32) (shared : Shared (CellsAreSound form) z b t) (world : World form z b t w h late) where
    -- a step that changes nothing of which the world speaks: a look, or a store to the own install's descriptor
    pub same_goes : (b' : Board) (t' : Past) → ShowsSame b t b' t' → KeepsAttempts b t b' t'
        → Shared (CellsAreSound form) z b' t' → Grows b t b' t' → Leaves id b t b' t' → Goes b' t' w h late
    same_goes b' t' same keeps shared' grows leaves = record {
      shared = shared';
      world = record {
        rule = world.rule;
        tied = (look_leads b t h world.tied world.rule b' t' same).tied;
        scripts = (steps_keep_scripts z.slots b t w world.scripts).looks b' t' same.statuses keeps.words same.attempts;
        clock = subst (λ (c : ℕ). ClockIsBounded z.seats c late) (sym same.clock) world.clock;
        opened = world.opened;
        opening = world.opening;
        charged = world.charged;
        fits = λ p a small published. subst (λ (x : Attempt). Fits form z.slots (exchange_of x) (world.charged p a))
            (sym (same.attempts p a)) (world.fits p a small published);
        based = world.based;
        seen = world.seen;
        slots = look_slots z b h world.rule world.slots (linked_now world) b' same.words;
        lawful = world.lawful;
      };
      keeps = nothing_changes h world.rule;
      grows = grows;
      attempts = (steps_keep_attempts b t w).looks b' t' keeps;
      leaves = leaves;
      leaves_attempts = (steps_leave_attempts id b h).others b' h keeps.statuses (λ j place _. keeps.words j place)
          (λ x. refl);
      leaves_late = λ j ne. refl;
      unread = λ j s is. is;
      stays = λ j a o _ _ was. was;
    }

    -- one word of a node in use
    pub word_goes : (n : ℕ) (f : Field) (c : WordKind) (placing' : ℕ → ℕ → Placing) (course' : ℕ → ℕ → ℕ)
        → IsUsed (h.slot n) → WordMoves z b t id n f c placing' course'
        → Goes (with_word b n f c) (with_installs t placing' course') w (refer h n f (reference_in c)) late
    word_goes n f c placing' course' in_use moves =
        let led : Leads h (with_word b n f c) (with_installs t placing' course') (refer h n f (reference_in c)) =
        word_leads z b t h few world.tied world.slots.changed n f c (may_become z b t id n f c placing' course' moves) placing' course'
        world.rule in record {
          shared = word_shared z b t id n f c placing' course' (CellsAreSound form) shared moves;
          world = record {
            rule = led.keeps.rule;
            tied = led.tied;
            scripts = (steps_keep_scripts z.slots b t w world.scripts).looks (with_word b n f c)
                (with_installs t placing' course') (λ p. refl) (λ p place. refl) (λ p a. refl);
            clock = world.clock;
            opened = world.opened;
            opening = world.opening;
            charged = world.charged;
            fits = world.fits;
            based = bases_still h (refer h n f (reference_in c)) led.keeps (λ x is. is) world.based;
            seen = paths_still h (refer h n f (reference_in c)) led.keeps (λ x is. is) world.seen;
            slots = word_slots z b h world.rule world.slots (linked_now world) n f c (reference_in c) in_use
                (may_refer z b t h few world.tied world.slots.changed n f c (may_become z b t id n f c placing' course' moves));
            lawful = world.lawful;
          };
          keeps = led.keeps;
          grows = word_grows z b t id n f c placing' course' (CellsAreSound form) shared moves;
          attempts = (steps_keep_attempts b t w).words n f c placing' course'
              (brings (CellsAreSound form) z b t id n f c placing' course' shared moves);
          leaves = word_leaves z b t id n f c placing' course' (CellsAreSound form) shared moves;
          leaves_attempts = (steps_leave_attempts id b h).others (with_word b n f c) (refer h n f (reference_in c))
              (λ p. refl) (λ j place _. refl) (λ x. refl);
          leaves_late = λ j ne. refl;
          unread = ((steps_keep_owned h world.rule).refers n f (reference_in c)).unread;
          stays = λ j a o _ _ was. let owned = (steps_keep_owned h world.rule).refers n f (reference_in c) in
              same_slots z h (refer h n f (reference_in c)) j a o was owned.spares owned.filled refl refl refl refl;
        }

    -- a word of the own descriptor, while the own status is idle
    store_shared : (place x : ℕ) → IsIdle (b.status id).stage → Shared (CellsAreSound form) z (with_own_word b id place x) t
    store_shared place x rests = record {
      sound_now = shared.sound_now;
      ranges = shared.ranges;
      statuses = shared.statuses;
      formed = shared.formed;
      described = shared.described;
      written = λ p busy l lt. ⊎_elim
          (λ e. absurd (busy (subst (λ (i : ℕ). IsIdle (b.status i).stage) (sym e) rests)))
          (λ ne. put2-else b.word id place p l x (λ e _. ne e) ∙ shared.written p busy l lt)
          (cases_eq p id);
      each_cell = shared.each_cell;
      installs = shared.installs;
    }

    pub store_goes : (place x : ℕ) → IsIdle (b.status id).stage → Goes (with_own_word b id place x) t w h late
    store_goes place x rests = record {
      shared = store_shared place x rests;
      world = record {
        rule = world.rule;
        tied = (look_leads b t h world.tied world.rule (with_own_word b id place x) t
            (record { clock = refl; statuses = λ p. refl; words = λ n f. refl; attempts = λ p a. refl; cells = λ n f. refl; plain = λ n f. refl })).tied;
        scripts = (steps_keep_scripts z.slots b t w world.scripts).stores id place x rests;
        clock = world.clock;
        opened = world.opened;
        opening = world.opening;
        charged = world.charged;
        fits = world.fits;
        based = world.based;
        seen = world.seen;
        slots = look_slots z b h world.rule world.slots (linked_now world) (with_own_word b id place x) (λ n f. refl);
        lawful = world.lawful;
      };
      keeps = nothing_changes h world.rule;
      grows = record {
        versions = λ n. omega arith;
        numbers = λ p. omega arith;
        attempts = λ p a le. refl;
        decisions = λ p m d. d;
        references = λ p a n f u e. e;
        cleans = λ p a n f d c. c;
        courses = λ q k. omega arith;
        placings = λ q k c. refl;
        descriptors = λ q k c e. (e, λ i. refl);
        clock = omega arith;
        words = λ p a le l. refl;
        written = λ p a le e busy. (
          e,
          busy,
          λ l. put2-else b.word id place p l x
              (λ is _. busy (subst (λ (i : ℕ). IsIdle (b.status i).stage) (sym is) rests)),
        );
      };
      attempts = (steps_keep_attempts b t w).stores id place x rests;
      leaves = record { count = refl; lives = λ j. refl; install = λ j ne i. refl; unplaced = λ j ne k e. e; absent = λ j ne k e. e; posted = refl; tries = λ j ne. record { number = refl; idle = λ i. i; busy = λ i. i; words = λ l. put2-else b.word id place j l x (λ is _. ne is) } };
      leaves_attempts = (steps_leave_attempts id b h).others (with_own_word b id place x) h (λ p. refl)
          (λ j l ne. put2-else b.word id place j l x (λ e _. ne e)) (λ y. refl);
      leaves_late = λ j ne. refl;
      unread = λ j s is. is;
      stays = λ j a o _ _ was. was;
    }

    -- of the seats, only the one that draws may be late afterwards, and only from the last stamp on
    pub late_after : id < z.seats → late id ≡ false
        → (late' : ℕ → Bool) × ClockIsBounded z.seats (suc b.clock) late' × ((j : ℕ) → j ≢ id → late' j ≡ late j)
    late_after seated not_late = ⊎_elim
        (λ before. (late, clock_ends.early z.seats b.clock late world.clock before, λ j ne. refl))
        (λ after. (
          put late id true,
          clock_ends.last z.seats b.clock late id world.clock after seated not_late,
          λ j ne. put-else late id j true ne,
        ))
        (cases_lt b.clock last_stamp)

    -- a draw
    module _ (late' : ℕ → Bool) (bounded : ClockIsBounded z.seats (suc b.clock) late')
        (others : (j : ℕ) → j ≢ id → late' j ≡ late j) where
      drawn_goes : (d : Purpose) → Leads h (with_next_stamp b) t (draw h d) → SlotsKept z (with_next_stamp b) (draw h d) → Goes (with_next_stamp b) t w (draw h d) late'
      drawn_goes d led slots = record {
        shared = record {
          sound_now = shared.sound_now;
          ranges = shared.ranges;
          statuses = shared.statuses;
          formed = shared.formed;
          described = shared.described;
          written = shared.written;
          each_cell = shared.each_cell;
          installs = shared.installs;
        };
        world = record {
          rule = led.keeps.rule;
          tied = led.tied;
          scripts = record { describe = world.scripts.describe; present = world.scripts.present };
          clock = bounded;
          opened = world.opened;
          opening = world.opening;
          charged = world.charged;
          fits = world.fits;
          based = bases_still h (draw h d) led.keeps (λ x is. is) world.based;
          seen = paths_still h (draw h d) led.keeps (λ x is. is) world.seen;
          slots = slots;
          lawful = world.lawful;
        };
        keeps = led.keeps;
        grows = record {
          versions = λ n. omega arith;
          numbers = λ p. omega arith;
          attempts = λ p a le. refl;
          decisions = λ p m e. e;
          references = λ p a n f u e. e;
          cleans = λ p a n f e c. c;
          courses = λ q k. omega arith;
          placings = λ q k c. refl;
          descriptors = λ q k c e. (e, λ i. refl);
          clock = omega arith;
          words = λ p a le place. refl;
          written = λ p a le e busy. (e, busy, λ place. refl);
        };
        attempts = (steps_keep_attempts b t w).looks (with_next_stamp b) t
            (record { statuses = λ p. refl; words = λ p place. refl; cells = λ n f. refl; placings = λ q k. refl });
        leaves = record { count = refl; lives = λ j. refl; install = λ j ne i. refl; unplaced = λ j ne k e. e; absent = λ j ne k e. e; posted = refl; tries = λ j ne. record { number = refl; idle = λ i. i; busy = λ i. i; words = λ place. refl } };
        leaves_attempts = (steps_leave_attempts id b h).others (with_next_stamp b) (draw h d) (λ p. refl)
            (λ j place _. refl) (λ x. refl);
        leaves_late = others;
        unread = ((steps_keep_owned h world.rule).draws d).unread;
        stays = λ j a o _ _ was. let owned = (steps_keep_owned h world.rule).draws d in
            same_slots z h (draw h d) j a o was owned.spares owned.filled refl refl refl (made_past z j h.item h.clock (world.rule.run.late h.clock (le_refl h.clock)));
      }

      pub draw_goes : (x : ℕ) → CanDraw h x → Goes (with_next_stamp b) t w (draw h (for_exchange x)) late'
      draw_goes x can = drawn_goes (for_exchange x) (draw_leads b t h world.tied world.rule x can)
          (draw_slots z b h world.rule world.slots (linked_now world) (with_next_stamp b) (λ n f. refl) x can)

      pub other_draw_goes : (p : ℕ) → Goes (with_next_stamp b) t w (draw h (for_read p)) late'
      other_draw_goes p = drawn_goes (for_read p) (other_draw_leads b t h world.tied world.rule p)
          (read_draw_slots z b h world.rule world.slots (linked_now world) (with_next_stamp b) (λ n f. refl) p)
