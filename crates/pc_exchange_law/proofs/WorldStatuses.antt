-- The steps of one status, whole but for views: an attempt is published, takes effect, fails or is cleared.
use Rattle.std.proofs.Common.{◌≡◌, ◌≢◌, ℕ, ◌+◌, ◌^◌, ◌<◌, ◌≤◌, ◌⊎◌, inl, inr, ⊎_elim, Bool, List, Some, refl, sym, ap, subst, arith}
use Rattle.pc_model.specs.Cells.{Cells}
use Rattle.pc_model.specs.Exchanges.{Visited, Changed, FreshNode}
use Rattle.pc_model.specs.Forms.{Form, IsSound, Fits}
use Rattle.pc_words.specs.declared.status.Stage.{Stage as StatusStage}
use Rattle.pc_words.specs.declared.status.Stage.TheVariants.{Idle, Undecided, Succeeded}
use Rattle.pc_words.specs.declared.status.Status.{Status}
use Rattle.pc_words.specs.Statuses.{StageInRange}
use Rattle.pc_history.specs.Footprints.{IsAmong}
use Rattle.pc_history.proofs.Updates.{updated_other}
use Rattle.pc_rule_law.specs.Board.{Size, Board, put2}
use Rattle.pc_rule_law.specs.Past.{Has, Attempt, Past, Describes, IsFormed}
use Rattle.pc_rule_law.specs.Stages.{IsIdle, IsOpen, IsUnmade}
use Rattle.pc_rule_law.specs.Views.{IsClean}
use Rattle.pc_rule_law.specs.Rule.{Shared}
use Rattle.pc_rule_law.proofs.Updates.{put2-here, put2-else, at_put2}
use Rattle.pc_rule_law.proofs.Stages.{open_not_idle}
use Rattle.pc_rule_law.proofs.Keeping.{Leaves}
use Rattle.pc_rule_law.proofs.StatusMoves.{StatusMoves, status_shared, status_grows, status_tries}
use Rattle.pc_rule_law.proofs.Keeping.{LeavesTries}
use Rattle.pc_rule_law.proofs.Outcomes as Outcomes
use Rattle.pc_protocol.specs.Histories.{Cause, withdrawn, ended, changed, locked, undecided, committed, aborted, History}
use Rattle.pc_protocol.specs.Histories.{moments, cells_now, IsPublished, IsUsed}
use Rattle.pc_protocol.specs.Links.{MarksAlone}
use Rattle.pc_protocol.specs.Seeing.{Saw}
use Rattle.pc_protocol.specs.Bases.{HasBasis}
use Rattle.pc_protocol.specs.Steps.{publish, CanPublish, commit, CanCommit, abort, CanAbort}
use Rattle.pc_protocol.proofs.Bases.{bases_still, bases_with}
use Rattle.pc_protocol.proofs.Owned.{steps_keep_owned}
use Rattle.pc_protocol.proofs.Stages.{same_cause}
use Rattle.pc_exchange_law.specs.Ties.{code, exchange_of, CellsAreSound}
use Rattle.pc_exchange_law.specs.Changes.{with_status, with_values, at_stage, stage_by, Leads, RaisesNodes}
use Rattle.pc_exchange_law.specs.Attempts.{Scripts, OwnAttempt}
use Rattle.pc_exchange_law.specs.OwnSlots.{IsOfShare, OwnSlots, OwnsSlots}
use Rattle.pc_exchange_law.specs.TieLaws.{MayMake}
use Rattle.pc_exchange_law.specs.AttemptLaws.{LeavesAttempts}
use Rattle.pc_exchange_law.specs.AttemptSteps.{with_script, MovesStatus}
use Rattle.pc_exchange_law.specs.Worlds.{World}
use Rattle.pc_exchange_law.proofs.AttemptSteps.{steps_keep_attempts, steps_leave_attempts}
use Rattle.pc_exchange_law.proofs.Codes.{same_seat, same_number, of_code}
use Rattle.pc_exchange_law.proofs.OwnAttempts.{steps_keep_scripts}
use Rattle.pc_exchange_law.proofs.SeenPaths.{paths_still, paths_with}
use Rattle.pc_exchange_law.proofs.Statuses.{undecided_on_board}
use Rattle.pc_exchange_law.proofs.TieDecisions.{published_before, success_leads, failure_leads, clearing_leads}
use Rattle.pc_exchange_law.proofs.TieMoves.{success_moves}
use Rattle.pc_exchange_law.proofs.TiePublishing.{publish_leads, may_publish}
use Rattle.pc_exchange_law.proofs.OwnSlots.{commit_slots, abort_slots, publish_slots}
use Rattle.pc_exchange_law.proofs.Slots.{look_slots, publish_kept, commit_kept, abort_kept}
use Rattle.pc_exchange_law.proofs.TieRuns.{run_leaves_sound}
use Rattle.pc_exchange_law.proofs.Worlds.{Goes, linked_now}

is_unmade : (cause : Cause) → IsUnmade (stage_by cause)
is_unmade withdrawn = tt
is_unmade ended = tt
is_unmade (changed n) = tt
is_unmade (locked n p) = tt

is_closed : (cause : Cause) → IsOpen (stage_by cause) → ⊥
is_closed withdrawn o = o
is_closed ended o = o
is_closed (changed n) o = o
is_closed (locked n p) o = o

pub is_busy : (cause : Cause) → IsIdle (stage_by cause) → ⊥
is_busy withdrawn i = i
is_busy ended i = i
is_busy (changed n) i = i
is_busy (locked n p) i = i

module _ (form : Form) (z : Size) (id : ℕ) (b : Board) (t : Past) (w : Scripts) (h : History) (late : ℕ → Bool)
    (shared : Shared (CellsAreSound form) z b t) (world : World form z b t w h late) where
  leaves_statuses : (p : ℕ) (s : Status) (cells' plain' : Cells) (attempt' : ℕ → ℕ → Attempt) (words' : ℕ → ℕ → ℕ → ℕ)
      → ((j : ℕ) → j ≢ id → LeavesTries b (with_status b p s) j)
      → Leaves id b t (with_status b p s) (with_values t cells' plain' attempt' words')
  leaves_statuses p s cells' plain' attempt' words' tries = record { count = refl; lives = λ j. refl; install = λ j ne i. refl; unplaced = λ j ne k e. e; absent = λ j ne k e. e; posted = refl; tries = tries }

  -- the pass publishes its next attempt, whose words stand in its descriptor
  module _ (small : id < 64) (c : ℕ) (x : Attempt) (keys : List ℕ) (idle : IsIdle (b.status id).stage)
      (room : (b.status id).number + 1 < 2 ^ 28) (past : c ≤ b.clock) (formed : IsFormed z.slots x)
      (raises : RaisesNodes x) (saw : Saw (moments h) c (exchange_of x)) (describes : Describes z.slots x (b.word id))
      (fits : Fits form z.slots (exchange_of x) keys) (basis : HasBasis h (exchange_of x)) (makes : MayMake h (exchange_of x))
      (marks : MarksAlone (exchange_of x)) (touches : (y : Changed) → IsAmong y x.changes → IsUsed (h.slot y.node))
      (visits : (v : Visited) → IsAmong v x.visits → IsUsed (h.slot v.node))
      (share : (g : FreshNode) → x.fresh ≡ Some g → IsOfShare z id g.node) where
    abbrev a : ℕ
    a = (b.status id).number + 1

    abbrev next : Status
    next = record { number = a; stage = Undecided }

    abbrev attempt' : ℕ → ℕ → Attempt
    attempt' = put2 t.attempt id a x

    abbrev h' : History
    h' = publish h (code id a) (exchange_of x) c

    abbrev words' : ℕ → ℕ → ℕ → ℕ
    words' = put2 t.words id a (b.word id)

    moves : StatusMoves (CellsAreSound form) z b t id id next t.cells t.plain attempt' words'
    moves = Outcomes.publishes (CellsAreSound form) z b t shared id id refl x idle room formed describes

    can : CanPublish h (code id a) (exchange_of x) c
    can = may_publish b t h world.tied id small z.slots c x past formed raises saw makes

    led : Leads h (with_status b id next) (with_values t t.cells t.plain attempt' words') h'
    led = publish_leads b t h world.tied id small c x (λ o. open_not_idle (b.status id).stage o idle) world.rule
        can

    charged' : ℕ → ℕ → List ℕ
    charged' = put2 world.charged id a keys

    fits_still : (q i : ℕ) → q < 64 → IsPublished (h'.stage (code q i))
        → Fits form z.slots (exchange_of (attempt' q i)) (put2 world.charged id a keys q i)
    fits_still q i low published = at_put2 t.attempt id a x
        (λ r j y. r < 64 → IsPublished (h'.stage (code r j))
        → Fits form z.slots (exchange_of y) (put2 world.charged id a keys r j)) q i
        (λ _ _. subst (Fits form z.slots (exchange_of x)) (sym (put2-here world.charged id a keys)) fits)
        (λ ne low_q is. subst (Fits form z.slots (exchange_of (t.attempt q i)))
        (sym (put2-else world.charged id a q i keys ne))
        (world.fits q i low_q (subst IsPublished (updated_other h.stage (code id a) undecided (code q i)
        (λ e. ne (same_seat q i id a low_q small e) (same_number q i id a low_q small e))) is)))
        low published

    pub publish_goes : Goes form z id b t w h late (with_status b id next) (with_values t t.cells t.plain attempt' words')
        (with_script w id a (b.word id)) h' late
    publish_goes = record {
      shared = status_shared (CellsAreSound form) z b t id id next t.cells t.plain attempt' words' shared moves;
      world = record {
        rule = led.keeps.rule;
        tied = led.tied;
        scripts = (steps_keep_scripts z.slots b t w world.scripts).publishes id x describes;
        clock = world.clock;
        opened = world.opened;
        opening = world.opening;
        charged = put2 world.charged id a keys;
        fits = fits_still;
        based = bases_with h (code id a) (exchange_of x) c led.keeps basis world.based;
        seen = paths_with h (code id a) (exchange_of x) c led.keeps
            ((let same : h.clock ≡ b.clock = world.tied.clock in omega arith), saw) world.seen;
        slots = publish_kept z b h world.rule world.slots (linked_now form z id b t w h late world) (with_status b id next)
            (λ n f. refl) (code id a) (exchange_of x) c can marks touches visits
            (λ g is. subst (λ (i : ℕ). IsOfShare z i g.node) (sym (of_code id a small)) (share g is));
        lawful = world.lawful;
      };
      keeps = led.keeps;
      grows = status_grows (CellsAreSound form) z b t id id next t.cells t.plain attempt' words' shared moves;
      attempts = (steps_keep_attempts b t w).statuses id next (with_values t t.cells t.plain attempt' words')
          (with_script w id a (b.word id))
          (record {
            number = omega arith;
            once = λ same. absurd (omega arith);
            busy = λ same. absurd (omega arith);
          }) (λ q k. refl)
          (λ q i place le. (λ l. put2-else w id a q i (b.word id)
          (λ e d. absurd (let same : (b.status q).number ≡ (b.status id).number = ap (λ (r : ℕ). (b.status r).number) e in
          omega arith)) l place));
      leaves = leaves_statuses id next t.cells t.plain attempt' words'
          (status_tries (CellsAreSound form) z b t id id next t.cells t.plain attempt' words' shared moves);
      leaves_attempts = (steps_leave_attempts id b h).own next h'
          (λ j low ne. updated_other h.stage (code id a) undecided (code j (b.status j).number)
          (λ e. ne (same_seat j (b.status j).number id a low small e)));
      leaves_late = λ j ne. refl;
      unread = ((steps_keep_owned h world.rule).publishes (code id a) (exchange_of x) c).unread;
      stays = publish_slots z h world.rule id a (exchange_of x) c small;
    }

  -- an attempt is decided
  module _ (p : ℕ) (small : p < 64) where
    abbrev y : ℕ
    y = code p (b.status p).number

    decided_moves : (stage : StatusStage) → IsOpen (b.status p).stage → MovesStatus b p (at_stage b p stage)
    decided_moves stage pending = record {
      number = omega arith;
      once = λ _ _. pending;
      busy = λ _ _. open_not_idle (b.status p).stage pending;
    }

    -- it takes effect at a stamp
    module _ (s : ℕ) (low : s < 2 ^ 34) (can : CanCommit h y s) where
      abbrev after : Cells
      after = (commit h y s).plain

      abbrev b_won : Board
      b_won = with_status b p (at_stage b p (Succeeded s))

      abbrev now : Cells
      now = cells_now (commit h y s)

      abbrev t_won : Past
      t_won = with_values t now after t.attempt t.words

      pending_then : IsOpen (b.status p).stage
      pending_then = (undecided_on_board b t h world.tied p (b.status p).number small can.undecided).1

      won : Leads h b_won t_won (commit h y s)
      won = success_leads b t h world.tied p small s now after can (λ n f. refl) (λ n f. refl) world.rule

      fits_won : (q i : ℕ) → q < 64 → IsPublished ((commit h y s).stage (code q i))
          → Fits form z.slots (exchange_of (t.attempt q i)) (world.charged q i)
      fits_won q i low_q published = world.fits q i low_q
          (published_before b t h world.tied p small (committed s) can.undecided (code q i) published)

      sound_won : IsSound form z.slots now
      sound_won = run_leaves_sound form z.slots b_won t_won (commit h y s) world.charged won.keeps.rule won.tied
          fits_won world.opening

      won_moves : StatusMoves (CellsAreSound form) z b t id p (at_stage b p (Succeeded s)) now after t.attempt t.words
      won_moves = success_moves (CellsAreSound form) z b t h id p s now shared world.rule world.tied world.slots.changed small low
          can sound_won

      -- of each pass, also of the one whose attempt it is
      pub success_slots : (j : ℕ) (a : OwnAttempt) (o : OwnSlots) → OwnsSlots z h j a o → OwnsSlots z (commit h y s) j a o
      success_slots = commit_slots z h world.rule y s can (λ g is. world.slots.made y g can.undecided is)

      pub success_goes : Goes form z id b t w h late b_won t_won w (commit h y s) late
      success_goes = record {
        shared = status_shared (CellsAreSound form) z b t id p (at_stage b p (Succeeded s)) now after t.attempt t.words shared won_moves;
        world = record {
          rule = won.keeps.rule;
          tied = won.tied;
          scripts = (steps_keep_scripts z.slots b t w world.scripts).decides p (Succeeded s) now after (inl pending_then);
          clock = world.clock;
          opened = world.opened;
          opening = world.opening;
          charged = world.charged;
          fits = fits_won;
          based = bases_still h (commit h y s) won.keeps
              (published_before b t h world.tied p small (committed s) can.undecided) world.based;
          seen = paths_still h (commit h y s) won.keeps
              (published_before b t h world.tied p small (committed s) can.undecided) world.seen;
          slots = commit_kept z b h world.rule world.slots (linked_now form z id b t w h late world) b_won (λ n f. refl) y s can;
          lawful = world.lawful;
        };
        keeps = won.keeps;
        grows = status_grows (CellsAreSound form) z b t id p (at_stage b p (Succeeded s)) now after t.attempt t.words shared won_moves;
        attempts = (steps_keep_attempts b t w).statuses p (at_stage b p (Succeeded s)) t_won w
            (decided_moves (Succeeded s) pending_then) (λ q k. refl) (λ q i place le. refl);
        leaves = leaves_statuses p (at_stage b p (Succeeded s)) now after t.attempt t.words
            (status_tries (CellsAreSound form) z b t id p (at_stage b p (Succeeded s)) now after t.attempt t.words shared won_moves);
        leaves_attempts = (steps_leave_attempts id b h).decided p (Succeeded s) (committed s) (commit h y s) pending_then
            (λ i. i) (λ is. absurd (let clash : committed s ≡ aborted withdrawn = is in cc)) (λ i. refl);
        leaves_late = λ j ne. refl;
        unread = λ j r. (steps_keep_owned h world.rule).commits_unread y s j r can;
        stays = λ j a o _ _. success_slots j a o;
      }

    -- it fails for a cause; only the pass itself withdraws it of its own accord
    module _ (cause : Cause) (in_range : StageInRange (stage_by cause)) (can : CanAbort h y cause)
        (may : (p ≡ id) ⊎ (cause ≢ withdrawn)) where
      abbrev b_lost : Board
      b_lost = with_status b p (at_stage b p (stage_by cause))

      pending_before : IsOpen (b.status p).stage
      pending_before = (undecided_on_board b t h world.tied p (b.status p).number small can.undecided).1

      lost : Leads h b_lost t (abort h y cause)
      lost = failure_leads b t h world.tied p small cause can world.rule

      lost_moves : StatusMoves (CellsAreSound form) z b t id p (at_stage b p (stage_by cause)) t.cells t.plain t.attempt t.words
      lost_moves = Outcomes.fails (CellsAreSound form) z b t shared id p (stage_by cause) in_range pending_before
          (is_unmade cause) (is_closed cause)

      leaves_lost : LeavesAttempts id b h b_lost (abort h y cause)
      leaves_lost = ⊎_elim
          (λ mine. subst (λ (r : ℕ). LeavesAttempts r b h b_lost (abort h y cause)) mine
          ((steps_leave_attempts p b h).own (at_stage b p (stage_by cause)) (abort h y cause)
          (λ j low ne. updated_other h.stage y (aborted cause) (code j (b.status j).number)
          (λ e. ne (same_seat j (b.status j).number p (b.status p).number low small e)))))
          (λ not_own. (steps_leave_attempts id b h).decided p (stage_by cause) (aborted cause) (abort h y cause)
          pending_before (is_busy cause) (λ is. not_own (same_cause cause withdrawn is)) (λ i. refl))
          may

      pub failure_slots : (j : ℕ) (a : OwnAttempt) (o : OwnSlots) → OwnsSlots z h j a o → OwnsSlots z (abort h y cause) j a o
      failure_slots = abort_slots z h world.rule y cause can

      pub failure_goes : Goes form z id b t w h late b_lost t w (abort h y cause) late
      failure_goes = record {
        shared = status_shared (CellsAreSound form) z b t id p (at_stage b p (stage_by cause)) t.cells t.plain t.attempt t.words shared
            lost_moves;
        world = record {
          rule = lost.keeps.rule;
          tied = lost.tied;
          scripts = (steps_keep_scripts z.slots b t w world.scripts).decides p (stage_by cause) t.cells t.plain
              (inl pending_before);
          clock = world.clock;
          opened = world.opened;
          opening = world.opening;
          charged = world.charged;
          fits = λ q i low_q published. world.fits q i low_q
              (published_before b t h world.tied p small (aborted cause) can.undecided (code q i) published);
          based = bases_still h (abort h y cause) lost.keeps
              (published_before b t h world.tied p small (aborted cause) can.undecided) world.based;
          seen = paths_still h (abort h y cause) lost.keeps
              (published_before b t h world.tied p small (aborted cause) can.undecided) world.seen;
          slots = abort_kept z b h world.rule world.slots (linked_now form z id b t w h late world) b_lost (λ n f. refl) y cause can;
          lawful = world.lawful;
        };
        keeps = lost.keeps;
        grows = status_grows (CellsAreSound form) z b t id p (at_stage b p (stage_by cause)) t.cells t.plain t.attempt t.words shared
            lost_moves;
        attempts = (steps_keep_attempts b t w).statuses p (at_stage b p (stage_by cause)) t w
            (decided_moves (stage_by cause) pending_before) (λ q k. refl) (λ q i place le. refl);
        leaves = leaves_statuses p (at_stage b p (stage_by cause)) t.cells t.plain t.attempt t.words
            (status_tries (CellsAreSound form) z b t id p (at_stage b p (stage_by cause)) t.cells t.plain t.attempt t.words shared lost_moves);
        leaves_attempts = leaves_lost;
        leaves_late = λ j ne. refl;
        unread = ((steps_keep_owned h world.rule).aborts y cause).unread;
        stays = λ j a o _ _. failure_slots j a o;
      }

  -- the pass clears its attempt, all of whose words are clean
  module _ (closed : IsOpen (b.status id).stage → ⊥)
      (clean : (x : Changed) → Has (t.attempt id (b.status id).number).changes x
      → IsClean t.placing id (b.status id).number (b.cell x.node x.field)) where
    idle_moves : StatusMoves (CellsAreSound form) z b t id id (at_stage b id Idle) t.cells t.plain t.attempt t.words
    idle_moves = Outcomes.clears (CellsAreSound form) z b t shared id id refl closed clean

    pub clearing_goes : Goes form z id b t w h late (with_status b id (at_stage b id Idle)) t w h late
    clearing_goes = record {
      shared = status_shared (CellsAreSound form) z b t id id (at_stage b id Idle) t.cells t.plain t.attempt t.words shared idle_moves;
      world = record {
        rule = world.rule;
        tied = (clearing_leads b t h world.tied id closed world.rule).tied;
        scripts = (steps_keep_scripts z.slots b t w world.scripts).decides id Idle t.cells t.plain (inr tt);
        clock = world.clock;
        opened = world.opened;
        opening = world.opening;
        charged = world.charged;
        fits = world.fits;
        based = world.based;
        seen = world.seen;
        slots = look_slots z b h world.rule world.slots (linked_now form z id b t w h late world)
            (with_status b id (at_stage b id Idle)) (λ n f. refl);
        lawful = world.lawful;
      };
      keeps = (clearing_leads b t h world.tied id closed world.rule).keeps;
      grows = status_grows (CellsAreSound form) z b t id id (at_stage b id Idle) t.cells t.plain t.attempt t.words shared idle_moves;
      attempts = (steps_keep_attempts b t w).statuses id (at_stage b id Idle) t w
          (record { number = omega arith; once = λ _ o. absurd o; busy = λ _ not_idle. absurd (not_idle tt) }) (λ q k. refl)
          (λ q i place le. refl);
      leaves = leaves_statuses id (at_stage b id Idle) t.cells t.plain t.attempt t.words
          (status_tries (CellsAreSound form) z b t id id (at_stage b id Idle) t.cells t.plain t.attempt t.words shared idle_moves);
      leaves_attempts = (steps_leave_attempts id b h).own (at_stage b id Idle) h (λ j low ne. refl);
      leaves_late = λ j ne. refl;
      unread = λ j s is. is;
      stays = λ j a o _ _ was. was;
    }
