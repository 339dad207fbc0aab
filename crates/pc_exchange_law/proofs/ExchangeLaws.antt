-- The law of the steps of an exchange.
use Rattle.std.proofs.Common.{◌<◌, ◌+◌, true, false, ◌∷◌, None, refl, sym, ap, arith, ℕ, ◌≤◌, le_refl, Bool, subst}
use Rattle.pc_model.specs.declared.cell.Field.{Field}
use Rattle.pc_model.specs.Forms.{Form, Fits}
use Rattle.pc_words.specs.declared.word.WordKind.{WordKind}
use Rattle.pc_rule_law.specs.Board.{Size, Board}
use Rattle.pc_rule_law.specs.Past.{Attempt, Placing, Past}
use Rattle.pc_rule_law.specs.Views.{View, NoteHolds, AllNotes}
use Rattle.pc_rule_law.specs.Rule.{Own, Shared}
use Rattle.pc_protocol.specs.Histories.{Purpose, for_exchange, for_read, withdrawn, History, IsUsed}
use Rattle.pc_protocol.specs.Notes.{verdict, IsTrueNote}
use Rattle.pc_protocol.specs.Steps.{draw, abort, refer}
use Rattle.pc_protocol.proofs.Bases.{bases_still}
use Rattle.pc_protocol.proofs.Owned.{steps_keep_owned}
use Rattle.pc_exchange_law.specs.OwnSlots.{OwnSlots, OwnsSlots}
use Rattle.pc_exchange_law.specs.Ties.{code, reference_in, exchange_of, CellsAreSound}
use Rattle.pc_exchange_law.specs.Changes.{with_word, with_next_stamp, with_installs, ShowsSame, MayBecome}
use Rattle.pc_exchange_law.specs.Attempts.{Scripts, OwnAttempt}
use Rattle.pc_exchange_law.specs.AttemptSteps.{KeepsAttempts, BringsInstalls}
use Rattle.pc_exchange_law.specs.ClockEnds.{ClockIsBounded}
use Rattle.pc_exchange_law.specs.Passes.{PassKnows, IsKnown}
use Rattle.pc_exchange_law.specs.Knowing.{after_draw, after_refusal}
use Rattle.pc_exchange_law.specs.Worlds.{World}
use Rattle.pc_exchange_law.specs.ExchangeLaws.{Comes, ExchangeStepsGoOn}
use Rattle.pc_exchange_law.proofs.AttemptNotes.{attempt_note_stays}
use Rattle.pc_exchange_law.proofs.AttemptSteps.{steps_keep_attempts, steps_leave_attempts}
use Rattle.pc_exchange_law.proofs.KnowingSteps.{own_same}
use Rattle.pc_exchange_law.proofs.OwnAttempts.{steps_keep_scripts}
use Rattle.pc_exchange_law.proofs.SeenPaths.{paths_still}
use Rattle.pc_exchange_law.proofs.TieDraws.{look_leads}
use Rattle.pc_exchange_law.proofs.OwnSlots.{same_slots, publish_own, commit_slots, abort_slots, rewritten, clear_own}
use Rattle.pc_exchange_law.proofs.SlotCounts.{made_past}
use Rattle.pc_exchange_law.proofs.Slots.{look_slots, word_slots}
use Rattle.pc_exchange_law.proofs.TieDecisions.{may_withdraw}
use Rattle.pc_exchange_law.proofs.TieWords.{may_refer, word_leads}
use Rattle.pc_exchange_law.proofs.Worlds.{Goes, linked_now}
use Rattle.pc_exchange_law.proofs.ExchangeSteps.{store_step, publish_step, draw_step, refuse_step, success_can, success_step, may_abort}
use Rattle.pc_exchange_law.proofs.ExchangeSteps.{failure_step, withdraw_step, take_step, clear_step}

module _ (form : Form) (z : Size) (id : ℕ) (b : Board) (t : Past) (w : Scripts) (h : History) (late : ℕ → Bool) where
  pub comes : (b' : Board) (t' : Past) (w' : Scripts) (h' : History) (late' : ℕ → Bool) (k' : PassKnows)
      → Goes form z id b t w h late b' t' w' h' late' × IsKnown b' t' w' h' late' id k' → OwnsSlots z h' id k'.own k'.slots
      → Comes form z id b t w h late b' t' w' h' late' k'
  comes b' t' w' h' late' k' step owned = record {
    shared = step.0.shared;
    world = step.0.world;
    keeps = step.0.keeps;
    attempts = step.0.attempts;
    leaves = step.0.leaves_attempts;
    leaves_late = step.0.leaves_late;
    unread = step.0.unread;
    stays = step.0.stays;
    owned = owned;
    known = step.1;
  }

module _ (form : Form) (z : Size) (id : ℕ) (b : Board) (t : Past) (w : Scripts) (h : History) (late : ℕ → Bool)
    (k : PassKnows) (few : z.seats ≤ 32) (seated : id < 64) (world : World form z b t w h late)
    (known : IsKnown b t w h late id k) (owned : OwnsSlots z h id k.own k.slots) where
  -- a step that changes nothing of which the world speaks
  other_comes : (b' : Board) (t' : Past) → ShowsSame b t b' t' → KeepsAttempts b t b' t'
      → Shared (CellsAreSound form) z b' t'
      → Comes form z id b t w h late b' t' w h late k
  other_comes b' t' same keeps shared' =
      let led = look_leads b t h world.tied world.rule b' t' same in
      let grows = (steps_keep_attempts b t w).looks b' t' keeps in record {
        shared = shared';
        world = record {
          rule = world.rule;
          tied = led.tied;
          scripts = (steps_keep_scripts z.slots b t w world.scripts).looks b' t' same.statuses keeps.words same.attempts;
          clock = subst (λ (c : ℕ). ClockIsBounded z.seats c late) (sym same.clock) world.clock;
          opened = world.opened;
          opening = world.opening;
          charged = world.charged;
          fits = λ p a small published. subst (λ (x : Attempt). Fits form z.slots (exchange_of x) (world.charged p a))
              (sym (same.attempts p a)) (world.fits p a small published);
          based = world.based;
          seen = world.seen;
          slots = look_slots z b h world.rule world.slots (linked_now form z id b t w h late world) b' same.words;
          lawful = world.lawful;
        };
        keeps = led.keeps;
        attempts = grows;
        leaves = (steps_leave_attempts id b h).others b' h keeps.statuses (λ j place _. keeps.words j place) (λ x. refl);
        leaves_late = λ j ne. refl;
        unread = λ j s is. is;
        stays = λ j a o _ _ was. was;
        owned = owned;
        known = record {
          own = own_same b h id k.own b' h seated keeps.statuses keeps.words (λ x. refl) known.own;
          ready = known.ready;
          noted = λ n has. attempt_note_stays b t w b' t' w grows n (known.noted n has);
          told = known.told;
        };
      }

  -- a step on one word of a node
  word_comes : (n : ℕ) (f : Field) (c : WordKind) (placing' : ℕ → ℕ → Placing) (course' : ℕ → ℕ → ℕ)
      → IsUsed (h.slot n) → MayBecome z b t n f c → BringsInstalls b t c placing'
      → Shared (CellsAreSound form) z (with_word b n f c) (with_installs t placing' course')
      → Comes form z id b t w h late (with_word b n f c) (with_installs t placing' course') w
      (refer h n f (reference_in c)) late k
  word_comes n f c placing' course' in_use may brings shared' =
      let b' : Board = with_word b n f c in let t' : Past = with_installs t placing' course' in
      let h' : History = refer h n f (reference_in c) in
      let led = word_leads z b t h few world.tied world.slots.changed n f c may placing' course' world.rule in
      let grows = (steps_keep_attempts b t w).words n f c placing' course' brings in
      let kept = (steps_keep_owned h world.rule).refers n f (reference_in c) in
      let slots_stay : (j : ℕ) (a : OwnAttempt) (o : OwnSlots) → OwnsSlots z h j a o → OwnsSlots z h' j a o =
      λ j a o was. same_slots z h h' j a o was kept.spares kept.filled refl refl refl refl in record {
        shared = shared';
        world = record {
          rule = led.keeps.rule;
          tied = led.tied;
          scripts = (steps_keep_scripts z.slots b t w world.scripts).looks b' t' (λ p. refl) (λ p place. refl)
              (λ p a. refl);
          clock = world.clock;
          opened = world.opened;
          opening = world.opening;
          charged = world.charged;
          fits = world.fits;
          based = bases_still h h' led.keeps (λ x is. is) world.based;
          seen = paths_still h h' led.keeps (λ x is. is) world.seen;
          slots = word_slots z b h world.rule world.slots (linked_now form z id b t w h late world) n f c (reference_in c) in_use
              (may_refer z b t h few world.tied world.slots.changed n f c may);
          lawful = world.lawful;
        };
        keeps = led.keeps;
        attempts = grows;
        leaves = (steps_leave_attempts id b h).others b' h' (λ p. refl) (λ j place _. refl) (λ x. refl);
        leaves_late = λ j ne. refl;
        unread = ((steps_keep_owned h world.rule).refers n f (reference_in c)).unread;
        stays = λ j a o _ _. slots_stay j a o;
        owned = slots_stay id k.own k.slots owned;
        known = record {
          own = own_same b h id k.own b' h' seated (λ p. refl) (λ p place. refl) (λ x. refl) known.own;
          ready = known.ready;
          noted = λ m has. attempt_note_stays b t w b' t' w grows m (known.noted m has);
          told = λ m has. led.keeps.notes m (known.told m has);
        };
      }

pub exchange_steps_go_on : (form : Form) (z : Size) (id : ℕ) (b : Board) (t : Past) (w : Scripts) (h : History)
    (late : ℕ → Bool) (v : View) (k : PassKnows) → z.seats ≤ 32 → Shared (CellsAreSound form) z b t
    → World form z b t w h late
    → Own z b.install t.course id v
    → AllNotes (NoteHolds z b t) v.notes → IsKnown b t w h late id k → OwnsSlots z h id k.own k.slots
    → ExchangeStepsGoOn form z id b t w h late v k
exchange_steps_go_on form z id b t w h late v k few shared world own noted known owned = record {
  others = other_comes form z id b t w h late k few (let lt = own.seated.1 in omega arith) world known owned;
  words = word_comes form z id b t w h late k few (let lt = own.seated.1 in omega arith) world known owned;
  stores = λ place x may. comes form z id b t w h late _ _ _ _ _ _
      (store_step form z few id b t w h late shared world v own noted k known owned place x may) (rewritten z h id k.own k.slots owned (record k.own { words = (place, x) ∷ k.own.words }) refl (λ r. r));
  publishes = λ path x c keys used_path may. comes form z id b t w h late _ _ _ _ _ _
      (publish_step form z few id b t w h late shared world v own noted k known owned path x c keys used_path may)
      (publish_own z h world.rule id ((b.status id).number + 1) (exchange_of x) c (let lt = own.seated.1 in omega arith) k.own
      (record k.own { number = k.own.number + 1; busy = true; withdrew = false }) k.slots may.rests
      (ap (λ (i : ℕ). i + 1) (sym known.own.number)) refl owned may.makes);
  draws = λ p a may. let step = draw_step form z few id b t w h late shared world v own noted k known owned p a may in (
    step.0,
    subst (λ (s : ℕ). Comes form z id b t w h late (with_next_stamp b) t w (draw h (for_exchange (code p a))) step.0
        (after_draw k (code p a) s)) world.tied.clock (comes form z id b t w h late _ _ _ _ _ _ step.1
        (drawn_slots (for_exchange (code p a)))),
  );
  refuses = λ ready. let step = refuse_step form z few id b t w h late shared world v own noted k known owned ready in (
    step.0,
    subst (λ (s : ℕ). Comes form z id b t w h late (with_next_stamp b) t w (draw h (for_read id)) step.0
        (after_refusal k s)) world.tied.clock (comes form z id b t w h late _ _ _ _ _ _ step.1 (drawn_slots (for_read id))),
  );
  succeeds = λ p s small pending may. comes form z id b t w h late _ _ _ _ _ _
      (success_step form z few id b t w h late shared world v own noted k known owned p s small pending may)
      (commit_slots z h world.rule (code p (b.status p).number) s
      (success_can form z few id b t w h late shared world v own noted k known owned p s small pending may)
      (λ g is. world.slots.made (code p (b.status p).number) g
      (success_can form z few id b t w h late shared world v own noted k known owned p s small pending may).undecided is) id k.own k.slots owned);
  fails = λ p cause small pending in_range may. comes form z id b t w h late _ _ _ _ _ _
      (failure_step form z few id b t w h late shared world v own noted k known owned p cause small pending in_range may)
      (abort_slots z h world.rule (code p (b.status p).number) cause
      (may_abort form z few id b t w h late shared world v own noted k known owned p small pending cause may) id k.own k.slots owned);
  withdraws = λ pending. comes form z id b t w h late _ _ _ _ _ _
      (withdraw_step form z few id b t w h late shared world v own noted k known owned pending)
      (rewritten z (abort h (code id (b.status id).number) withdrawn) id k.own k.slots
      (abort_slots z h world.rule (code id (b.status id).number) withdrawn
      (may_withdraw b t h world.tied id (b.status id).number (let lt = own.seated.1 in omega arith) (refl, pending)) id k.own k.slots owned)
      (record k.own { withdrew = true }) refl (λ r. r));
  takes = λ p a n f x is small may. comes form z id b t w h late _ _ _ _ _ _
      (take_step form z few id b t w h late shared world v own noted k known owned p a n f x is small may)
      (let kept = (steps_keep_owned h world.rule).refers n f None in
      same_slots z h (refer h n f None) id k.own k.slots owned kept.spares kept.filled refl refl refl refl);
  clears = λ st decided_so may. comes form z id b t w h late _ _ _ _ _ _
      (clear_step form z few id b t w h late shared world v own noted k known owned st decided_so may)
      (clear_own z h id k.own k.slots owned st (subst (λ (i : ℕ). IsTrueNote h (verdict (code i k.own.number) st))
      own.seated.0 (known.told (verdict (code v.seat k.own.number) st) decided_so)));
}
  where
    drawn_slots : (d : Purpose) → OwnsSlots z (draw h d) id k.own k.slots
    drawn_slots d = let kept = (steps_keep_owned h world.rule).draws d in
        same_slots z h (draw h d) id k.own k.slots owned kept.spares kept.filled refl refl refl
        (made_past z id h.item h.clock (world.rule.run.late h.clock (le_refl h.clock)))
