-- A read of a path under the whole rule: a stamp is drawn for it, its visits are checked for the stamp, and with the last
-- one that passes it takes effect.
use Rattle.std.proofs.Common.{◌≡◌, ◌≢◌, ℕ, zero, suc, ◌+◌, ◌%◌, ◌^◌, ◌<◌, ◌≤◌, ◌⊎◌, inl, inr, ⊎_elim, Bool, true, List, [], ◌∷◌, Some, None, set, refl, sym, ap, ◌∙◌, subst, arith}
use Rattle.std.proofs.lemmas.Bool.{cases_eq, cases_lt}
use mathlib.Core.Option.{some, none}
use lib.ListN.{get_elem?}
use Rattle.atomic_table.specs.Table.{step, Allows}
use Rattle.atomic_table.proofs.Lists.{set_here}
use Rattle.pc_model.specs.declared.cell.Field.{Field}
use Rattle.pc_model.specs.declared.cell.Field.TheVariants.{Version}
use Rattle.pc_model.specs.Exchanges.{Visited, Exchange as PathExchange}
use Rattle.pc_model.specs.Forms.{Form}
use Rattle.pc_words.specs.declared.word.WordKind.{WordKind}
use Rattle.pc_words.specs.declared.word.WordKind.TheVariants.{Plain, Install, Exchange}
use Rattle.pc_words.specs.Words.{raw, kind}
use Rattle.pc_words.proofs.Words.{kind_raw}
use Rattle.pc_history.proofs.Updates.{updated_here}
use Rattle.pc_history.specs.Footprints.{IsAmong}
use Rattle.pc_rule_law.specs.Board.{Size, Board, at_clock, at_cell, address, Inside}
use Rattle.pc_rule_law.specs.Past.{Has, Past}
use Rattle.pc_rule_law.specs.Plays.{IsNotedSince, IsLater, SameSeat}
use Rattle.pc_rule_law.specs.Rule.{Kept}
use Rattle.pc_rule_law.specs.Views.{clean, View, NoteHolds}
use Rattle.pc_rule_law.proofs.Keeping.{noted_more}
use Rattle.pc_rule_law.proofs.Lists.{all_more, all_none, below_length, each_moved, has_first, has_later}
use Rattle.pc_protocol.specs.Histories.{for_read, History, cells_now, IsUsed}
use Rattle.pc_protocol.specs.Notes.{Found, Note as RunNote, value, clock_was, looked, in_use, in_run, IsTrueNote}
use Rattle.pc_protocol.specs.Owned.{IsUnread}
use Rattle.pc_protocol.specs.Steps.{Keeps, draw, take_read, CanRead}
use Rattle.pc_protocol.specs.Telling.{found_in}
use Rattle.pc_protocol.proofs.Bases.{bases_still}
use Rattle.pc_protocol.proofs.Loads.{loads_tell}
use Rattle.pc_protocol.proofs.Owned.{steps_keep_owned}
use Rattle.pc_protocol.proofs.Reading as Reading
use Rattle.pc_protocol.proofs.Reading.{read_keeps}
use Rattle.pc_protocol.proofs.Stages.{used_not_spare}
use Rattle.pc_exchange_law.proofs.SeenStamps.{seen_below}
use Rattle.pc_exchange_law.specs.Attempts.{Scripts, OwnAttempt}
use Rattle.pc_exchange_law.specs.Changes.{with_next_stamp}
use Rattle.pc_exchange_law.specs.Knowing.{with_more, Learns, IsAboveSeen, after_read_draw, after_refusal}
use Rattle.pc_exchange_law.specs.Passes.{PassKnows, IsKnown}
use Rattle.pc_exchange_law.specs.Paths.{Path, read_of, IsPathOf, MayCheck, with_stamp, with_left, without_stamp}
use Rattle.pc_exchange_law.specs.Ties.{last_stamp, reference_in, IsTied, CellsAreSound}
use Rattle.pc_exchange_law.specs.Wholes.{Whole, views_of, knows_nothing, WholeKept, WholeHolds}
use Rattle.pc_exchange_law.specs.WholePlays.{WholeMine, CellSeen, DrawsRead, ChecksVisit}
use Rattle.pc_exchange_law.specs.WholeSteps.{whole_draws_read, whole_checks}
use Rattle.pc_exchange_law.specs.Worlds.{World}
use Rattle.pc_exchange_law.proofs.ExchangeSteps.{refuse_step}
use Rattle.pc_exchange_law.proofs.Knowing.{more_learns}
use Rattle.pc_exchange_law.proofs.Paths.{path_stays, path_used, check_passes, stamp_is_drawn, may_read}
use Rattle.pc_exchange_law.proofs.SeenPaths.{paths_still}
use Rattle.pc_exchange_law.proofs.WholeCells.{cell_looks_on}
use Rattle.pc_exchange_law.proofs.WholeDraws.{drawn}
use Rattle.pc_exchange_law.proofs.OwnSlots.{same_slots}
use Rattle.pc_exchange_law.proofs.SlotCounts.{made_by_read}
use Rattle.pc_exchange_law.proofs.Slots.{take_read_slots}
use Rattle.pc_exchange_law.proofs.Worlds.{linked_now}
use Rattle.pc_exchange_law.specs.OwnSlots.{OwnSlots, OwnsSlots}
use Rattle.pc_exchange_law.proofs.WholeKeeping.{taken_kept, views_set, at_view, mine, own_here, known_here, owned_here, steps_here, path_here, path_kept}
use Rattle.pc_exchange_law.proofs.WholeLooks.{plain_there}
use Rattle.pc_exchange_law.proofs.WholeSteps.{WholeGoes, WholeOwes, whole_allowed}
use Rattle.pc_exchange_law.proofs.WordsSeen.{seen_still}

set_twice : {X : Type 0} (xs : List X) (i : ℕ) (x y : X) → set (set xs i x) i y ≡ set xs i y
set_twice [] i x y = refl
set_twice (z ∷ xs) zero x y = refl
set_twice (z ∷ xs) (suc i) x y = ap (λ l. z ∷ l) (set_twice xs i x y)

-- whether a word is this plain number
pub is_plain_or_not : (c : WordKind) (x : ℕ) → (c ≡ Plain x) ⊎ (c ≢ Plain x)
is_plain_or_not (Plain y) x = ⊎_elim (λ e. inl (ap Plain e)) (λ ne. inr (λ is. ne (let one : Plain y ≡ Plain x = is in cc))) (cases_eq y x)
is_plain_or_not (Install q k) x = inr (λ is. absurd (let clash : Install q k ≡ Plain x = is in cc))
is_plain_or_not (Exchange q a) x = inr (λ is. absurd (let clash : Exchange q a ≡ Plain x = is in cc))

module _ (form : Form) (z : Size) where
  -- ---- a draw for the read

  -- the clock has come above the stamp
  read_draw_known : (b : Board) (t : Past) (w : Scripts) (h : History) (late : ℕ → Bool) (id : ℕ) (k : PassKnows) (s : ℕ)
      → s + 1 ≤ h.clock
      → IsKnown b t w h late id (after_refusal k s) → IsKnown b t w h late id (after_read_draw k s)
  read_draw_known b t w h late id k s below known = record {
    own = known.own;
    ready = known.ready;
    noted = known.noted;
    told = all_more (IsTrueNote h) (clock_was (s + 1)) k.told below
        (λ n has. known.told n (has_later (clock_was s) k.told n has));
  }

  whole_read_draw_owes : (id : ℕ) (x : Whole) → x.view.live ≡ true → x.knows.ready ≡ true
      → WholeOwes form z id x at_clock (λ n. (n + 1) % 2 ^ 64) (λ r y. SameSeat x.view y.view × DrawsRead x r y at_clock)
  whole_read_draw_owes id x live ready b t h late views k at =
      let known = known_here form z b t h late views k id x at live in
      let step = refuse_step form z k.kept.few id b t t.words h late k.kept.shared k.world x.view
      (own_here form z b t h late views k id x at live) (mine form z b t h late views k id x at live).noted x.knows known (owned_here form z b t h late views k id x at live) ready in
      let same : h.clock ≡ b.clock = k.world.tied.clock in
      let h' : History = draw h (for_read id) in let b' : Board = with_next_stamp b in
      let then : IsKnown b' t t.words h' step.0 id (after_refusal x.knows b.clock) = subst
      (λ (s : ℕ). IsKnown b' t t.words h' step.0 id (after_refusal x.knows s)) same step.1.1 in
      let kept_slots : OwnsSlots z h' id x.knows.own x.knows.slots = ((steps_here form z b t h late views k id x at live).refuses ready).1.owned in
      let above : IsAboveSeen x.knows.told b.clock = subst (IsAboveSeen x.knows.told) same
      (seen_below h k.world.rule x.knows.told known.told) in
      ⊎_elim
      (λ early. drawn form z id x live b t h late views k at h' step.0 (after_read_draw x.knows b.clock) (with_stamp x.path b.clock)
      (λ y. SameSeat x.view y.view × DrawsRead x b.clock y at_clock)
      (step.1.0, read_draw_known b' t t.words h' step.0 id x.knows b.clock (omega arith) then) (kept_slots)
      (subst (λ (s : ℕ). IsPathOf h' id (with_stamp x.path s)) same
      (stamp_is_drawn h k.world.rule id x.path (path_here form z b t h late views k id x at live)))
      ((refl, refl, refl, refl, refl), record { stamped = λ _. refl; refused = λ late_now. absurd (omega arith); above = above }))
      (λ late_now. drawn form z id x live b t h late views k at h' step.0 (after_refusal x.knows b.clock) x.path
      (λ y. SameSeat x.view y.view × DrawsRead x b.clock y at_clock) (step.1.0, then) kept_slots
      (path_kept form z b t h late views k id x at live h' step.1.0.keeps step.1.0.unread)
      ((refl, refl, refl, refl, refl), record { stamped = λ early. absurd (omega arith); refused = λ _. refl; above = above }))
      (cases_lt b.clock last_stamp)

  -- a draw of a stamp for the read of the path, where the clock was found below the last one and nothing was drawn since
  pub whole_read_draw : (slots id : ℕ) (me : WholeMine) → me.0.view.size ≡ z → me.0.view.live ≡ true → me.0.knows.ready ≡ true
      → Allows (WholeHolds form z) slots id me (address z at_clock) (λ n. (n + 1) % 2 ^ 64)
      (whole_draws_read (step slots (address z at_clock) 1 0 none) me)
  whole_read_draw slots id me sized live ready = whole_allowed form z slots id me at_clock (λ n. (n + 1) % 2 ^ 64)
      (DrawsRead me.0) tt sized (whole_read_draw_owes id me.0 live ready)

  -- ---- the read takes effect

  module _ (b : Board) (t : Past) (h : History) (late : ℕ → Bool) (views : List Whole) (k : WholeKept form z b t h late views)
      (id : ℕ) (x : Whole) (at : get_elem? views id ≡ some x) (live : x.view.live ≡ true) (s : ℕ)
      (stamped : x.path.stamp ≡ Some s) (none_left : x.path.left ≡ []) where
    abbrev e : PathExchange
    e = read_of x.path

    abbrev h' : History
    h' = take_read h s e

    abbrev after_taking : Whole
    after_taking = record x { knows = with_more x.knows [] (in_run s e ∷ []); path = without_stamp x.path }

    path_now : IsPathOf h id x.path
    path_now = path_here form z b t h late views k id x at live

    can : CanRead h id s e
    can = may_read h k.world.rule id s x.path path_now stamped none_left

    keeps : Keeps h h'
    keeps = read_keeps h k.world.rule id s e can

    -- a read changes no cells
    same_now : (n : ℕ) (f : Field) → cells_now h' n f ≡ cells_now h n f
    same_now n f = (λ i. Reading.same_now h k.world.rule id s e can i n f)

    tied_then : IsTied b t h'
    tied_then = let tied = k.world.tied in record {
      clock = tied.clock;
      last = tied.last;
      owners = tied.owners;
      references = tied.references;
      seated = tied.seated;
      plain = tied.plain;
      cells = λ n f. tied.cells n f ∙ sym (same_now n f);
      stages = tied.stages;
      published = tied.published;
      exchanges = tied.exchanges;
      uncleared = tied.uncleared;
    }

    world_then : World form z b t t.words h' late
    world_then = let world = k.world in record {
      rule = keeps.rule;
      tied = tied_then;
      scripts = world.scripts;
      clock = world.clock;
      opened = world.opened;
      opening = world.opening;
      charged = world.charged;
      fits = world.fits;
      based = bases_still h h' keeps (λ y is. is) world.based;
      seen = paths_still h h' keeps (λ y is. is) world.seen;
      slots = take_read_slots z b h world.rule world.slots (linked_now form z id b t t.words h late world) id s e can;
      lawful = world.lawful;
    }

    known_then : (j : ℕ) (u : PassKnows) → IsKnown b t t.words h late j u → IsKnown b t t.words h' late j u
    known_then j u known = record {
      own = record { number = known.own.number; resting = known.own.resting; working = known.own.working; words = known.own.words; kept = known.own.kept };
      ready = known.ready;
      noted = known.noted;
      told = λ n has. keeps.notes n (known.told n has);
    }

    known_after_taking : IsKnown b t t.words h' late id after_taking.knows
    known_after_taking = let known = known_then id x.knows (known_here form z b t h late views k id x at live) in record {
      own = known.own;
      ready = known.ready;
      noted = known.noted;
      told = all_more (IsTrueNote h') (in_run s e) x.knows.told (updated_here h.item s (Some e) s refl) known.told;
    }

    read_slots : (j : ℕ) (a : OwnAttempt) (o : OwnSlots) → OwnsSlots z h j a o → OwnsSlots z h' j a o
    read_slots j a o was = same_slots z h h' j a o was (λ n v. (steps_keep_owned h k.world.rule).reads_spares id s e n v can)
        (λ n w f. (steps_keep_owned h k.world.rule).reads_filled s e n w f) refl refl refl (made_by_read z j h id s e can)

    -- no other pass drew this stamp
    other_stamps : (j r : ℕ) → j ≢ id → IsUnread h j r → IsUnread h' j r
    other_stamps j r ne is = (steps_keep_owned h k.world.rule).reads_unread id s e j r
        (λ same. let mine_too : IsUnread h id r = subst (IsUnread h id) (sym same) (path_now.unread s stamped) in
        ne (let one : for_read j ≡ for_read id = sym is.1 ∙ mine_too.1 in cc)) is

    pub read_taken : WholeKept form z b t h' late (set views id after_taking)
    read_taken = record {
      kept = subst (Kept (CellsAreSound form) z b t) (sym (views_set views id after_taking))
          (noted_more (CellsAreSound form) z b t (views_of views) id x.view [] k.kept (at_view form z b t h late views k id x at live)
          live (all_none (NoteHolds z b t)));
      world = world_then;
      known = each_moved views id after_taking (λ j u. u.view.live ≡ true → IsKnown b t t.words h late j u.knows)
          (λ j u. u.view.live ≡ true → IsKnown b t t.words h' late j u.knows) k.known (λ _. known_after_taking)
          (λ j u ne at_j was alive. known_then j u.knows (was alive));
      paths = each_moved views id after_taking (λ j u. u.view.live ≡ true → IsPathOf h j u.path)
          (λ j u. u.view.live ≡ true → IsPathOf h' j u.path) k.paths (λ _. path_used h h' keeps id x.path path_now)
          (λ j u ne at_j was alive. path_stays h h' keeps j u.path (was alive) (λ r. other_stamps j r ne));
      owned = each_moved views id after_taking (λ j u. u.view.live ≡ true → OwnsSlots z h j u.knows.own u.knows.slots)
          (λ j u. u.view.live ≡ true → OwnsSlots z h' j u.knows.own u.knows.slots) k.owned
          (λ _. read_slots id x.knows.own x.knows.slots (owned_here form z b t h late views k id x at live))
          (λ j u ne at_j was alive. read_slots j u.knows.own u.knows.slots (was alive));
      taken = taken_kept form z b t h late views k id x at live t h' after_taking (λ j. refl) refl
          (λ j a o _ _ was. read_slots j a o was);
      unmade = λ j le lt. known_then j _ (k.unmade j le lt);
      unowned = λ j le lt. read_slots j (knows_nothing z j).own (knows_nothing z j).slots (k.unowned j le lt);
      none_given = k.none_given;
    }

  -- ---- a check

  -- a version that is found as it was visited, after the stamp was drawn
  found_again : (b : Board) (t : Past) (h : History) (late : ℕ → Bool) (views : List Whole) → WholeKept form z b t h late views
      → (s : ℕ) (v : Visited) → IsUsed (h.slot v.node) → s < h.clock → b.cell v.node Version ≡ Plain v.version → IsTrueNote h (looked s v.node (value v.version))
  found_again b t h late views k s v is_used below is =
      let tied = k.world.tied in let n : ℕ = v.node in
      let no_reference : h.reference n Version ≡ None = tied.references n Version ∙ ap reference_in is in
      let plain : h.plain n Version ≡ v.version = tied.plain n Version ∙ plain_there form z b t k.kept.shared n Version v.version is in
      subst (λ (f : Found). IsTrueNote h (looked s n f)) (λ i. found_in (no_reference i) (plain i))
      ((loads_tell h k.world.rule).look s n below (used_not_spare (h.slot n) is_used))

  -- what a look tells is told where more is noted of the run
  seen_too : (x : Whole) (n r : ℕ) (y u : Whole) → u.view ≡ y.view → u.aim ≡ y.aim → Learns y.knows u.knows
      → CellSeen x n Version r y → CellSeen x n Version r u
  seen_too x n r y u same_view same_aim learns s =
      let back : y.view ≡ u.view = sym same_view in record {
        word = s.word;
        later = subst (λ (v : View). IsLater x.view v) back s.later;
        notes = λ m has. subst (λ (v : View). IsNotedSince x.view v m) back (s.notes m has);
        seen = seen_still x.knows n Version (kind r) y.knows u.knows s.seen learns;
        aim = same_aim ∙ s.aim;
        cleans = λ other calmed. subst (λ (v : View). Has v.notes (clean x.view.seat x.knows.own.number n Version)) back (s.cleans other calmed);
        present = s.present;
        other = s.other;
        unclean = s.unclean;
        uncleared = s.uncleared;
        rises = s.rises;
        after_visits = s.after_visits;
        sentinel = s.sentinel;
        leads = λ m link is ne. learns.told (in_use m) (s.leads m link is ne);
      }

  module _ (id : ℕ) (x : Whole) (live : x.view.live ≡ true) (n : ℕ) (may : MayCheck x.path n)
      (in_p : Inside z (at_cell n Version)) (b : Board) (t : Past) (h : History) (late : ℕ → Bool) (views : List Whole)
      (k : WholeKept form z b t h late views) (at : get_elem? views id ≡ some x) where
    abbrev r : ℕ
    r = raw (b.cell n Version)

    abbrev Then : Type 0
    Then = WholeGoes form z b views id (at_cell n Version) r
        (λ y. SameSeat x.view y.view × ChecksVisit x r y (at_cell n Version))

    abbrev LooksOn : Path → Type 0
    LooksOn p = (y : Whole) × WholeKept form z b t h late (set views id y)
        × (SameSeat x.view y.view × CellSeen x n Version r y × (y.path ≡ p))

    own_path : IsPathOf h id x.path
    own_path = path_here form z b t h late views k id x at live

    -- the node of the next visit is in use
    node_used : IsUsed (h.slot n)
    node_used = subst (λ (m : ℕ). IsUsed (h.slot m)) may.at_node (own_path.used may.visit
        (inr (subst (IsAmong may.visit) (sym may.next) (inl refl))))

    looks_on : (p : Path) → IsPathOf h id p → LooksOn p
    looks_on p path = let g = cell_looks_on form z id x n Version live in_p b t h late views k at node_used [] (all_none (NoteHolds z b t)) p path in
        (g.0, g.1, (g.2.0, g.2.1, g.2.3))

    -- the visit in front is this one
    in_front : (v : Visited) (others : List Visited) → x.path.left ≡ v ∷ others → v ≡ may.visit
    in_front v others is = let next : x.path.left ≡ may.visit ∷ may.others = may.next in cc

    behind : (v : Visited) (others : List Visited) → x.path.left ≡ v ∷ others → others ≡ may.others
    behind v others is = let next : x.path.left ≡ may.visit ∷ may.others = may.next in cc

    is_found : (v : Visited) (others : List Visited) → x.path.left ≡ v ∷ others → kind r ≡ Plain v.version
        → kind r ≡ Plain may.visit.version
    is_found v others is found = found ∙ ap (λ (w : Visited). Plain w.version) (in_front v others is)

    check_fails : kind r ≢ Plain may.visit.version → Then
    check_fails ne = let g = looks_on x.path own_path in record {
      view = g.0;
      board = b;
      past = t;
      history = h;
      late = late;
      only = λ q _. refl;
      is = refl;
      kept = g.1;
      told = (
        g.2.0,
        (
          g.2.1,
          record {
            passes = λ v u others is found. absurd (ne (is_found v (u ∷ others) is found));
            takes = λ s v stamped is found. absurd (ne (is_found v [] is found));
            fails = λ v others is other. g.2.2;
          },
        ),
      );
    }

    module _ (found : kind r ≡ Plain may.visit.version) where
      path_then : IsPathOf h id (with_left x.path may.others)
      path_then = check_passes h id x.path own_path may.stamp may.visit may.others may.drawn may.next
          (found_again b t h late views k may.stamp may.visit (own_path.used may.visit
          (inr (subst (IsAmong may.visit) (sym may.next) (inl refl)))) (own_path.unread may.stamp may.drawn).0
          (subst (λ (m : ℕ). b.cell m Version ≡ Plain may.visit.version) (sym may.at_node)
          (sym (kind_raw (b.cell n Version) (k.kept.shared.ranges n Version)) ∙ found)))

      g : LooksOn (with_left x.path may.others)
      g = looks_on (with_left x.path may.others) path_then

      -- others are still to be checked
      check_goes_on : (u : Visited) (others : List Visited) → may.others ≡ u ∷ others → Then
      check_goes_on u others more = record {
        view = g.0;
        board = b;
        past = t;
        history = h;
        late = late;
        only = λ q _. refl;
        is = refl;
        kept = g.1;
        told = (
          g.2.0,
          (
            g.2.1,
            record {
              passes = λ v w rest is _. g.2.2 ∙ ap (with_left x.path) (sym (behind v (w ∷ rest) is));
              takes = λ s v stamped is _. absurd (let none' : [] ≡ u ∷ others = behind v [] is ∙ more in cc);
              fails = λ v rest is other. absurd (other (found ∙ ap (λ (w : Visited). Plain w.version) (sym (in_front v rest is))));
            },
          ),
        );
      }

      -- it was the last one
      check_takes : may.others ≡ [] → Then
      check_takes last =
          let y : Whole = g.0 in
          let at_y : get_elem? (set views id y) id ≡ some y = set_here views id y (below_length views id x at) in
          let lives : y.view.live ≡ true = g.2.0.0 ∙ live in
          let stamped : y.path.stamp ≡ Some may.stamp = ap (λ (p : Path). p.stamp) g.2.2 ∙ may.drawn in
          let none' : y.path.left ≡ [] = ap (λ (p : Path). p.left) g.2.2 ∙ last in
          let more : List RunNote = in_run may.stamp (read_of y.path) ∷ [] in
          let u : Whole = record y { knows = with_more y.knows [] more; path = without_stamp y.path } in
          let same_read : read_of y.path ≡ read_of x.path = ap read_of g.2.2 in record {
            view = u;
            board = b;
            past = t;
            history = take_read h may.stamp (read_of y.path);
            late = late;
            only = λ q _. refl;
            is = refl;
            kept = subst (WholeKept form z b t (take_read h may.stamp (read_of y.path)) late) (set_twice views id y u)
                (read_taken b t h late (set views id y) g.1 id y at_y lives may.stamp stamped none');
            told = (
              g.2.0,
              (
                seen_too x n r y u refl refl (more_learns z.slots b t t.words h late id y.knows (known_here form z b t h late (set views id y) g.1 id y at_y lives) [] more) g.2.1,
                record {
                  passes = λ v w rest is _. absurd (let clash : w ∷ rest ≡ [] = behind v (w ∷ rest) is ∙ last in cc);
                  takes = λ s v stamped_too is _. (
                    ap without_stamp g.2.2,
                    subst (λ (i : ℕ × PathExchange). Has u.knows.told (in_run i.0 i.1))
                        (let one : may.stamp ≡ s = (let drawn : x.path.stamp ≡ Some may.stamp = may.drawn in cc) in λ i. (one i, same_read i))
                        (has_first (in_run may.stamp (read_of y.path)) y.knows.told),
                  );
                  fails = λ v rest is other. absurd (other (found ∙ ap (λ (w : Visited). Plain w.version) (sym (in_front v rest is))));
                },
              ),
            );
          }

      by_others : (l : List Visited) → may.others ≡ l → Then
      by_others [] is = check_takes is
      by_others (u ∷ others) is = check_goes_on u others is

    check_goes : Then
    check_goes = ⊎_elim (λ found. by_others found may.others refl) check_fails (is_plain_or_not (kind r) may.visit.version)

  -- a check of the next visit
  pub whole_check : (slots id : ℕ) (me : WholeMine) (n : ℕ) → me.0.view.size ≡ z → me.0.view.live ≡ true
      → MayCheck me.0.path n → Inside z (at_cell n Version)
      → Allows (WholeHolds form z) slots id me (address z (at_cell n Version)) (λ r. r)
      (whole_checks (step slots (address z (at_cell n Version)) 0 0 none) me)
  whole_check slots id me n sized live may in_p = whole_allowed form z slots id me (at_cell n Version) (λ i. i)
      (ChecksVisit me.0) in_p sized (λ b t h late views k at. check_goes id me.0 live n may in_p b t h late views k at)
