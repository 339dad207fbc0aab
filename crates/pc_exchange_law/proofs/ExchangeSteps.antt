-- The steps of an exchange, from what the pass knows: each leads to the world afterwards, and to what the pass knows
-- then. What is left for a table is which word the step is made on, and what is found where it misses.
use Rattle.std.proofs.Common.{◌≡◌, ◌≢◌, ℕ, ◌+◌, ◌^◌, ◌<◌, ◌≤◌, ◌⊎◌, inl, inr, ⊎_elim, Bool, true, false, List, Option, Some, None, suc, length, refl, sym, ap, ◌∙◌, subst, arith}
use mathlib.Core.Option.{some, some-injective}
use lib.ListN.{get_elem?}
use Rattle.pc_model.specs.declared.cell.Field.{Field}
use Rattle.pc_model.specs.declared.cell.Field.TheVariants.{Version}
use Rattle.pc_model.specs.Exchanges.{Visited, Changed, FreshNode, Exchange as PathExchange}
use Rattle.pc_model.specs.Forms.{Form}
use Rattle.pc_words.specs.declared.word.WordKind.TheVariants.{Plain, Exchange}
use Rattle.pc_words.specs.declared.status.Stage.TheVariants.{Idle, Undecided, Succeeded, Withdrawn}
use Rattle.pc_words.specs.Statuses.{StageInRange}
use Rattle.pc_history.specs.Footprints.{IsAmong}
use Rattle.pc_rule_law.specs.Board.{Size, Board, put2}
use Rattle.pc_rule_law.specs.Past.{Has, Attempt, Past, change, Describes}
use Rattle.pc_rule_law.specs.Stages.{IsIdle, IsOpen, DecidedBelow}
use Rattle.pc_rule_law.specs.Views.{View, held, clean, IsClean, NoteHolds, AllNotes}
use Rattle.pc_rule_law.specs.Rule.{Own, Shared}
use Rattle.pc_rule_law.proofs.Lists.{below_length}
use Rattle.pc_rule_law.proofs.Stages.{open_not_idle}
use Rattle.pc_rule_law.proofs.WordMoves.{WordMoves}
use Rattle.pc_rule_law.proofs.Outcomes as Outcomes
use Rattle.pc_protocol.specs.Histories.{for_exchange, for_read, Cause, withdrawn, ended, changed, locked, Stage, absent, undecided, committed, aborted}
use Rattle.pc_protocol.specs.Histories.{History, moments, IsPublished, IsDecided, value_by, cells_now, IsSpare, IsUsed}
use Rattle.pc_protocol.specs.Notes.{value, by, clock_was, visited, saw, looked, drew, verdict, rival, outdated, IsTrueNote, in_use}
use Rattle.pc_protocol.specs.Seeing.{Visits, ChangesVersion, Covers}
use Rattle.pc_protocol.specs.Serving.{HasPassedByNotes}
use Rattle.pc_protocol.specs.Steps.{draw, publish, commit, CanCommit, abort, CanAbort, refer}
use Rattle.pc_protocol.proofs.Stages.{same_cause, decided_is_published, committed_is_published, used_not_spare}
use Rattle.pc_protocol.proofs.Loads.{loads_tell}
use Rattle.pc_exchange_law.specs.Ties.{code, seat_in, exchange_of, CellsAreSound}
use Rattle.pc_exchange_law.specs.Changes.{with_word, with_status, with_next_stamp, with_values, at_stage, stage_by}
use Rattle.pc_exchange_law.specs.Attempts.{Scripts, OwnsAttempt, KnowsEntry, KnowsVisit}
use Rattle.pc_exchange_law.specs.AttemptSteps.{with_own_word, with_script}
use Rattle.pc_exchange_law.specs.OwnSlots.{IsOfShare, OwnSlots, OwnsSlots, MakesOwn}
use Rattle.pc_exchange_law.specs.Passes.{PassKnows, IsKnown}
use Rattle.pc_exchange_law.specs.Paths.{Path, read_of}
use Rattle.pc_exchange_law.specs.Knowing.{after_own_store, after_publication, after_draw, after_refusal, after_decision}
use Rattle.pc_exchange_law.specs.Knowing.{after_withdrawal, after_clearing}
use Rattle.pc_exchange_law.specs.ExchangeConditions.{MayStoreOwn, MayPublish, MayDrawFor, MaySucceed, MayFail, was_told, is_passed}
use Rattle.pc_exchange_law.specs.ExchangeConditions.{KnowsPassed, is_changed, was_found, was_settled, KnowsChecked}
use Rattle.pc_exchange_law.specs.ExchangeConditions.{MayTakeReference, MayClear}
use Rattle.pc_exchange_law.specs.TieLaws.{MayMake}
use Rattle.pc_exchange_law.specs.Worlds.{World}
use Rattle.pc_exchange_law.proofs.AttemptNotes.{attempts_are_known}
use Rattle.pc_exchange_law.proofs.ChangeLists.{has_among}
use Rattle.pc_exchange_law.proofs.Knowing.{decided_on_board}
use Rattle.pc_exchange_law.proofs.KnowingSteps.{store_known, publication_known, draw_known, refusal_known, decision_known}
use Rattle.pc_exchange_law.proofs.KnowingSteps.{withdrawal_known, clearing_known, unchanged_known}
use Rattle.pc_exchange_law.proofs.OldNumbers.{basis_is}
use Rattle.pc_exchange_law.proofs.OwnSlots.{one_share, made_in_use}
use Rattle.pc_exchange_law.proofs.SeenPaths.{visits_seen, visits_of_path}
use Rattle.pc_exchange_law.proofs.Slots.{held_is_used, entry_used}
use Rattle.pc_exchange_law.proofs.Serving.{notes_draw, notes_take, notes_clear}
use Rattle.pc_exchange_law.proofs.TieDecisions.{may_commit, may_withdraw, may_end, may_fail, may_pass, may_lock}
use Rattle.pc_exchange_law.proofs.TieTelling.{one_change, board_tells}
use Rattle.pc_exchange_law.proofs.Worlds.{Goes, store_goes, word_goes, draw_goes, other_draw_goes, late_after}
use Rattle.pc_exchange_law.proofs.WorldStatuses.{is_busy, publish_goes, success_goes, failure_goes, clearing_goes}

-- what is known of the node that is made
makes_given : (o : OwnSlots) (f : Option FreshNode) → MakesOwn o f → (g : FreshNode) → f ≡ Some g → MakesOwn o (Some g)
makes_given o f makes g is = subst (MakesOwn o) is makes

one_of_two : (st : Stage) (old new : ℕ) → (value_by st old new ≡ old) ⊎ (value_by st old new ≡ new)
one_of_two absent old new = inl refl
one_of_two undecided old new = inl refl
one_of_two (committed s) old new = inr refl
one_of_two (aborted cause) old new = inl refl

pub true_or_false : (c : Bool) → (c ≡ true) ⊎ (c ≡ false)
true_or_false true = inl refl
true_or_false false = inr refl

module _ (form : Form) (z : Size) (few : z.seats ≤ 32) (id : ℕ) (b : Board) (t : Past) (w : Scripts) (h : History)
    (late : ℕ → Bool) (shared : Shared (CellsAreSound form) z b t) (world : World form z b t w h late) (v : View)
    (own : Own z b.install t.course id v) (noted : AllNotes (NoteHolds z b t) v.notes) (k : PassKnows)
    (known : IsKnown b t w h late id k) (owned : OwnsSlots z h id k.own k.slots) where
  seated : id < 64
  seated = let lt = own.seated.1 in omega arith

  my_attempt : OwnsAttempt b h v.seat k.own
  my_attempt = subst (λ (i : ℕ). OwnsAttempt b h i k.own) (sym own.seated.0) known.own

  number_is : (b.status id).number ≡ k.own.number
  number_is = known.own.number

  pub store_step : (place x : ℕ) → MayStoreOwn k
      → Goes form z id b t w h late (with_own_word b id place x) t w h late
      × IsKnown (with_own_word b id place x) t w h late id (after_own_store k place x)
  store_step place x rests =
      let goes = store_goes form z id b t w h late few shared world place x (known.own.resting rests) in
      (goes, store_known form z id b t w h late k known seated place x rests goes)

  -- the node that an attempt makes is the own spare's
  makes_ready : (x : Attempt) → ((y : Changed) → IsAmong y x.changes → IsUsed (h.slot y.node)) → k.own.busy ≡ false
      → MakesOwn k.slots x.fresh
      → MayMake h (exchange_of x) × ((g : FreshNode) → x.fresh ≡ Some g → IsOfShare z id g.node)
  makes_ready x touches rests makes = (
    record {
      ready = λ g is. let m = makes_given k.slots x.fresh makes g is in
          let s = owned.unnamed g.node m.0 (owned.rests rests) in record {
            is_spare = s.spare.0;
            version = m.1 ∙ ap (λ (i : ℕ). i + 1) (sym s.spare.1);
            filled = λ f. (s.filled f (g.fields f) (m.2 f)).1;
          };
      apart = λ y g u undecided_y is is_u same. let m = makes_given k.slots x.fresh makes g is in
          let seat : seat_in y ≡ id = one_share z (seat_in y) id g.node
          (subst (IsOfShare z (seat_in y)) (sym same) (world.slots.made y u undecided_y is_u)) (owned.of_share g.node m.0) in
          let before = owned.names y u seat undecided_y is_u in
          absurd (let clash : true ≡ false = sym before.0 ∙ owned.rests rests in cc);
      unchanged = λ y g among is same. let m = makes_given k.slots x.fresh makes g is in
          let s = owned.unnamed g.node m.0 (owned.rests rests) in
          used_not_spare (h.slot y.node) (touches y among) (subst (λ (n : ℕ). IsSpare (h.slot n)) (sym same) s.spare.0);
    },
    λ g is. owned.of_share g.node (makes_given k.slots x.fresh makes g is).0,
  )

  pub publish_step : (path : Path) (x : Attempt) (c : ℕ) (keys : List ℕ)
      → ((y : Visited) → IsAmong y path.visits → IsUsed (h.slot y.node)) → MayPublish form z k path x c keys
      → let a : ℕ = (b.status id).number + 1 in
      let b' = with_status b id (record { number = a; stage = Undecided }) in
      let t' = with_values t t.cells t.plain (put2 t.attempt id a x) (put2 t.words id a (b.word id)) in
      let w' = with_script w id a (b.word id) in let h' = publish h (code id a) (exchange_of x) c in
      Goes form z id b t w h late b' t' w' h' late × IsKnown b' t' w' h' late id (after_publication k (code id a) (exchange_of x) c)
  publish_step path x c keys used_path may =
      let a : ℕ = (b.status id).number + 1 in
      let idle = known.own.resting may.rests in
      let room : a < 2 ^ 28 = let r = may.room in let same = number_is in omega arith in
      let past : c ≤ b.clock = let seen : c ≤ h.clock = known.told (clock_was c) may.clock in
      let same : h.clock ≡ b.clock = world.tied.clock in omega arith in
      let described : Describes z.slots x (b.word id) = subst (Describes z.slots x)
      (λ i place. sym (known.own.words place) i) may.described in
      let touches : (y : Changed) → IsAmong y x.changes → IsUsed (h.slot y.node) = λ y among. ⊎_elim
      (λ held'. held_is_used z b h world.slots k y.node (λ m has. known.told (in_use m) has) held')
      (λ seen. subst (λ (n : ℕ). IsUsed (h.slot n)) seen.2 (used_path seen.0 seen.1)) (may.touches y among) in
      let makes = makes_ready x touches may.rests may.makes in
      let goes = publish_goes form z id b t w h late shared world seated c x keys idle room past may.formed may.raises
      (visits_seen h k path c x may.seen (λ of. known.told (saw c (read_of path)) of.seen)) described may.fits (basis_is z h k world.rule world.opened known.told x may.based)
      makes.0 may.marks touches (λ y among. used_path y (visits_of_path k path c x may.seen y among)) makes.1 in (
        goes,
        publication_known form z id b t w h late k known seated
            (with_status b id (record { number = a; stage = Undecided }))
            (with_values t t.cells t.plain (put2 t.attempt id a x) (put2 t.words id a (b.word id))) (with_script w id a (b.word id)) (exchange_of x) c refl goes,
      )

  -- a stamp is drawn for an attempt, or refused
  pub draw_step : (p a : ℕ) → MayDrawFor v k p a
      → (late' : ℕ → Bool)
      × (Goes form z id b t w h late (with_next_stamp b) t w (draw h (for_exchange (code p a))) late'
      × IsKnown (with_next_stamp b) t w (draw h (for_exchange (code p a))) late' id (after_draw k (code p a) h.clock))
  draw_step p a may =
      let next = late_after form z id b t w h late few shared world own.seated.1 (known.ready may.ready) in
      let met = noted (held p a may.met.0 may.met.1) may.met.2 in
      let small : p < 64 = let lt = met.1.0.0 in omega arith in
      let can = notes_draw z.slots b t w h v.seat k.own k.noted world.scripts my_attempt known.noted world.rule world.tied
      p a small may.met.0 may.met.1 met.0 may.places
      (λ i below. (noted (held p a (may.places.each i below).0 (may.places.each i below).1) (may.each i below)).0) in
      let goes = draw_goes form z id b t w h late few shared world next.0 next.1 next.2 (code p a) can in
      (next.0, (goes, draw_known form z id b t w h late k known seated (code p a) next.0 goes))

  pub refuse_step : k.ready ≡ true
      → (late' : ℕ → Bool)
      × (Goes form z id b t w h late (with_next_stamp b) t w (draw h (for_read id)) late'
      × IsKnown (with_next_stamp b) t w (draw h (for_read id)) late' id (after_refusal k h.clock))
  refuse_step ready =
      let next = late_after form z id b t w h late few shared world own.seated.1 (known.ready ready) in
      let goes = other_draw_goes form z id b t w h late few shared world next.0 next.1 next.2 id in
      (next.0, (goes, refusal_known form z id b t w h late k known seated id next.0 goes))

  -- an attempt that is decided is busy, where it is the own one
  own_is_busy : (p : ℕ) → IsOpen (b.status p).stage → p ≡ id → k.own.busy ≡ true
  own_is_busy p pending e = ⊎_elim (λ busy. busy)
      (λ rests. absurd (open_not_idle (b.status p).stage pending
      (subst (λ (i : ℕ). IsIdle (b.status i).stage) (sym e) (known.own.resting rests))))
      (true_or_false k.own.busy)

  -- what is known of the attempt's visits and changes is so
  visit_is : (p a i n x : ℕ) → KnowsVisit v.size.slots k.noted v.seat k.own p a i n x
      → (a ≤ (b.status p).number) × (get_elem? (t.attempt p a).visits i ≡ some (record { node = n; version = x }))
  visit_is p a i n x visit = (attempts_are_known z.slots b t w h v.seat k.own k.noted world.scripts my_attempt known.noted).visit
      p a i n x (subst (λ (u : Size). KnowsVisit u.slots k.noted v.seat k.own p a i n x) own.sized visit)

  entry_is : (p a i n : ℕ) (f : Field) (old new : ℕ) → KnowsEntry k.noted v.seat k.own p a i n f old new
      → (a ≤ (b.status p).number) × Has (t.attempt p a).changes (change n f old new)
  entry_is = (attempts_are_known z.slots b t w h v.seat k.own k.noted world.scripts my_attempt known.noted).entry

  entry_changes : (p a i n old new : ℕ) → KnowsEntry k.noted v.seat k.own p a i n Version old new
      → ChangesVersion (exchange_of (t.attempt p a)) n old
  entry_changes p a i n old new entry = record {
    change = change n Version old new;
    among = has_among (t.attempt p a).changes (change n Version old new) (entry_is p a i n Version old new entry).1;
    is_of = (refl, refl);
    old = refl;
  }

  -- a visit that is known to have passed the check has passed it
  passed : (p a s n x : ℕ) → KnowsPassed v k p a s n x
      → ChangesVersion (exchange_of (t.attempt p a)) n x ⊎ HasPassedByNotes h s (record { node = n; version = x })
  passed p a s n x (is_changed j new entry) = inl (entry_changes p a j n x new entry)
  passed p a s n x (was_found u has le) = inr (value u, known.told (looked s n (value u)) has, le)
  passed p a s n x (was_settled q e j old new st small has decided entry le) =
      let noted_verdict = known.told (verdict (code q e) st) decided in
      let published : IsPublished (h.stage (code q e)) = subst IsPublished (sym noted_verdict.0) (decided_is_published st noted_verdict.1) in
      inr (
        by (code q e),
        known.told (looked s n (by (code q e))) has,
        (
          st,
          noted_verdict,
          λ c among is_of. subst (λ (y : Changed). value_by st y.old y.new ≤ x)
              (one_change b t h world.rule world.tied q e small published (change n Version old new) c
              (entry_is q e j n Version old new entry).1 among is_of) le,
        ),
      )

  all_checked : (p a s : ℕ) → KnowsChecked v k p a s → (y : Visited) → Has (t.attempt p a).visits y
      → ChangesVersion (exchange_of (t.attempt p a)) y.node y.version ⊎ HasPassedByNotes h s y
  all_checked p a s checked y has =
      let count : length (t.attempt p a).visits ≡ checked.count =
      (attempts_are_known z.slots b t w h v.seat k.own k.noted world.scripts my_attempt known.noted).visits p a checked.count
      checked.counted in
      let below : has.0 < length (t.attempt p a).visits = below_length (t.attempt p a).visits has.0 y has.1 in
      let one = checked.each has.0 (omega arith) in
      let there = (visit_is p a has.0 one.0 one.1 one.2).1 in
      subst (λ (u : Visited). ChangesVersion (exchange_of (t.attempt p a)) u.node u.version ⊎ HasPassedByNotes h s u)
      (some-injective (record { node = one.0; version = one.1 }) y (sym there ∙ has.1)) (passed p a s one.0 one.1 one.3)

  visits_it : (p a i n x : ℕ) → KnowsVisit v.size.slots k.noted v.seat k.own p a i n x → Visits (exchange_of (t.attempt p a)) n x
  visits_it p a i n x visit = record {
    visit = record { node = n; version = x };
    among = has_among (t.attempt p a).visits (record { node = n; version = x }) (i, (visit_is p a i n x visit).1);
    node = refl;
    version = refl;
  }

  pub success_can : (p s : ℕ) → p < 64 → IsOpen (b.status p).stage → MaySucceed v k p (b.status p).number s
      → CanCommit h (code p (b.status p).number) s
  success_can p s small pending may = may_commit b t h world.tied p (b.status p).number small (refl, pending) world.rule s
      (known.told (drew (code p (b.status p).number) s) may.drawn) (all_checked p (b.status p).number s may.checked)

  pub success_step : (p s : ℕ) → p < 64 → IsOpen (b.status p).stage → MaySucceed v k p (b.status p).number s
      → let y : ℕ = code p (b.status p).number in let h' = commit h y s in
      let b' = with_status b p (at_stage b p (Succeeded s)) in
      let t' = with_values t (cells_now h') h'.plain t.attempt t.words in
      Goes form z id b t w h late b' t' w h' late × IsKnown b' t' w h' late id (after_decision k y (committed s))
  success_step p s small pending may =
      let a : ℕ = (b.status p).number in let y : ℕ = code p a in
      let can : CanCommit h y s = success_can p s small pending may in
      let goes = success_goes form z id b t w h late shared world p small s may.low can in (
        goes,
        decision_known form z id b t w h late k known seated p small (Succeeded s) (committed s)
            (with_values t (cells_now (commit h y s)) (commit h y s).plain t.attempt t.words) (commit h y s) (λ i. i) tt (λ i. refl) goes
            (λ e. (own_is_busy p pending e, λ is. absurd (let clash : committed s ≡ aborted withdrawn = is in cc))),
      )

  not_of_own_accord : (p a : ℕ) (cause : Cause) → MayFail v k p a cause → cause ≢ withdrawn
  not_of_own_accord p a withdrawn may is = may
  not_of_own_accord p a ended may is = absurd (let clash : ended ≡ withdrawn = is in cc)
  not_of_own_accord p a (changed n) may is = absurd (let clash : changed n ≡ withdrawn = is in cc)
  not_of_own_accord p a (locked n q) may is = absurd (let clash : locked n q ≡ withdrawn = is in cc)

  -- the version in which the reference to an attempt was seen is worth so much, as that was decided
  worth_by : (q e n old new : ℕ) (st : Stage) → q < 64 → Has v.notes (held q e n Version) → h.stage (code q e) ≡ st → IsDecided st
      → Has (t.attempt q e).changes (change n Version old new)
      → (at : ℕ) × IsTrueNote h (visited n (value_by st old new) at)
  worth_by q e n old new absent small seen is done has = absurd done
  worth_by q e n old new undecided small seen is done has = absurd done
  worth_by q e n old new (committed s) small seen is done has =
      let same : h.op (code q e) ≡ exchange_of (t.attempt q e) = world.tied.exchanges q e small
      (committed_is_published (h.stage (code q e)) s is) in (
        suc s,
        (loads_tell h world.rule).won_version (code q e) s n (change n Version old new) is
            (subst (λ (y : PathExchange). IsAmong (change n Version old new) y.changes) (sym same)
            (has_among (t.attempt q e).changes (change n Version old new) has)) (refl, refl),
      )
  worth_by q e n old new (aborted cause) small seen is done has =
      let published : IsPublished (h.stage (code q e)) = subst IsPublished (sym is) tt in
      let same : h.op (code q e) ≡ exchange_of (t.attempt q e) = world.tied.exchanges q e small published in
      let there = (noted (held q e n Version) seen).0.2 in
      let in_use_n = entry_used b t h world.tied world.slots.changed q e (change n Version there.0 there.1) small
      (noted (held q e n Version) seen).0.0 there.2 in
      let told = (board_tells b t h world.rule world.tied).version n (used_not_spare (h.slot n) in_use_n) in
      let same_entry : change n Version there.0 there.1 ≡ change n Version old new =
      one_change b t h world.rule world.tied q e small published (change n Version there.0 there.1) (change n Version old new) there.2
      (subst (λ (y : PathExchange). IsAmong (change n Version old new) y.changes) (sym same)
      (has_among (t.attempt q e).changes (change n Version old new) has)) (refl, refl) in
      let low : there.0 ≤ t.plain n Version = there.3 refl in
      let old_is : there.0 ≡ old = ap (λ (y : Changed). y.old) same_entry in
      let high : t.plain n Version ≤ moments h b.clock n Version = told.1 in
      (b.clock, (told.0, (let goal : old ≤ moments h b.clock n Version = omega arith in goal)))

  worth_was : (q e i n old new : ℕ) (st : Stage) → q < 64 → Has v.notes (held q e n Version) → Has k.told (verdict (code q e) st)
      → KnowsEntry k.noted v.seat k.own q e i n Version old new
      → (at : ℕ) × IsTrueNote h (visited n (value_by st old new) at)
  worth_was q e i n old new st small seen decided entry =
      let is = known.told (verdict (code q e) st) decided in
      worth_by q e n old new st small seen is.0 is.1 (entry_is q e i n Version old new entry).1

  -- a failure that isn't of the pass's own accord
  pub may_abort : (p : ℕ) → p < 64 → IsOpen (b.status p).stage → (cause : Cause) → MayFail v k p (b.status p).number cause
      → CanAbort h (code p (b.status p).number) cause
  may_abort p small pending withdrawn may = absurd may
  may_abort p small pending ended may = may_end b t h world.tied p (b.status p).number small (refl, pending)
      (let seen : may.0 ≤ h.clock = known.told (clock_was may.0) may.1 in let last = may.2 in
      let same : h.clock ≡ b.clock = world.tied.clock in omega arith)
  may_abort p small pending (changed n) (was_told told) = may_fail b t h world.tied p (b.status p).number small (refl, pending) n
      (known.told (outdated (code p (b.status p).number) n) told)
  may_abort p small pending (changed n) (is_passed q e j i x old new st low seen decided entry visit below) =
      let a : ℕ = (b.status p).number in let worth = worth_was q e j n old new st low seen decided entry in
      may_pass b t h world.tied p a small (refl, pending) world.rule n x (value_by st old new) worth.0 (inl (visits_it p a i n x visit))
      worth.1 below
  may_abort p small pending (locked n q) may =
      let a : ℕ = (b.status p).number in let visit = may.4 in
      may_lock b t h world.tied p a small (refl, pending) world.rule n visit.1 q may.0 (visits_it p a visit.0 n visit.1 visit.2) may.3
      (known.told (drew (code p a) may.0) may.1) (known.told (rival q n may.0) may.2)

  pub failure_step : (p : ℕ) (cause : Cause) → p < 64 → IsOpen (b.status p).stage → StageInRange (stage_by cause)
      → MayFail v k p (b.status p).number cause
      → let y : ℕ = code p (b.status p).number in let b' = with_status b p (at_stage b p (stage_by cause)) in
      Goes form z id b t w h late b' t w (abort h y cause) late
      × IsKnown b' t w (abort h y cause) late id (after_decision k y (aborted cause))
  failure_step p cause small pending in_range may =
      let y : ℕ = code p (b.status p).number in
      let other = not_of_own_accord p (b.status p).number cause may in
      let goes = failure_goes form z id b t w h late shared world p small cause in_range
      (may_abort p small pending cause may) (inr other) in (
        goes,
        decision_known form z id b t w h late k known seated p small (stage_by cause) (aborted cause) t
            (abort h y cause) (is_busy cause) tt (λ i. refl) goes
            (λ e. (own_is_busy p pending e, λ is. other (same_cause cause withdrawn is))),
      )

  -- the pass withdraws its own attempt
  pub withdraw_step : IsOpen (b.status id).stage
      → let y : ℕ = code id (b.status id).number in let b' = with_status b id (at_stage b id Withdrawn) in
      Goes form z id b t w h late b' t w (abort h y withdrawn) late
      × IsKnown b' t w (abort h y withdrawn) late id (after_withdrawal k y (aborted withdrawn))
  withdraw_step pending =
      let y : ℕ = code id (b.status id).number in
      let goes = failure_goes form z id b t w h late shared world id seated withdrawn tt
      (may_withdraw b t h world.tied id (b.status id).number seated (refl, pending)) (inl refl) in (
        goes,
        withdrawal_known form z id b t w h late k known seated t (abort h y withdrawn)
            (own_is_busy id pending refl) (λ i. refl) goes,
      )

  -- a number in place of a reference
  pub take_step : (p a n : ℕ) (f : Field) (x : ℕ) → b.cell n f ≡ Exchange p a → p < 64
      → MayTakeReference v k p a n f x
      → let b' = with_word b n f (Plain x) in
      Goes form z id b t w h late b' t w (refer h n f None) late × IsKnown b' t w (refer h n f None) late id k
  take_step p a n f x is small may =
      let entry = (attempts_are_known z.slots b t w h v.seat k.own k.noted world.scripts my_attempt known.noted).entry p a
      may.entry n f may.old may.new may.known in
      let told = known.told (verdict (code p a) may.stage) may.decided in
      let worth : t.plain n f ≡ value_by may.stage may.old may.new = notes_take z.slots b t w h v.seat k.own k.noted
      world.scripts my_attempt known.noted world.rule world.tied p a may.entry n f may.old may.new may.stage may.known told is in
      let inside = (shared.formed p a).inside (change n f may.old may.new) entry.1 in
      let fits_word : t.plain n f < 2 ^ 62 = ⊎_elim
      (λ e. let low = inside.1 in omega arith) (λ e. let low = inside.2 in omega arith)
      (one_of_two may.stage may.old may.new) in
      let moves : WordMoves z b t id n f (Plain (t.plain n f)) t.placing t.course = Outcomes.takes_reference
      (CellsAreSound form) z b t shared id p n f a is (decided_on_board b t h world.tied p a may.stage small told) fits_word in
      let same : t.plain n f ≡ x = worth ∙ sym may.worth in
      let moves_x : WordMoves z b t id n f (Plain x) t.placing t.course = subst
      (λ (i : ℕ). WordMoves z b t id n f (Plain i) t.placing t.course) same moves in
      let in_use_n = entry_used b t h world.tied world.slots.changed p a (change n f may.old may.new) small entry.0 entry.1 in
      let goes = word_goes form z id b t w h late few shared world n f (Plain x) t.placing t.course in_use_n moves_x in (
        goes,
        unchanged_known form z id b t w h late k known seated (with_word b n f (Plain x)) t (refer h n f None)
            (λ q. refl) (λ q place. refl) (λ y. refl) goes,
      )

  -- the own attempt is cleared
  pub clear_step : (st : Stage) → Has k.told (verdict (code v.seat k.own.number) st) → MayClear v k
      → let b' = with_status b id (at_stage b id Idle) in
      Goes form z id b t w h late b' t w h late × IsKnown b' t w h late id (after_clearing k st)
  clear_step st decided_so may =
      let a : ℕ = (b.status id).number in
      let to_id : ℕ × ℕ → Type 0 = λ i. (x : Changed) → Has (t.attempt i.0 i.1).changes x
      → IsClean t.placing i.0 i.1 (b.cell x.node x.field) in
      let clean_there : (x : Changed) → Has (t.attempt v.seat k.own.number).changes x
      → IsClean t.placing v.seat k.own.number (b.cell x.node x.field) = notes_clear z.slots b t w h v.seat k.own k.noted
      world.scripts my_attempt known.noted world.rule world.tied v.seat k.own.number may.places
      (λ i below. (noted (clean v.seat k.own.number (may.places.each i below).0 (may.places.each i below).1)
      (may.each i below)).0) in
      let clean_here : (x : Changed) → Has (t.attempt id a).changes x → IsClean t.placing id a (b.cell x.node x.field) =
      subst to_id (λ i. (own.seated.0 i, sym number_is i)) clean_there in
      let closed : IsOpen (b.status id).stage → ⊥ = λ o.
      let told = known.told (verdict (code v.seat k.own.number) may.stage) may.decided in
      let small : v.seat < 64 = let lt = seated in let e = own.seated.0 in omega arith in
      let over : DecidedBelow b.status v.seat (k.own.number + 1) = decided_on_board b t h world.tied v.seat k.own.number may.stage
      small told in
      (subst (λ (i : ℕ × ℕ). DecidedBelow b.status i.0 (i.1 + 1)) (λ i. (own.seated.0 i, sym number_is i)) over).1 refl o in
      let goes = clearing_goes form z id b t w h late shared world closed clean_here in
      let told : IsTrueNote h (verdict (code id k.own.number) st) = subst (λ (i : ℕ). IsTrueNote h (verdict (code i k.own.number) st))
      own.seated.0 (known.told (verdict (code v.seat k.own.number) st) decided_so) in
      (goes, clearing_known form z id b t w h late k known seated st goes (made_in_use z h id k.own k.slots owned st told))
