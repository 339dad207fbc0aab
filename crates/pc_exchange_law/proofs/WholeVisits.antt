-- A look at a version that an exchange visits, under the whole rule, for the stamps that were drawn for the exchange.
use Rattle.std.proofs.Common.{◌≡◌, ◌≢◌, ℕ, ◌<◌, ◌≤◌, inl, inr, ◌+◌, ◌*◌, ⊎_elim, Bool, true, List, [], length, Some, None, refl, sym, ap, ◌∙◌, subst, arith}
use Rattle.std.proofs.lemmas.Bool.{cases_lt}
use mathlib.Core.Option.{some, none}
use lib.ListN.{get_elem?}
use Rattle.atomic_table.specs.Table.{step, Allows}
use Rattle.pc_model.specs.declared.cell.Field.TheVariants.{Version}
use Rattle.pc_model.specs.Exchanges.{Changed, Exchange as PathExchange}
use Rattle.pc_model.specs.Forms.{Form}
use Rattle.pc_words.specs.declared.word.WordKind.TheVariants.{Plain, Exchange}
use Rattle.pc_words.specs.Words.{raw, kind}
use Rattle.pc_words.proofs.Words.{kind_raw}
use Rattle.pc_history.proofs.Moments.{versions_never_fall}
use Rattle.pc_rule_law.specs.Board.{Size, Board, at_cell, place_number, address, Inside}
use Rattle.pc_rule_law.specs.Past.{Has, Past, change, Describes}
use Rattle.pc_rule_law.specs.Rule.{Holding, CellOk}
use Rattle.pc_rule_law.specs.Plays.{SameSeat}
use Rattle.pc_rule_law.specs.Views.{NoteHolds}
use Rattle.pc_rule_law.proofs.Lists.{all_none, below_length}
use Rattle.pc_protocol.specs.Histories.{changed, History, moments, cells_now, IsPublished, IsUsed}
use Rattle.pc_protocol.specs.Rules.{IsCause}
use Rattle.pc_protocol.specs.Seeing.{Visits, ChangesVersion}
use Rattle.pc_protocol.specs.Notes.{Found, Note, value, by, looked, drew, rival, outdated}
use Rattle.pc_protocol.specs.Telling.{found_in}
use Rattle.pc_protocol.proofs.Stages.{used_not_spare, absent_not_published}
use Rattle.pc_exchange_law.specs.AttemptLaws.{AttemptsAreKnown}
use Rattle.pc_exchange_law.specs.Attempts.{OwnsAttempt, KnowsWord, KnowsEntry, KnowsVisit}
use Rattle.pc_exchange_law.specs.Ties.{code, reference_in, IsSeated, exchange_of}
use Rattle.pc_history.specs.Footprints.{IsAmong}
use Rattle.pc_exchange_law.specs.ExchangeConditions.{VisitsForDraw}
use Rattle.pc_exchange_law.specs.Wholes.{Whole, WholeKept, WholeHolds}
use Rattle.pc_exchange_law.specs.WholePlays.{WholeMine, LookedFor, LooksFor}
use Rattle.pc_exchange_law.specs.WholeSteps.{whole_looks_for}
use Rattle.pc_exchange_law.proofs.AttemptNotes.{attempts_are_known}
use Rattle.pc_exchange_law.proofs.ChangeLists.{has_among}
use Rattle.pc_exchange_law.proofs.Codes.{of_code}
use Rattle.pc_exchange_law.proofs.TieTelling.{one_change}
use Rattle.pc_exchange_law.proofs.VisitLooks.{looks_for, looks_true, has_looked, has_rival, has_outdated}
use Rattle.pc_exchange_law.proofs.WholeCells.{cell_looks_more}
use Rattle.pc_exchange_law.proofs.WholeKeeping.{own_here, known_here, path_here}
use Rattle.pc_exchange_law.proofs.WholeLooks.{plain_there}
use Rattle.pc_exchange_law.proofs.WholeSteps.{WholeLooks, whole_looked_at}

module _ (form : Form) (z : Size) (id : ℕ) (x : Whole) (n : ℕ) (live : x.view.live ≡ true) (b : Board) (t : Past) (h : History)
    (late : ℕ → Bool) (views : List Whole) (k : WholeKept form z b t h late views) (at : get_elem? views id ≡ some x)
    (is_used : IsUsed (h.slot n)) where
  abbrev r : ℕ
  r = raw (b.cell n Version)

  here : kind r ≡ b.cell n Version
  here = kind_raw (b.cell n Version) (k.kept.shared.ranges n Version)

  -- the version now, by the run
  now_is : h.plain n Version ≡ cells_now h n Version
  now_is = k.world.rule.plain_is n Version (used_not_spare (h.slot n) is_used)

  known_attempts : AttemptsAreKnown z.slots b t t.words h x.view.seat x.knows.own x.knows.noted
  known_attempts = let known = known_here form z b t h late views k id x at live in
      attempts_are_known z.slots b t t.words h x.view.seat x.knows.own x.knows.noted k.world.scripts
      (subst (λ (i : ℕ). OwnsAttempt b h i x.knows.own) (sym (own_here form z b t h late views k id x at live).seated.0) known.own)
      known.noted

  abbrev told : List Note
  told = looks_for h k.world.rule n (used_not_spare (h.slot n) is_used) x.knows.told

  -- an attempt for which a stamp was drawn
  module _ (p a s : ℕ) (small : p < 64) (has : Has x.knows.told (drew (code p a) s)) where
    published : IsPublished (h.stage (code p a))
    published = (k.world.rule.drawn (code p a) s
        ((known_here form z b t h late views k id x at live).told (drew (code p a) s) has)).0

    is_exchange : h.op (code p a) ≡ exchange_of (t.attempt p a)
    is_exchange = k.world.tied.exchanges p a small published

    visits_node : (i v : ℕ) → KnowsVisit x.view.size.slots x.knows.noted x.view.seat x.knows.own p a i n v
        → Visits (h.op (code p a)) n v
    visits_node i v visit =
        let there = (known_attempts.visit p a i n v (subst (λ (u : Size). KnowsVisit u.slots x.knows.noted x.view.seat x.knows.own p a i n v)
        (own_here form z b t h late views k id x at live).sized visit)).1 in
        subst (λ (e : PathExchange). Visits e n v) (sym is_exchange) (record {
          visit = record { node = n; version = v };
          among = has_among (t.attempt p a).visits (record { node = n; version = v }) (i, there);
          node = refl;
          version = refl;
        })

    changes_version : (j old new : ℕ) → KnowsEntry x.knows.noted x.view.seat x.knows.own p a j n Version old new
        → ChangesVersion (h.op (code p a)) n old
    changes_version j old new entry = subst (λ (e : PathExchange). ChangesVersion e n old) (sym is_exchange) (record {
      change = change n Version old new;
      among = has_among (t.attempt p a).changes (change n Version old new) (known_attempts.entry p a j n Version old new entry).1;
      is_of = (refl, refl);
      old = refl;
    })

    -- it is outdated where a greater number is found than the version that it visits
    past_visit : (i v w : ℕ) → KnowsVisit x.view.size.slots x.knows.noted x.view.seat x.knows.own p a i n v → kind r ≡ Plain w → v < w
        → IsCause h (code p a) (changed n)
    past_visit i v w visit is lt =
        let plain : t.plain n Version ≡ w = plain_there form z b t k.kept.shared n Version w (sym here ∙ is) in
        let tie : h.plain n Version ≡ t.plain n Version = k.world.tied.plain n Version in
        let now = now_is in (v, inl (visits_node i v visit), omega arith)

    -- a version that it visits was the node's before it was published
    visited_before : (v : ℕ) → Visits (h.op (code p a)) n v → v ≤ cells_now h n Version
    visited_before v visits =
        let seen = k.world.seen (code p a) published in
        let at_visit = (seen.1.visits visits.visit visits.among).1 in
        let least : v ≤ moments h (h.published_at (code p a)) n Version = subst
        (λ (i : ℕ × ℕ). i.1 ≤ moments h (h.published_at (code p a)) i.0 Version) (λ j. (visits.node j, visits.version j)) at_visit in
        let up = versions_never_fall h.opening h.clock h.item k.world.rule.run (h.published_at (code p a)) h.clock n seen.0 in
        omega arith

    -- and so was the old number of its change of the version
    changed_before : (j old new : ℕ) → KnowsEntry x.knows.noted x.view.seat x.knows.own p a j n Version old new
        → old ≤ cells_now h n Version
    changed_before j old new entry =
        let changes = changes_version j old new entry in
        let listed = (known_attempts.entry p a j n Version old new entry).1 in
        let basis = k.world.based (code p a) published changes.change changes.among in
        let there : ChangesVersion (h.op (code p a)) changes.change.node basis.0 = basis.1 in
        let one : change n Version old new ≡ there.change = one_change b t h k.world.rule k.world.tied p a small published
        (change n Version old new) there.change listed there.among (there.is_of.0 ∙ changes.is_of.0, there.is_of.1) in
        let same : old ≡ basis.0 = ap (λ (c : Changed). c.old) one ∙ there.old in
        let least : basis.0 ≤ moments h basis.2 changes.change.node Version = basis.3.1.0 in
        let at_n : moments h basis.2 changes.change.node Version ≡ moments h basis.2 n Version =
        ap (λ (m : ℕ). moments h basis.2 m Version) changes.is_of.0 in
        let up = versions_never_fall h.opening h.clock h.item k.world.rule.run basis.2 h.clock n basis.3.0 in
        omega arith

    -- so it is outdated where it changes the version from another one than it visits
    two_versions : (i j v old new : ℕ) → KnowsVisit x.view.size.slots x.knows.noted x.view.seat x.knows.own p a i n v
        → KnowsEntry x.knows.noted x.view.seat x.knows.own p a j n Version old new → old ≢ v
        → IsCause h (code p a) (changed n)
    two_versions i j v old new visit entry other =
        let visits = visits_node i v visit in let changes = changes_version j old new entry in
        let above = visited_before v visits in let before = changed_before j old new entry in ⊎_elim
        (λ lt. (old, inr changes, omega arith))
        (λ le. (v, inl visits, ⊎_elim (λ lt. omega arith) (λ back. absurd (other (omega arith))) (cases_lt v old)))
        (cases_lt old v)

  -- a reference that is found is that of its pass's present attempt
  found_present : (p a : ℕ) → kind r ≡ Exchange p a → Holding z.seats b.status t.attempt (t.plain n Version) n Version p a
  found_present p a is = subst (CellOk z.seats b.status t.attempt t.placing t.course (t.plain n Version) n Version) (sym here ∙ is)
      (k.kept.shared.each_cell n Version)

  -- an attempt for which a stamp was drawn isn't above it
  drawn_reached : (p a s c : ℕ) → p < 64 → Has x.knows.told (drew (code p a) s) → kind r ≡ Exchange p c → a ≤ c
  drawn_reached p a s c small has is =
      let present : (b.status p).number ≡ c = (found_present p c is).present in ⊎_elim
      (λ later. absurd (absent_not_published (h.stage (code p a)) ((k.world.tied.stages p a small).later later) (published p a s small has)))
      (λ le. omega arith)
      (cases_lt (b.status p).number a)

  -- and the version is one of its words
  found_listed : (p a count : ℕ) → kind r ≡ Exchange p a → KnowsWord x.knows.noted x.view.seat x.knows.own p a 1 count
      → (i : ℕ) × (i < count)
      × ((place : ℕ) → KnowsWord x.knows.noted x.view.seat x.knows.own p a (3 + 3 * i) place → place ≡ place_number n Version)
  found_listed p a count is counted =
      let l = (found_present p a is).listed in let i : ℕ = l.2.0 in
      let d : Describes z.slots (t.attempt p a) (t.words p a) = k.world.scripts.describe p a in
      let in_list : i < length (t.attempt p a).changes = below_length (t.attempt p a).changes i (change n Version l.0 l.1) l.2.1 in
      let long : t.words p a 1 ≡ length (t.attempt p a).changes = d.changes in
      let same : t.words p a 1 ≡ count = (known_attempts.word p a 1 count counted).1 in (
        i,
        omega arith,
        λ place knows. sym (known_attempts.word p a (3 + 3 * i) place knows).1 ∙ (d.each_change i (change n Version l.0 l.1) l.2.1).0,
      )

  tells_look : (y : Whole) → ((m : Note) → Has told m → Has y.knows.told m) → LookedFor x n r y
  tells_look y more =
      let rule = k.world.rule in let tied = k.world.tied in let no_spare = used_not_spare (h.slot n) is_used in record {
        number = λ e s w has is.
            let there : b.cell n Version ≡ Plain w = sym here ∙ is in
            let no_reference : h.reference n Version ≡ None = tied.references n Version ∙ ap reference_in there in
            let plain : h.plain n Version ≡ w = tied.plain n Version ∙ plain_there form z b t k.kept.shared n Version w there in
            more (looked s n (value w)) (subst (λ (f : Found). Has told (looked s n f)) (λ i. found_in (no_reference i) (plain i))
            (has_looked h rule n no_spare x.knows.told e s has));
        reference = λ e s q c has is.
            let there : b.cell n Version ≡ Exchange q c = sym here ∙ is in
            let refers : h.reference n Version ≡ Some (code q c) = tied.references n Version ∙ ap reference_in there in
            let small : q < 64 = subst IsSeated there (tied.seated n Version) in (
              more (looked s n (by (code q c))) (subst (λ (f : Found). Has told (looked s n f))
                  (λ i. found_in (refers i) (h.plain n Version)) (has_looked h rule n no_spare x.knows.told e s has)),
              more (rival q n s) (subst (λ (j : ℕ). Has told (rival j n s)) (tied.owners (code q c) ∙ of_code q c small)
                  (has_rival h rule n no_spare x.knows.told e s has (code q c) refers)),
            );
        greater = λ p a s i v w small has visit is lt. more (outdated (code p a) n)
            (has_outdated h rule n no_spare x.knows.told (code p a) s has (past_visit p a s small has i v w visit is lt));
        differs = λ p a s i j v old new small has visit entry other. more (outdated (code p a) n)
            (has_outdated h rule n no_spare x.knows.told (code p a) s has (two_versions p a s small has i j v old new visit entry other));
        reached = drawn_reached;
        listed = λ p a count _. found_listed p a count;
      }

module _ (form : Form) (z : Size) where
  -- a node that an attempt visits, for which a stamp was drawn, is in use
  visited_used : (id : ℕ) (x : Whole) (n : ℕ) → x.view.live ≡ true → (b : Board) (t : Past) (h : History) (late : ℕ → Bool)
      (views : List Whole) → WholeKept form z b t h late views → get_elem? views id ≡ some x → VisitsForDraw x n → IsUsed (h.slot n)
  visited_used id x n live b t h late views k at visit =
      let known = known_here form z b t h late views k id x at live in
      let own = own_here form z b t h late views k id x at live in
      let p = visit.seat in let a = visit.number in
      let published = (k.world.rule.drawn (code p a) visit.stamp (known.told (drew (code p a) visit.stamp) visit.drawn)).0 in
      let there = ((attempts_are_known z.slots b t t.words h x.view.seat x.knows.own x.knows.noted k.world.scripts
      (subst (λ (i : ℕ). OwnsAttempt b h i x.knows.own) (sym own.seated.0) known.own) known.noted).visit p a visit.index n visit.version
      (subst (λ (u : Size). KnowsVisit u.slots x.knows.noted x.view.seat x.knows.own p a visit.index n visit.version) own.sized visit.known)).1 in
      k.world.slots.visited (code p a) (record { node = n; version = visit.version }) published
      (subst (λ (e : PathExchange). IsAmong (record { node = n; version = visit.version }) e.visits)
      (sym (k.world.tied.exchanges p a visit.low published))
      (has_among (t.attempt p a).visits (record { node = n; version = visit.version }) (visit.index, there)))

  pub whole_look_for_looks : (id : ℕ) (x : Whole) (n : ℕ) → x.view.live ≡ true → VisitsForDraw x n → Inside z (at_cell n Version)
      → WholeLooks form z id x (at_cell n Version) (λ r y. SameSeat x.view y.view × LooksFor x r y (at_cell n Version))
  whole_look_for_looks id x n live visit in_p b t h late views k at =
      let is_used = visited_used id x n live b t h late views k at visit in
      let no_spare = used_not_spare (h.slot n) is_used in
      let more : List Note = looks_for h k.world.rule n no_spare x.knows.told in
      let g = cell_looks_more form z id x n Version live in_p b t h late views k at is_used [] (all_none (NoteHolds z b t)) more
      (looks_true h k.world.rule n no_spare x.knows.told (known_here form z b t h late views k id x at live).told) x.path
      (path_here form z b t h late views k id x at live) in
      (g.0, g.1, (g.2.0, (g.2.1, tells_look form z id x n live b t h late views k at is_used g.0 g.2.4, g.2.3)))

  -- a load of a version, for the stamps that were drawn for exchanges which visit it
  pub whole_look_for : (slots id : ℕ) (me : WholeMine) (n : ℕ) → me.0.view.size ≡ z → me.0.view.live ≡ true
      → VisitsForDraw me.0 n → Inside z (at_cell n Version)
      → Allows (WholeHolds form z) slots id me (address z (at_cell n Version)) (λ r. r)
      (whole_looks_for (step slots (address z (at_cell n Version)) 0 0 none) me)
  whole_look_for slots id me n sized live visit in_p = whole_looked_at form z slots id me (at_cell n Version)
      (LooksFor me.0) in_p sized (whole_look_for_looks id me.0 n live visit in_p)
