-- Under the whole rule the last pass makes another, and takes another in.
use Rattle.std.proofs.Common.{◌≡◌, ◌≢◌, ℕ, ◌+◌, ◌<◌, ◌≤◌, ⊎_elim, Bool, true, false, List, [], ◌∷◌, ◌++◌, length, set, length-set, refl, sym, ap, ◌∙◌, subst, arith}
use Rattle.std.proofs.lemmas.Bool.{cases_eq}
use mathlib.Core.Option.{some}
use lib.ListN.{get_elem?}
use Rattle.std.proofs.lemmas.List.{length-map}
use Rattle.atomic_table.specs.Table.{Splits, Joins}
use Rattle.atomic_table.proofs.Lists.{at_map, set_else}
use Rattle.pc_model.specs.declared.cell.Field.{Field}
use Rattle.pc_model.specs.Forms.{Form}
use Rattle.pc_rule_law.specs.Board.{Size, Board, put}
use Rattle.pc_rule_law.specs.Conditions.{IsFree}
use Rattle.pc_rule_law.specs.Past.{Has, Past}
use Rattle.pc_rule_law.specs.Rule.{Each, Kept, Shared}
use Rattle.pc_rule_law.specs.Seats.{maker, made_by, joined_by, spent_view}
use Rattle.pc_rule_law.specs.Views.{View}
use Rattle.pc_rule_law.proofs.Lists.{all_both, all_none, all_one, each_moved, each_snoc, below_length}
use Rattle.pc_rule_law.proofs.Seats.{split_kept, join_kept}
use Rattle.pc_rule_law.proofs.Updates.{put-here, put-else}
use Rattle.pc_protocol.specs.Histories.{History}
use Rattle.pc_protocol.specs.Notes.{IsTrueNote}
use Rattle.pc_exchange_law.specs.Ties.{CellsAreSound}
use Rattle.pc_exchange_law.specs.AttemptSteps.{first_attempt}
use Rattle.pc_exchange_law.specs.OwnSlots.{first_slots, OwnsSlots}
use Rattle.pc_exchange_law.specs.Attempts.{IsTrueAttemptNote}
use Rattle.pc_exchange_law.specs.ExchangeLaws.{Comes}
use Rattle.pc_exchange_law.specs.Passes.{PassKnows, IsKnown}
use Rattle.pc_exchange_law.specs.Paths.{IsPathOf}
use Rattle.pc_exchange_law.specs.WholeSeats.{whole_maker, whole_made, whole_joined, whole_spent}
use Rattle.pc_exchange_law.specs.Wholes.{SlotsAt, Whole, slots_at, all_slots_at, IsTakenIn, views_of, knows_nothing, WholeKept, WholeHolds}
use Rattle.pc_exchange_law.proofs.Passes.{made_known}
use Rattle.pc_exchange_law.proofs.Paths.{empty_path}
use Rattle.pc_exchange_law.proofs.WholeKeeping.{taken_kept, views_set, views_more, known_after, at_view, mine, own_here, steps_here}

-- a pass that was joined stays so where another is
stays_joined : (alive : ℕ → Bool) (other j : ℕ) → alive j ≡ false → put alive other false j ≡ false
stays_joined alive other j was = ⊎_elim
    (λ same. ap (put alive other false) same ∙ put-here alive other false)
    (λ ne. put-else alive other j false ne ∙ was)
    (cases_eq j other)

module _ (form : Form) (z : Size) (b : Board) (t : Past) (h : History) (late : ℕ → Bool) (views : List Whole)
    (k : WholeKept form z b t h late views) (id : ℕ) (x : Whole) (at : get_elem? views id ≡ some x)
    (live : x.view.live ≡ true) where
  few : z.seats ≤ 32
  few = k.kept.few

  -- the board, the attempts and the installs stay, and how many passes there are may change
  recounts : (t' : Past) → ((p a : ℕ) → t'.attempt p a ≡ t.attempt p a) → ((n : ℕ) (f : Field) → t'.cells n f ≡ t.cells n f)
      → ((n : ℕ) (f : Field) → t'.plain n f ≡ t.plain n f)
      → ((q i : ℕ) → t'.placing q i ≡ t.placing q i) → Shared (CellsAreSound form) z b t'
      → Comes form z id b t t.words h late b t' t.words h late x.knows
  recounts t' attempts cells plain placings shared = (steps_here form z b t h late views k id x at live).others b t'
      (record { clock = refl; statuses = λ p. refl; words = λ n f. refl; attempts = attempts; cells = cells; plain = plain })
      (record { statuses = λ p. refl; words = λ p i. refl; cells = λ n f. refl; placings = placings }) shared

  pub whole_split_kept : x.view.last ≡ true → x.view.seat + 1 < z.seats
      → WholeKept form z b (record t { count = t.count + 1 }) h late (set views id (whole_maker x) ++ whole_made x ∷ [])
  whole_split_kept last room =
      let own = own_here form z b t h late views k id x at live in
      let t' : Past = record t { count = t.count + 1 } in
      let low : Kept (CellsAreSound form) z b t' (set (views_of views) id (maker x.view) ++ made_by x.view ∷ []) = split_kept
      (CellsAreSound form) z b t (views_of views) id x.view live last room k.kept (at_view form z b t h late views k id x at live) in
      let c : Comes form z id b t t.words h late b t' t'.words h late x.knows = recounts t' (λ p a. refl) (λ n f. refl) (λ n f. refl) (λ q i. refl) low.shared in
      let same : views_of (set views id (whole_maker x) ++ whole_made x ∷ []) ≡ set (views_of views) id (maker x.view) ++ made_by x.view ∷ [] =
      views_more (set views id (whole_maker x)) (whole_made x)
      ∙ ap (λ (l : List View). l ++ made_by x.view ∷ []) (views_set views id (whole_maker x)) in
      let long : length (set views id (whole_maker x)) ≡ t.count = length-set views id (whole_maker x)
      ∙ (sym (length-map views (λ (w : Whole). w.view)) ∙ k.kept.counted) in
      let count : t.count ≡ x.view.seat + 1 = (mine form z b t h late views k id x at live).counted.last_is live last in
      let mine_below : id < t.count = let seat : x.view.seat ≡ id = own.seated.0 in omega arith in
      let P : ℕ → Whole → Type 0 = λ j u. u.view.live ≡ true → IsKnown b t' t'.words h late j u.knows in
      let still : (j : ℕ) (u : PassKnows) → j < 64 → j ≢ id → IsKnown b t t.words h late j u → IsKnown b t' t'.words h late j u =
      λ j u small ne was. known_after form z id b t t.words h late b t' t'.words h late x.knows c j u small ne was in
      let changed : Each (set views id (whole_maker x)) P = each_moved views id (whole_maker x)
      (λ j u. u.view.live ≡ true → IsKnown b t t.words h late j u.knows) P k.known (λ _. c.known)
      (λ j u ne at_j was alive. still j u.knows
      (let below : j < t.count = subst (λ (n : ℕ). j < n) (sym (length-map views (λ (w : Whole). w.view)) ∙ k.kept.counted) (below_length views j u at_j) in
      let enough : t.count ≤ z.seats = k.kept.room in let some : z.seats ≤ 32 = few in omega arith) ne (was alive)) in
      let blank : IsKnown b t' t'.words h late t.count (knows_nothing z t.count) = still t.count
      (knows_nothing z t.count) (let some : z.seats ≤ 32 = few in omega arith) (λ e. absurd (omega arith))
      (k.unmade t.count (omega arith) (omega arith)) in
      let made : P t.count (whole_made x) = λ _. subst (λ (s : Size × ℕ). IsKnown b t' t'.words h late t.count
      (record (knows_nothing s.0 s.1) { noted = x.knows.noted; told = x.knows.told })) (λ i. (sym own.sized i, count i))
      (made_known b t' t'.words h late id t.count t.count z x.knows c.known blank) in
      let O : ℕ → Whole → Type 0 = λ j u. u.view.live ≡ true → OwnsSlots z h j u.knows.own u.knows.slots in
      let made_owns : O t.count (whole_made x) = λ _. subst (λ (s : Size × ℕ). OwnsSlots z h t.count (first_attempt s.0.starts.attempt)
      (first_slots s.0 s.1)) (λ i. (sym own.sized i, count i)) (k.unowned t.count (omega arith) (omega arith)) in
      record {
        kept = subst (Kept (CellsAreSound form) z b t') (sym same) low;
        world = c.world;
        known = each_snoc (set views id (whole_maker x)) (whole_made x) P changed
            (subst (λ (n : ℕ). P n (whole_made x)) (sym long) made);
        paths = each_snoc (set views id (whole_maker x)) (whole_made x) (λ j u. u.view.live ≡ true → IsPathOf h j u.path)
            (each_moved views id (whole_maker x) (λ j u. u.view.live ≡ true → IsPathOf h j u.path)
            (λ j u. u.view.live ≡ true → IsPathOf h j u.path) k.paths (λ _. k.paths id x at live) (λ j u _ _ was. was))
            (λ _. empty_path h (length (set views id (whole_maker x))) false);
        owned = each_snoc (set views id (whole_maker x)) (whole_made x) O
            (each_moved views id (whole_maker x) O O k.owned (λ _. k.owned id x at live) (λ j u _ _ was. was))
            (subst (λ (n : ℕ). O n (whole_made x)) (sym long) made_owns);
        taken = each_snoc (set views id (whole_maker x)) (whole_made x)
            (λ j u. u.view.live ≡ true → (s : SlotsAt) → Has u.taken s → IsTakenIn z t' h s)
            (taken_kept form z b t h late views k id x at live t' h (whole_maker x) (λ j. refl) refl (λ j a o _ _ was. was))
            (λ _. all_none (IsTakenIn z t' h));
        unowned = λ j le lt. k.unowned j (omega arith) lt;
        unmade = λ j le lt. still j (knows_nothing z j) (let some : z.seats ≤ 32 = few in omega arith)
            (λ e. absurd (omega arith)) (k.unmade j (omega arith) lt);
        none_given = k.none_given;
      }

  pub whole_join_kept : (other : ℕ) (y : Whole) → y.view.live ≡ true → x.view.rest ≡ y.view.seat + 1 → IsFree y.view
      → other ≢ id → get_elem? (set views id (whole_joined x y)) other ≡ some y
      → WholeKept form z b (record t { live = put t.live other false }) h late
      (set (set views id (whole_joined x y)) other whole_spent)
  whole_join_kept other y alive rest free apart at_other =
      let u : Whole = whole_joined x y in
      let t' : Past = record t { live = put t.live other false } in
      let there : get_elem? (set (views_of views) id (joined_by x.view y.view)) other ≡ some y.view = subst
      (λ (l : List View). get_elem? l other ≡ some y.view) (views_set views id u)
      (at_map (λ (w : Whole). w.view) (set views id u) other y at_other) in
      let low : Kept (CellsAreSound form) z b t' (set (set (views_of views) id (joined_by x.view y.view)) other spent_view) = join_kept
      (CellsAreSound form) z b t (views_of views) id x.view other y.view live alive rest free k.kept
      (at_view form z b t h late views k id x at live) apart there in
      let c : Comes form z id b t t.words h late b t' t'.words h late x.knows = recounts t' (λ p a. refl) (λ n f. refl) (λ n f. refl) (λ q i. refl) low.shared in
      let same : views_of (set (set views id u) other whole_spent) ≡ set (set (views_of views) id (joined_by x.view y.view)) other spent_view =
      views_set (set views id u) other whole_spent ∙ ap (λ (l : List View). set l other spent_view) (views_set views id u) in
      let P : ℕ → Whole → Type 0 = λ j w. w.view.live ≡ true → IsKnown b t' t'.words h late j w.knows in
      let Q : ℕ → Whole → Type 0 = λ j w. w.view.live ≡ true → IsPathOf h j w.path in
      let O : ℕ → Whole → Type 0 = λ j w. w.view.live ≡ true → OwnsSlots z h j w.knows.own w.knows.slots in
      let mine_below : id < t.count = subst (λ (n : ℕ). id < n) (sym (length-map views (λ (w : Whole). w.view)) ∙ k.kept.counted) (below_length views id x at) in
      let enough : t.count ≤ z.seats = k.kept.room in
      let still : (j : ℕ) (w : PassKnows) → j < 64 → j ≢ id → IsKnown b t t.words h late j w → IsKnown b t' t'.words h late j w =
      λ j w small ne was. known_after form z id b t t.words h late b t' t'.words h late x.knows c j w small ne was in
      let there_y : get_elem? views other ≡ some y = sym (set_else views id other u apart) ∙ at_other in
      let other_below : other < t.count = subst (λ (n : ℕ). other < n) (sym (length-map views (λ (w : Whole). w.view)) ∙ k.kept.counted)
      (below_length views other y there_y) in
      let its : IsKnown b t' t'.words h late other y.knows = still other y.knows
      (let some : z.seats ≤ 32 = few in omega arith) apart (k.known other y there_y alive) in
      let merged : IsKnown b t' t'.words h late id u.knows = record {
        own = c.known.own;
        ready = c.known.ready;
        noted = all_both (IsTrueAttemptNote b t' t'.words) y.knows.noted x.knows.noted its.noted c.known.noted;
        told = all_both (IsTrueNote h) y.knows.told x.knows.told its.told c.known.told;
      } in
      let T : ℕ → Whole → Type 0 = λ j w. w.view.live ≡ true → (s : SlotsAt) → Has w.taken s → IsTakenIn z t' h s in
      let still_in : (s : SlotsAt) → IsTakenIn z t h s → IsTakenIn z t' h s = λ s was.
      record { seated = was.seated; joined = stays_joined t.live other s.seat was.joined; owned = was.owned } in
      let seat : y.view.seat ≡ other = (own_here form z b t h late views k other y there_y alive).seated.0 in
      let taken_now : IsTakenIn z t' h (slots_at y) = record {
        seated = omega arith;
        joined = ap t'.live seat ∙ put-here t.live other false;
        owned = subst (λ (j : ℕ). OwnsSlots z h j y.knows.own y.knows.slots) (sym seat) (k.owned other y there_y alive);
      } in
      let first : Each (set views id u) P = each_moved views id u
      (λ j w. w.view.live ≡ true → IsKnown b t t.words h late j w.knows) P k.known (λ _. merged)
      (λ j w ne at_j was lives. still j w.knows
      (let below : j < t.count = subst (λ (n : ℕ). j < n) (sym (length-map views (λ (w : Whole). w.view)) ∙ k.kept.counted) (below_length views j w at_j) in
      let some : z.seats ≤ 32 = few in omega arith) ne (was lives)) in
      record {
        kept = subst (Kept (CellsAreSound form) z b t') (sym same) low;
        world = c.world;
        known = each_moved (set views id u) other whole_spent P P first (λ no. absurd (cc)) (λ j w _ _ was. was);
        paths = each_moved (set views id u) other whole_spent Q Q
            (each_moved views id u Q Q k.paths (λ _. k.paths id x at live) (λ j w _ _ was. was)) (λ no. absurd (cc))
            (λ j w _ _ was. was);
        owned = each_moved (set views id u) other whole_spent O O
            (each_moved views id u O O k.owned (λ _. k.owned id x at live) (λ j w _ _ was. was)) (λ no. absurd (cc))
            (λ j w _ _ was. was);
        taken = each_moved (set views id u) other whole_spent T T
            (each_moved views id u (λ j w. w.view.live ≡ true → (s : SlotsAt) → Has w.taken s → IsTakenIn z t h s) T k.taken
            (λ _. all_both (IsTakenIn z t' h) (all_slots_at y) x.taken
            (all_both (IsTakenIn z t' h) y.taken (slots_at y ∷ []) (λ s has. still_in s (k.taken other y there_y alive s has))
            (all_one (IsTakenIn z t' h) (slots_at y) taken_now))
            (λ s has. still_in s (k.taken id x at live s has)))
            (λ j w _ _ was lives s has. still_in s (was lives s has))) (λ no. absurd (cc)) (λ j w _ _ was. was);
        unowned = k.unowned;
        unmade = λ j le lt. still j (knows_nothing z j) (let some : z.seats ≤ 32 = few in omega arith)
            (λ e. absurd (omega arith)) (k.unmade j le lt);
        none_given = k.none_given;
      }

module _ (form : Form) (z : Size) where
  -- the last pass, which has taken none in, makes another
  pub whole_splits : (id : ℕ) (x : Whole) → x.view.live ≡ true → x.view.last ≡ true → x.view.seat + 1 < z.seats
      → Splits (WholeHolds form z) id x (whole_maker x) (whole_made x)
  whole_splits id x live last room s held at = record {
    board = held.board;
    past = record held.past { count = held.past.count + 1 };
    history = held.history;
    late = held.late;
    represents = held.represents;
    kept = whole_split_kept form z held.board held.past held.history held.late s.views held.kept id x at live last room;
  }

  -- the last pass takes in the highest of the others, of which no install stands
  pub whole_joins : (id : ℕ) (x : Whole) (other : ℕ) (y : Whole) → x.view.live ≡ true → y.view.live ≡ true
      → x.view.rest ≡ y.view.seat + 1 → IsFree y.view
      → Joins (WholeHolds form z) id x other y (whole_joined x y) whole_spent
  whole_joins id x other y live alive rest free s held at apart at_other = record {
    board = held.board;
    past = record held.past { live = put held.past.live other false };
    history = held.history;
    late = held.late;
    represents = held.represents;
    kept = whole_join_kept form z held.board held.past held.history held.late s.views held.kept id x at live other y alive rest
        free apart at_other;
  }
