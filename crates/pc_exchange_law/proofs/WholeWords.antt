-- Steps on a word of a node under the whole rule: the own install is placed, an install is taken away, and a number takes
-- the place of a reference.
use Rattle.std.proofs.Common.{◌≡◌, ◌≢◌, ℕ, ◌<◌, ◌≤◌, eqb, Bool, true, List, [], ◌∷◌, set, refl, sym, ap, ◌∙◌, subst, arith}
use mathlib.Core.Option.{some, none}
use lib.ListN.{get_elem?}
use prog.Atomic.{either}
use Rattle.atomic_table.specs.Table.{step, Allows}
use Rattle.pc_model.specs.declared.cell.Field.{Field}
use Rattle.pc_model.specs.Forms.{Form}
use Rattle.pc_words.specs.declared.word.WordKind.{WordKind}
use Rattle.pc_words.specs.declared.word.WordKind.TheVariants.{Plain, Install, Exchange}
use Rattle.pc_words.specs.Words.{raw, kind, InRange}
use Rattle.pc_words.proofs.Words.{kind_raw}
use Rattle.pc_rule_law.specs.Board.{Size, Board, at_cell, address, Inside}
use Rattle.pc_rule_law.specs.Conditions.{CanPlace, CanTake}
use Rattle.pc_rule_law.specs.Past.{Has, Past, change}
use Rattle.pc_rule_law.specs.Plays.{SameSeat, InstallTried, InstallTaken}
use Rattle.pc_rule_law.specs.Rule.{Kept, Shared}
use Rattle.pc_rule_law.specs.Views.{View}
use Rattle.pc_rule_law.proofs.InstallPlacing.{place_hits, place_misses}
use Rattle.pc_rule_law.proofs.InstallTaking.{known_of, take_hits, take_misses}
use Rattle.pc_rule_law.proofs.Descriptors.{known_entry}
use Rattle.pc_rule_law.proofs.Lists.{has_first, has_left, all_none, all_one}
use Rattle.pc_rule_law.proofs.Steps.{MovesWord, Goes as ViewGoes}
use Rattle.pc_rule_law.proofs.Updates.{put_cell-here}
use Rattle.pc_protocol.specs.Histories.{History, IsUsed}
use Rattle.pc_protocol.specs.Notes.{Note, outdated, IsTrueNote}
use Rattle.pc_protocol.specs.Steps.{refer}
use Rattle.pc_exchange_law.specs.Attempts.{IsTrueAttemptNote}
use Rattle.pc_exchange_law.specs.Changes.{with_word, with_installs}
use Rattle.pc_exchange_law.specs.ExchangeLaws.{Comes}
use Rattle.pc_exchange_law.specs.Knowing.{with_more, WordSeen}
use Rattle.pc_exchange_law.specs.Passes.{PassKnows}
use Rattle.pc_exchange_law.specs.Ties.{code, reference_in, CellsAreSound}
use Rattle.pc_exchange_law.specs.Wholes.{Whole, views_of, WholeKept, WholeHolds}
use Rattle.pc_exchange_law.specs.WholePlays.{WholeMine, WordSwapped, OldDiffers, WholePlaced, WholeTaken}
use Rattle.pc_exchange_law.specs.WholeSteps.{whole_places, whole_takes}
use Rattle.pc_exchange_law.proofs.ExchangeLaws.{exchange_steps_go_on}
use Rattle.pc_exchange_law.proofs.Knowing.{more_known, more_learns}
use Rattle.pc_exchange_law.proofs.TieTelling.{board_tells}
use Rattle.pc_exchange_law.proofs.TieMoves.{may_become, brings}
use Rattle.pc_exchange_law.specs.Attempts.{OwnAttempt}
use Rattle.pc_exchange_law.specs.OwnSlots.{OwnSlots, OwnsSlots}
use Rattle.pc_exchange_law.proofs.Slots.{entry_used}
use Rattle.pc_protocol.proofs.Stages.{used_not_spare}
use Rattle.pc_exchange_law.proofs.WholeFound.{not_cleared}
use Rattle.pc_exchange_law.proofs.WholeKeeping.{at_view, mine, own_here, known_here, owned_here, path_here, path_kept, whole_looked, whole_after}
use Rattle.pc_exchange_law.proofs.WholeLooks.{plain_there, word_seen}
use Rattle.pc_exchange_law.proofs.WholeSteps.{WholeGoes, retold, whole_swapped}
use Rattle.pc_exchange_law.proofs.WordsSeen.{seen_still, loads_tell_passes}

module _ (form : Form) (z : Size) where
  -- after a step the pass learns what stands in the word
  seen_then : (id : ℕ) (b : Board) (t : Past) (h : History) (late : ℕ → Bool) (b' : Board) (t' : Past) (h' : History)
      (late' : ℕ → Bool) (k' : PassKnows) → Comes form z id b t t.words h late b' t' t'.words h' late' k' → (n : ℕ) (f : Field)
      (c : WordKind) → IsUsed (h'.slot n) → b'.cell n f ≡ c → InRange c
      → (k2 : PassKnows) × WordSeen k' n f (kind (raw c)) k2 × Comes form z id b t t.words h late b' t' t'.words h' late' k2
  seen_then id b t h late b' t' h' late' k' step n f c is_used is in_range =
      let learnt = (loads_tell_passes z.slots z.seats b' t' t'.words h' late' id k' step.world.scripts step.world.rule
      step.world.tied step.world.clock step.known).word n f (used_not_spare (h'.slot n) is_used) (plain_there form z b' t' step.shared n f) in (
        learnt.0,
        subst (λ (w : WordKind). WordSeen k' n f w learnt.0) (is ∙ sym (kind_raw c in_range)) learnt.1,
        record {
          shared = step.shared;
          world = step.world;
          keeps = step.keeps;
          attempts = step.attempts;
          leaves = step.leaves;
          leaves_late = step.leaves_late;
          unread = step.unread;
          stays = step.stays;
          owned = subst (λ (i : OwnAttempt × OwnSlots). OwnsSlots z h' id i.0 i.1)
              (λ i. (sym learnt.1.learns.own i, sym learnt.1.learns.slots i)) step.owned;
          known = learnt.2;
        },
      )

  -- a step on one word of a node that the rule of installs has: the pass learns what it found, and what stands there then
  moved : (id : ℕ) (x : Whole) → x.view.live ≡ true → (b : Board) (t : Past) (h : History) (late : ℕ → Bool)
      (views : List Whole) (k : WholeKept form z b t h late views) (at : get_elem? views id ≡ some x) (n : ℕ) (f : Field)
      (is_used : IsUsed (h.slot n)) (c : WordKind) (old m : ℕ) (T : View → Type 0) (g : ViewGoes (CellsAreSound form) z (MovesWord z id n f c) b t (views_of views) id
      (at_cell n f) m (λ w. SameSeat x.view w × T w)) → raw (b.cell n f) ≡ old
      → WholeGoes form z b views id (at_cell n f) m
      (λ y. SameSeat x.view y.view × T y.view × WordSwapped x n f old (raw c) (raw (b.cell n f)) y)
  moved id x live b t h late views k at n f is_used c old m T g hit =
      let known = known_here form z b t h late views k id x at live in
      let learnt = word_seen form z b t h late views k id x.knows known n f is_used in
      let owned = subst (λ (i : OwnAttempt × OwnSlots). OwnsSlots z h id i.0 i.1)
      (λ i. (sym learnt.1.learns.own i, sym learnt.1.learns.slots i)) (owned_here form z b t h late views k id x at live) in
      let s = k.kept.shared in let w = g.happens in
      let h' : History = refer h n f (reference_in c) in
      let there : (g.board, g.past) ≡ (with_word b n f c, with_installs t w.placing' w.course') = λ i. (w.board i, w.past i) in
      let step : Comes form z id b t t.words h late (with_word b n f c) (with_installs t w.placing' w.course') t.words h' late
      learnt.0 = (exchange_steps_go_on form z id b t t.words h late x.view learnt.0 k.kept.few s k.world
      (own_here form z b t h late views k id x at live) (mine form z b t h late views k id x at live).noted learnt.2 owned).words n f c
      w.placing' w.course' is_used (may_become z b t id n f c w.placing' w.course' w.moves)
      (brings (CellsAreSound form) z b t id n f c w.placing' w.course' s w.moves)
      (subst (λ (u : Board × Past). Shared (CellsAreSound form) z u.0 u.1) there g.kept.shared) in
      let then = seen_then id b t h late (with_word b n f c) (with_installs t w.placing' w.course') h' late learnt.0 step n f c is_used
      (put_cell-here b.cell n f c) w.moves.in_range in
      let comes : Comes form z id b t t.words h late g.board g.past g.past.words h' late then.0 = subst
      (λ (u : Board × Past). Comes form z id b t t.words h late u.0 u.1 u.1.words h' late then.0) (sym there) then.2 in
      let y : Whole = record x { view = g.view; knows = then.0 } in record {
        view = y;
        board = g.board;
        past = g.past;
        history = h';
        late = late;
        only = g.only;
        is = g.is;
        kept = whole_after form z b t h late views k id x at live g.board g.past h' late y g.kept
            (ap (λ (u : Past). u.count) w.past) (ap (λ (u : Past). u.posted) w.past)
            (λ j. ap (λ (u : Past). u.live j) w.past) refl comes (path_kept form z b t h late views k id x at live h' comes.keeps comes.unread);
        told = (g.told.0, g.told.1, record { hit = λ _. (learnt.0, learnt.1, then.1); miss = λ ne. absurd (ne hit); aim = refl; path = refl });
      }

  -- where such a step misses, the pass learns what it found, and notes what else is true
  missed : (id : ℕ) (x : Whole) → x.view.live ≡ true → (b : Board) (t : Past) (h : History) (late : ℕ → Bool)
      (views : List Whole) (k : WholeKept form z b t h late views) (at : get_elem? views id ≡ some x) (n : ℕ) (f : Field)
      (is_used : IsUsed (h.slot n)) (old new : ℕ) (T : View → Type 0) (more : List Note) → ((m : Note) → Has more m → IsTrueNote h m)
      → raw (b.cell n f) ≢ old
      → (w : View) × Kept (CellsAreSound form) z b t (set (views_of views) id w) × (SameSeat x.view w × T w)
      → (y : Whole) × WholeKept form z b t h late (set views id y)
      × (SameSeat x.view y.view × T y.view × WordSwapped x n f old new (raw (b.cell n f)) y
      × ((m : Note) → Has more m → Has y.knows.told m))
  missed id x live b t h late views k at n f is_used old new T more is_true miss g =
      let known = known_here form z b t h late views k id x at live in
      let learnt = word_seen form z b t h late views k id x.knows known n f is_used in
      let y : Whole = record x { view = g.0; knows = with_more learnt.0 [] more } in
      let seen : WordSeen x.knows n f (kind (raw (b.cell n f))) y.knows = seen_still x.knows n f (kind (raw (b.cell n f)))
      learnt.0 y.knows learnt.1 (more_learns z.slots b t t.words h late id learnt.0 learnt.2 [] more) in (
        y,
        whole_looked form z b t h late views k id x at live y g.1
            (more_known z.slots b t t.words h late id learnt.0 learnt.2 [] more
            (all_none (IsTrueAttemptNote b t t.words)) is_true) (learnt.1.learns.own, learnt.1.learns.slots, refl) (path_here form z b t h late views k id x at live),
        (
          g.2.0,
          g.2.1,
          record { hit = λ e. absurd (miss e); miss = λ _. seen; aim = refl; path = refl },
          λ m has. has_left more learnt.0.told m has,
        ),
      )

  -- the attempt that an install is for is outdated where another plain number is found than the old one
  outdated_by : ℕ → ℕ → WordKind → List Note
  outdated_by y n (Plain v) = outdated y n ∷ []
  outdated_by y n (Install q i) = []
  outdated_by y n (Exchange q e) = []

  outdated_true : (b : Board) (t : Past) (h : History) (late : ℕ → Bool) (views : List Whole)
      → WholeKept form z b t h late views → (p a n : ℕ) (f : Field) (v new : ℕ) → p < 64 → IsUsed (h.slot n) → a ≤ (b.status p).number
      → Has (t.attempt p a).changes (change n f v new) → raw (b.cell n f) ≢ raw (Plain v) → (c : WordKind) → b.cell n f ≡ c
      → (m : Note) → Has (outdated_by (code p a) n c) m
      → IsTrueNote h m
  unfolding outdated_by
  outdated_true b t h late views k p a n f v new small is_used le has miss (Plain u) is = all_one (IsTrueNote h) (outdated (code p a) n)
      ((board_tells b t h k.world.rule k.world.tied).outdates p a (change n f v new) small le has
      (k.world.based (code p a) (k.world.tied.published p a (change n f v new) small le has))
      (used_not_spare (h.slot n) is_used) (λ same. miss (ap raw is ∙ ap (λ (i : ℕ). raw (Plain i)) (sym (plain_there form z b t k.kept.shared n f u is) ∙ same))))
  outdated_true b t h late views k p a n f v new small is_used le has miss (Install q i) is = all_none (IsTrueNote h)
  outdated_true b t h late views k p a n f v new small is_used le has miss (Exchange q e) is = all_none (IsTrueNote h)

  -- one install is for one attempt
  one_attempt : (p a q e : ℕ) → p < 64 → q < 64 → raw (Exchange p a) ≡ raw (Exchange q e) → (p ≡ q) × (a ≡ e)
  one_attempt p a q e low_p low_q same = (omega arith, omega arith)

  old_differs : (x : Whole) (b : Board) (n : ℕ) (f : Field) (old p a : ℕ) (y : Whole) → InRange (b.cell n f) → p < 64
      → x.view.install.op ≡ raw (Exchange p a)
      → ((m : Note) → Has (outdated_by (code p a) n (b.cell n f)) m → Has y.knows.told m)
      → OldDiffers x n (raw (b.cell n f)) old y
  unfolding outdated_by
  old_differs x b n f old p a y in_range small op told _ q e v op_too low is =
      let one = one_attempt p a q e small low (sym op ∙ op_too) in
      let there : b.cell n f ≡ Plain v = sym (kind_raw (b.cell n f) in_range) ∙ is in
      let has : Has (outdated_by (code p a) n (b.cell n f)) (outdated (code p a) n) = subst
      (λ (c : WordKind). Has (outdated_by (code p a) n c) (outdated (code p a) n)) (sym there)
      (has_first (outdated (code p a) n) []) in
      subst (λ (i : ℕ × ℕ). Has y.knows.told (outdated (code i.0 i.1) n)) (λ i. (one.0 i, one.1 i))
      (told (outdated (code p a) n) has)

  -- the node of a word that an install may be placed in is in use, since it is one of the attempt's
  placed_used : (id : ℕ) (x : Whole) → x.view.live ≡ true → (b : Board) (t : Past) (h : History) (late : ℕ → Bool)
      (views : List Whole) (k : WholeKept form z b t h late views) → get_elem? views id ≡ some x → (n : ℕ) (f : Field) (v p a : ℕ)
      → CanPlace z x.view n f v p a → IsUsed (h.slot n)
  placed_used id x live b t h late views k at n f v p a can =
      let few : z.seats ≤ 32 = k.kept.few in let lt = can.attempt.0 in let small : p < 64 = omega arith in
      let known = mine form z b t h late views k id x at live in
      let listed = known_entry (CellsAreSound form) z b t k.kept.shared id x.view (known.own live) known.noted
      (known.tries live) p a n f v can.listed in
      entry_used b t h k.world.tied k.world.slots.changed p a (change n f v listed.0) small listed.1 listed.2

  -- and so is that of one that an install may be taken from
  taken_used : (id : ℕ) (x : Whole) (b : Board) (t : Past) (h : History) (late : ℕ → Bool) (views : List Whole)
      (k : WholeKept form z b t h late views) → get_elem? views id ≡ some x → x.view.live ≡ true → (n : ℕ) (f : Field) (i q : ℕ)
      (c : WordKind) → CanTake z x.view i q n f c → IsUsed (h.slot n)
  taken_used id x b t h late views k at live n f i q c can =
      let few : z.seats ≤ 32 = k.kept.few in let s = k.kept.shared in
      let known = mine form z b t h late views k id x at live in
      let kn = (known_of (CellsAreSound form) z b t x.view i q n f c few s known.noted can.may).2 in
      let y = s.installs i q kn.has in let l = y.listed in let placing = t.placing i q in
      let lt = y.seat in let small : placing.seat < 64 = omega arith in
      subst (λ (m : ℕ). IsUsed (h.slot m)) kn.at_node
      (entry_used b t h k.world.tied k.world.slots.changed placing.seat placing.number
      (change placing.node placing.field placing.old l.0) small y.published l.1)

  -- the own install in place of the plain value v of a word of node n, for attempt a of pass p
  pub whole_place : (slots id : ℕ) (me : WholeMine) (n : ℕ) (f : Field) (v p a : ℕ) → CanPlace z me.0.view n f v p a
      → Inside z (at_cell n f)
      → let old : ℕ = raw (Plain v) in let new : ℕ = raw (Install me.0.view.seat me.0.view.install.number) in
      Allows (WholeHolds form z) slots id me (address z (at_cell n f)) (λ i. either (eqb i old) new i)
      (whole_places (step slots (address z (at_cell n f)) old new none) me)
  whole_place slots id me n f v p a can in_p = let x = me.0 in let old : ℕ = raw (Plain v) in
      let new : ℕ = raw (Install x.view.seat x.view.install.number) in
      whole_swapped form z slots id me (at_cell n f) old new (WholePlaced x old new) in_p can.sized
      (λ b t h late views k at hit.
      let own = own_here form z b t h late views k id x at can.live in
      let g = place_hits (CellsAreSound form) z id x.view n f v p a can in_p b t (views_of views) k.kept
      (at_view form z b t h late views k id x at can.live) hit in
      let is_used = placed_used id x can.live b t h late views k at n f v p a can in
      let m = moved id x can.live b t h late views k at n f is_used (Install id x.view.install.number) old new
      (λ w. InstallTried x.view n f old (raw (b.cell n f)) w) g hit in record {
        view = m.view;
        board = m.board;
        past = m.past;
        history = m.history;
        late = m.late;
        only = m.only;
        is = m.is;
        kept = m.kept;
        told = (
          m.told.0,
          (
            m.told.1,
            subst (λ (i : ℕ). WordSwapped x n f old (raw (Install i x.view.install.number)) (raw (b.cell n f)) m.view)
                (sym own.seated.0) m.told.2,
            λ other. absurd (other hit),
            not_cleared form z id x can.live b t h late views k at n f,
          ),
        );
      })
      (λ b t h late views k at miss.
      let few : z.seats ≤ 32 = k.kept.few in let lt = can.attempt.0 in let small : p < 64 = omega arith in
      let known = mine form z b t h late views k id x at can.live in
      let listed = known_entry (CellsAreSound form) z b t k.kept.shared id x.view (known.own can.live) known.noted
      (known.tries can.live) p a n f v can.listed in
      let is_used = placed_used id x can.live b t h late views k at n f v p a can in
      let more = outdated_by (code p a) n (b.cell n f) in
      let g = missed id x can.live b t h late views k at n f is_used old new (λ w. InstallTried x.view n f old (raw (b.cell n f)) w) more
      (outdated_true b t h late views k p a n f v listed.0 small is_used listed.1 listed.2 miss (b.cell n f) refl) miss
      (place_misses (CellsAreSound form) z id x.view n f v p a can in_p b t (views_of views) k.kept
      (at_view form z b t h late views k id x at can.live) miss) in
      (g.0, g.1, (g.2.0, (g.2.1, g.2.2, old_differs x b n f old p a g.0 (k.kept.shared.ranges n f) small can.op g.2.3, not_cleared form z id x can.live b t h late views k at n f))))

  -- the word c in place of install q of pass i in a word of node n
  pub whole_take : (slots id : ℕ) (me : WholeMine) (n : ℕ) (f : Field) (i q : ℕ) (c : WordKind)
      → CanTake z me.0.view i q n f c → Inside z (at_cell n f)
      → let old : ℕ = raw (Install i q) in let new : ℕ = raw c in
      Allows (WholeHolds form z) slots id me (address z (at_cell n f)) (λ r. either (eqb r old) new r)
      (whole_takes (step slots (address z (at_cell n f)) old new none) me)
  whole_take slots id me n f i q c can in_p = let x = me.0 in let old : ℕ = raw (Install i q) in let new : ℕ = raw c in
      whole_swapped form z slots id me (at_cell n f) old new (WholeTaken x old new) in_p can.sized
      (λ b t h late views k at hit.
      let g = take_hits (CellsAreSound form) z id x.view n f i q c can in_p b t (views_of views) k.kept
      (at_view form z b t h late views k id x at can.live) hit in
      let is_used = taken_used id x b t h late views k at can.live n f i q c can in
      let m = moved id x can.live b t h late views k at n f is_used c old new
      (λ w. InstallTaken x.view n f old new (raw (b.cell n f)) w) g hit in
      retold form z b views id (at_cell n f) new
      (λ y. SameSeat x.view y.view × InstallTaken x.view n f old new (raw (b.cell n f)) y.view
      × WordSwapped x n f old (raw c) (raw (b.cell n f)) y)
      (λ y. SameSeat x.view y.view × WholeTaken x old new (raw (b.cell n f)) y (at_cell n f))
      (λ y told. (told.0, (told.1, told.2))) m)
      (λ b t h late views k at miss.
      let is_used = taken_used id x b t h late views k at can.live n f i q c can in
      let g = missed id x can.live b t h late views k at n f is_used old new (λ w. InstallTaken x.view n f old new (raw (b.cell n f)) w) []
      (all_none (IsTrueNote h)) miss
      (take_misses (CellsAreSound form) z id x.view n f i q c can in_p b t (views_of views) k.kept
      (at_view form z b t h late views k id x at can.live) miss) in
      (g.0, g.1, (g.2.0, (g.2.1, g.2.2))))
