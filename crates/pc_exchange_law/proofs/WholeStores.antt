-- Stores to the own words under the whole rule: to the own install's descriptor, to the own descriptor, the publication of
-- the own next attempt, and its clearing.
use Rattle.std.proofs.Common.{◌≡◌, ℕ, ◌+◌, Bool, true, false, inl, List, [], refl, sym, ap, ap₂, ◌∙◌, subst}
use mathlib.Core.Option.{none}
use Rattle.atomic_table.specs.Table.{step, Allows}
use Rattle.pc_model.specs.Exchanges.{Visited}
use Rattle.pc_model.specs.Forms.{Form}
use Rattle.pc_history.specs.Footprints.{IsAmong}
use Rattle.pc_words.specs.declared.status.Stage.TheVariants.{Idle, Undecided}
use Rattle.pc_words.specs.declared.status.Status.{Status}
use Rattle.pc_words.specs.Statuses.{packed}
use Rattle.pc_rule_law.specs.Board.{Size, Board, own_status, own_install, own_word, at_own, address, Inside, Only, put, put2}
use Rattle.pc_rule_law.specs.Past.{Attempt, Past, Describes}
use Rattle.pc_rule_law.specs.Stages.{IsIdle}
use Rattle.pc_rule_law.specs.Views.{View, NoteHolds}
use Rattle.pc_rule_law.specs.Rule.{Shared}
use Rattle.pc_rule_law.specs.Conditions.{CanStore}
use Rattle.pc_rule_law.specs.Plays.{SameSeat, after_write, after_publish}
use Rattle.pc_rule_law.proofs.DescriptorStores.{word_stored}
use Rattle.pc_rule_law.proofs.Frames.{only_status, only_word}
use Rattle.pc_rule_law.proofs.InstallStores.{store_owes}
use Rattle.pc_rule_law.proofs.Lists.{all_none}
use Rattle.pc_rule_law.proofs.Updates.{put-here, put2-here}
use Rattle.pc_protocol.specs.Histories.{Stage, History, IsUsed}
use Rattle.pc_protocol.specs.Notes.{verdict}
use Rattle.pc_protocol.specs.Steps.{publish}
use Rattle.pc_exchange_law.specs.AttemptSteps.{with_own_word}
use Rattle.pc_exchange_law.specs.Attempts.{word_in}
use Rattle.pc_exchange_law.specs.Changes.{with_status, with_values, at_stage}
use Rattle.pc_exchange_law.specs.ExchangeConditions.{MayStoreOwn, MayPublish, MayClear}
use Rattle.pc_exchange_law.specs.ExchangeLaws.{Comes}
use Rattle.pc_exchange_law.specs.Knowing.{after_own_store, after_publication, after_clearing}
use Rattle.pc_exchange_law.specs.OwnSlots.{makes_one}
use Rattle.pc_exchange_law.specs.Passes.{PassKnows}
use Rattle.pc_exchange_law.specs.Ties.{code, exchange_of, CellsAreSound}
use Rattle.pc_exchange_law.specs.Wholes.{Whole, views_of, WholeHolds}
use Rattle.pc_exchange_law.specs.WholePlays.{WholeMine, StoredInstall, StoredWord, HasPublished, after_clear, HasCleared}
use Rattle.pc_exchange_law.specs.WholeSteps.{whole_stores_install, whole_stores_word, whole_publishes, whole_publishes_fresh, whole_clears}
use Rattle.pc_exchange_law.proofs.ExchangeSteps.{store_step, publish_step, clear_step}
use Rattle.pc_exchange_law.proofs.SeenPaths.{counts_reads}
use Rattle.pc_exchange_law.proofs.WholeKeeping.{at_view, mine, own_here, known_here, owned_here, path_here, path_kept, steps_here, whole_after, whole_goes}
use Rattle.pc_exchange_law.proofs.WholeSteps.{WholeOwes, whole_allowed}

-- the words of a status that was stored, at the own seat
stored_status : (b : Board) (id seat : ℕ) (s : Status) → seat ≡ id → packed (put b.status id s seat) ≡ packed s
stored_status b id seat s e = ap (λ (i : ℕ). packed (put b.status id s i)) e ∙ ap packed (put-here b.status id s)

module _ (form : Form) (z : Size) where
  whole_store_owes : (id : ℕ) (x : Whole) (place r : ℕ) → x.view.live ≡ true → CanStore x.view place r
      → Inside z (at_own x.view.seat (own_install place))
      → WholeOwes form z id x (at_own x.view.seat (own_install place)) (λ _. r)
      (λ _ y. SameSeat x.view y.view × StoredInstall x r y (at_own x.view.seat (own_install place)))
  whole_store_owes id x place r live can in_p b t h late views k at =
      let g = store_owes (CellsAreSound form) z id x.view place r live can in_p b t (views_of views) k.kept
      (at_view form z b t h late views k id x at live) in
      let b1 : Board = record b { install = put2 b.install id place r } in
      let there : (g.board, g.past) ≡ (b1, t) = λ i. (g.happens.0 i, g.happens.1 i) in
      let y : Whole = record x { view = g.view } in
      let comes1 : Comes form z id b t t.words h late b1 t t.words h late x.knows =
      (steps_here form z b t h late views k id x at live).others b1 t
      (record { clock = refl; statuses = λ p. refl; words = λ n f. refl; attempts = λ p a. refl; cells = λ n f. refl; plain = λ n f. refl })
      (record { statuses = λ p. refl; words = λ p i. refl; cells = λ n f. refl; placings = λ q j. refl })
      (subst (λ (u : Board × Past). Shared (CellsAreSound form) z u.0 u.1) there g.kept.shared) in
      let comes : Comes form z id b t t.words h late g.board g.past g.past.words h late x.knows = subst
      (λ (u : Board × Past). Comes form z id b t t.words h late u.0 u.1 u.1.words h late x.knows) (sym there) comes1 in
      record {
        view = y;
        board = g.board;
        past = g.past;
        history = h;
        late = late;
        only = g.only;
        is = g.is;
        kept = whole_after form z b t h late views k id x at live g.board g.past h late y g.kept
            (ap (λ (u : Past). u.count) g.happens.1) (ap (λ (u : Past). u.posted) g.happens.1)
            (λ j. ap (λ (u : Past). u.live j) g.happens.1) refl comes (path_kept form z b t h late views k id x at live h comes.keeps comes.unread);
        told = (g.told.0, λ e. ap (λ (w : View). record x { view = w }) (g.told.1 e));
      }

  -- a store to this word of the own install's descriptor
  pub whole_store_install : (slots id : ℕ) (me : WholeMine) (place r : ℕ) → me.0.view.size ≡ z → me.0.view.live ≡ true
      → CanStore me.0.view place r → Inside z (at_own me.0.view.seat (own_install place))
      → Allows (WholeHolds form z) slots id me (address z (at_own me.0.view.seat (own_install place))) (λ _. r)
      (whole_stores_install (step slots (address z (at_own me.0.view.seat (own_install place))) r 0 none) me)
  whole_store_install slots id me place r sized live can in_p = whole_allowed form z slots id me
      (at_own me.0.view.seat (own_install place)) (λ _. r) (λ _. StoredInstall me.0 r) in_p sized
      (whole_store_owes id me.0 place r live can in_p)

  whole_word_owes : (id : ℕ) (x : Whole) (place r : ℕ) → x.view.live ≡ true → MayStoreOwn x.knows
      → WholeOwes form z id x (at_own x.view.seat (own_word place)) (λ _. r)
      (λ _ y. SameSeat x.view y.view × StoredWord x r y (at_own x.view.seat (own_word place)))
  whole_word_owes id x place r live may b t h late views k at =
      let own = own_here form z b t h late views k id x at live in
      let step = store_step form z k.kept.few id b t t.words h late k.kept.shared k.world x.view own
      (mine form z b t h late views k id x at live).noted x.knows (known_here form z b t h late views k id x at live) (owned_here form z b t h late views k id x at live) place r may in
      let b' : Board = with_own_word b id place r in
      let y : Whole = record x { view = after_write x.view place r; knows = after_own_store x.knows place r } in record {
        view = y;
        board = b';
        past = t;
        history = h;
        late = late;
        only = subst (λ (i : ℕ). Only (at_own i (own_word place)) b b') (sym own.seated.0) (only_word b id place r);
        is = ap (λ (i : ℕ). put2 b.word id place r i place) own.seated.0 ∙ put2-here b.word id place r;
        kept = whole_goes form z b t h late views k id x at live b' t h late y [] step ((steps_here form z b t h late views k id x at live).stores place r may).owned (refl, refl, refl, refl) refl refl
            (record { sized = own.sized; seated = own.seated; known = own.known; ahead = own.ahead; unplaced = own.unplaced })
            (λ no. let was = (mine form z b t h late views k id x at live).tries live no in (
              was.0,
              record {
                number = was.1.number;
                resting = was.1.resting;
                running = was.1.running;
                words = word_stored z.slots b id x.view.attempt.words was.1.words place r;
              },
            ))
            (all_none (NoteHolds z b' t)) (path_kept form z b t h late views k id x at live h step.0.keeps step.0.unread);
        told = ((refl, refl, refl, refl, refl), λ _. refl);
      }

  -- a store to this word of the own descriptor
  pub whole_store_word : (slots id : ℕ) (me : WholeMine) (place r : ℕ) → me.0.view.size ≡ z → me.0.view.live ≡ true
      → MayStoreOwn me.0.knows → Inside z (at_own me.0.view.seat (own_word place))
      → Allows (WholeHolds form z) slots id me (address z (at_own me.0.view.seat (own_word place))) (λ _. r)
      (whole_stores_word (step slots (address z (at_own me.0.view.seat (own_word place))) r 0 none) me)
  whole_store_word slots id me place r sized live may in_p = whole_allowed form z slots id me
      (at_own me.0.view.seat (own_word place)) (λ _. r) (λ _. StoredWord me.0 r) in_p sized
      (whole_word_owes id me.0 place r live may)

  -- the status of the own next attempt, and that of the own attempt once it is cleared
  abbrev pub published_status : PassKnows → Status
  published_status k = record { number = k.own.number + 1; stage = Undecided }

  abbrev pub cleared_status : PassKnows → Status
  cleared_status k = record { number = k.own.number; stage = Idle }

  whole_publish_owes : (named : Bool) (id : ℕ) (x : Whole) (e : Attempt) (c : ℕ) (keys : List ℕ) → x.view.live ≡ true
      → MayPublish form z x.knows x.path e c keys → makes_one e.fresh ≡ named
      → WholeOwes form z id x (at_own x.view.seat own_status) (λ _. packed (published_status x.knows))
      (λ _ y. SameSeat x.view y.view × HasPublished named x y (at_own x.view.seat own_status))
  whole_publish_owes named id x e c keys live may is_named b t h late views k at =
      let own = own_here form z b t h late views k id x at live in
      let known = known_here form z b t h late views k id x at live in
      let used_path : (v : Visited) → IsAmong v x.path.visits → IsUsed (h.slot v.node) = λ v among.
      (path_here form z b t h late views k id x at live).used v (inl among) in
      let step = publish_step form z k.kept.few id b t t.words h late k.kept.shared k.world x.view own
      (mine form z b t h late views k id x at live).noted x.knows known (owned_here form z b t h late views k id x at live) x.path e c keys used_path may in
      let a : ℕ = (b.status id).number + 1 in let s : Status = record { number = a; stage = Undecided } in
      let same : (b.status id).number ≡ x.knows.own.number = known.own.number in
      let b' : Board = with_status b id s in
      let t' : Past = with_values t t.cells t.plain (put2 t.attempt id a e) (put2 t.words id a (b.word id)) in
      let h' : History = publish h (code id a) (exchange_of e) c in
      let here : b'.status id ≡ s = put-here b.status id s in
      let y : Whole = record x { view = after_publish x.view; knows = after_publication x.knows (code id a) (exchange_of e) c } in record {
        view = y;
        board = b';
        past = t';
        history = h';
        late = late;
        only = subst (λ (i : ℕ). Only (at_own i own_status) b b') (sym own.seated.0) (only_status b id s);
        is = stored_status b id x.view.seat s own.seated.0
            ∙ ap (λ (i : ℕ). packed (record { number = i + 1; stage = Undecided })) same;
        kept = whole_goes form z b t h late views k id x at live b' t' h' late y [] step ((steps_here form z b t h late views k id x at live).publishes x.path e c keys used_path may).owned (refl, refl, refl, refl) refl refl
            (record { sized = own.sized; seated = own.seated; known = own.known; ahead = own.ahead; unplaced = own.unplaced })
            (λ no. let was = (mine form z b t h late views k id x at live).tries live no in (
              was.0,
              record {
                number = ap (λ (u : Status). u.number) here ∙ ap (λ (i : ℕ). i + 1) was.1.number;
                resting = λ rests. absurd (cc);
                running = λ _ idle. subst (λ (u : Status). IsIdle u.stage) here idle;
                words = was.1.words;
              },
            ))
            (all_none (NoteHolds z b' t')) (path_kept form z b t h late views k id x at live h' step.0.keeps step.0.unread);
        told = (
          (refl, refl, refl, refl, refl),
          λ _. (
            e,
            c,
            subst (λ (u : Size). Describes u.slots e (word_in x.knows.own.words)) (sym own.sized) may.described,
            may.clock,
            ap (λ (i : ℕ). record x { view = after_publish x.view; knows = after_publication x.knows i (exchange_of e) c })
                (ap₂ (λ (j i : ℕ). code j (i + 1)) (sym own.seated.0) same),
            counts_reads x.knows x.path c e may.seen,
            may.above,
            may.makes,
            is_named,
          ),
        );
      }

  -- the own next attempt is published
  pub whole_publish : (slots id : ℕ) (me : WholeMine) (e : Attempt) (c : ℕ) (keys : List ℕ) → me.0.view.size ≡ z
      → me.0.view.live ≡ true → MayPublish form z me.0.knows me.0.path e c keys → makes_one e.fresh ≡ false → Inside z (at_own me.0.view.seat own_status)
      → Allows (WholeHolds form z) slots id me (address z (at_own me.0.view.seat own_status))
      (λ _. packed (published_status me.0.knows))
      (whole_publishes (step slots (address z (at_own me.0.view.seat own_status)) (packed (published_status me.0.knows)) 0 none) me)
  whole_publish slots id me e c keys sized live may none' in_p = whole_allowed form z slots id me
      (at_own me.0.view.seat own_status) (λ _. packed (published_status me.0.knows)) (λ _. HasPublished false me.0) in_p sized
      (whole_publish_owes false id me.0 e c keys live may none')

  -- the own next attempt is published, which makes the spare's node
  pub whole_publish_fresh : (slots id : ℕ) (me : WholeMine) (e : Attempt) (c : ℕ) (keys : List ℕ) → me.0.view.size ≡ z
      → me.0.view.live ≡ true → MayPublish form z me.0.knows me.0.path e c keys → makes_one e.fresh ≡ true
      → Inside z (at_own me.0.view.seat own_status)
      → Allows (WholeHolds form z) slots id me (address z (at_own me.0.view.seat own_status))
      (λ _. packed (published_status me.0.knows))
      (whole_publishes_fresh (step slots (address z (at_own me.0.view.seat own_status)) (packed (published_status me.0.knows)) 0 none) me)
  whole_publish_fresh slots id me e c keys sized live may one in_p = whole_allowed form z slots id me
      (at_own me.0.view.seat own_status) (λ _. packed (published_status me.0.knows)) (λ _. HasPublished true me.0) in_p sized
      (whole_publish_owes true id me.0 e c keys live may one)

  whole_clear_owes : (id : ℕ) (x : Whole) → x.view.live ≡ true → MayClear x.view x.knows
      → WholeOwes form z id x (at_own x.view.seat own_status) (λ _. packed (cleared_status x.knows))
      (λ _ y. SameSeat x.view y.view × HasCleared x y (at_own x.view.seat own_status))
  whole_clear_owes id x live may b t h late views k at =
      let st = may.stage in
      let own = own_here form z b t h late views k id x at live in
      let known = known_here form z b t h late views k id x at live in
      let step = clear_step form z k.kept.few id b t t.words h late k.kept.shared k.world x.view own
      (mine form z b t h late views k id x at live).noted x.knows known (owned_here form z b t h late views k id x at live) st may.decided may in
      let s : Status = at_stage b id Idle in
      let same : (b.status id).number ≡ x.knows.own.number = known.own.number in
      let b' : Board = with_status b id s in
      let here : b'.status id ≡ s = put-here b.status id s in
      let y : Whole = record x { view = after_clear x.view; knows = after_clearing x.knows st } in record {
        view = y;
        board = b';
        past = t;
        history = h;
        late = late;
        only = subst (λ (i : ℕ). Only (at_own i own_status) b b') (sym own.seated.0) (only_status b id s);
        is = stored_status b id x.view.seat s own.seated.0
            ∙ ap (λ (i : ℕ). packed (record { number = i; stage = Idle })) same;
        kept = whole_goes form z b t h late views k id x at live b' t h late y [] step ((steps_here form z b t h late views k id x at live).clears st may.decided may).owned (refl, refl, refl, refl) refl refl
            (record { sized = own.sized; seated = own.seated; known = own.known; ahead = own.ahead; unplaced = own.unplaced })
            (λ no. let was = (mine form z b t h late views k id x at live).tries live no in (
              was.0,
              record {
                number = ap (λ (u : Status). u.number) here ∙ was.1.number;
                resting = λ _. subst (λ (u : Status). IsIdle u.stage) (sym here) tt;
                running = λ runs. absurd (cc);
                words = was.1.words;
              },
            ))
            (all_none (NoteHolds z b' t)) (path_kept form z b t h late views k id x at live h step.0.keeps step.0.unread);
        told = (
          (refl, refl, refl, refl, refl),
          λ _ u has. ap (λ (v : Stage). record x { view = after_clear x.view; knows = after_clearing x.knows v })
              (sym (known.told (verdict (code x.view.seat x.knows.own.number) st) may.decided).0
              ∙ (known.told (verdict (code x.view.seat x.knows.own.number) u) has).0),
        );
      }

  -- the own attempt is cleared
  pub whole_clear : (slots id : ℕ) (me : WholeMine) → me.0.view.size ≡ z → me.0.view.live ≡ true
      → MayClear me.0.view me.0.knows → Inside z (at_own me.0.view.seat own_status)
      → Allows (WholeHolds form z) slots id me (address z (at_own me.0.view.seat own_status))
      (λ _. packed (cleared_status me.0.knows))
      (whole_clears (step slots (address z (at_own me.0.view.seat own_status)) (packed (cleared_status me.0.knows)) 0 none) me)
  whole_clear slots id me sized live may in_p = whole_allowed form z slots id me
      (at_own me.0.view.seat own_status) (λ _. packed (cleared_status me.0.knows)) (λ _. HasCleared me.0) in_p sized
      (whole_clear_owes id me.0 live may)
