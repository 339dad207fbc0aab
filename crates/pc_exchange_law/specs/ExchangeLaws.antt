-- The law of the steps of an exchange: from what the pass knows, each leads on.
use Rattle.std.specs.Prelude.{◌≡◌, ◌≢◌, ℕ, ◌+◌, ◌<◌, Bool, true, List, None}
use Rattle.pc_model.specs.declared.cell.Field.{Field}
use Rattle.pc_model.specs.Exchanges.{Visited}
use Rattle.pc_model.specs.Forms.{Form}
use Rattle.pc_words.specs.declared.word.WordKind.{WordKind}
use Rattle.pc_words.specs.declared.word.WordKind.TheVariants.{Plain, Exchange}
use Rattle.pc_words.specs.declared.status.Stage.TheVariants.{Idle, Undecided, Succeeded, Withdrawn}
use Rattle.pc_words.specs.Statuses.{StageInRange}
use Rattle.pc_history.specs.Footprints.{IsAmong}
use Rattle.pc_rule_law.specs.Board.{Size, Board, put2}
use Rattle.pc_rule_law.specs.Past.{Has, Attempt, Placing, Past}
use Rattle.pc_rule_law.specs.Stages.{IsOpen}
use Rattle.pc_rule_law.specs.Views.{View}
use Rattle.pc_rule_law.specs.Rule.{Shared}
use Rattle.pc_protocol.specs.Histories.{for_exchange, for_read, Cause, withdrawn, Stage, committed, aborted, History, cells_now, IsUsed}
use Rattle.pc_protocol.specs.Notes.{verdict}
use Rattle.pc_protocol.specs.Owned.{IsUnread}
use Rattle.pc_protocol.specs.Steps.{Keeps, draw, publish, commit, abort, refer}
use Rattle.pc_exchange_law.specs.Ties.{code, reference_in, exchange_of, CellsAreSound}
use Rattle.pc_exchange_law.specs.Changes.{with_word, with_status, with_next_stamp, with_installs, with_values, at_stage}
use Rattle.pc_exchange_law.specs.Changes.{stage_by, ShowsSame, MayBecome}
use Rattle.pc_exchange_law.specs.Attempts.{Scripts, OwnAttempt}
use Rattle.pc_exchange_law.specs.OwnSlots.{OwnSlots, OwnsSlots}
use Rattle.pc_exchange_law.specs.AttemptLaws.{AttemptsGrow, LeavesAttempts}
use Rattle.pc_exchange_law.specs.AttemptSteps.{with_own_word, with_script, KeepsAttempts, BringsInstalls}
use Rattle.pc_exchange_law.specs.Passes.{PassKnows, IsKnown}
use Rattle.pc_exchange_law.specs.Paths.{Path}
use Rattle.pc_exchange_law.specs.Knowing.{after_own_store, after_publication, after_draw, after_refusal, after_decision}
use Rattle.pc_exchange_law.specs.Knowing.{after_withdrawal, after_clearing}
use Rattle.pc_exchange_law.specs.ExchangeConditions.{MayStoreOwn, MayPublish, MayDrawFor, MaySucceed, MayFail}
use Rattle.pc_exchange_law.specs.ExchangeConditions.{MayTakeReference, MayClear}
use Rattle.pc_exchange_law.specs.Worlds.{World}

module _ (form : Form) (z : Size) (id : ℕ) (b : Board) (t : Past) (w : Scripts) (h : History) (late : ℕ → Bool) where
  -- A step of the pass at seat id comes to this: the topics of the board's rule and the world hold afterwards, no note
  -- of the protocol is lost and nothing of attempts is taken back, what others have of their own attempts is left to
  -- them, and the pass knows this.
  pub record Comes (b' : Board) (t' : Past) (w' : Scripts) (h' : History) (late' : ℕ → Bool) (k' : PassKnows)
      : Type 0 where
    pub shared : Shared (CellsAreSound form) z b' t'
    pub world : World form z b' t' w' h' late'
    pub keeps : Keeps h h'
    pub attempts : AttemptsGrow b t w b' t' w'
    pub leaves : LeavesAttempts id b h b' h'
    pub leaves_late : (j : ℕ) → j ≢ id → late' j ≡ late j
    -- no pass loses a stamp that it drew for a read
    pub unread : (j s : ℕ) → IsUnread h j s → IsUnread h' j s
    -- nor its slots, and the pass's own are these
    pub stays : (j : ℕ) (a : OwnAttempt) (o : OwnSlots) → j < 64 → j ≢ id → OwnsSlots z h j a o → OwnsSlots z h' j a o
    pub owned : OwnsSlots z h' id k'.own k'.slots
    pub known : IsKnown b' t' w' h' late' id k'

  pub record ExchangeStepsGoOn (v : View) (k : PassKnows) : Type 0 where
    -- what is no step of an exchange, where the topics of the board's rule hold afterwards: a look or a store to the
    -- own install; and an install that is placed or taken
    pub others : (b' : Board) (t' : Past) → ShowsSame b t b' t' → KeepsAttempts b t b' t'
        → Shared (CellsAreSound form) z b' t'
        → Comes b' t' w h late k
    pub words : (n : ℕ) (f : Field) (c : WordKind) (placing' : ℕ → ℕ → Placing) (course' : ℕ → ℕ → ℕ)
        → IsUsed (h.slot n) → MayBecome z b t n f c → BringsInstalls b t c placing'
        → Shared (CellsAreSound form) z (with_word b n f c) (with_installs t placing' course')
        → Comes (with_word b n f c) (with_installs t placing' course') w (refer h n f (reference_in c)) late k
    pub stores : (place x : ℕ) → MayStoreOwn k
        → Comes (with_own_word b id place x) t w h late (after_own_store k place x)
    pub publishes : (path : Path) (x : Attempt) (c : ℕ) (keys : List ℕ)
        → ((v : Visited) → IsAmong v path.visits → IsUsed (h.slot v.node)) → MayPublish form z k path x c keys
        → let a : ℕ = (b.status id).number + 1 in
        Comes (with_status b id (record { number = a; stage = Undecided }))
        (with_values t t.cells t.plain (put2 t.attempt id a x) (put2 t.words id a (b.word id))) (with_script w id a (b.word id))
        (publish h (code id a) (exchange_of x) c) late
        (after_publication k (code id a) (exchange_of x) c)
    -- a draw gives the clock as the stamp; where it is at the last one or above, the draw is refused
    pub draws : (p a : ℕ) → MayDrawFor v k p a
        → (late' : ℕ → Bool)
        × Comes (with_next_stamp b) t w (draw h (for_exchange (code p a))) late' (after_draw k (code p a) b.clock)
    pub refuses : k.ready ≡ true
        → (late' : ℕ → Bool) × Comes (with_next_stamp b) t w (draw h (for_read id)) late' (after_refusal k b.clock)
    -- decisions of an attempt whose status is found undecided
    pub succeeds : (p s : ℕ) → p < 64 → IsOpen (b.status p).stage → MaySucceed v k p (b.status p).number s
        → let h' = commit h (code p (b.status p).number) s in
        Comes (with_status b p (at_stage b p (Succeeded s))) (with_values t (cells_now h') h'.plain t.attempt t.words) w h' late
        (after_decision k (code p (b.status p).number) (committed s))
    pub fails : (p : ℕ) (cause : Cause) → p < 64 → IsOpen (b.status p).stage → StageInRange (stage_by cause)
        → MayFail v k p (b.status p).number cause
        → Comes (with_status b p (at_stage b p (stage_by cause))) t w (abort h (code p (b.status p).number) cause) late
        (after_decision k (code p (b.status p).number) (aborted cause))
    pub withdraws : IsOpen (b.status id).stage
        → Comes (with_status b id (at_stage b id Withdrawn)) t w (abort h (code id (b.status id).number) withdrawn) late
        (after_withdrawal k (code id (b.status id).number) (aborted withdrawn))
    -- a number in place of a reference that is found
    pub takes : (p a n : ℕ) (f : Field) (x : ℕ) → b.cell n f ≡ Exchange p a → p < 64 → MayTakeReference v k p a n f x
        → Comes (with_word b n f (Plain x)) t w (refer h n f None) late k
    pub clears : (st : Stage) → Has k.told (verdict (code v.seat k.own.number) st) → MayClear v k
        → Comes (with_status b id (at_stage b id Idle)) t w h late (after_clearing k st)
